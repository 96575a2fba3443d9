-- The first pass, cell by cell.
use Rattle.std.proofs.Common.{Result, OkIff, ◌≡◌, ℕ, zero, suc, ◌+◌, ◌<◌, List, [], ◌∷◌, ◌++◌, length, get_or, take, drop, set, sym, ap, ◌∙◌, arith}
use Rattle.std.proofs.lemmas.List.{append_assoc, drop_more, length-take-le, set_at, take_more}
use Rattle.std.specs.Result.{result_unwrap_or}
use Rattle.std.proofs.lemmas.Result.{Ok-from_Ok_iff}
use Rattle.cells.specs.declared.content.Content.{Content}
use Rattle.cells.specs.declared.content.Content.TheVariants.{Cell}
use Rattle.cells.specs.Calls.{Lawful}
use Rattle.cells.specs.Cells.{Cells}
use Rattle.model.specs.FreeList.{Linked}
use Rattle.numbering.proofs.Lists.{at_in}
use Rattle.loading.specs.Gather.{Gathered, Listed}
use Rattle.steps.specs.Steps.{cell_in}

-- each cell of a linked list but the last names the next one
linked_next : (left : ℕ → Content) (free : List ℕ) (k : ℕ) → Linked left free → suc k < length free → left (get_or free k 0) ≡ Cell (get_or free (suc k) 0)
linked_next left [] k l h = absurd (omega arith)
linked_next left (x ∷ []) k l h = absurd (omega arith)
linked_next left (x ∷ y ∷ ys) zero l h = l.0
linked_next left (x ∷ y ∷ ys) (suc k) l h = linked_next left (y ∷ ys) k l.1 (omega arith)

-- one more cell told in a table
told_more : (free before table : List ℕ) (k told : ℕ) → k < length free → k < length before → told ≡ get_or free k 0 → table ≡ take k free ++ drop k before → set table k told ≡ take (k + 1) free ++ drop (k + 1) before
told_more free before table k told h b e t =
    ap (λ xs. set xs k told) (t ∙ ap (λ xs. take k free ++ xs) (drop_more before k 0 b))
    ∙ set_at (take k free) (get_or before k 0) (drop (k + 1) before) told k (length-take-le k free (omega arith))
    ∙ ap (λ x. take k free ++ (x ∷ drop (k + 1) before)) e
    ∙ sym (append_assoc (take k free) (get_or free k 0 ∷ []) (drop (k + 1) before))
    ∙ ap (λ xs. xs ++ drop (k + 1) before) (sym (take_more free k 0 h))

-- one turn of the pass
pub gathered_more : {E : Type 0} (c : Cells) (free before table : List ℕ) (front k cell told next default : ℕ) (short : Result ℕ E) → Listed c free front (length before) before → Lawful c → Gathered free k before table cell → k < length before
    → OkIff short (cell < 65536) cell → told ≡ result_unwrap_or short default → next ≡ cell_in (c.left cell) → Gathered free (k + 1) before (set table k told) next
gathered_more c free before table front k cell told next default short listed law done h fits kept follows =
    let enough = listed.enough in
    let few = law.few in
    let here : k < length free = omega arith in
    let is : cell ≡ get_or free k 0 = done.begins here in
    let below : get_or free k 0 < c.size = (listed.is_free.only (get_or free k 0) (at_in free k here)).0 in
    record {
      table = told_more free before table k told here h (kept ∙ ap (λ r. result_unwrap_or r default) (Ok-from_Ok_iff short (cell < 65536) cell fits (omega arith)) ∙ is) done.table;
      begins = λ more.
          let one : k + 1 ≡ suc k = omega arith in
          follows ∙ ap (λ i. cell_in (c.left i)) is
          ∙ ap cell_in (linked_next c.left free k listed.is_free.linked (omega arith))
          ∙ ap (λ i. get_or free i 0) (sym one);
    }
