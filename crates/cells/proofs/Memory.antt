-- Cells in the front of a memory of records: from a list to its meaning.
use Rattle.std.proofs.Common.{◌≡◌, ℕ, zero, suc, ◌+◌, ◌<◌, ◌≤◌, ◌≢◌, List, [], ◌∷◌, ◌++◌, map, length, get_or, take, drop, set, replicate, None, sym, refl, ap, ◌∙◌, inl, inr, arith}
use mathlib.Core.Path.{fun_ext}
use lib.Seq.{take-set-lt}
use Rattle.std.proofs.lemmas.List.Edits.{map_over_more}
use Rattle.std.proofs.lemmas.List.{drop_at, get_or_default, get_or-set_other, get_or-set_same, get_or-take, length-append, length-drop, length-map, length-replicate, length-set, length-take, length-take-le, take_at}
use Rattle.std.proofs.lemmas.Bool.{cases_eq}
use Rattle.cells.specs.declared.cell.Colour.{Colour}
use Rattle.cells.specs.declared.cell.LinkRecord.{LinkRecord}
use Rattle.cells.specs.declared.cell.CellRecord.{CellRecord}
use Rattle.cells.specs.Cells.{cells_of, changed_at}
use Rattle.cells.specs.Calls.{exchange_unless, paint_cells, paint_unless, write_cells, write_unless}
use Rattle.cells.specs.Fault.{index_fault, write_fault}
use Rattle.cells.specs.Front.{cells_in, front_at, front_cells, size_for}
use Rattle.cells.specs.Record.{exchanged_cell, new_cell, painted_cell, relinked_cell}
use Rattle.cells.proofs.Changed.{changed_same, changed_other, paint_table, write_table}
use Rattle.cells.proofs.Refused.{Accepted, accepted_below, accepted_none, write_below}

pub get_or_changed : {A : Type 0} (xs : List A) (i : ℕ) (v d : A) → i < length xs → (λ j. get_or (set xs i v) j d) ≡ changed_at (λ j. get_or xs j d) i v
get_or_changed xs i v d l = fun_ext (λ j. elim (cases_eq j i) [
  | inl e ↦ rw e (get_or-set_same xs i v d l ∙ sym (changed_same (λ j. get_or xs j d) i v))
  | inr n ↦ (let m : j ≢ i = n in get_or-set_other xs i j v d m ∙ sym (changed_other (λ j. get_or xs j d) i v j n))
])

-- the first n of at least n records
module _ (cs : List CellRecord) (n : ℕ) (fits : n ≤ length cs) where
  pub front_at_lem : (i : ℕ) → i < n → front_at n cs i ≡ get_or cs i new_cell
  front_at_lem i h = get_or-take n cs i new_cell h

  front_set : (i : ℕ) (v : CellRecord) → i < n → front_at n (set cs i v) ≡ changed_at (front_at n cs) i v
  front_set i v h = ap (λ xs j. get_or xs j new_cell) (take-set-lt n cs i v h) ∙ get_or_changed (take n cs) i v new_cell (omega (arith, length-take-le n cs fits))

  front_paint : (i : ℕ) (k : Colour) (v : CellRecord) → Accepted (index_fault n i) → v ≡ painted_cell (get_or cs i new_cell) k → front_cells n (set cs i v) ≡ paint_cells (front_cells n cs) i k
  front_paint i k v ok e =
      let none = accepted_none (index_fault n i) ok in
      let here = accepted_below n i ok in
      ap (cells_of n) (front_set i v here ∙ ap (changed_at (front_at n cs) i) (e ∙ ap (λ x. painted_cell x k) (sym (front_at_lem i here))))
      ∙ paint_table n (front_at n cs) i k ∙ ap (λ f. paint_unless f (front_cells n cs) i k) (sym none)

  front_write : (i : ℕ) (links : LinkRecord) (v : CellRecord) → Accepted (write_fault n i links.left links.right) → v ≡ relinked_cell (get_or cs i new_cell) links → front_cells n (set cs i v) ≡ write_cells (front_cells n cs) i links
  front_write i links v ok e =
      let none = accepted_none (write_fault n i links.left links.right) ok in
      let here = write_below n i links.left links.right ok in
      ap (cells_of n) (front_set i v here ∙ ap (changed_at (front_at n cs) i) (e ∙ ap (λ x. relinked_cell x links) (sym (front_at_lem i here))))
      ∙ write_table n (front_at n cs) i links ∙ ap (λ f. write_unless f (front_cells n cs) i links) (sym none)

-- what a filled front leaves: the length, and the elements beyond
pub fill_length : {A : Type 0} (v : A) (d : List A) (n : ℕ) → n ≤ length d → length (replicate n v ++ drop n d) ≡ length d
fill_length v d n h = length-append (replicate n v) (drop n d) ∙ omega (arith, length-replicate n v, length-drop n d)

pub fill_beyond : {A : Type 0} (v : A) (d : List A) (n : ℕ) → drop n (replicate n v ++ drop n d) ≡ drop n d
fill_beyond v d n = drop_at (replicate n v) (drop n d) n (length-replicate n v)

-- one more record exchanged in place
pub exchange_more : (xs ys : List CellRecord) (i : ℕ) (x : CellRecord) → i < length xs → ys ≡ map exchanged_cell (take i xs) ++ drop i xs → x ≡ exchanged_cell (get_or ys i new_cell) → set ys i x ≡ map exchanged_cell (take (i + 1) xs) ++ drop (i + 1) xs
exchange_more xs ys i x h e v =
    let n : length ys ≡ length xs = ap length e ∙ simp (length-append, length-map, length-take, length-drop) (omega arith) in
    ap (set ys i) v ∙ map_over_more exchanged_cell xs ys i (get_or ys i new_cell) h e (get_or_default ys i new_cell (get_or ys i new_cell) (omega arith))

exchanged_at : (xs : List CellRecord) (i : ℕ) → get_or (map exchanged_cell xs) i new_cell ≡ exchanged_cell (get_or xs i new_cell)
exchanged_at [] i = refl
exchanged_at (x ∷ xs) zero = refl
exchanged_at (x ∷ xs) (suc i) = exchanged_at xs i

front_exchange : (cs : List CellRecord) (n : ℕ) → n ≤ length cs → front_cells n (map exchanged_cell (take n cs) ++ drop n cs) ≡ exchange_unless None (front_cells n cs)
front_exchange cs n fits =
    let k : length (map exchanged_cell (take n cs)) ≡ n = length-map (take n cs) exchanged_cell ∙ length-take-le n cs fits in
    ap (cells_of n) (ap (λ xs j. get_or xs j new_cell) (take_at (map exchanged_cell (take n cs)) (drop n cs) n k) ∙ fun_ext (exchanged_at (take n cs)))

pub exchange_length : (cs : List CellRecord) (n : ℕ) → n ≤ length cs → length (map exchanged_cell (take n cs) ++ drop n cs) ≡ length cs
exchange_length cs n fits = length-append (map exchanged_cell (take n cs)) (drop n cs) ∙ omega (arith, length-map (take n cs) exchanged_cell, length-take-le n cs fits, length-drop n cs)

-- the same for a heap in all of a memory
pub size_in : (cs : List CellRecord) → size_for (length cs) ≤ length cs
size_in cs = omega arith

resized : (cs ds : List CellRecord) → length ds ≡ length cs → cells_in ds ≡ front_cells (size_for (length cs)) ds
resized cs ds e = ap (λ n. front_cells (size_for n) ds) e

pub paint_in : (cs : List CellRecord) (i : ℕ) (k : Colour) → Accepted (index_fault (size_for (length cs)) i) → cells_in (set cs i (painted_cell (get_or cs i new_cell) k)) ≡ paint_cells (cells_in cs) i k
paint_in cs i k ok = let v = painted_cell (get_or cs i new_cell) k in
    resized cs (set cs i v) (length-set cs i v) ∙ front_paint cs (size_for (length cs)) (size_in cs) i k v ok refl

pub write_in : (cs : List CellRecord) (i : ℕ) (links : LinkRecord) → Accepted (write_fault (size_for (length cs)) i links.left links.right) → cells_in (set cs i (relinked_cell (get_or cs i new_cell) links)) ≡ write_cells (cells_in cs) i links
write_in cs i links ok = let v = relinked_cell (get_or cs i new_cell) links in
    resized cs (set cs i v) (length-set cs i v) ∙ front_write cs (size_for (length cs)) (size_in cs) i links v ok refl

pub exchange_in : (cs : List CellRecord) → cells_in (map exchanged_cell (take (size_for (length cs)) cs) ++ drop (size_for (length cs)) cs) ≡ exchange_unless None (cells_in cs)
exchange_in cs =
    let n = size_for (length cs) in
    resized cs (map exchanged_cell (take n cs) ++ drop n cs) (exchange_length cs n (size_in cs)) ∙ front_exchange cs n (size_in cs)
