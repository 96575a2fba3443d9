-- The first n cells of a lent memory: what a change of a bit or of a record does to them.
use Rattle.std.proofs.Common.{◌≡◌, ℕ, ◌*◌, ◌<◌, ◌≤◌, Bool, true, false, cond, ltb, ◌≢◌, length, get_or, drop, set, replicate, Some, None, Option, sym, refl, ap, ◌∙◌, inl, inr, arith}
use denote.Ref.{at_last}
use mathlib.Core.Path.{fun_ext}
use Rattle.std.proofs.lemmas.List.{get_or_append_left, get_or-replicate, get_or-set_other, get_or-set_same, length-replicate}
use Rattle.std.proofs.lemmas.Bool.{cases_eq, cases_lt, cond-false, cond-true, le-ltb, lt-ltb}
use Rattle.cells.specs.declared.cell.MarkColour.{MarkColour}
use Rattle.cells.specs.declared.cell.MarkColour.TheVariants as mark
use Rattle.cells.specs.declared.cell.SweepColour.{SweepColour}
use Rattle.cells.specs.declared.cell.SweepColour.TheVariants as sweep
use Rattle.cells.specs.declared.cell.Colour.TheVariants.{Mark, Sweep}
use Rattle.cells.specs.declared.cell.CellRecord.{CellRecord}
use Rattle.cells.specs.Calls.{exchange_unless, first_grey, paint_cells, paint_unless, write_cells, write_unless}
use Rattle.cells.specs.Cells.{cells_of, changed_at, new_cells}
use Rattle.cells.specs.Fault.{index_fault, write_fault}
use Rattle.cells.specs.Record.{as_mark, as_sweep, exchanged_cell, is_grey, new_cell, new_links, painted_cell, relinked_cell}
use Rattle.cells.proofs.Changed.{changed_other, changed_same, paint_table, write_table}
use Rattle.cells.proofs.Refused.{Accepted, accepted_below, accepted_none, write_below}
use Rattle.cells.proofs.Seek.{first_none, first_some, none_grey}
use Rattle.cells.specs.declared.cell.LinkRecord.{LinkRecord}
use Rattle.planes.specs.declared.memory.PlanesMemory.{PlanesMemory}
use Rattle.planes.specs.Bits.{FirstSet, bit_at}
use Rattle.planes.specs.Planes.{cell_from, clipped, is_mark_black, is_sweep_black, joined_cell, mark_of, planes_front, planes_size, sweep_of}
use Rattle.planes.specs.Whole.{MarkPainted, Renewed, SweepPainted, swapped_parts}
use Rattle.planes.proofs.Bitwise.{put_other, put_same}

-- the memory with other links of cell i
abbrev pub with_links : PlanesMemory → ℕ → LinkRecord → PlanesMemory
with_links h i links = record { links = at_last h.links (set h.links.now i links); grey = h.grey; mark = h.mark; sweep = h.sweep }

-- colours and their bits
mark_back : (m : MarkColour) → mark_of (is_grey m) (is_mark_black m) ≡ m
mark_back mark.White = refl
mark_back mark.Grey = refl
mark_back mark.Black = refl

sweep_back : (s : SweepColour) → sweep_of (is_sweep_black s) ≡ s
sweep_back sweep.White = refl
sweep_back sweep.Black = refl

pub not_both : (m : MarkColour) → is_grey m ≡ true → is_mark_black m ≡ false
not_both mark.White e = refl
not_both mark.Grey e = refl
not_both mark.Black e = sym e

grey_bit : (g m : Bool) → is_grey (mark_of g m) ≡ g
grey_bit true m = refl
grey_bit false true = refl
grey_bit false false = refl

mark_swapped : (s : Bool) → mark_of false s ≡ as_mark (sweep_of s)
mark_swapped true = refl
mark_swapped false = refl

sweep_swapped : (m : Bool) → sweep_of m ≡ as_sweep (mark_of false m)
sweep_swapped true = refl
sweep_swapped false = refl

-- a clipped table below n, from n on, and changed at one place
clipped_in : (n i : ℕ) (f : ℕ → CellRecord) → i < n → clipped n f i ≡ f i
clipped_in n i f h = cond-true (ltb i n) (f i) new_cell (lt-ltb i n h)

clipped_out : (n i : ℕ) (f : ℕ → CellRecord) → n ≤ i → clipped n f i ≡ new_cell
clipped_out n i f h = cond-false (ltb i n) (f i) new_cell (le-ltb i n h)

clipped_changed : (f g : ℕ → CellRecord) (n i : ℕ) (v : CellRecord) → i < n → ((j : ℕ) → j ≢ i → g j ≡ f j) → g i ≡ v → clipped n g ≡ changed_at (clipped n f) i v
clipped_changed f g n i v h same here = fun_ext (λ j. elim (cases_eq j i) [
  | inl e ↦ rw e (clipped_in n i g h ∙ here ∙ sym (changed_same (clipped n f) i v))
  | inr ne ↦ ap (λ x. cond (ltb j n) x new_cell) (same j ne) ∙ sym (changed_other (clipped n f) i v j ne)
])

-- equal parts make equal cells
joined_same : {l k : LinkRecord} {g p m q s r : Bool} → l ≡ k → g ≡ p → m ≡ q → s ≡ r → joined_cell l g m s ≡ joined_cell k p q r
joined_same a b c d = λ t. joined_cell (a t) (b t) (c t) (d t)

module _ (h : PlanesMemory) (n : ℕ) (fits : n ≤ planes_size h) where
  abbrev at : ℕ → CellRecord
  at = cell_from h

  pub mark_front : (t : PlanesMemory) (i : ℕ) (c : MarkColour) → MarkPainted i c h t → Accepted (index_fault n i) → planes_front n t ≡ paint_cells (planes_front n h) i (Mark c)
  mark_front t i c p ok =
      let none = accepted_none (index_fault n i) ok in
      let below = accepted_below n i ok in
      let in_grey : i < 8 * length h.grey.now = omega arith in
      let in_mark : i < 8 * length h.mark.now = omega arith in
      ap (cells_of n) (clipped_changed at (cell_from t) n i (painted_cell (clipped n at i) (Mark c)) below
      (λ j ne. joined_same (ap (λ x. get_or x.now j new_links) p.links) (ap (λ x. bit_at x j) p.grey ∙ put_other h.grey.now i j (is_grey c) in_grey ne)
      (ap (λ x. bit_at x j) p.black ∙ put_other h.mark.now i j (is_mark_black c) in_mark ne) (ap (λ x. bit_at x.now j) p.sweep))
      (joined_same (ap (λ x. get_or x.now i new_links) p.links) (ap (λ x. bit_at x i) p.grey ∙ put_same h.grey.now i (is_grey c) in_grey)
      (ap (λ x. bit_at x i) p.black ∙ put_same h.mark.now i (is_mark_black c) in_mark) (ap (λ x. bit_at x.now i) p.sweep)
      ∙ ap (λ x. painted_cell (at i) (Mark x)) (mark_back c)
      ∙ ap (λ x. painted_cell x (Mark c)) (sym (clipped_in n i at below))))
      ∙ paint_table n (clipped n at) i (Mark c) ∙ ap (λ f. paint_unless f (planes_front n h) i (Mark c)) (sym none)

  pub sweep_front : (t : PlanesMemory) (i : ℕ) (c : SweepColour) → SweepPainted i c h t → Accepted (index_fault n i) → planes_front n t ≡ paint_cells (planes_front n h) i (Sweep c)
  sweep_front t i c p ok =
      let none = accepted_none (index_fault n i) ok in
      let below = accepted_below n i ok in
      let in_sweep : i < 8 * length h.sweep.now = omega arith in
      ap (cells_of n) (clipped_changed at (cell_from t) n i (painted_cell (clipped n at i) (Sweep c)) below
      (λ j ne. joined_same (ap (λ x. get_or x.now j new_links) p.links) (ap (λ x. bit_at x.now j) p.grey) (ap (λ x. bit_at x.now j) p.mark)
      (ap (λ x. bit_at x j) p.black ∙ put_other h.sweep.now i j (is_sweep_black c) in_sweep ne))
      (joined_same (ap (λ x. get_or x.now i new_links) p.links) (ap (λ x. bit_at x.now i) p.grey) (ap (λ x. bit_at x.now i) p.mark)
      (ap (λ x. bit_at x i) p.black ∙ put_same h.sweep.now i (is_sweep_black c) in_sweep)
      ∙ ap (λ x. painted_cell (at i) (Sweep x)) (sweep_back c)
      ∙ ap (λ x. painted_cell x (Sweep c)) (sym (clipped_in n i at below))))
      ∙ paint_table n (clipped n at) i (Sweep c) ∙ ap (λ f. paint_unless f (planes_front n h) i (Sweep c)) (sym none)

  pub write_front : (i : ℕ) (links : LinkRecord) → Accepted (write_fault n i links.left links.right) → planes_front n (with_links h i links) ≡ write_cells (planes_front n h) i links
  write_front i links ok =
      let none = accepted_none (write_fault n i links.left links.right) ok in
      let below = write_below n i links.left links.right ok in
      ap (cells_of n) (clipped_changed at (cell_from (with_links h i links)) n i (relinked_cell (clipped n at i) links) below
      (λ j ne. joined_same (get_or-set_other h.links.now i j links new_links ne) refl refl refl)
      (joined_same (get_or-set_same h.links.now i links new_links (omega arith)) refl refl refl
      ∙ ap (λ x. relinked_cell x links) (sym (clipped_in n i at below))))
      ∙ write_table n (clipped n at) i links ∙ ap (λ f. write_unless f (planes_front n h) i links) (sym none)

-- the grey bits tell the grey cells
pub front_grey : (h : PlanesMemory) (n i : ℕ) → i < n → is_grey ((planes_front n h).mark i) ≡ bit_at h.grey.now i
front_grey h n i below = ap (λ c. is_grey c.mark) (clipped_in n i (cell_from h) below) ∙ grey_bit (bit_at h.grey.now i) (bit_at h.mark.now i)

pub front_found : (h : PlanesMemory) (n k : ℕ) (r : Option ℕ) → FirstSet h.grey.now k n r → r ≡ first_grey (planes_front n h) k
front_found h n k None f = sym (first_none (planes_front n h) k (λ j lo hi. front_grey h n j hi ∙ f j lo hi))
front_found h n k (Some i) f =
    sym (first_some (planes_front n h) k i f.0 f.1 (front_grey h n i f.1 ∙ f.2) (λ j lo hi. front_grey h n j (omega (arith, f.1)) ∙ f.3 j lo hi))

-- with no grey bit below n, the mark and the sweep plane in each other's part are an exchange
swap_one : (h : PlanesMemory) (j : ℕ) → bit_at h.grey.now j ≡ false → cell_from (swapped_parts h) j ≡ exchanged_cell (cell_from h j)
swap_one h j e =
    let l = get_or h.links.now j new_links in
    let m = bit_at h.mark.now j in
    let s = bit_at h.sweep.now j in
    ap (λ x. joined_cell l x s m) e
    ∙ (λ t. record { links = l; mark = mark_swapped s t; sweep = sweep_swapped m t })
    ∙ ap (λ x. exchanged_cell (joined_cell l x m s)) (sym e)

pub swap_front : (h : PlanesMemory) (n : ℕ) → first_grey (planes_front n h) 0 ≡ None → planes_front n (swapped_parts h) ≡ exchange_unless None (planes_front n h)
swap_front h n e =
    let at = cell_from h in
    let turned = cell_from (swapped_parts h) in
    ap (cells_of n) (fun_ext (λ j. elim (cases_lt j n) [
      | inl below ↦ clipped_in n j turned below ∙ swap_one h j (sym (front_grey h n j below) ∙ none_grey (planes_front n h) 0 e j (omega arith) below) ∙ ap exchanged_cell (sym (clipped_in n j at below))
      | inr beyond ↦ clipped_out n j turned beyond ∙ ap exchanged_cell (sym (clipped_out n j at beyond))
    ]))

pub new_front : (h t : PlanesMemory) → Renewed h t → planes_front (planes_size h) t ≡ new_cells (planes_size h)
new_front h t p =
    let n = planes_size h in
    let fresh : (j : ℕ) → j < n → get_or t.links.now j new_links ≡ new_links = λ j below.
    ap (λ x. get_or x j new_links) p.records
    ∙ get_or_append_left (replicate n new_links) (drop n h.links.now) new_links j (omega (arith, length-replicate n new_links)) ∙ get_or-replicate n j new_links new_links below in
    ap (cells_of n) (fun_ext (λ j. elim (cases_lt j n) [
      | inl below ↦ clipped_in n j (cell_from t) below ∙ joined_same (fresh j below) (p.greys.clear j below) (p.marks.clear j below) (p.sweeps.clear j below)
      | inr beyond ↦ clipped_out n j (cell_from t) beyond
    ]))
