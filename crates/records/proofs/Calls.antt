-- What each call leaves of the cells, and that they stay lawful.
use Rattle.std.proofs.Common.{◌≡◌, ℕ, ◌+◌, ◌-◌, ◌<◌, ◌≤◌, min, Bool, List, ◌++◌, length, get_or, set, map, take, drop, Some, None, Option, false, sym, ap, ◌∙◌, subst, inl, inr, arith}
use Rattle.std.specs.List.{position, position_or_len}
use Rattle.std.proofs.lemmas.Bool.{cases_lt, cond-true, lt-ltb}
use Rattle.std.proofs.lemmas.List.{append-nil, drop_all, get_or-drop, get_or-take, length-drop, length-take, take_all}
use Rattle.std.proofs.lemmas.List.Quantifiers.{position-Some}
use Rattle.std.proofs.lemmas.List.Sums.{fails_before_first}
use denote.Ref.{at_last}
use Rattle.cells.specs.declared.cell.CellRecord.{CellRecord}
use Rattle.cells.specs.declared.cell.Colour.{Colour}
use Rattle.cells.specs.declared.cell.LinkRecord.{LinkRecord}
use Rattle.cells.specs.Calls.{Lawful, exchange_cells, exchange_fault, exchange_unless, first_grey, paint_cells, write_cells}
use Rattle.cells.specs.Fault.{index_fault, write_fault}
use Rattle.cells.specs.Front.{cells_in, front_at, size_for}
use Rattle.cells.specs.Record.{exchanged_cell, is_grey, new_cell, painted_cell, relinked_cell}
use Rattle.cells.proofs.Kept.{exchange_lawful, paint_lawful, write_lawful}
use Rattle.cells.proofs.Memory.{exchange_in, front_at_lem, paint_in, write_in}
use Rattle.cells.proofs.Refused.{Accepted, accepted_none}
use Rattle.cells.proofs.Seek.{first_none, first_some}
use Rattle.records.specs.declared.heap.RecordsHeap.{RecordsHeap}
use Rattle.records.specs.Records.{SoundRecords, cells_of_records}

-- the heap with other records in the same memory
abbrev pub holding : RecordsHeap → List CellRecord → RecordsHeap
holding h ds = record { cells = at_last h.cells ds }

pub written : (h : RecordsHeap) (n i : ℕ) (links : LinkRecord) (v : CellRecord) → n ≡ size_for (length h.cells.now) → Accepted (write_fault n i links.left links.right) → v ≡ relinked_cell (get_or h.cells.now i new_cell) links → cells_of_records (holding h (set h.cells.now i v)) ≡ write_cells (cells_of_records h) i links
written h n i links v e ok r = ap (λ x. cells_in (set h.cells.now i x)) r ∙ write_in h.cells.now i links (subst (λ k. Accepted (write_fault k i links.left links.right)) e ok)

pub written_sound : (h : RecordsHeap) (n i : ℕ) (links : LinkRecord) (v : CellRecord) → n ≡ size_for (length h.cells.now) → Accepted (write_fault n i links.left links.right) → v ≡ relinked_cell (get_or h.cells.now i new_cell) links → SoundRecords h → SoundRecords (holding h (set h.cells.now i v))
written_sound h n i links v e ok r s = subst Lawful (sym (written h n i links v e ok r)) (write_lawful (cells_of_records h) i links s)

pub painted : (h : RecordsHeap) (n i : ℕ) (colour : Colour) (v : CellRecord) → n ≡ size_for (length h.cells.now) → Accepted (index_fault n i) → v ≡ painted_cell (get_or h.cells.now i new_cell) colour → cells_of_records (holding h (set h.cells.now i v)) ≡ paint_cells (cells_of_records h) i colour
painted h n i colour v e ok r = ap (λ x. cells_in (set h.cells.now i x)) r ∙ paint_in h.cells.now i colour (subst (λ k. Accepted (index_fault k i)) e ok)

pub painted_sound : (h : RecordsHeap) (n i : ℕ) (colour : Colour) (v : CellRecord) → n ≡ size_for (length h.cells.now) → Accepted (index_fault n i) → v ≡ painted_cell (get_or h.cells.now i new_cell) colour → SoundRecords h → SoundRecords (holding h (set h.cells.now i v))
painted_sound h n i colour v e ok r s = subst Lawful (sym (painted h n i colour v e ok r)) (paint_lawful (cells_of_records h) i colour s)

-- the rest of the front from k on, and its first grey record
abbrev grey : CellRecord → Bool
grey r = is_grey r.mark

abbrev rest : ℕ → ℕ → List CellRecord → List CellRecord
rest n k cs = take (n - k) (drop k cs)

rest_length : (cs : List CellRecord) (n k : ℕ) → n ≤ length cs → length (rest n k cs) ≡ n - k
rest_length cs n k fits = simp (length-take, length-drop) (omega arith)

rest_at : (cs : List CellRecord) (n k j : ℕ) → n ≤ length cs → k ≤ j → j < n → get_or (rest n k cs) (j - k) new_cell ≡ front_at n cs j
rest_at cs n k j fits lo hi =
    let e : k + (j - k) ≡ j = omega arith in
    get_or-take (n - k) (drop k cs) (j - k) new_cell (omega arith) ∙ get_or-drop k cs (j - k) new_cell
    ∙ ap (λ x. get_or cs x new_cell) e ∙ sym (front_at_lem cs n fits j hi)

pub found_some : (h : RecordsHeap) (n k from i : ℕ) → n ≡ size_for (length h.cells.now) → k ≡ min from n → position grey (rest n k h.cells.now) ≡ Some i → first_grey (cells_of_records h) from ≡ Some (k + i)
found_some h n k from i e m p =
    let cs = h.cells.now in
    let fits : n ≤ length cs = omega arith in
    let q = position-Some grey (rest n k cs) i new_cell p in
    let in_rest : i < n - k = omega (arith, q.0, rest_length cs n k fits) in
    let same : k ≡ from = omega arith in
    let at : (j : ℕ) → k ≤ j → j < n → is_grey ((cells_of_records h).mark j) ≡ grey (get_or (rest n k cs) (j - k) new_cell) = λ j lo hi. ap (λ s. is_grey (front_at s cs j).mark) (sym e) ∙ ap grey (sym (rest_at cs n k j fits lo hi)) in
    let back : k + i - k ≡ i = omega arith in
    first_some (cells_of_records h) from (k + i) (omega arith) (omega arith)
    (at (k + i) (omega arith) (omega arith) ∙ ap (λ x. grey (get_or (rest n k cs) x new_cell)) back ∙ q.1)
    (λ j lo hi. at j (omega arith) (omega arith) ∙ q.2 (j - k) (omega arith))

none_before : (xs : List CellRecord) → position grey xs ≡ None → (j : ℕ) → j < length xs → grey (get_or xs j new_cell) ≡ false
none_before xs p j h = elim (cases_lt (position_or_len grey xs) (length xs)) [
  | inl lt ↦ let z : ◌≡◌ {A = Option ℕ} (Some (position_or_len grey xs)) None = sym (cond-true _ (Some (position_or_len grey xs)) None (lt-ltb (position_or_len grey xs) (length xs) lt)) ∙ p in cc
  | inr ge ↦ fails_before_first grey xs j new_cell (omega arith)
]

pub found_none : (h : RecordsHeap) (n k from : ℕ) → n ≡ size_for (length h.cells.now) → k ≡ min from n → position grey (rest n k h.cells.now) ≡ None → first_grey (cells_of_records h) from ≡ None
found_none h n k from e m p =
    let cs = h.cells.now in
    let fits : n ≤ length cs = omega arith in
    first_none (cells_of_records h) from (λ j lo hi.
    ap (λ s. is_grey (front_at s cs j).mark) (sym e) ∙ ap grey (sym (rest_at cs n k j fits (omega arith) (omega arith)))
    ∙ none_before (rest n k cs) p (j - k) (omega (arith, rest_length cs n k fits)))

-- the loop's records, k of the first n exchanged, with those beyond
module _ (h : RecordsHeap) (n k : ℕ) (xs : List CellRecord) (e : n ≡ size_for (length h.cells.now)) (ok : Accepted (exchange_fault (cells_of_records h))) (is : xs ≡ map exchanged_cell (take k (take (n - 0) h.cells.now)) ++ drop k (take (n - 0) h.cells.now)) (all : length (take (n - 0) h.cells.now) ≤ k) where
  pub swapped : cells_of_records (holding h (xs ++ drop (n - 0) h.cells.now)) ≡ exchange_cells (cells_of_records h)
  swapped =
      let cs = h.cells.now in
      let whole : n - 0 ≡ size_for (length cs) = omega (arith, e) in
      let front = take (n - 0) cs in
      let done : xs ≡ map exchanged_cell front = is ∙ ap (λ ys. map exchanged_cell ys ++ drop k front) (take_all k front all) ∙ ap (λ ys. map exchanged_cell front ++ ys) (drop_all k front all) ∙ append-nil (map exchanged_cell front) in
      ap (λ ys. cells_in (ys ++ drop (n - 0) cs)) done ∙ ap (λ m. cells_in (map exchanged_cell (take m cs) ++ drop m cs)) whole
      ∙ exchange_in cs ∙ ap (λ f. exchange_unless f (cells_in cs)) (sym (accepted_none (exchange_fault (cells_in cs)) ok))

  pub swapped_sound : SoundRecords h → SoundRecords (holding h (xs ++ drop (n - 0) h.cells.now))
  swapped_sound s = subst Lawful (sym swapped) (exchange_lawful (cells_of_records h) s)
