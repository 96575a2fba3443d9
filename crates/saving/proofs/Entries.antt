-- The tables of an order: what the code keeps once the cells of the order are met.
use Rattle.std.proofs.Common.{◌≡◌, ℕ, zero, suc, ◌+◌, ◌<◌, ◌≤◌, min, List, [], ◌∷◌, ◌++◌, map, length, get_or, drop, set, replicate, sym, refl, ap, ◌∙◌, inl, inr, arith}
use Rattle.std.proofs.lemmas.List.{append_assoc, drop_more, ext_get_or, get_or_append_left, get_or-map, get_or-set_other, get_or-set_same, length-map, length_push, length-set, set-append_left, set_at}
use Rattle.std.proofs.lemmas.Bool.{cases_Bool, cases_eq, cond-false, eq-eqb, ne_eqb}
use Rattle.cells.specs.declared.content.Content.{Content}
use Rattle.cells.specs.declared.content.Content.TheVariants.{Nothing, Yarn, Cell}
use Rattle.cells.specs.Calls.{InRange}
use Rattle.archive.specs.Pattern.{among}
use Rattle.numbering.specs.Lists.{In, count_from}
use Rattle.numbering.specs.Walk.{meets, number_of, place}
use Rattle.numbering.proofs.Lists.{among_in, among_not, count_at, in_push, length_count, not_among}
use Rattle.numbering.proofs.Numbers.{number_at, number_new, number_stays}
use Rattle.saving.specs.Tables.{Tables, cell_met_in, cleared_in, entered_in, entry_for, met_in, tables}

-- a cell that is not in the order has no number
number_none : (w : List ℕ) (c : ℕ) → (In c w → ⊥) → number_of w c ≡ 65535
number_none w c out = cond-false (among c w) (place c w) 65535 (not_among c w out)

-- a new cell changes the number of no other
number_other : (w : List ℕ) (c d : ℕ) → (d ≡ c → ⊥) → number_of (w ++ (c ∷ [])) d ≡ number_of w d
number_other w c d other = elim (cases_Bool (among d w)) [
  | inl e ↦ number_stays w (w ++ (c ∷ [])) d (c ∷ [], refl) (among_in d w e)
  | inr e ↦ number_none (w ++ (c ∷ [])) d (λ h. elim (in_push w c d h) [ inl p ↦ among_not d w e p | inr same ↦ other same ]) ∙ sym (number_none w d (among_not d w e))
]

-- where no cell is met, each entry says so
none_met : (k n : ℕ) → map (number_of []) (count_from k n) ≡ replicate n 65535
none_met k zero = refl
none_met k (suc n) = ap (λ l. 65535 ∷ l) (none_met (suc k) n)

-- there are not too many cells, and the tables have an entry for each
pub record Fits (size : ℕ) (numbers order : List ℕ) : Type 0 where
  pub few : size ≤ 16384
  pub numbers_fit : size ≤ length numbers
  pub order_fits : size ≤ length order

module _ (size : ℕ) (numbers order : List ℕ) (fits : Fits size numbers order) where
  -- the number of each cell
  abbrev row : List ℕ → List ℕ
  row w = map (number_of w) (count_from 0 size)

  -- the lent tables once the cells of an order are met
  abbrev numbers_for : List ℕ → List ℕ
  numbers_for w = row w ++ drop size numbers

  abbrev order_for : List ℕ → List ℕ
  order_for w = w ++ drop (length w) order

  abbrev pub tables_for : List ℕ → Tables
  tables_for w = tables (length w) (numbers_for w) (order_for w)

  -- there is an entry for each cell,
  row_length : (w : List ℕ) → length (row w) ≡ size
  row_length w = length-map (count_from 0 size) (number_of w) ∙ length_count 0 size

  -- and it is the cell's number,
  row_at : (w : List ℕ) (c : ℕ) → c < size → get_or (row w) c 0 ≡ number_of w c
  row_at w c h = get_or-map (number_of w) (count_from 0 size) c 0 0 (rw (length_count 0 size) h) ∙ ap (number_of w) (count_at 0 size c h ∙ omega arith)

  pub number_entry : (w : List ℕ) (c : ℕ) → c < size → get_or (numbers_for w) c 0 ≡ number_of w c
  number_entry w c h = get_or_append_left (row w) (drop size numbers) 0 c (rw (row_length w) h) ∙ row_at w c h

  -- as the entry of a number is its cell
  pub order_entry : (w : List ℕ) (k : ℕ) → k < length w → get_or (order_for w) k 0 ≡ get_or w k 0
  order_entry w k h = get_or_append_left w (drop (length w) order) 0 k h

  -- a new cell gets the next number in the one table,
  row_set : (w : List ℕ) (c : ℕ) → c < size → (In c w → ⊥) → set (row w) c (length w) ≡ row (w ++ (c ∷ []))
  row_set w c h out =
      let long = length-set (row w) c (length w) ∙ row_length w in
      ext_get_or 0 (set (row w) c (length w)) (row (w ++ (c ∷ []))) (long ∙ sym (row_length (w ++ (c ∷ []))))
      (λ i b. let below : i < size = omega (arith, long) in each i below ∙ sym (row_at (w ++ (c ∷ [])) i below))
    where
      each : (i : ℕ) → i < size → get_or (set (row w) c (length w)) i 0 ≡ number_of (w ++ (c ∷ [])) i
      each i below = elim (cases_eq i c) [
        | inl e ↦ rw e (get_or-set_same (row w) c (length w) 0 (rw (row_length w) h) ∙ sym (number_new w c out))
        | inr other ↦ get_or-set_other (row w) c i (length w) 0 other ∙ row_at w i below ∙ sym (number_other w c i other)
      ]

  number_set : (w : List ℕ) (c : ℕ) → c < size → (In c w → ⊥) → set (numbers_for w) c (length w) ≡ numbers_for (w ++ (c ∷ []))
  number_set w c h out =
      set-append_left (row w) (drop size numbers) c (length w) (rw (row_length w) h) ∙ ap (λ l. l ++ drop size numbers) (row_set w c h out)

  -- stands behind the last cell in the other,
  order_set : (w : List ℕ) (c : ℕ) → length w < length order → set (order_for w) (length w) c ≡ order_for (w ++ (c ∷ []))
  order_set w c h =
      ap (λ l. set (w ++ l) (length w) c) (drop_more order (length w) 0 h)
      ∙ set_at w (get_or order (length w) 0) (drop (length w + 1) order) c (length w) refl
      ∙ sym (append_assoc w (c ∷ []) (drop (length w + 1) order))
      ∙ ap (λ k. (w ++ (c ∷ [])) ++ drop k order) (sym (length_push w c))

  -- and is one cell more
  entered : (w : List ℕ) (c : ℕ) → c < size → (In c w → ⊥) → length w < size → entered_in (tables_for w) c ≡ tables_for (w ++ (c ∷ []))
  entered w c h out room =
      let count : min (length w + 1) 65535 ≡ length (w ++ (c ∷ [])) = omega (arith, length_push w c) in
      let filled = number_set w c h out in
      let behind = order_set w c (omega arith) in
      λ i. tables (count i) (filled i) (behind i)

  -- a cell is met
  cell_met : (w : List ℕ) (c : ℕ) → c < size → length (meets w (Cell c)) ≤ size → cell_met_in (tables_for w) c ≡ tables_for (meets w (Cell c))
  cell_met w c h room = elim (cases_Bool (among c w)) [
    | inl e ↦
        let entry = get_or (numbers_for w) c 0 in
        let fit = simp e at room in
        let number : number_of w c < length w = (number_at w c (among_in c w e)).below in
        let told : entry ≡ 65535 → ⊥ = λ q. omega (arith, number_entry w c h) in
        simp (e, ne_eqb entry 65535 told) refl
    | inr e ↦
        let entry = get_or (numbers_for w) c 0 in
        let fit = simp e at room in
        let told : entry ≡ 65535 = number_entry w c h ∙ number_none w c (among_not c w e) in
        simp (e, eq-eqb entry 65535 told) (entered w c h (among_not c w e) (omega (arith, length_push w c)))
  ]

  -- a content is met
  pub met : (w : List ℕ) (x : Content) → InRange size x → length (meets w x) ≤ size → met_in (tables_for w) x ≡ tables_for (meets w x)
  met w Nothing range room = refl
  met w (Yarn y) range room = refl
  met w (Cell c) range room = ap (cell_met_in (tables_for w)) (let same : entry_for c ≡ c = omega arith in same) ∙ cell_met w c range room

  -- the tables at the start
  pub cleared : tables 0 (cleared_in numbers size) order ≡ tables_for []
  cleared =
      let all : min (length numbers) size ≡ size = omega arith in
      ap (λ k. tables 0 (replicate k 65535 ++ drop k numbers) order) all ∙ ap (λ l. tables 0 (l ++ drop size numbers) order) (sym (none_met 0 size))
