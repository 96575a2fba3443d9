-- The file number of a cell is its place in the order.
use Rattle.std.proofs.Common.{◌≡◌, ℕ, suc, ◌<◌, cond, eqb, List, [], ◌∷◌, ◌++◌, length, get_or, sym, refl, ap, ◌∙◌, inl, inr, arith}
use Rattle.std.proofs.lemmas.List.{get_or_append_left, length_push}
use Rattle.std.proofs.lemmas.Bool.{cases_lt, cond_both, cond-true, eq-eqb, eqb-false, eqb-true}
use Rattle.archive.specs.Pattern.{among}
use Rattle.numbering.specs.Lists.{In, Once}
use Rattle.numbering.specs.Walk.{number_of, place}
use Rattle.numbering.proofs.Fronts.{Front}
use Rattle.numbering.proofs.Lists.{at_in, in_among, in_left, in_right, once_places}

-- number k is a place of the order, and cell c stands there
pub record Numbers (order : List ℕ) (k c : ℕ) : Type 0 where
  pub below : k < length order
  pub at_place : get_or order k 0 ≡ c

place_numbers : (order : List ℕ) (c : ℕ) → In c order → Numbers order (place c order) c
place_numbers [] c h = absurd h
place_numbers (x ∷ xs) c h =
    cond_both (eqb c x) 0 (suc (place c xs)) (λ k. Numbers (x ∷ xs) k c)
    (λ e. record { below = omega arith; at_place = sym (eqb-true c x e) })
    (λ e. let more = place_numbers xs c (later h (eqb-false c x e)) in record { below = omega (arith, more.below); at_place = more.at_place })
  where
    later : In c (x ∷ xs) → (c ≡ x → ⊥) → In c xs
    later (inl e) other = absurd (other e)
    later (inr q) other = q

number_is : (order : List ℕ) (c : ℕ) → In c order → number_of order c ≡ place c order
number_is order c h = cond-true (among c order) (place c order) 65535 (in_among c order h)

-- the number of a cell is the place where it stands,
pub number_at : (order : List ℕ) (c : ℕ) → In c order → Numbers order (number_of order c) c
number_at order c h = rw (number_is order c h) (place_numbers order c h)

-- and the cell at a place has that number, where no cell stands twice
pub number_of_place : (order : List ℕ) (k : ℕ) → Once order → k < length order → number_of order (get_or order k 0) ≡ k
number_of_place order k once h =
    let n = number_at order (get_or order k 0) (at_in order k h) in
    once_places order (number_of order (get_or order k 0)) k once n.below h n.at_place

-- a number stays as the order goes on,
place_stays : (order rest : List ℕ) (c : ℕ) → In c order → place c (order ++ rest) ≡ place c order
place_stays [] rest c h = absurd h
place_stays (x ∷ xs) rest c (inl e) =
    cond-true (eqb c x) 0 (suc (place c (xs ++ rest))) (eq-eqb c x e) ∙ sym (cond-true (eqb c x) 0 (suc (place c xs)) (eq-eqb c x e))
place_stays (x ∷ xs) rest c (inr h) = ap (λ k. cond (eqb c x) 0 (suc k)) (place_stays xs rest c h)

pub number_stays : (w v : List ℕ) (c : ℕ) → Front w v → In c w → number_of v c ≡ number_of w c
number_stays w v c f h =
    ap (λ x. number_of x c) f.1 ∙ number_is (w ++ f.0) c (in_left w f.0 c h) ∙ place_stays w f.0 c h ∙ sym (number_is w c h)

-- and a new cell at the end gets the next one
pub number_new : (order : List ℕ) (c : ℕ) → (In c order → ⊥) → number_of (order ++ (c ∷ [])) c ≡ length order
number_new order c new =
    let k = number_of (order ++ (c ∷ [])) c in
    let n = number_at (order ++ (c ∷ [])) c (in_right order (c ∷ []) c (inl refl)) in
    elim (cases_lt k (length order)) [
      | inl h ↦ absurd (new (rw (sym n.at_place ∙ get_or_append_left order (c ∷ []) 0 k h) (at_in order k h)))
      | inr h ↦ omega (arith, n.below, length_push order c)
    ]
