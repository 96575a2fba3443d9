-- A walk meets each cell of the pattern once, and no other.
use Rattle.std.proofs.Common.{◌≡◌, ℕ, zero, suc, ◌<◌, ◌≤◌, ltb, List, [], ◌∷◌, length, get_or, sym, refl, ap, ◌∙◌, subst, inl, inr, arith}
use Rattle.std.proofs.lemmas.Bool.{cases_eq, cond_both, ltb-false, ltb-true}
use Rattle.cells.specs.Cells.{Cells}
use Rattle.numbering.specs.Laws.{NumbersEach, Sound}
use Rattle.numbering.specs.Lists.{In, Once}
use Rattle.numbering.specs.Same.{Names, Within, itself, named}
use Rattle.numbering.specs.Walk.{meets_both, order_after, order_from}
use Rattle.numbering.proofs.Fronts.{Front, front_at, front_in, front_length, front_on, front_same}
use Rattle.numbering.proofs.Lists.{at_in, few_below, in_at}
use Rattle.numbering.proofs.Steps.{both_front, both_named, both_once, both_only}

module _ (cells : Cells) (first : ℕ) where
  -- the order once k cells are gone through: it begins with the first cell, has no cell twice and only cells of the
  -- pattern, and it has all that those k cells name
  record Going (k : ℕ) (w : List ℕ) : Type 0 where
    starts : Front (first ∷ []) w
    once : Once w
    only : (c : ℕ) → In c w → Within cells first c
    names : (j c : ℕ) → j < k → j < length w → Names cells (get_or w j 0) c → In c w

  -- such is the order at the start,
  going_none : Going 0 (first ∷ [])
  going_none = record {
    starts = front_same (first ∷ []);
    once = (λ h. h, tt);
    only = λ c h. elim h [ inl e ↦ rw e itself | inr z ↦ absurd z ];
    names = λ j c h. absurd (omega arith);
  }

  -- .. once one cell more is gone through,
  going_line : (k i : ℕ) (w : List ℕ) → Going k w → k < length w → get_or w k 0 ≡ i → Going (suc k) (meets_both cells w i)
  going_line k i w g lt e = record {
    starts = front_on (first ∷ []) w (meets_both cells w i) g.starts (both_front cells w i);
    once = both_once cells w i g.once;
    only = λ c h. elim (both_only cells w i c h) [ inl p ↦ g.only c p | inr n ↦ named i c (g.only i (rw e at (at_in w k lt))) n ];
    names = λ j c h b n. more j c (omega arith) (subst (λ d. Names cells d c) (front_at w (meets_both cells w i) j (both_front cells w i) (omega arith)) n);
  }
    where
      more : (j c : ℕ) → j ≤ k → Names cells (get_or w j 0) c → In c (meets_both cells w i)
      more j c h n = elim (cases_eq j k) [
        | inl same ↦ both_named cells w i c (subst (λ d. Names cells d c) (ap (λ m. get_or w m 0) same ∙ e) n)
        | inr other ↦ front_in w (meets_both cells w i) c (both_front cells w i) (g.names j c (omega arith) (omega arith) n)
      ]

  -- .. and where there is no further cell
  going_past : (k : ℕ) (w : List ℕ) → Going k w → length w ≤ k → Going (suc k) w
  going_past k w g le = record {
    starts = g.starts;
    once = g.once;
    only = g.only;
    names = λ j c h b. g.names j c (omega arith) b;
  }

  -- so it is at any time
  going : (k : ℕ) → Going k (order_after cells (first ∷ []) k)
  going zero = going_none
  going (suc k) =
      let w = order_after cells (first ∷ []) k in
      cond_both (ltb k (length w)) (meets_both cells w (get_or w k 0)) w (Going (suc k))
      (λ e. going_line k (get_or w k 0) w (going k) (ltb-true k (length w) e) refl)
      (λ e. going_past k w (going k) (ltb-false k (length w) e))

module _ (cells : Cells) (first : ℕ) (sound : Sound cells) (inside : first < cells.size) where
  -- the cells of a pattern are cells of the store
  within_size : (c : ℕ) → Within cells first c → c < cells.size
  within_size c itself = inside
  within_size c (named i _ h (inl e)) = rw e at (sound.lefts i)
  within_size c (named i _ h (inr e)) = rw e at (sound.rights i)

  -- so a walk meets no more cells than there are
  pub order_few : length (order_from cells first) ≤ cells.size
  order_few =
      let g = going cells first cells.size in
      few_below cells.size (order_from cells first) g.once (λ c h. within_size c (g.only c h))

  -- and it goes through each of them, so that it meets all cells that they name
  all_met : (c : ℕ) → Within cells first c → In c (order_from cells first)
  all_met c itself = front_in (first ∷ []) (order_from cells first) first (going cells first cells.size).starts (inl refl)
  all_met c (named i _ h n) =
      let met = in_at (order_from cells first) i (all_met i h) in
      (going cells first cells.size).names met.0 c (omega (arith, met.1, order_few)) met.1 (subst (λ d. Names cells d c) (sym met.2) n)

  -- The law: one number for each cell of the pattern, and for no other.
  pub numbers_each : NumbersEach cells first (order_from cells first)
  numbers_each =
      let g = going cells first cells.size in
      record {
        some = front_length (first ∷ []) (order_from cells first) g.starts;
        front = front_at (first ∷ []) (order_from cells first) 0 g.starts (omega arith);
        once = g.once;
        only = g.only;
        all = all_met;
      }
