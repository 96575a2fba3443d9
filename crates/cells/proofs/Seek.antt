-- The search for the first grey cell.
use Rattle.std.proofs.Common.{◌≡◌, ℕ, zero, suc, ◌+◌, ◌-◌, ◌<◌, ◌≤◌, true, false, Some, None, Option, sym, refl, ap, ◌∙◌, subst, inl, inr, arith}
use Rattle.std.proofs.lemmas.Bool.{cases_Bool, cases_eq, cond-true, cond-false}
use Rattle.cells.specs.declared.cell.MarkColour.{MarkColour}
use Rattle.cells.specs.Cells.{Cells}
use Rattle.cells.specs.Calls.{first_grey, seek_grey}
use Rattle.cells.specs.Record.{is_grey}

seek_none : (g : ℕ → MarkColour) (k n : ℕ) → ((j : ℕ) → k ≤ j → j < k + n → is_grey (g j) ≡ false) → seek_grey g k n ≡ None
unfolding seek_grey
seek_none g k zero f = refl
seek_none g k (suc n) f = cond-false (is_grey (g k)) _ _ (f k (omega arith) (omega arith)) ∙ seek_none g (suc k) n (λ j lo hi. f j (omega arith) (omega arith))

seek_some : (g : ℕ → MarkColour) (k n i : ℕ) → k ≤ i → i < k + n → is_grey (g i) ≡ true → ((j : ℕ) → k ≤ j → j < i → is_grey (g j) ≡ false) → seek_grey g k n ≡ Some i
unfolding seek_grey
seek_some g k zero i lo hi y f = absurd (omega arith)
seek_some g k (suc n) i lo hi y f = elim (cases_eq k i) [
  | inl e ↦ cond-true (is_grey (g k)) (Some k) _ (rw e y) ∙ ap Some e
  | inr ne ↦ cond-false (is_grey (g k)) (Some k) _ (f k (omega arith) (omega arith)) ∙ seek_some g (suc k) n i (omega arith) (omega arith) y (λ j l h. f j (omega arith) h)
]

-- there is none, and i is the first
pub first_none : (c : Cells) (k : ℕ) → ((j : ℕ) → k ≤ j → j < c.size → is_grey (c.mark j) ≡ false) → first_grey c k ≡ None
first_none c k f = seek_none c.mark k (c.size - k) (λ j lo hi. f j lo (omega arith))

pub first_some : (c : Cells) (k i : ℕ) → k ≤ i → i < c.size → is_grey (c.mark i) ≡ true → ((j : ℕ) → k ≤ j → j < i → is_grey (c.mark j) ≡ false) → first_grey c k ≡ Some i
first_some c k i lo hi y f = seek_some c.mark k (c.size - k) i lo (omega arith) y f

seek_all : (g : ℕ → MarkColour) (k n : ℕ) → seek_grey g k n ≡ None → (j : ℕ) → k ≤ j → j < k + n → is_grey (g j) ≡ false
unfolding seek_grey
seek_all g k zero e j lo hi = absurd (omega arith)
seek_all g k (suc n) e j lo hi = elim (cases_Bool (is_grey (g k))) [
  | inl t ↦ let z : ◌≡◌ {A = Option ℕ} (Some k) None = sym (cond-true (is_grey (g k)) (Some k) (seek_grey g (suc k) n) t) ∙ e in let o : ◌≡◌ {A = ℕ} 0 1 = cc in absurd (omega arith)
  | inr f ↦ elim (cases_eq k j) [
    | inl p ↦ subst (λ x. is_grey (g x) ≡ false) p f
    | inr np ↦ seek_all g (suc k) n (sym (cond-false (is_grey (g k)) (Some k) (seek_grey g (suc k) n) f) ∙ e) j (omega arith) (omega arith)
  ]
]

-- if none was found, none is grey
pub none_grey : (c : Cells) (k : ℕ) → first_grey c k ≡ None → (j : ℕ) → k ≤ j → j < c.size → is_grey (c.mark j) ≡ false
none_grey c k e j lo hi = seek_all c.mark k (c.size - k) e j lo (omega arith)

seek_found : (g : ℕ → MarkColour) (k n i : ℕ) → seek_grey g k n ≡ Some i → (k ≤ i) × (i < k + n) × (is_grey (g i) ≡ true)
unfolding seek_grey
seek_found g k zero i e = let o : ◌≡◌ {A = ℕ} 0 1 = cc in absurd (omega arith)
seek_found g k (suc n) i e = elim (cases_Bool (is_grey (g k))) [
  | inl t ↦ let z : ◌≡◌ {A = Option ℕ} (Some k) (Some i) = sym (cond-true (is_grey (g k)) (Some k) (seek_grey g (suc k) n) t) ∙ e in let y : k ≡ i = cc in (omega arith, omega arith, subst (λ x. is_grey (g x) ≡ true) y t)
  | inr f ↦ let q = seek_found g (suc k) n i (sym (cond-false (is_grey (g k)) (Some k) (seek_grey g (suc k) n) f) ∙ e) in (omega arith, omega arith, q.2)
]

-- what was found is grey
pub found_grey : (c : Cells) (k i : ℕ) → first_grey c k ≡ Some i → (i < c.size) × (is_grey (c.mark i) ≡ true)
found_grey c k i e = let q = seek_found c.mark k (c.size - k) i e in (omega arith, q.2)
