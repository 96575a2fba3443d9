-- Units in a row, and the hunt for a free cell.
use Rattle.std.proofs.Common.{◌≡◌, ℕ, zero, suc, ◌+◌, ◌-◌, ◌<◌, true, false, eqb, sym, refl, ap, ◌∙◌, arith}
use Rattle.std.proofs.lemmas.Bool.{cond-false, cond-true, false≢true, ne_eqb}
use Rattle.cells.specs.declared.content.Content.{Content}
use Rattle.cells.specs.declared.heap.Heap.{Ghosts}
use Rattle.model.specs.Collector.{after_unit, after_units}
use Rattle.model.specs.FreeList.{none_free}
use Rattle.model.specs.State.{State}
use Rattle.model.specs.Take.{hunt_for, hunted_units}
use Rattle.model.proofs.Bound.{hunt_on}
use Rattle.store.specs.declared.whole.Store.{Store}
use Rattle.store.specs.View.{Becomes, InState, WellFormed, chain, view}

-- one unit more at the end
units_more : (n : ℕ) (s : State) → after_units (suc n) s ≡ after_unit (after_units n s)
units_more zero s = refl
units_more (suc n) s = units_more n (after_unit s)

pub work_more : {H : Type 0} (memory : Ghosts H) (t u : Store H) (s : State) (n : ℕ) → InState memory t (after_units n s) → Becomes memory t u after_unit → InState memory u (after_units (n + 1) s)
work_more memory t u s n a f =
    let b = f a.formed in
    record { state = b.state ∙ ap after_unit a.state ∙ sym (units_more n s) ∙ ap (λ k. after_units k s) (let e : suc n ≡ n + 1 = omega arith in e); formed = b.formed }

-- a list is empty exactly if its count is 0
pub none_by_count : (left : ℕ → Content) (n front : ℕ) → none_free (chain left n front) ≡ eqb n 0
none_by_count left zero front = refl
none_by_count left (suc n) front = sym (ne_eqb (suc n) 0 (λ z. omega arith))

-- a list is not empty exactly if it has a cell
pub some_by_count : (n : ℕ) → false ≡ eqb n 0 → 0 < n
some_by_count zero e = absurd (false≢true e)
some_by_count (suc n) e = omega arith

-- The hunt after n of its units: what is left gives the whole.
pub record Hunting {H : Type 0} (memory : Ghosts H) (s t : Store H) (limit n : ℕ) : Type 0 where
  pub formed : WellFormed memory t
  pub state : hunt_for (limit - n) (view memory t) ≡ hunt_for limit (view memory s)
  pub units : n + hunted_units (limit - n) (view memory t) ≡ hunted_units limit (view memory s)

module _ {H : Type 0} (memory : Ghosts H) (s t : Store H) (limit n : ℕ) (a : Hunting memory s t limit n) where
  pub hunt_more : (u : Store H) → n < limit → true ≡ eqb t.free.count 0 → Becomes memory t u after_unit → Hunting memory s u limit (n + 1)
  hunt_more u l z f =
      let b = f a.formed in
      let none : none_free (view memory t).free ≡ true = none_by_count (memory.meaning t.heap).left t.free.count t.free.front ∙ sym z in
      let d : limit - n ≡ suc (limit - (n + 1)) = omega arith in
      let one : hunt_for (limit - n) (view memory t) ≡ hunt_for (limit - (n + 1)) (after_unit (view memory t)) = ap (λ k. hunt_for k (view memory t)) d ∙ hunt_on (limit - (n + 1)) (view memory t) none in
      let two : hunted_units (limit - n) (view memory t) ≡ suc (hunted_units (limit - (n + 1)) (after_unit (view memory t))) = ap (λ k. hunted_units k (view memory t)) d ∙ cond-true (none_free (view memory t).free) (suc (hunted_units (limit - (n + 1)) (after_unit (view memory t)))) 0 none in
      let three : hunted_units (limit - (n + 1)) (view memory u) ≡ hunted_units (limit - (n + 1)) (after_unit (view memory t)) = ap (hunted_units (limit - (n + 1))) b.state in
      let sum = a.units in
      record { formed = b.formed; state = ap (hunt_for (limit - (n + 1))) b.state ∙ sym one ∙ a.state; units = omega arith }

  -- it ends where a cell is free
  pub hunt_found : false ≡ eqb t.free.count 0 → InState memory t (hunt_for limit (view memory s)) × (n ≡ hunted_units limit (view memory s))
  hunt_found nz =
      let some : none_free (view memory t).free ≡ false = none_by_count (memory.meaning t.heap).left t.free.count t.free.front ∙ sym nz in
      let r = ran (limit - n) some in
      let sum = a.units in
      (record { state = sym (stays (limit - n) some) ∙ a.state; formed = a.formed }, omega arith)
    where
      stays : (k : ℕ) → none_free (view memory t).free ≡ false → hunt_for k (view memory t) ≡ view memory t
      stays zero e = refl
      stays (suc k) e = cond-false (none_free (view memory t).free) (hunt_for k (after_unit (view memory t))) (view memory t) e

      ran : (k : ℕ) → none_free (view memory t).free ≡ false → hunted_units k (view memory t) ≡ 0
      ran zero e = refl
      ran (suc k) e = cond-false (none_free (view memory t).free) (suc (hunted_units k (after_unit (view memory t)))) 0 e
