-- What an accepted call answers and leaves, once its checks are known.
use Rattle.std.proofs.Common.{◌≡◌, ℕ, zero, suc, ◌*◌, ◌<◌, ◌≤◌, true, false, leb, ltb, eqb, length, Ok, Result, sym, refl, ap, ◌∙◌}
use Rattle.std.proofs.lemmas.Bool.{cond-false, false≢true, le-leb, ltb-true}
use Rattle.archive.specs.Reading.{unless}
use Rattle.archive.proofs.Outcomes.{unless_ok}
use Rattle.cells.specs.declared.content.Content.{Content}
use Rattle.cells.specs.declared.content.Content.TheVariants.{Yarn, Nothing, Cell}
use Rattle.cells.specs.declared.content.Joint.{Joint}
use Rattle.cells.specs.declared.cell.Side.{Side}
use Rattle.cells.specs.declared.heap.Heap.{Ghosts}
use Rattle.model.specs.declared.fault.StoreFault.{StoreFault}
use Rattle.model.specs.declared.fault.StoreFault.TheVariants.{NoHold}
use Rattle.model.specs.Collector.{after_units, span}
use Rattle.model.specs.FreeList.{none_free}
use Rattle.model.specs.Hand.{after_copy, after_drop, after_follow, after_tie, after_yarn, content_at, copy_answer, drop_answer, follow_answer, is_hold, move_into, tie_answer, tie_to, yarn_answer}
use Rattle.model.specs.State.{State, with_hold}
use Rattle.model.specs.Take.{Pace, after_take, front_answer, hunt_for, hunted_units, take_answer, take_front, take_joint, units_for, units_run, worked}
use Rattle.model.proofs.Histories.{worked_count}
use Rattle.store.specs.declared.whole.Store.{Store}
use Rattle.store.specs.Fits.{OrderFits}
use Rattle.store.specs.View.{Becomes, InState, WellFormed, chain, view}
use Rattle.store.proofs.Forming.{chain_length}
use Rattle.store.proofs.Units.{none_by_count}

-- a store in one state is in an equal one
pub moved_to : {H : Type 0} (memory : Ghosts H) (t : Store H) (v w : State) → InState memory t v → v ≡ w → InState memory t w
moved_to memory t v w a e = record { state = a.state ∙ e; formed = a.formed }

-- a hold that a check lets pass
pub checked : {u : Unit {0}} (h count : ℕ) → ◌≡◌ {A = Result (Unit {0}) StoreFault} (Ok u) (unless (ltb h count) NoHold (Ok tt)) → (true ≡ ltb h count) × (h < count)
checked h count e = let p = unless_ok (ltb h count) NoHold (Ok tt) _ (sym e) in (sym p.0, ltb-true h count p.0)

-- The hand.

pub yarn_accepted : (s : State) (h y : ℕ) → true ≡ is_hold s h → y ≤ 4095 → (◌≡◌ {A = Result (Unit {0}) StoreFault} (Ok tt) (yarn_answer s h y)) × (with_hold s h (Yarn y) ≡ after_yarn s h y)
yarn_accepted s h y a l = let b : leb y 4095 ≡ true = le-leb y 4095 l in (rw (sym a, b) refl, rw (sym a, b) refl)

pub drop_accepted : (s : State) (h : ℕ) → true ≡ is_hold s h → (◌≡◌ {A = Result (Unit {0}) StoreFault} (Ok tt) (drop_answer s h)) × (with_hold s h Nothing ≡ after_drop s h)
drop_accepted s h a = (rw (sym a) refl, rw (sym a) refl)

pub copy_accepted : (s : State) (h g : ℕ) → true ≡ is_hold s h → true ≡ is_hold s g → (◌≡◌ {A = Result (Unit {0}) StoreFault} (Ok tt) (copy_answer s h g)) × (move_into s h (s.hold g) ≡ after_copy s h g)
copy_accepted s h g a b = (rw (sym a, sym b) refl, rw (sym a, sym b) refl)

pub follow_accepted : (s : State) (h i : ℕ) (side : Side) (g : ℕ) → true ≡ is_hold s h → true ≡ is_hold s g → Cell i ≡ s.hold h → (◌≡◌ {A = Result (Unit {0}) StoreFault} (Ok tt) (follow_answer s h g)) × (move_into s g (content_at s.cells side i) ≡ after_follow s h side g)
follow_accepted s h i side g a b e = (rw (sym a, sym b, sym e) refl, rw (sym a, sym b, sym e) refl)

pub tie_accepted : (s : State) (h i : ℕ) (side : Side) (g : ℕ) → true ≡ is_hold s h → true ≡ is_hold s g → Cell i ≡ s.hold h → (◌≡◌ {A = Result (Unit {0}) StoreFault} (Ok tt) (tie_answer s h g)) × (tie_to s side i (s.hold g) ≡ after_tie s h side g)
tie_accepted s h i side g a b e = (rw (sym a, sym b, sym e) refl, rw (sym a, sym b, sym e) refl)

-- what the calls of the hand go by
pub ruleset hand_calls = (checked, yarn_accepted, drop_accepted, copy_accepted, follow_accepted, tie_accepted, moved_to)

-- The units of a take where a cell is free.
module _ {H : Type 0} (memory : Ghosts H) (s : Store H) (pace : Pace) (some : false ≡ eqb s.free.count 0) where
  some_free : none_free (view memory s).free ≡ false
  some_free = none_by_count (memory.meaning s.heap).left s.free.count s.free.front ∙ sym some

  pub paced_units : units_for pace (span (view memory s)) s.free.count ≡ units_run (view memory s) pace
  paced_units = ap (units_for pace (span (view memory s))) (sym (chain_length (memory.meaning s.heap).left s.free.count s.free.front)) ∙ sym (cond-false (none_free (view memory s).free) (hunted_units (3 * span (view memory s)) (view memory s)) (units_for pace (span (view memory s)) (length (view memory s).free)) some_free)

  pub paced_state : after_units (units_run (view memory s) pace) (view memory s) ≡ worked (view memory s) pace
  paced_state = ap (λ n. after_units n (view memory s)) (sym (paced_units) ∙ ap (units_for pace (span (view memory s))) (sym (chain_length (memory.meaning s.heap).left s.free.count s.free.front))) ∙ sym (cond-false (none_free (view memory s).free) (hunt_for (3 * span (view memory s)) (view memory s)) (after_units (units_for pace (span (view memory s)) (length (view memory s).free)) (view memory s)) some_free)

-- the front of a list that is not empty
pub front_given : (left : ℕ → Content) (n front units : ℕ) → false ≡ eqb n 0 → ◌≡◌ {A = Result (ℕ × ℕ) StoreFault} (Ok (front, units)) (front_answer (chain left n front) units)
front_given left zero front units nz = absurd (false≢true nz)
front_given left (suc n) front units nz = refl

-- A take whose arguments are good.
module _ (s : State) (h byte a b : ℕ) (joint : Joint) (pace : Pace) (good : Ok joint ≡ take_joint s h byte a b) where
  pub take_told : front_answer (worked s pace).free (units_run s pace) ≡ take_answer s h byte a b pace
  take_told = rw (sym good) refl

  pub take_state : take_front (worked s pace) (worked s pace).free h joint a b ≡ after_take s h byte a b pace
  take_state = rw (sym good) refl

  -- its holds are holds
  pub take_holds : (h < s.hold_count) × (a < s.hold_count) × (b < s.hold_count)
  take_holds =
      let p = unless_ok (is_hold s h) NoHold _ joint (sym good) in
      let q = unless_ok (is_hold s a) NoHold _ joint p.1 in
      let r = unless_ok (is_hold s b) NoHold _ joint q.1 in
      (ltb-true h s.hold_count p.0, ltb-true a s.hold_count q.0, ltb-true b s.hold_count r.0)

-- A take, from its units on.
module _ {H : Type 0} (memory : Ghosts H) (s t : Store H) (a : WellFormed memory s) (h byte l r : ℕ) (joint : Joint) (pace : Pace) (good : Ok joint ≡ take_joint (view memory s) h byte l r) (b : InState memory t (worked (view memory s) pace)) where
  pub take_answered : (units : ℕ) (answer : Result (ℕ × ℕ) StoreFault) → units ≡ units_run (view memory s) pace → answer ≡ front_answer (view memory t).free units → answer ≡ take_answer (view memory s) h byte l r pace
  take_answered units answer eu e = e ∙ ap (λ w. front_answer w.free units) b.state ∙ ap (front_answer (worked (view memory s) pace).free) eu ∙ take_told (view memory s) h byte l r joint pace good

  pub take_done : (u : Store H) → (OrderFits t (record { hold = h; joint = joint; left = l; right = r }) → Becomes memory t u (λ w. take_front w w.free h joint l r)) → InState memory u (after_take (view memory s) h byte l r pace)
  take_done u f =
      let holds = take_holds (view memory s) h byte l r joint pace good in
      let n : t.holds.count ≡ s.holds.count = ap (λ w. w.hold_count) b.state ∙ worked_count (view memory s) pace a.invariant in
      moved_to memory u (take_front (view memory t) (view memory t).free h joint l r) (after_take (view memory s) h byte l r pace) (f (record { hold = rw n holds.0; left = rw n holds.1; right = rw n holds.2 }) b.formed) (ap (λ w. take_front w w.free h joint l r) b.state ∙ take_state (view memory s) h byte l r joint pace good)
