-- What happened in a list of calls: its moments, those inside a take too. All of it is computed from the state and the
-- calls, so that nothing is left to choose.
use Rattle.std.specs.Prelude.{ℕ, zero, suc, ◌*◌, Bool, cond, List, [], ◌∷◌, ◌++◌, length, Ok, Err, Option, Result}
use Rattle.std.proofs.Math.ListN as list
use Rattle.model.specs.declared.answer.Answer.{Answer}
use Rattle.model.specs.Calls.{Call, Call.yarn, Call.drop, Call.copy, Call.follow, Call.tie, Call.take, Call.load, Call.save, Call.mark, Call.sweep, Call.turn, after, answer}
use Rattle.model.specs.Collector.{after_mark, after_unit, can_turn, mark_and_sweep, span, sweep_answer}
use Rattle.model.specs.FreeList.{none_free}
use Rattle.model.specs.Hand.{cell_beside, copy_answer, drop_answer, yarn_answer}
use Rattle.model.specs.Load.{load_answer}
use Rattle.model.specs.State.{State}
use Rattle.model.specs.Take.{Pace, take_joint, units_for, worked}

-- what happens at a moment
pub data Event : Type 0 where
  marks : Event
  -- a sweep: the cell and whether it was put back, or none at the end
  sweeps : Option (ℕ × Bool) → Event
  turns : Event
  -- cells are given away by a take or a load
  gives : List ℕ → Event
  -- the hand changes a hold or a content
  moves : Event

-- a moment: the store as it was, and what happened
pub record Moment : Type 0 where
  pub before : State
  pub event : Event

abbrev pub at : State → Event → Moment
at s e = record { before = s; event = e }

-- The moments of each call.

abbrev pub turn_moments : State → List Moment
turn_moments s = cond (can_turn s) (at s turns ∷ []) []

abbrev pub unit_moments : State → List Moment
unit_moments s = at s marks ∷ at (after_mark s) (sweeps (sweep_answer (after_mark s))) ∷ turn_moments (mark_and_sweep s)

abbrev pub units_moments : ℕ → State → List Moment
units_moments zero s = []
units_moments (suc n) s = unit_moments s ++ units_moments n (after_unit s)

abbrev pub hunt_moments : ℕ → State → List Moment
hunt_moments zero s = []
hunt_moments (suc n) s = cond (none_free s.free) (unit_moments s ++ hunt_moments n (after_unit s)) []

-- the units of a take
abbrev pub worked_moments : State → Pace → List Moment
worked_moments s pace = cond (none_free s.free) (hunt_moments (3 * span s) s) (units_moments (units_for pace (span s) (length s.free)) s)

-- the gift of the front of the free list
abbrev pub gift_moments : State → List ℕ → List Moment
gift_moments s [] = []
gift_moments s (i ∷ rest) = at s (gives (i ∷ [])) ∷ []

-- one event where a call is accepted, none where it is refused
abbrev pub accepted_moments : {X E : Type 0} → Result X E → State → (X → Event) → List Moment
accepted_moments (Ok x) s event = at s (event x) ∷ []
accepted_moments (Err e) s event = []

abbrev pub take_moments : {X E : Type 0} → Result X E → State → Pace → List Moment
take_moments (Ok x) s pace = worked_moments s pace ++ gift_moments (worked s pace) (worked s pace).free
take_moments (Err e) s pace = []

abbrev pub moments : Call → State → List Moment
moments (yarn h y) s = accepted_moments (yarn_answer s h y) s (λ _. moves)
moments (drop h) s = accepted_moments (drop_answer s h) s (λ _. moves)
moments (copy h g) s = accepted_moments (copy_answer s h g) s (λ _. moves)
moments (follow h side g) s = accepted_moments (cell_beside s h g) s (λ _. moves)
moments (tie h side g) s = accepted_moments (cell_beside s h g) s (λ _. moves)
moments (take h joint a b pace) s = take_moments (take_joint s h joint a b) s pace
moments (load h text places) s = accepted_moments (load_answer s h text places) s (λ n. gives (list.take n s.free))
moments (save h buffer numbers order) s = []
moments mark s = at s marks ∷ []
moments sweep s = at s (sweeps (sweep_answer s)) ∷ []
moments turn s = turn_moments s

-- The history of a list of calls.

-- one call of a list: what was asked and answered, the store before it, and the moments inside it
pub record Deed : Type 0 where
  pub call : Call
  pub told : Answer
  pub before : State
  pub inside : List Moment

abbrev pub deeds : List Call → State → List Deed
deeds [] s = []
deeds (c ∷ cs) s = record { call = c; told = answer c s; before = s; inside = moments c s } ∷ deeds cs (after c s)

-- all moments of some deeds, in order
abbrev pub history : List Deed → List Moment
history [] = []
history (d ∷ ds) = d.inside ++ history ds
