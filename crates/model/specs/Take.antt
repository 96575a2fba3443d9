-- New cells, paces and take (allocation, which drives the collector).
use Rattle.std.specs.Prelude.{ℕ, zero, suc, ◌+◌, ◌-◌, ◌*◌, ◌/◌, min, max, Bool, cond, List, [], ◌∷◌, length, Ok, Err, Result, ◌==◌, nat_eq, nat_le}
use Rattle.cells.specs.declared.content.Content.TheVariants.{Cell}
use Rattle.cells.specs.declared.content.Joint.{Joint}
use Rattle.cells.specs.declared.content.Joint.TheVariants.{Beside, Above}
use Rattle.cells.specs.declared.cell.Tag.TheVariants.{Used}
use Rattle.cells.specs.declared.cell.MarkColour.TheVariants as mark
use Rattle.cells.specs.declared.cell.SweepColour.{SweepColour}
use Rattle.cells.specs.declared.cell.SweepColour.TheVariants as sweep
use Rattle.cells.specs.Cells.{Cells}
use Rattle.lines.specs.declared.cell.PatternCell.{PatternCell}
use Rattle.archive.specs.Reading.{and_then, unless}
use Rattle.model.specs.declared.fault.StoreFault.{StoreFault}
use Rattle.model.specs.declared.fault.StoreFault.TheVariants.{NoHold, NoJoint, NoCell}
use Rattle.model.specs.Collector.{after_unit, after_units, shade, span}
use Rattle.model.specs.FreeList.{none_free}
use Rattle.model.specs.Hand.{if_ok, is_hold}
use Rattle.model.specs.State.{State, with_hold}

-- New cells.

-- f, but g where a cell is new
abbrev pub where_new : {A : Type 0} → (ℕ → Bool) → (ℕ → A) → (ℕ → A) → ℕ → A
where_new new g f i = cond (new i) (g i) (f i)

-- the sweep colour of a new cell: black if the sweeper, which is at `place`, has still to pass it
abbrev pub new_sweep : ℕ → ℕ → SweepColour
new_sweep place i = cond (nat_le place i) sweep.Black sweep.White

-- the cells once some are new: used, black for the marker, with joint and contents as given
abbrev pub given_cells : Cells → ℕ → (ℕ → Bool) → (ℕ → PatternCell) → Cells
given_cells c place new given = record {
  size = c.size;
  joint = where_new new (λ i. (given i).joint) c.joint;
  left = where_new new (λ i. (given i).left) c.left;
  right = where_new new (λ i. (given i).right) c.right;
  tag = where_new new (λ _. Used) c.tag;
  mark = where_new new (λ _. mark.Black) c.mark;
  sweep = where_new new (new_sweep place) c.sweep;
}

-- some cells are given away, and `rest` is the free list that stays
abbrev pub give : State → (ℕ → Bool) → (ℕ → PatternCell) → List ℕ → State
give s new given rest = record { cells = given_cells s.cells s.place new given; hold_count = s.hold_count; hold = s.hold; stage = s.stage; place = s.place; free = rest }

-- cell i is new, with these contents, which are shaded, and hold h gets it
abbrev pub give_one : State → ℕ → ℕ → List ℕ → PatternCell → State
give_one s h i rest given = with_hold (give (shade (shade s given.left) given.right) (λ k. nat_eq k i) (λ _. given) rest) h (Cell i)

-- Paces (limits of allocation-driven pacing).

pub record Pace : Type 0 where
  pub least : ℕ
  pub most : ℕ

-- the pace that two numbers set: most is lowered to 65,535, then least to most
abbrev pub pace_set : ℕ → ℕ → Pace
pace_set least most = record { least = min least (min most 65535); most = min most 65535 }

-- how many units a take runs where a cell is free: K / L rounded up, raised to least, lowered to most
abbrev pub units_for : Pace → ℕ → ℕ → ℕ
units_for pace k l = min pace.most (max pace.least ((k + l - 1) / l))

-- The units of a take.

-- units until a cell is free, at most n of them; and how many were run
abbrev pub hunt_for : ℕ → State → State
hunt_for zero s = s
hunt_for (suc n) s = cond (none_free s.free) (hunt_for n (after_unit s)) s

abbrev pub hunted_units : ℕ → State → ℕ
hunted_units zero s = 0
hunted_units (suc n) s = cond (none_free s.free) (suc (hunted_units n (after_unit s))) 0

-- the store once the units of a take are run, and how many they are
abbrev pub worked : State → Pace → State
worked s pace = cond (none_free s.free) (hunt_for (3 * span s) s) (after_units (units_for pace (span s) (length s.free)) s)

abbrev pub units_run : State → Pace → ℕ
units_run s pace = cond (none_free s.free) (hunted_units (3 * span s) s) (units_for pace (span s) (length s.free))

-- Take.

-- the joint that a byte is: 98 `b`, 97 `a`
abbrev pub joint_of : ℕ → Result Joint StoreFault
joint_of byte = cond (byte == 98) (Ok Beside) (cond (byte == 97) (Ok Above) (Err NoJoint))

-- what is refused before any unit is run: 3 for each hold, then 6
abbrev pub take_joint : State → ℕ → ℕ → ℕ → ℕ → Result Joint StoreFault
take_joint s h byte a b = unless (is_hold s h) NoHold (unless (is_hold s a) NoHold (unless (is_hold s b) NoHold (joint_of byte)))

-- the front of the free list is given away, with the contents of holds a and b
abbrev pub take_front : State → List ℕ → ℕ → Joint → ℕ → ℕ → State
take_front s [] h joint a b = s
take_front s (i ∷ rest) h joint a b = give_one s h i rest (record { joint = joint; left = s.hold a; right = s.hold b })

-- the front of the free list and the units run, or refusal 7
abbrev pub front_answer : List ℕ → ℕ → Result (ℕ × ℕ) StoreFault
front_answer [] units = Err (NoCell units)
front_answer (i ∷ rest) units = Ok (i, units)

abbrev pub take_answer : State → ℕ → ℕ → ℕ → ℕ → Pace → Result (ℕ × ℕ) StoreFault
take_answer s h byte a b pace = and_then (take_joint s h byte a b) (λ _. front_answer (worked s pace).free (units_run s pace))

abbrev pub after_take : State → ℕ → ℕ → ℕ → ℕ → Pace → State
after_take s h byte a b pace = if_ok (take_joint s h byte a b) (λ joint. take_front (worked s pace) (worked s pace).free h joint a b) s

-- A task: takes in order, all at one pace, until one is refused.

pub record TakeCall : Type 0 where
  pub hold : ℕ
  pub byte : ℕ
  pub left : ℕ
  pub right : ℕ

abbrev pub answer_of : State → Pace → TakeCall → Result (ℕ × ℕ) StoreFault
answer_of s pace t = take_answer s t.hold t.byte t.left t.right pace

abbrev pub after_one : State → Pace → TakeCall → State
after_one s pace t = after_take s t.hold t.byte t.left t.right pace

abbrev pub after_task : State → Pace → List TakeCall → State
after_task s pace [] = s
after_task s pace (t ∷ ts) = if_ok (answer_of s pace t) (λ _. after_task (after_one s pace t) pace ts) (after_one s pace t)

-- how many takes were accepted, and the refusal that ended the task, if any
pub record TaskAnswer : Type 0 where
  pub accepted : ℕ
  pub ended : Result (Unit {0}) StoreFault

abbrev pub one_more : Result (ℕ × ℕ) StoreFault → TaskAnswer → TaskAnswer
one_more (Ok cell) rest = record { accepted = suc rest.accepted; ended = rest.ended }
one_more (Err fault) rest = record { accepted = 0; ended = Err fault }

abbrev pub task_answer : State → Pace → List TakeCall → TaskAnswer
task_answer s pace [] = record { accepted = 0; ended = Ok tt }
task_answer s pace (t ∷ ts) = one_more (answer_of s pace t) (task_answer (after_one s pace t) pace ts)
