-- The eleven calls, what each answers and what it leaves.
use Rattle.std.specs.Prelude.{ℕ, List, [], ◌∷◌}
use Rattle.cells.specs.declared.cell.Side.{Side}
use Rattle.model.specs.declared.answer.Answer.{Answer}
use Rattle.model.specs.declared.answer.Answer.TheVariants as told
use Rattle.model.specs.Collector.{after_mark, after_sweep, after_turn, mark_answer, sweep_answer, turn_answer}
use Rattle.model.specs.Hand.{after_copy, after_drop, after_follow, after_tie, after_yarn, copy_answer, drop_answer, follow_answer, tie_answer, yarn_answer}
use Rattle.model.specs.Load.{after_load, load_answer, places_after}
use Rattle.model.specs.Save.{buffer_after, numbers_after, order_after_save, save_answer}
use Rattle.model.specs.State.{State}
use Rattle.model.specs.Take.{Pace, after_take, take_answer}

-- A call with its arguments; a load brings its text and its table of places, a save its buffer and its two tables.
pub data Call : Type 0 where
  yarn : (hold number : ℕ) → Call
  drop : (hold : ℕ) → Call
  copy : (hold from : ℕ) → Call
  follow : (hold : ℕ) (side : Side) (into : ℕ) → Call
  tie : (hold : ℕ) (side : Side) (from : ℕ) → Call
  take : (hold joint left right : ℕ) (pace : Pace) → Call
  load : (hold : ℕ) (text places : List ℕ) → Call
  save : (hold : ℕ) (buffer numbers order : List ℕ) → Call
  mark : Call
  sweep : Call
  turn : Call

-- the state that a call leaves
abbrev pub after : Call → State → State
after (yarn h y) s = after_yarn s h y
after (drop h) s = after_drop s h
after (copy h g) s = after_copy s h g
after (follow h side g) s = after_follow s h side g
after (tie h side g) s = after_tie s h side g
after (take h joint a b pace) s = after_take s h joint a b pace
after (load h text places) s = after_load s h text places
after (save h buffer numbers order) s = s
after mark s = after_mark s
after sweep s = after_sweep s
after turn s = after_turn s

-- what a call answers
abbrev pub answer : Call → State → Answer
answer (yarn h y) s = told.Done (yarn_answer s h y)
answer (drop h) s = told.Done (drop_answer s h)
answer (copy h g) s = told.Done (copy_answer s h g)
answer (follow h side g) s = told.Done (follow_answer s h g)
answer (tie h side g) s = told.Done (tie_answer s h g)
answer (take h joint a b pace) s = told.Took (take_answer s h joint a b pace)
answer (load h text places) s = told.Loaded (load_answer s h text places)
answer (save h buffer numbers order) s = told.Saved (save_answer s h buffer numbers order)
answer mark s = told.Marked (mark_answer s)
answer sweep s = told.Swept (sweep_answer s)
answer turn s = told.Done (turn_answer s)

-- the call with the memory that it brought as it leaves it
abbrev pub memory_after : Call → State → Call
memory_after (yarn h y) s = yarn h y
memory_after (drop h) s = drop h
memory_after (copy h g) s = copy h g
memory_after (follow h side g) s = follow h side g
memory_after (tie h side g) s = tie h side g
memory_after (take h joint a b pace) s = take h joint a b pace
memory_after (load h text places) s = load h text (places_after s h text places)
memory_after (save h buffer numbers order) s = save h (buffer_after s h buffer numbers order) (numbers_after s h numbers order) (order_after_save s h numbers order)
memory_after mark s = mark
memory_after sweep s = sweep
memory_after turn s = turn

-- a list of calls, one after the other
abbrev pub after_all : List Call → State → State
after_all [] s = s
after_all (c ∷ cs) s = after_all cs (after c s)

abbrev pub answers : List Call → State → List Answer
answers [] s = []
answers (c ∷ cs) s = answer c s ∷ answers cs (after c s)
