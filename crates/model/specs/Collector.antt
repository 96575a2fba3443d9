-- The collector: mark, sweep, turn and unit, each with what it answers and the state it leaves.
use Rattle.std.specs.Prelude.{ℕ, zero, suc, ◌+◌, Bool, true, false, cond, ◌&&◌, [], ◌∷◌, ◌++◌, Some, None, Ok, Option, Result, ◌==◌, nat_lt}
use Rattle.cells.specs.declared.content.Content.{Content}
use Rattle.cells.specs.declared.cell.Tag.{Tag}
use Rattle.cells.specs.declared.cell.Tag.TheVariants.{Free, Used}
use Rattle.cells.specs.declared.cell.MarkColour.TheVariants as mark
use Rattle.cells.specs.declared.cell.SweepColour.{SweepColour}
use Rattle.cells.specs.declared.cell.SweepColour.TheVariants as sweep
use Rattle.cells.specs.Calls.{exchange_unless, first_grey}
use Rattle.cells.specs.Cells.{Cells, changed_at}
use Rattle.shading.specs.Shading.{shaded}
use Rattle.archive.specs.Reading.{unless}
use Rattle.model.specs.declared.answer.MarkAnswer.{MarkAnswer}
use Rattle.model.specs.declared.answer.MarkAnswer.TheVariants as told
use Rattle.model.specs.declared.fault.StoreFault.{StoreFault}
use Rattle.model.specs.declared.fault.StoreFault.TheVariants.{TooEarly}
use Rattle.model.specs.declared.stage.Stage.{Stage}
use Rattle.model.specs.declared.stage.Stage.TheVariants.{AtHold, AtCell, Ended}
use Rattle.model.specs.FreeList.{put_back_cells}
use Rattle.model.specs.State.{State, size_of, with_mark_colours, with_stage}

-- a content is shaded
abbrev pub shade : State → Content → State
shade s x = with_mark_colours s (shaded s.cells.mark x)

-- Mark.

-- behind hold r comes hold r + 1, and behind the last one cell 0
abbrev pub next_stage : ℕ → ℕ → Stage
next_stage hold_count r = cond (nat_lt (suc r) hold_count) (AtHold (suc r)) (AtCell 0)

abbrev pub or_else_found : Option ℕ → Option ℕ → Option ℕ
or_else_found None second = second
or_else_found (Some c) second = Some c

-- the first grey cell from k on, or else from 0 on
abbrev pub next_grey : Cells → ℕ → Option ℕ
next_grey c k = or_else_found (first_grey c k) (first_grey c 0)

-- cell i becomes black: its left is shaded, then its right, then it is painted
abbrev pub blacken : State → ℕ → State
blacken s i = with_mark_colours s (changed_at (shaded (shaded s.cells.mark (s.cells.left i)) (s.cells.right i)) i mark.Black)

-- at a cell: the grey cell that was found becomes black, and marking is there; if there is none, marking has ended
abbrev pub mark_found : State → Option ℕ → State
mark_found s None = with_stage s Ended
mark_found s (Some i) = with_stage (blacken s i) (AtCell i)

abbrev pub mark_at : State → Stage → State
mark_at s (AtHold r) = with_stage (shade s (s.hold r)) (next_stage s.hold_count r)
mark_at s (AtCell k) = mark_found s (next_grey s.cells k)
mark_at s Ended = s

abbrev pub after_mark : State → State
after_mark s = mark_at s s.stage

abbrev pub found_answer : Option ℕ → MarkAnswer
found_answer None = told.Ended
found_answer (Some i) = told.Cell i

abbrev pub mark_answer_at : State → Stage → MarkAnswer
mark_answer_at s (AtHold r) = told.Hold r
mark_answer_at s (AtCell k) = found_answer (next_grey s.cells k)
mark_answer_at s Ended = told.Ended

abbrev pub mark_answer : State → MarkAnswer
mark_answer s = mark_answer_at s s.stage

-- the same two as one step of the stage, which looks at itself and at what was found
abbrev pub stage_after : ℕ → Stage → Option ℕ → Stage
stage_after hold_count (AtHold r) found = next_stage hold_count r
stage_after hold_count (AtCell k) None = Ended
stage_after hold_count (AtCell k) (Some i) = AtCell i
stage_after hold_count Ended found = Ended

abbrev pub stage_answer : Stage → Option ℕ → MarkAnswer
stage_answer (AtHold r) found = told.Hold r
stage_answer (AtCell k) found = found_answer found
stage_answer Ended found = told.Ended

-- Sweep.

abbrev pub used_tag : Tag → Bool
used_tag Free = false
used_tag Used = true

abbrev pub white_sweep : SweepColour → Bool
white_sweep sweep.White = true
white_sweep sweep.Black = false

-- is cell s used, with a white sweep colour?
abbrev pub puts_back : State → Bool
puts_back s = used_tag (s.cells.tag s.place) && white_sweep (s.cells.sweep s.place)

-- cell s is put back behind the end of the free list
abbrev pub put_back : State → State
put_back s = record { cells = put_back_cells s.cells s.free s.place; hold_count = s.hold_count; hold = s.hold; stage = s.stage; place = suc s.place; free = s.free ++ (s.place ∷ []) }

-- the cells once the sweep colour of cell i is white
abbrev pub whitened_cells : Cells → ℕ → Cells
whitened_cells c i = record { size = c.size; joint = c.joint; left = c.left; right = c.right; tag = c.tag; mark = c.mark; sweep = changed_at c.sweep i sweep.White }

-- cell s is passed, and its sweep colour is white
abbrev pub pass_by : State → State
pass_by s = record { cells = whitened_cells s.cells s.place; hold_count = s.hold_count; hold = s.hold; stage = s.stage; place = suc s.place; free = s.free }

abbrev pub sweeps_on : State → Bool
sweeps_on s = nat_lt s.place (size_of s)

abbrev pub after_sweep : State → State
after_sweep s = cond (sweeps_on s) (cond (puts_back s) (put_back s) (pass_by s)) s

-- the cell and whether it was put back, or none at the end
abbrev pub sweep_answer : State → Option (ℕ × Bool)
sweep_answer s = cond (sweeps_on s) (Some (s.place, puts_back s)) None

-- Turn.

abbrev pub has_ended : Stage → Bool
has_ended (AtHold r) = false
has_ended (AtCell k) = false
has_ended Ended = true

-- marking has ended, and so has the sweep
abbrev pub can_turn : State → Bool
can_turn s = has_ended s.stage && s.place == size_of s

-- the colours are exchanged, and marking and sweeping start again
abbrev pub turned : State → State
turned s = record { cells = exchange_unless None s.cells; hold_count = s.hold_count; hold = s.hold; stage = AtHold 0; place = 0; free = s.free }

abbrev pub after_turn : State → State
after_turn s = cond (can_turn s) (turned s) s

abbrev pub turn_answer : State → Result (Unit {0}) StoreFault
turn_answer s = unless (can_turn s) TooEarly (Ok tt)

-- Unit.

-- a mark, then a sweep
abbrev pub mark_and_sweep : State → State
mark_and_sweep s = after_sweep (after_mark s)

-- and then a turn, if it would be accepted
abbrev pub after_unit : State → State
after_unit s = after_turn (mark_and_sweep s)

-- n units
abbrev pub after_units : ℕ → State → State
after_units zero s = s
after_units (suc n) s = after_units n (after_unit s)

-- K: any so many units in a row contain a turn
abbrev pub span : State → ℕ
span s = s.hold_count + size_of s + 1
