-- The state of a store, and what opening one leaves.
use Rattle.std.specs.Prelude.{ℕ, suc, min, max, cond, ◌&&◌, List, Ok, Result, nat_le, nat_lt}
use Rattle.cells.specs.declared.content.Content.{Content}
use Rattle.cells.specs.declared.content.Content.TheVariants.{Nothing, Cell}
use Rattle.cells.specs.declared.content.Joint.TheVariants.{Beside}
use Rattle.cells.specs.declared.cell.Tag.TheVariants.{Free}
use Rattle.cells.specs.declared.cell.MarkColour.{MarkColour}
use Rattle.cells.specs.declared.cell.MarkColour.TheVariants as mark
use Rattle.cells.specs.declared.cell.SweepColour.TheVariants as sweep
use Rattle.cells.specs.Cells.{Cells, changed_at}
use Rattle.shading.specs.Shading.{with_marks}
use Rattle.archive.specs.Reading.{unless}
use Rattle.numbering.specs.Lists.{count_from}
use Rattle.model.specs.declared.fault.OpenFault.{OpenFault}
use Rattle.model.specs.declared.fault.OpenFault.TheVariants.{NoCells, HoldCount}
use Rattle.model.specs.declared.stage.Stage.{Stage}
use Rattle.model.specs.declared.stage.Stage.TheVariants.{AtHold}

-- A store: its cells (joint, contents, tag and the two colours of each), its holds (the roots), where the marker is, how
-- far the sweeper is, and the free list, front first. Each part is a function of the cell's or the hold's number, so that
-- a step which changes one part leaves the others equal by computation.
pub record State : Type 0 where
  pub cells : Cells
  -- R
  pub hold_count : ℕ
  pub hold : ℕ → Content
  pub stage : Stage
  -- s: the cell that is swept next
  pub place : ℕ
  pub free : List ℕ

-- M
abbrev pub size_of : State → ℕ
size_of s = s.cells.size

-- The state with one part changed.

abbrev pub with_cells : State → Cells → State
with_cells s c = record { cells = c; hold_count = s.hold_count; hold = s.hold; stage = s.stage; place = s.place; free = s.free }

abbrev pub with_hold : State → ℕ → Content → State
with_hold s h x = record { cells = s.cells; hold_count = s.hold_count; hold = changed_at s.hold h x; stage = s.stage; place = s.place; free = s.free }

abbrev pub with_stage : State → Stage → State
with_stage s stage = record { cells = s.cells; hold_count = s.hold_count; hold = s.hold; stage = stage; place = s.place; free = s.free }

abbrev pub with_mark_colours : State → (ℕ → MarkColour) → State
with_mark_colours s marks = with_cells s (with_marks s.cells marks)

-- Opening.

-- R is clipped to the nearer limit
abbrev pub clipped_holds : ℕ → ℕ
clipped_holds r = min 96 (max 1 r)

-- m free cells in rising order: each names the next one on its left
abbrev pub opened_cells : ℕ → Cells
opened_cells m = record {
  size = m;
  joint = λ _. Beside;
  left = λ i. cond (nat_lt (suc i) m) (Cell (suc i)) Nothing;
  right = λ _. Nothing;
  tag = λ _. Free;
  mark = λ _. mark.White;
  sweep = λ _. sweep.White;
}

-- a new store of m cells, opened with r holds
abbrev pub opened : ℕ → ℕ → State
opened m r = record { cells = opened_cells m; hold_count = clipped_holds r; hold = λ _. Nothing; stage = AtHold 0; place = m; free = count_from 0 m }

-- the check before opening: 1, then 2
abbrev pub open_answer : ℕ → ℕ → Result (Unit {0}) OpenFault
open_answer m r = unless (nat_lt 0 m) NoCells (unless (nat_le 1 r && nat_le r 96) HoldCount (Ok tt))
