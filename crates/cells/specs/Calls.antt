-- What each call of a heap answers, and which cells it leaves. A definition that changes cells builds the
-- record outside and asks for the refusal inside each part that it may change.
use Rattle.std.specs.Prelude.{◌≡◌, ℕ, zero, suc, ◌-◌, ◌<◌, ◌≤◌, cond, Some, None, Option, Result}
use Rattle.cells.specs.declared.content.Content.{Content}
use Rattle.cells.specs.declared.content.Content.TheVariants.{Nothing, Yarn, Cell}
use Rattle.cells.specs.declared.cell.MarkColour.{MarkColour}
use Rattle.cells.specs.declared.cell.SweepColour.{SweepColour}
use Rattle.cells.specs.declared.cell.Colour.{Colour}
use Rattle.cells.specs.declared.cell.Colour.TheVariants.{Mark, Sweep}
use Rattle.cells.specs.declared.cell.LinkRecord.{LinkRecord}
use Rattle.cells.specs.declared.cell.CellRecord.{CellRecord}
use Rattle.cells.specs.declared.fault.HeapFault.{HeapFault}
use Rattle.cells.specs.Cells.{Cells, cell_at, changed_at}
use Rattle.cells.specs.Fault.{answer, grey_fault, index_fault, unless_fault, write_fault}
use Rattle.cells.specs.Record.{as_mark, as_sweep, is_grey, new_cell}

-- read

abbrev pub read_answer : Cells → ℕ → Result CellRecord HeapFault
read_answer c i = answer (index_fault c.size i) (cell_at c i)

-- write: joint, left, right and tag of cell i

abbrev pub write_answer : Cells → ℕ → LinkRecord → Result (Unit {0}) HeapFault
write_answer c i links = answer (write_fault c.size i links.left links.right) tt

abbrev pub write_unless : Option HeapFault → Cells → ℕ → LinkRecord → Cells
write_unless f c i links = record {
  size = c.size;
  joint = unless_fault f (changed_at c.joint i links.joint) c.joint;
  left = unless_fault f (changed_at c.left i links.left) c.left;
  right = unless_fault f (changed_at c.right i links.right) c.right;
  tag = unless_fault f (changed_at c.tag i links.tag) c.tag;
  mark = c.mark;
  sweep = c.sweep;
}

abbrev pub write_cells : Cells → ℕ → LinkRecord → Cells
write_cells c i links = write_unless (write_fault c.size i links.left links.right) c i links

-- paint: the named colour of cell i

abbrev pub paint_answer : Cells → ℕ → Result (Unit {0}) HeapFault
paint_answer c i = answer (index_fault c.size i) tt

abbrev pub mark_painted : Colour → (ℕ → MarkColour) → ℕ → ℕ → MarkColour
mark_painted (Mark m) marks i = changed_at marks i m
mark_painted (Sweep s) marks i = marks

abbrev pub sweep_painted : Colour → (ℕ → SweepColour) → ℕ → ℕ → SweepColour
sweep_painted (Mark m) sweeps i = sweeps
sweep_painted (Sweep s) sweeps i = changed_at sweeps i s

abbrev pub paint_unless : Option HeapFault → Cells → ℕ → Colour → Cells
paint_unless f c i colour = record {
  size = c.size;
  joint = c.joint;
  left = c.left;
  right = c.right;
  tag = c.tag;
  mark = unless_fault f (mark_painted colour c.mark i) c.mark;
  sweep = unless_fault f (sweep_painted colour c.sweep i) c.sweep;
}

abbrev pub paint_cells : Cells → ℕ → Colour → Cells
paint_cells c i colour = paint_unless (index_fault c.size i) c i colour

-- first grey: the lowest grey cell from k on

-- of the n numbers from k on, the first whose colour is grey
unfoldable pub seek_grey : (ℕ → MarkColour) → ℕ → ℕ → Option ℕ
seek_grey marks k zero = None
seek_grey marks k (suc n) = cond (is_grey (marks k)) (Some k) (seek_grey marks (suc k) n)

abbrev pub first_grey : Cells → ℕ → Option ℕ
first_grey c k = seek_grey c.mark k (c.size - k)

-- exchange: the two colours of every cell change places

abbrev pub exchange_fault : Cells → Option HeapFault
exchange_fault c = grey_fault (first_grey c 0)

abbrev pub exchange_answer : Cells → Result (Unit {0}) HeapFault
exchange_answer c = answer (exchange_fault c) tt

abbrev pub exchange_unless : Option HeapFault → Cells → Cells
exchange_unless f c = record {
  size = c.size;
  joint = c.joint;
  left = c.left;
  right = c.right;
  tag = c.tag;
  mark = unless_fault f (λ i. as_mark (c.sweep i)) c.mark;
  sweep = unless_fault f (λ i. as_sweep (c.mark i)) c.sweep;
}

abbrev pub exchange_cells : Cells → Cells
exchange_cells c = exchange_unless (exchange_fault c) c

-- what soundness gives

-- a content is nothing, a yarn up to 4,095 or a cell below the size
abbrev pub InRange : ℕ → Content → Type 0
InRange size Nothing = Unit {0}
InRange size (Yarn y) = y ≤ 4095
InRange size (Cell i) = i < size

-- the cells of every sound heap
pub record Lawful (c : Cells) : Type 0 where
  pub few : c.size ≤ 16384
  pub left_in_range : (i : ℕ) → InRange c.size (c.left i)
  pub right_in_range : (i : ℕ) → InRange c.size (c.right i)
  pub new_beyond : (i : ℕ) → c.size ≤ i → cell_at c i ≡ new_cell
