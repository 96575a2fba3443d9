-- A planes heap as a whole: its meaning, when it is sound, and its lent memory.
use Rattle.std.specs.Prelude.{◌≡◌, ℕ, ◌<◌, true, false, ◌++◌, length, drop, replicate}
use Rattle.cells.specs.Cells.{Cells}
use Rattle.cells.specs.Calls.{Lawful}
use Rattle.cells.specs.Record.{is_grey, new_links}
use Rattle.cells.specs.declared.cell.MarkColour.{MarkColour}
use Rattle.cells.specs.declared.cell.SweepColour.{SweepColour}
use Rattle.planes.specs.declared.heap.PlanesHeap.{PlanesHeap}
use Rattle.planes.specs.declared.memory.PlanesMemory.{PlanesMemory}
use Rattle.planes.specs.Bits.{Cleared, SameBits, bit_at, put_bit}
use Rattle.planes.specs.Planes.{is_mark_black, is_sweep_black, planes_cells, planes_size}

abbrev pub size_of_planes : PlanesHeap → ℕ
size_of_planes h = planes_size h.memory

abbrev pub cells_of_planes : PlanesHeap → Cells
cells_of_planes h = planes_cells h.memory

-- all contents in range, and no cell grey and black at once
pub record SoundPlanes (h : PlanesHeap) : Type 0 where
  pub cells : Lawful (cells_of_planes h)
  pub apart : (i : ℕ) → i < size_of_planes h → bit_at h.memory.grey.now i ≡ true → bit_at h.memory.mark.now i ≡ false

-- the same memory with the parts of the two black planes changed
abbrev pub swapped_parts : PlanesMemory → PlanesMemory
swapped_parts m = record { links = m.links; grey = m.grey; mark = m.sweep; sweep = m.mark }

abbrev pub swapped_planes : PlanesHeap → PlanesHeap
swapped_planes h = record { memory = swapped_parts h.memory }

-- The bits of cell i were set for a mark colour, or for a sweep colour, and nothing else was changed.
pub record MarkPainted (i : ℕ) (mark : MarkColour) (before after : PlanesMemory) : Type 0 where
  pub links : after.links ≡ before.links
  pub grey : after.grey.now ≡ put_bit before.grey.now i (is_grey mark)
  pub black : after.mark.now ≡ put_bit before.mark.now i (is_mark_black mark)
  pub sweep : after.sweep ≡ before.sweep
  pub lenders : (after.grey.ghost_name ≡ before.grey.ghost_name) × (after.mark.ghost_name ≡ before.mark.ghost_name)

pub record SweepPainted (i : ℕ) (sweep : SweepColour) (before after : PlanesMemory) : Type 0 where
  pub links : after.links ≡ before.links
  pub grey : after.grey ≡ before.grey
  pub mark : after.mark ≡ before.mark
  pub black : after.sweep.now ≡ put_bit before.sweep.now i (is_sweep_black sweep)
  pub lender : after.sweep.ghost_name ≡ before.sweep.ghost_name

-- the same four pieces of memory, by their lenders
pub record SameLenders (before after : PlanesMemory) : Type 0 where
  pub links : after.links.ghost_name ≡ before.links.ghost_name
  pub grey : after.grey.ghost_name ≡ before.grey.ghost_name
  pub mark : after.mark.ghost_name ≡ before.mark.ghost_name
  pub sweep : after.sweep.ghost_name ≡ before.sweep.ghost_name

-- A call left the heap in the same pieces of memory, and changed no record and no bit beyond the size.
pub record SameBeyond (before after : PlanesHeap) : Type 0 where
  pub links_long : length after.memory.links.now ≡ length before.memory.links.now
  pub links : drop (size_of_planes before) after.memory.links.now ≡ drop (size_of_planes before) before.memory.links.now
  pub grey : SameBits (size_of_planes before) before.memory.grey.now after.memory.grey.now
  pub mark : SameBits (size_of_planes before) before.memory.mark.now after.memory.mark.now
  pub sweep : SameBits (size_of_planes before) before.memory.sweep.now after.memory.sweep.now
  pub lenders : SameLenders before.memory after.memory

-- A memory was made new: new cells in front and all else as it was.
pub record Renewed (before after : PlanesMemory) : Type 0 where
  pub records : after.links.now ≡ replicate (planes_size before) new_links ++ drop (planes_size before) before.links.now
  pub greys : Cleared (planes_size before) before.grey.now after.grey.now
  pub marks : Cleared (planes_size before) before.mark.now after.mark.now
  pub sweeps : Cleared (planes_size before) before.sweep.now after.sweep.now
  pub lenders : SameLenders before after

-- Making took this memory, and left new cells in front and all else as it was.
abbrev pub MadeIn : PlanesMemory → PlanesHeap → Type 0
MadeIn memory h = Renewed memory h.memory
