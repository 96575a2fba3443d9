-- What holds of a store at every moment. Reach does not occur in it; that no hold reaches a free cell follows.
use Rattle.std.specs.Prelude.{◌≡◌, ℕ, ◌<◌, ◌≤◌, ◌⊎◌}
use Rattle.cells.specs.declared.cell.Tag.TheVariants.{Used}
use Rattle.cells.specs.declared.cell.MarkColour.{MarkColour}
use Rattle.cells.specs.declared.cell.MarkColour.TheVariants as mark
use Rattle.cells.specs.declared.cell.SweepColour.TheVariants as sweep
use Rattle.cells.specs.Calls.{InRange}
use Rattle.numbering.specs.Same.{Names}
use Rattle.model.specs.declared.stage.Stage.{Stage}
use Rattle.model.specs.declared.stage.Stage.TheVariants.{AtHold, AtCell, Ended}
use Rattle.model.specs.FreeList.{IsFreeList}
use Rattle.model.specs.Reach.{Holds}
use Rattle.model.specs.State.{State, size_of}

-- grey or black
abbrev pub Dark : MarkColour → Type 0
Dark mark.White = ⊥
Dark mark.Grey = Unit {0}
Dark mark.Black = Unit {0}

abbrev pub IsBlack : MarkColour → Type 0
IsBlack mark.White = ⊥
IsBlack mark.Grey = ⊥
IsBlack mark.Black = Unit {0}

-- A cell is kept if it is used and the sweeper will not put it back before the next turn: it is behind the sweeper, or
-- its sweep colour is black.
abbrev pub Kept : State → ℕ → Type 0
Kept s i = (i < size_of s) × (s.cells.tag i ≡ Used) × ((i < s.place) ⊎ (s.cells.sweep i ≡ sweep.Black))

-- how many of n holds the marker has visited
abbrev pub visited_holds : Stage → ℕ → ℕ
visited_holds (AtHold r) n = r
visited_holds (AtCell k) n = n
visited_holds Ended n = n

pub record Invariant (s : State) : Type 0 where
  -- the limits, and every number in its range
  pub few : size_of s ≤ 16384
  pub some_hold : 0 < s.hold_count
  pub hold_range : (h : ℕ) → InRange (size_of s) (s.hold h)
  pub left_range : (i : ℕ) → InRange (size_of s) (s.cells.left i)
  pub right_range : (i : ℕ) → InRange (size_of s) (s.cells.right i)
  pub stage_range : (r : ℕ) → s.stage ≡ AtHold r → r < s.hold_count
  pub place_range : s.place ≤ size_of s
  -- what the sweeper has passed is white, and what is black is a cell
  pub swept : (i : ℕ) → i < s.place → s.cells.sweep i ≡ sweep.White
  pub sweep_range : (i : ℕ) → s.cells.sweep i ≡ sweep.Black → i < size_of s
  -- cells in holds are kept, kept cells name kept cells, and marked cells are kept
  pub held_kept : (h c : ℕ) → Holds s h c → Kept s c
  pub named_kept : (i c : ℕ) → Kept s i → Names s.cells i c → Kept s c
  pub dark_kept : (i : ℕ) → Dark (s.cells.mark i) → Kept s i
  -- black cells name no white cell, visited holds contain none, and when marking has ended no cell is grey
  pub black_names : (i c : ℕ) → IsBlack (s.cells.mark i) → Names s.cells i c → Dark (s.cells.mark c)
  pub visited_dark : (h c : ℕ) → h < visited_holds s.stage s.hold_count → Holds s h c → Dark (s.cells.mark c)
  pub ended_black : s.stage ≡ Ended → (i : ℕ) → Dark (s.cells.mark i) → IsBlack (s.cells.mark i)
  pub free_list : IsFreeList s.cells s.free
