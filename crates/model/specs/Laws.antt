-- What is proved of the abstract store: the statements that functions of this crate name in their contracts.
use Rattle.std.specs.Prelude.{◌≡◌, ℕ, ◌≤◌, true, ◌↔◌, List, None}
use Rattle.cells.specs.Calls.{exchange_fault}
use Rattle.cells.specs.Fault.{write_fault}
use Rattle.numbering.specs.Lists.{In}
use Rattle.model.specs.Calls.{Call, after, after_all}
use Rattle.model.specs.Collector.{after_mark, after_sweep, after_turn, can_turn, span}
use Rattle.model.specs.History.{deeds, history, units_moments}
use Rattle.model.specs.Invariant.{Invariant}
use Rattle.model.specs.Reach.{Holds, IsUsed, Reached}
use Rattle.model.specs.Runs.{FirstInFirstOut, has_turn}
use Rattle.model.specs.State.{State, opened, size_of}

-- The invariant holds of what open leaves, on any number of cells that a heap can have and with any number of holds asked
-- for; every call keeps it, accepted or refused, whatever its arguments; so it holds after every list of calls.
pub record InvariantKept : Type 0 where
  pub of_opened : (m r : ℕ) → m ≤ 16384 → Invariant (opened m r)
  pub by_call : (c : Call) (s : State) → Invariant s → Invariant (after c s)
  pub by_calls : (m r : ℕ) → m ≤ 16384 → (cs : List Call) → Invariant (after_all cs (opened m r))

-- The holds reach used cells only.
abbrev pub ReachedIsUsed : Type 0
ReachedIsUsed = (s : State) → Invariant s → (i : ℕ) → Reached s i → IsUsed s i

-- Marks, sweeps and turns leave reach as it is.
abbrev pub ReachStays : State → State → Type 0
ReachStays s t = (i : ℕ) → Reached s i ↔ Reached t i

abbrev pub CollectorLeavesReach : Type 0
CollectorLeavesReach = (s : State) → Invariant s → ReachStays s (after_mark s) × ReachStays s (after_sweep s) × ReachStays s (after_turn s)

-- Any K units in a row contain a turn.
abbrev pub UnitsContainTurn : Type 0
UnitsContainTurn = (s : State) → Invariant s → has_turn (units_moments (span s) s) ≡ true

-- The free list comes out in the order in which it was put back.
abbrev pub FreeListInOrder : Type 0
FreeListInOrder = (cs : List Call) (s : State) → Invariant s → FirstInFirstOut s (history (deeds cs s)) (after_all cs s)

-- The heap refuses nothing that a store asks of it: no write meets 5 or 18, and no exchange meets a grey cell.
pub record NothingRefused (s : State) : Type 0 where
  -- a new cell, with the contents of two holds
  pub new_cell_lem : (i a b : ℕ) → In i s.free → write_fault (size_of s) i (s.hold a) (s.hold b) ≡ None
  -- a tie of the content of hold g to the cell in hold h, on its left and on its right
  pub tie_left : (h c g : ℕ) → Holds s h c → write_fault (size_of s) c (s.hold g) (s.cells.right c) ≡ None
  pub tie_right : (h c g : ℕ) → Holds s h c → write_fault (size_of s) c (s.cells.left c) (s.hold g) ≡ None
  pub exchange : can_turn s ≡ true → exchange_fault s.cells ≡ None

abbrev pub HeapRefusesNothing : Type 0
HeapRefusesNothing = (s : State) → Invariant s → NothingRefused s
