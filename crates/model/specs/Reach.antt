-- Reached, used, free and stray.
use Rattle.std.specs.Prelude.{◌≡◌, ℕ, ◌<◌}
use Rattle.cells.specs.declared.content.Content.TheVariants.{Cell}
use Rattle.cells.specs.declared.cell.Tag.TheVariants.{Free, Used}
use Rattle.numbering.specs.Same.{Names}
use Rattle.model.specs.State.{State, size_of}

-- hold h contains cell c
abbrev pub Holds : State → ℕ → ℕ → Type 0
Holds s h c = (h < s.hold_count) × (s.hold h ≡ Cell c)

-- A cell is reached (reachable from a root) if a hold contains it, or a reached cell has it as left or right.
pub data Reached (s : State) : ℕ → Type 0 where
  held : (h c : ℕ) → Holds s h c → Reached s c
  through : (i c : ℕ) → Reached s i → Names s.cells i c → Reached s c

abbrev pub IsUsed : State → ℕ → Type 0
IsUsed s i = (i < size_of s) × (s.cells.tag i ≡ Used)

abbrev pub IsFree : State → ℕ → Type 0
IsFree s i = (i < size_of s) × (s.cells.tag i ≡ Free)

-- A stray (garbage) is used and not reached.
abbrev pub Stray : State → ℕ → Type 0
Stray s i = IsUsed s i × (Reached s i → ⊥)

-- the holds reach every cell
abbrev pub Full : State → Type 0
Full s = (i : ℕ) → i < size_of s → Reached s i
