-- The two passes fit together: whoever has gathered may settle.
use Rattle.std.specs.Prelude.{◌≡◌, ℕ, ◌≤◌, List, length, take}
use Rattle.cells.specs.Cells.{Cells}
use Rattle.archive.specs.Pattern.{Pattern}
use Rattle.model.specs.FreeList.{IsFreeList}
use Rattle.loading.specs.Gather.{Gathered}
use Rattle.loading.specs.Settle.{Suits}

-- The table that the first pass leaves suits the second, and what it names is the front of the free list.
pub record Ready (cells : Cells) (free places : List ℕ) (pattern : Pattern) : Type 0 where
  pub suits : Suits cells.size places pattern
  pub names_are : take (length pattern) places ≡ take (length pattern) free

abbrev pub PassesFit : Type 0
PassesFit = (cells : Cells) (free before places : List ℕ) (next : ℕ) (pattern : Pattern) → IsFreeList cells free → length pattern ≤ length free
    → Gathered free (length pattern) before places next
    → Ready cells free places pattern
