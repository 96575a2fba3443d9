-- When two patterns are the same.
use Rattle.std.specs.Prelude.{◌≡◌, ℕ, ◌<◌, ◌⊎◌, length, slice_index_or}
use Rattle.cells.specs.declared.content.Content.TheVariants.{Cell, Nothing}
use Rattle.cells.specs.declared.content.Joint.TheVariants.{Beside}
use Rattle.cells.specs.Cells.{Cells}
use Rattle.lines.specs.declared.cell.PatternCell.{PatternCell}
use Rattle.archive.specs.Pattern.{Pattern}
use Rattle.numbering.specs.Walk.{renamed}

-- cell i has cell c as its left or its right content
abbrev pub Names : Cells → ℕ → ℕ → Type 0
Names cells i c = (cells.left i ≡ Cell c) ⊎ (cells.right i ≡ Cell c)

-- the cells of the pattern whose first cell is `first`
pub data Within (cells : Cells) (first : ℕ) : ℕ → Type 0 where
  itself : Within cells first first
  named : (i c : ℕ) → Within cells first i → Names cells i c → Within cells first c

-- The cells of two patterns pair off: first cell with first cell, one to one, with equal joints, equal yarns and
-- nothings, and cells named that are pairs.
pub record Pairing (pair : ℕ → ℕ) (here : Cells) (first : ℕ) (there : Cells) (first' : ℕ) : Type 0 where
  pub firsts : pair first ≡ first'
  pub into : (c : ℕ) → Within here first c → Within there first' (pair c)
  pub onto : (d : ℕ) → Within there first' d → (c : ℕ) × Within here first c × (pair c ≡ d)
  pub one_to_one : (c d : ℕ) → Within here first c → Within here first d → pair c ≡ pair d → c ≡ d
  pub joints : (c : ℕ) → Within here first c → there.joint (pair c) ≡ here.joint c
  pub lefts : (c : ℕ) → Within here first c → there.left (pair c) ≡ renamed pair (here.left c)
  pub rights : (c : ℕ) → Within here first c → there.right (pair c) ≡ renamed pair (here.right c)

abbrev pub SamePattern : Cells → ℕ → Cells → ℕ → Type 0
SamePattern here first there first' = (pair : ℕ → ℕ) × Pairing pair here first there first'

-- a line that stands for no cell
abbrev pub no_line : PatternCell
no_line = record { joint = Beside; left = Nothing; right = Nothing }

-- The pattern lies in these cells: file cell k is cell `at k`.
pub record LiesAt (cells : Cells) (at : ℕ → ℕ) (pattern : Pattern) : Type 0 where
  pub apart : (j k : ℕ) → j < length pattern → k < length pattern → at j ≡ at k → j ≡ k
  pub joints : (k : ℕ) → k < length pattern → cells.joint (at k) ≡ (slice_index_or pattern k no_line).joint
  pub lefts : (k : ℕ) → k < length pattern → cells.left (at k) ≡ renamed at (slice_index_or pattern k no_line).left
  pub rights : (k : ℕ) → k < length pattern → cells.right (at k) ≡ renamed at (slice_index_or pattern k no_line).right
