-- What holds of numbering: the statements that the functions of this crate name in their contracts.
use Rattle.std.specs.Prelude.{◌≡◌, ℕ, ◌<◌, ◌≤◌, List, map, length, Ok, slice_index_or}
use Rattle.cells.specs.Calls.{InRange}
use Rattle.cells.specs.Cells.{Cells}
use Rattle.archive.specs.Pattern.{Numbered, Pattern, pattern_text}
use Rattle.archive.specs.Reading.{judged, pattern_in}
use Rattle.numbering.specs.Lists.{In, Once, count_from}
use Rattle.numbering.specs.Same.{LiesAt, SamePattern, Within}
use Rattle.numbering.specs.Walk.{order_from, pattern_of}

-- cells as a sound heap has them: at most 16,384, and every content in range
pub record Sound (cells : Cells) : Type 0 where
  pub few : cells.size ≤ 16384
  pub lefts : (i : ℕ) → InRange cells.size (cells.left i)
  pub rights : (i : ℕ) → InRange cells.size (cells.right i)

-- The numbering gives one number to each cell of the pattern and to no other; the first cell has number 0.
pub record NumbersEach (cells : Cells) (first : ℕ) (order : List ℕ) : Type 0 where
  pub some : 0 < length order
  pub front : slice_index_or order 0 0 ≡ first
  pub once : Once order
  pub only : (c : ℕ) → In c order → Within cells first c
  pub all : (c : ℕ) → Within cells first c → In c order

abbrev pub WalkNumbersEach : Type 0
WalkNumbersEach = (cells : Cells) (first : ℕ) → Sound cells → first < cells.size → NumbersEach cells first (order_from cells first)

-- The lines that a walk makes obey the numbering rule, so their text is accepted, with their count.
pub record Accepted (pattern : Pattern) : Type 0 where
  pub numbered : Numbered pattern
  pub read : pattern_in (pattern_text pattern) ≡ Ok pattern
  pub judged : judged (pattern_text pattern) ≡ Ok (length pattern)

abbrev pub WalkIsAccepted : Type 0
WalkIsAccepted = (cells : Cells) (first : ℕ) → Sound cells → first < cells.size → Accepted (pattern_of cells (order_from cells first))

-- the first n places
abbrev pub places_of : (ℕ → ℕ) → ℕ → List ℕ
places_of at n = map at (count_from 0 n)

-- A pattern that obeys the rule, wherever it lies in a store, is walked from its first cell in the order of its lines,
-- and the walk makes the same lines again.
pub record ComesBack (cells : Cells) (at : ℕ → ℕ) (pattern : Pattern) : Type 0 where
  pub order : order_from cells (at 0) ≡ places_of at (length pattern)
  pub lines : pattern_of cells (order_from cells (at 0)) ≡ pattern

abbrev pub LinesComeBack : Type 0
LinesComeBack = (cells : Cells) (at : ℕ → ℕ) (pattern : Pattern) → Numbered pattern → LiesAt cells at pattern → length pattern ≤ cells.size → ComesBack cells at pattern

-- The lines that a walk makes, wherever they lie in another store, are the same pattern there.
abbrev pub WalkIsSamePattern : Type 0
WalkIsSamePattern = (cells : Cells) (first : ℕ) (there : Cells) (at : ℕ → ℕ) → Sound cells → first < cells.size
    → LiesAt there at (pattern_of cells (order_from cells first))
    → SamePattern cells first there (at 0)
