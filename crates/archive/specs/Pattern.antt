-- A pattern, its written text, and the rule that its numbering obeys.
use Rattle.std.specs.Prelude.{◌≡◌, ℕ, ◌+◌, ◌<◌, ◌≤◌, max, Bool, true, false, ◌||◌, List, [], ◌∷◌, ◌++◌, length, take, ◌==◌}
use Rattle.std.specs.List.{AllByRecursion}
use Rattle.cells.specs.declared.content.Content.{Content}
use Rattle.cells.specs.declared.content.Content.TheVariants.{Nothing, Yarn, Cell}
use Rattle.cells.specs.Calls.{InRange}
use Rattle.lines.specs.declared.cell.PatternCell.{PatternCell}
use Rattle.lines.specs.Text.{cell_fields, end_fields, header_fields, line_text}

-- the cells of a pattern in the order of their file numbers: the i-th is cell i
abbrev pub Pattern : Type 0
Pattern = List PatternCell

-- The written text.

-- the cell lines, from the first on
abbrev pub cells_text : Pattern → List ℕ
cells_text [] = []
cells_text (c ∷ cs) = line_text (cell_fields c) ++ cells_text cs

-- the whole text: a header with the count, a line for each cell, an end line with the count
abbrev pub pattern_text : Pattern → List ℕ
pattern_text p = line_text (header_fields (length p)) ++ (cells_text p ++ line_text (end_fields (length p)))

-- The rules that the numbers of a pattern obey.

-- the contents in reading order: cell by cell, left before right
abbrev pub contents : Pattern → List Content
contents [] = []
contents (c ∷ cs) = c.left ∷ c.right ∷ contents cs

-- the cells that contents name, in the same order
abbrev pub named : List Content → List ℕ
named [] = []
named (Nothing ∷ xs) = named xs
named (Yarn y ∷ xs) = named xs
named (Cell k ∷ xs) = k ∷ named xs

-- the greatest of some numbers, 0 of none
abbrev pub greatest : List ℕ → ℕ
greatest [] = 0
greatest (k ∷ ks) = max k (greatest ks)

-- is k one of them?
abbrev pub among : ℕ → List ℕ → Bool
among k [] = false
among k (x ∷ xs) = k == x || among k xs

-- A pattern that may be archived: 1 to 16,384 cells, its contents in range, and numbered in the order of first
-- meeting. So the line of a cell stands only behind a line that names it, unless it is cell 0, and a content names
-- no number that is more than one above all that were named before it.
pub record Numbered (p : Pattern) : Type 0 where
  pub some : 1 ≤ length p
  pub few : length p ≤ 16384
  pub in_range : AllByRecursion (InRange (length p)) (contents p)
  pub met_before : (i : ℕ) → 1 ≤ i → i < length p → among i (named (contents (take i p))) ≡ true
  pub next_number : (before : List ℕ) (k : ℕ) (after : List ℕ) → named (contents p) ≡ before ++ (k ∷ after) → k ≤ greatest before + 1

-- A text that a pattern was written as.
pub record Writes (p : Pattern) (text : List ℕ) : Type 0 where
  pub numbered : Numbered p
  pub text_is : text ≡ pattern_text p

-- The laws of judging. A text is accepted with count n exactly if it is the written text of a pattern of n cells ..
abbrev pub WritesSome : ℕ → List ℕ → Type 0
WritesSome n text = (p : Pattern) × (length p ≡ n) × Writes p text

-- .. and it is the text of no other pattern.
abbrev pub OnePattern : List ℕ → Type 0
OnePattern text = (p q : Pattern) → Writes p text → Writes q text → p ≡ q
