-- What is in a pattern, and the lines that tell it.
use Rattle.std.specs.Prelude.{ℕ, ◌+◌, Bool, true, false, cond, List, [], ◌∷◌, ◌++◌, length, Ok, Err, codes, decimal, count_by, Result}
use Rattle.cells.specs.declared.content.Content.{Content}
use Rattle.cells.specs.declared.content.Content.TheVariants.{Nothing, Yarn, Cell}
use Rattle.cells.specs.declared.content.Joint.TheVariants.{Beside, Above}
use Rattle.lines.specs.declared.cell.PatternCell.{PatternCell}
use Rattle.archive.specs.declared.fault.FileFault.{FileFault}
use Rattle.archive.specs.Fault.{file_line, file_number}
use Rattle.archive.specs.Pattern.{Pattern, among, contents, named}
use Rattle.archive.specs.Reading.{and_then, pattern_in}
use Rattle.report.specs.declared.tally.Summary.{Summary}

abbrev pub is_above : PatternCell → Bool
is_above c = elim c.joint [ Beside ↦ false | Above ↦ true ]

abbrev pub is_yarn : Content → Bool
is_yarn Nothing = false
is_yarn (Yarn y) = true
is_yarn (Cell k) = false

abbrev pub is_nothing : Content → Bool
is_nothing Nothing = true
is_nothing (Yarn y) = false
is_nothing (Cell k) = false

-- of the numbers ks, how many were met before, where met are those that were met so far
abbrev pub met_again : List ℕ → List ℕ → ℕ
met_again met [] = 0
met_again met (k ∷ ks) = cond (among k met) 1 0 + met_again (k ∷ met) ks

-- the contents that name a cell which an earlier content named, or the first cell
abbrev pub ties : Pattern → ℕ
ties p = met_again (0 ∷ []) (named (contents p))

abbrev pub summary_of : Pattern → Summary
summary_of p = record {
  cells = length p;
  above = count_by is_above p;
  yarns = count_by is_yarn (contents p);
  nothings = count_by is_nothing (contents p);
  ties = ties p;
}

-- the summary of the pattern that a text is, or the first fault
abbrev pub surveyed : List ℕ → Result Summary FileFault
surveyed text = and_then (pattern_in text) (λ p. Ok (summary_of p))

-- a line of a word and a number, and what follows it
abbrev pub count_line : List ℕ → ℕ → List ℕ → List ℕ
count_line word n more = word ++ (9 ∷ (decimal n ++ (10 ∷ more)))

abbrev pub summary_text : Summary → List ℕ
summary_text s =
    count_line (codes "cells") s.cells (
    count_line (codes "above") s.above (
    count_line (codes "yarns") s.yarns (
    count_line (codes "nothings") s.nothings (
    count_line (codes "ties") s.ties []))))

abbrev pub fault_text : FileFault → List ℕ
fault_text f = codes "fault" ++ (9 ∷ (decimal (file_number f) ++ (9 ∷ (decimal (file_line f) ++ (10 ∷ [])))))

abbrev pub report_of : Result Summary FileFault → List ℕ
report_of (Ok s) = summary_text s
report_of (Err f) = fault_text f

-- what is told of a text
abbrev pub reported : List ℕ → List ℕ
reported text = report_of (surveyed text)
