-- The lines that a reader has still to give, one by one.
use Rattle.std.proofs.Common.{◌≡◌, ℕ, List, [], ◌∷◌, Some, None, Ok, Err, Option, Result, sym, refl, ap, ◌∙◌}
use Rattle.lines.specs.declared.cell.PatternCell.{PatternCell}
use Rattle.lines.proofs.Options.{none_not_some}
use Rattle.archive.specs.declared.fault.FileFault.{FileFault}
use Rattle.archive.specs.Pattern.{Pattern}
use Rattle.archive.specs.Reading.{Place, and_then, cells_from, due, ending, finished, in_front, next_cell, opened, place_after, cells_and_end, pattern_in}
use Rattle.archive.proofs.Outcomes.{and_then_ok, err_not_ok, ok_same}
use Rattle.archive.proofs.Places.{cells_fault, cells_none, cells_some}
use Rattle.loading.specs.Settle.{line_given, lines_left}

-- the lines of a result that has lines and a place
abbrev lines_of : Result (Pattern × Place) FileFault → Result Pattern FileFault
lines_of r = and_then r (λ lines. Ok lines.0)

-- a reader that gave a line gave the first of those that were left
pub line_given_lem : (p : Place) (left : Pattern) (line : PatternCell) → lines_left p ≡ Ok left → Some line ≡ line_given (next_cell p) → (rest : Pattern) × (left ≡ line ∷ rest) × (lines_left (place_after p) ≡ Ok rest)
line_given_lem p left line e g = behind (cells_from (due (place_after p)) (place_after p)) refl (sym (ap lines_of (cells_some p line (answer (next_cell p) g))) ∙ e)
  where
    answer : (r : Result (Option PatternCell) FileFault) → Some line ≡ line_given r → r ≡ Ok (Some line)
    answer (Ok o) h = ap Ok (sym h)
    answer (Err f) h = absurd (none_not_some (sym h))

    behind : (r : Result (Pattern × Place) FileFault) → cells_from (due (place_after p)) (place_after p) ≡ r → lines_of (and_then r (in_front line)) ≡ Ok left → (rest : Pattern) × (left ≡ line ∷ rest) × (lines_left (place_after p) ≡ Ok rest)
    behind (Ok read) q h = (read.0, sym (ok_same h), ap lines_of q)
    behind (Err f) q h = absurd (err_not_ok h)

-- a reader that gave none had none left, since no fault is among lines that are a pattern
pub none_given : (p : Place) (left : Pattern) → lines_left p ≡ Ok left → None ≡ line_given (next_cell p) → left ≡ []
none_given p left e g = by (next_cell p) refl g
  where
    by : (r : Result (Option PatternCell) FileFault) → next_cell p ≡ r → None ≡ line_given r → left ≡ []
    by (Ok o) q h = ok_same (sym e ∙ ap lines_of (cells_none p (q ∙ ap Ok (sym h))))
    by (Err f) q h = absurd (err_not_ok (sym (ap lines_of (cells_fault p f q)) ∙ e))

-- the lines of a whole text are left behind its header
pub lines_in_lem : (text : List ℕ) (pattern : Pattern) (start : Place) → Ok start ≡ opened text → pattern_in text ≡ Ok pattern → lines_left start ≡ Ok pattern
lines_in_lem text pattern start at e =
    let read = and_then_ok (cells_from (due start) start) ending pattern (ap (λ r. and_then r cells_and_end) at ∙ e) in
    let last = and_then_ok (finished read.0.1) (λ n. Ok read.0.0) pattern read.2 in
    ap lines_of read.1 ∙ last.2
