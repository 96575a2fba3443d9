-- The counts of the cells that are left, step by step.
use Rattle.std.proofs.Common.{◌≡◌, Some, Ok, Err, Result, refl, ap, ◌∙◌}
use Rattle.lines.specs.declared.cell.PatternCell.{PatternCell}
use Rattle.archive.specs.declared.fault.FileFault.{FileFault}
use Rattle.archive.specs.Pattern.{Pattern}
use Rattle.archive.specs.Reading.{Place, and_then, cells_from, due, in_front, next_cell, place_after}
use Rattle.archive.proofs.Places.{cells_fault, cells_some}
use Rattle.report.specs.declared.tally.Tally.{Tally}
use Rattle.report.specs.Survey.{tally_on}
use Rattle.report.specs.Tally.{cell_noted, tallied}

module _ (t : Tally) (p : Place) where
  counted : Result (Pattern × Place) FileFault → Result (Tally × Place) FileFault
  counted r = and_then r (λ cells. Ok (tallied t cells.0, cells.1))

  pub tally_fault : (f : FileFault) → next_cell p ≡ Err f → tally_on t p ≡ Err f
  unfolding counted
  tally_fault f e = ap counted (cells_fault p f e)

  pub tally_some : (c : PatternCell) → next_cell p ≡ Ok (Some c) → tally_on t p ≡ tally_on (cell_noted t c) (place_after p)
  unfolding counted
  tally_some c e = ap counted (cells_some p c e) ∙ passed (cells_from (due (place_after p)) (place_after p))
    where
      passed : (r : Result (Pattern × Place) FileFault) → counted (and_then r (in_front c)) ≡ and_then r (λ cells. Ok (tallied (cell_noted t c) cells.0, cells.1))
      passed (Ok cells) = refl
      passed (Err f) = refl
