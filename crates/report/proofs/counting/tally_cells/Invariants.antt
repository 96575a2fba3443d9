use Rattle.std.proofs.Common.{◌≡◌, ◌*◌}
use Rattle.archive.specs.Reading.{due, place_of}
use Rattle.report.specs.Survey.{tally_from, tally_on}
use Rattle.report.specs.Tally.{Upto}
use Rattle.report.proofs.counting.tally_cells.Given as goal

-- what is left, on top of what is counted, gives the whole; and so few cells give so small counts
abbrev pub invariant-loop-cell : goal.invariant-loop-cell
invariant-loop-cell l = (tally_on l.tally (place_of l.reader) ≡ tally_from (place_of l.initial.reader)) × Upto (3 * l.reader.next) l.tally

abbrev pub decreases-loop-cell : goal.decreases-loop-cell
decreases-loop-cell l = due (place_of l.reader)
