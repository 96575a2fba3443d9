use Rattle.std.proofs.Common.{◌≡◌}
use Rattle.archive.specs.Reading.{behind_cells, due, place_of}
use Rattle.archive.proofs.verdict.pass_cells.Given as goal

-- what is left ends where the whole ends
abbrev pub invariant-loop : goal.invariant-loop
invariant-loop l = behind_cells (place_of l.reader) ≡ behind_cells (place_of l.initial.reader)

abbrev pub decreases-loop : goal.decreases-loop
decreases-loop l = due (place_of l.reader)
