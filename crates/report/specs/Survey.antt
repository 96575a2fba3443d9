-- A text is read and its cells are counted on the way.
use Rattle.std.specs.Prelude.{Ok, Err, Result}
use Rattle.archive.specs.declared.fault.FileFault.{FileFault}
use Rattle.archive.specs.declared.reader.Reader.{Reader}
use Rattle.archive.specs.Reading.{Place, and_then, cells_from, due, finished, place_of}
use Rattle.report.specs.declared.tally.Summary.{Summary}
use Rattle.report.specs.declared.tally.Tally.{Tally}
use Rattle.report.specs.Tally.{empty, tallied}

-- the counts of the cells that are left, on top of t
abbrev pub tally_on : Tally → Place → Result (Tally × Place) FileFault
tally_on t p = and_then (cells_from (due p) p) (λ cells. Ok (tallied t cells.0, cells.1))

abbrev pub tally_from : Place → Result (Tally × Place) FileFault
tally_from p = tally_on empty p

-- the end line, and the counts
abbrev pub tallied_end : Tally × Place → Result Summary FileFault
tallied_end read = and_then (finished read.1) (λ n. Ok read.0.counts)

-- an answer that holds a reader, by its place
abbrev pub tally_answer : Result (Tally × Reader) FileFault → Result (Tally × Place) FileFault
tally_answer (Ok read) = Ok (read.0, place_of read.1)
tally_answer (Err e) = Err e
