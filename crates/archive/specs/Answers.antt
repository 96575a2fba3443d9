-- What answers that hold parts of a text say: the parts as bytes, a reader as its place.
use Rattle.std.specs.Prelude.{ℕ, List, Ok, Err, Result}
use Rattle.std.specs.Borrow.{Bor}
use Rattle.lines.specs.declared.cell.PatternCell.{PatternCell}
use Rattle.archive.specs.declared.fault.FileFault.{FileFault}
use Rattle.lines.specs.declared.line.Line.{Line}
use Rattle.archive.specs.declared.reader.Reader.{Reader}
use Rattle.lines.specs.Line.{Fields, fields_of}
use Rattle.archive.specs.Reading.{Place, place_of}

abbrev pub line_answer : Result (Line × Bor (List ℕ)) FileFault → Result (Fields × List ℕ) FileFault
line_answer (Ok read) = Ok (fields_of read.0, read.1.now)
line_answer (Err e) = Err e

abbrev pub open_answer : Result Reader FileFault → Result Place FileFault
open_answer (Ok reader) = Ok (place_of reader)
open_answer (Err e) = Err e

abbrev pub cell_answer : Result (PatternCell × Reader) FileFault → Result (PatternCell × Place) FileFault
cell_answer (Ok read) = Ok (read.0, place_of read.1)
cell_answer (Err e) = Err e
