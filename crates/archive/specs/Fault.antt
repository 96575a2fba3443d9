-- What a file fault tells: the layer that found it, its number in the table of refusals, and its line counted from 1.
use Rattle.std.specs.Prelude.{ℕ}
use Rattle.lines.specs.declared.fault.Layer.{Layer}
use Rattle.lines.specs.declared.fault.Layer.TheVariants.{File}
use Rattle.lines.specs.Fault.{line_layer, line_line, line_number}
use Rattle.archive.specs.declared.fault.FileFault.{FileFault}
use Rattle.archive.specs.declared.fault.FileFault.TheVariants.{OfLine, Version, Numbering, NoLine, Trailing}

abbrev pub file_layer : FileFault → Layer
file_layer (OfLine f) = line_layer f
file_layer (Version line) = File
file_layer (Numbering line) = File
file_layer (NoLine line) = File
file_layer (Trailing line) = File

abbrev pub file_number : FileFault → ℕ
file_number (OfLine f) = line_number f
file_number (Version line) = 10
file_number (Numbering line) = 12
file_number (NoLine line) = 13
file_number (Trailing line) = 14

abbrev pub file_line : FileFault → ℕ
file_line (OfLine f) = line_line f
file_line (Version line) = line
file_line (Numbering line) = line
file_line (NoLine line) = line
file_line (Trailing line) = line
