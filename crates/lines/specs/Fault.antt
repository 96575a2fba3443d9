-- What a line fault tells: the layer that found it, its number in the table of refusals, and its line counted from 1.
use Rattle.std.specs.Prelude.{ℕ}
use Rattle.lines.specs.declared.fault.LineFault.{LineFault}
use Rattle.lines.specs.declared.fault.LineFault.TheVariants.{Form, Range}
use Rattle.lines.specs.declared.fault.Layer.{Layer}
use Rattle.lines.specs.declared.fault.Layer.TheVariants.{Line}

abbrev pub line_layer : LineFault → Layer
line_layer f = Line

abbrev pub line_number : LineFault → ℕ
line_number (Form line) = 9
line_number (Range line) = 11

abbrev pub line_line : LineFault → ℕ
line_line (Form line) = line
line_line (Range line) = line
