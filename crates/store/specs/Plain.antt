-- Contents that name no cell.
use Rattle.std.specs.Prelude.{◌≤◌}
use Rattle.cells.specs.declared.content.Content.{Content}
use Rattle.cells.specs.declared.content.Content.TheVariants.{Nothing, Yarn, Cell}

-- nothing, or a yarn that there is
abbrev pub IsPlain : Content → Type 0
IsPlain Nothing = Unit {0}
IsPlain (Yarn y) = y ≤ 4095
IsPlain (Cell c) = ⊥
