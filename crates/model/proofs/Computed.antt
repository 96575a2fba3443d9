-- The worked examples: computed.
use Rattle.std.proofs.Common.{◌≡◌, refl}
use Rattle.std.specs.Fmt.{digits}
use Rattle.cells.specs.Calls.{seek_grey}
use Rattle.model.specs.Calls.{answer, answers, after_all}
use Rattle.model.specs.Examples.{first_six, first_told, last_four, last_told, one_cell, saved_bytes, saved_told, seventh, seventh_told, three_cells}

pub first_six_lem : first_told ≡ answers first_six three_cells
unfolding seek_grey
first_six_lem = refl

pub the_seventh : seventh_told ≡ answer seventh (after_all first_six three_cells)
unfolding seek_grey digits
the_seventh = refl

pub saved_bytes_lem : saved_told ≡ saved_bytes
unfolding seek_grey digits
saved_bytes_lem = refl

pub last_four_lem : last_told ≡ answers last_four one_cell
unfolding seek_grey
last_four_lem = refl
