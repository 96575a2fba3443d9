-- Load: the pattern of a text becomes new cells, all in one step.
use Rattle.std.specs.Prelude.{ℕ, List, ◌++◌, length, take, drop, Ok, Err, Result, nat_le, slice_index, slice_index_or}
use Rattle.cells.specs.declared.content.Content.TheVariants.{Cell}
use Rattle.lines.specs.declared.cell.PatternCell.{PatternCell}
use Rattle.archive.specs.declared.fault.FileFault.{FileFault}
use Rattle.archive.specs.Pattern.{Pattern, among}
use Rattle.archive.specs.Reading.{and_then, pattern_in, unless}
use Rattle.numbering.specs.Same.{no_line}
use Rattle.numbering.specs.Walk.{place, renamed}
use Rattle.model.specs.declared.fault.LoadFault.{LoadFault}
use Rattle.model.specs.declared.fault.LoadFault.TheVariants.{OfFile, OfStore}
use Rattle.model.specs.declared.fault.StoreFault.TheVariants.{NoHold, FewCells, ShortTable}
use Rattle.model.specs.Hand.{if_ok, is_hold}
use Rattle.model.specs.State.{State, with_hold}
use Rattle.model.specs.Take.{give}

-- the pattern of a text as a load judges it
abbrev pub text_pattern : Result Pattern FileFault → Result Pattern LoadFault
text_pattern (Ok pattern) = Ok pattern
text_pattern (Err fault) = Err (OfFile fault)

-- The pattern that is loaded, or the refusal: the hold, the whole text, the table of places, the free cells.
abbrev pub load_pattern : State → ℕ → List ℕ → List ℕ → Result Pattern LoadFault
load_pattern s h text places =
    unless (is_hold s h) (OfStore NoHold) (
    and_then (text_pattern (pattern_in text)) (λ pattern.
    unless (nat_le (length pattern) (length places)) (OfStore ShortTable) (
    unless (nat_le (length pattern) (length s.free)) (OfStore FewCells) (
    Ok pattern))))

-- file cell k becomes the k-th of these cells
abbrev pub cell_of : List ℕ → ℕ → ℕ
cell_of names k = slice_index names k

-- what cell i becomes, as one of these cells
abbrev pub loaded_cell : List ℕ → Pattern → ℕ → PatternCell
loaded_cell names pattern i = record {
  joint = (slice_index_or pattern (place i names) no_line).joint;
  left = renamed (cell_of names) (slice_index_or pattern (place i names) no_line).left;
  right = renamed (cell_of names) (slice_index_or pattern (place i names) no_line).right;
}

-- these cells, which leave `rest` on the free list, become the pattern, and hold h gets the first
abbrev pub load_into : State → ℕ → List ℕ → List ℕ → Pattern → State
load_into s h names rest pattern = with_hold (give s (λ i. among i names) (loaded_cell names pattern) rest) h (Cell (cell_of names 0))

abbrev pub after_load : State → ℕ → List ℕ → List ℕ → State
after_load s h text places =
    if_ok (load_pattern s h text places) (λ pattern. load_into s h (take (length pattern) s.free) (drop (length pattern) s.free) pattern) s

abbrev pub load_answer : State → ℕ → List ℕ → List ℕ → Result ℕ LoadFault
load_answer s h text places = and_then (load_pattern s h text places) (λ pattern. Ok (length pattern))

-- the table once the cells are told in it
abbrev pub told_places : List ℕ → List ℕ → Result ℕ LoadFault → List ℕ
told_places free places (Ok n) = take n free ++ drop n places
told_places free places (Err fault) = places

abbrev pub places_after : State → ℕ → List ℕ → List ℕ → List ℕ
places_after s h text places = told_places s.free places (load_answer s h text places)
