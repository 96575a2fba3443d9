-- Save: the pattern in a hold is numbered and written. The store stays as it is.
use Rattle.std.specs.Prelude.{ℕ, ◌&&◌, List, ◌++◌, map, length, drop, Ok, Err, Result, nat_le}
use Rattle.text.specs.Buffer.{put}
use Rattle.archive.specs.Pattern.{pattern_text}
use Rattle.archive.specs.Reading.{and_then, unless}
use Rattle.numbering.specs.Lists.{count_from}
use Rattle.numbering.specs.Walk.{number_of, order_from, pattern_of}
use Rattle.model.specs.declared.fault.StoreFault.{StoreFault}
use Rattle.model.specs.declared.fault.StoreFault.TheVariants.{NoHold, ShortBuffer, ShortTable}
use Rattle.model.specs.Hand.{held_cell, is_hold}
use Rattle.model.specs.State.{State, size_of}

-- the first cell of the pattern, or the refusal: the hold, its cell, the two tables
abbrev pub save_cell : State → ℕ → List ℕ → List ℕ → Result ℕ StoreFault
save_cell s h numbers order =
    unless (is_hold s h) NoHold (
    and_then (held_cell (s.hold h)) (λ c.
    unless (nat_le (size_of s) (length numbers) && nat_le (size_of s) (length order)) ShortTable (
    Ok c)))

-- the text of the pattern whose first cell is c
abbrev pub saved_text : State → ℕ → List ℕ
saved_text s c = pattern_text (pattern_of s.cells (order_from s.cells c))

-- how many cells, and the length of the text; 16 if the buffer is shorter
abbrev pub written_answer : List ℕ → ℕ → List ℕ → Result (ℕ × ℕ) StoreFault
written_answer text n buffer = unless (nat_le (length text) (length buffer)) ShortBuffer (Ok (n, length text))

abbrev pub save_answer : State → ℕ → List ℕ → List ℕ → List ℕ → Result (ℕ × ℕ) StoreFault
save_answer s h buffer numbers order = and_then (save_cell s h numbers order) (λ c. written_answer (saved_text s c) (length (order_from s.cells c)) buffer)

-- what is left of a lent memory: `new` of the first cell, or the memory as it was where the tables are refused
abbrev pub if_saved : Result ℕ StoreFault → (ℕ → List ℕ) → List ℕ → List ℕ
if_saved (Ok c) new old = new c
if_saved (Err fault) new old = old

abbrev pub buffer_after : State → ℕ → List ℕ → List ℕ → List ℕ → List ℕ
buffer_after s h buffer numbers order = if_saved (save_cell s h numbers order) (λ c. put buffer 0 (saved_text s c)) buffer

-- entry i, for each i below M, is the file number of cell i, or 65,535
abbrev pub numbers_after : State → ℕ → List ℕ → List ℕ → List ℕ
numbers_after s h numbers order =
    if_saved (save_cell s h numbers order) (λ c. map (number_of (order_from s.cells c)) (count_from 0 (size_of s)) ++ drop (size_of s) numbers) numbers

-- the first n entries are the cells in the order of their file numbers
abbrev pub order_after_save : State → ℕ → List ℕ → List ℕ → List ℕ
order_after_save s h numbers order =
    if_saved (save_cell s h numbers order) (λ c. order_from s.cells c ++ drop (length (order_from s.cells c)) order) order
