-- Reading a text line by line, in the order in which the rules ask: for each due line, is there one (13), has it
-- its form (9), is the version 1 (10), are its numbers in range (11), does it obey the numbering rule (12); and
-- behind the end line, is the text at its end (14).
use Rattle.std.specs.Prelude.{ℕ, zero, suc, ◌+◌, ◌-◌, max, Bool, true, cond, ◌&&◌, List, [], ◌∷◌, length, Some, None, Ok, Err, Option, Result, ◌==◌, nat_le, nat_lt}
use Rattle.text.specs.Cut.{cut_at}
use Rattle.cells.specs.declared.content.Content.{Content}
use Rattle.cells.specs.declared.content.Content.TheVariants.{Nothing, Yarn, Cell}
use Rattle.lines.specs.declared.cell.PatternCell.{PatternCell}
use Rattle.lines.specs.declared.fault.LineFault.TheVariants.{Form, Range}
use Rattle.lines.specs.Line.{Fields, line_in}
use Rattle.lines.specs.Values.{cell_values, end_count, given, header_numbers}
use Rattle.archive.specs.declared.fault.FileFault.{FileFault}
use Rattle.archive.specs.declared.fault.FileFault.TheVariants.{OfLine, Version, Numbering, NoLine, Trailing}
use Rattle.archive.specs.declared.reader.Reader.{Reader}
use Rattle.archive.specs.Pattern.{Pattern}

-- Ranges and numbering.

-- 1 to 16,384 cells
abbrev pub count_fits : ℕ → Bool
count_fits n = nat_le 1 n && nat_le n 16384

-- a yarn that exists, or one of n cells
abbrev pub content_fits : ℕ → Content → Bool
content_fits n Nothing = true
content_fits n (Yarn y) = nat_le y 4095
content_fits n (Cell k) = nat_lt k n

-- the greatest number named once a content is read, or none where it names a number that is not yet due
abbrev pub goes_on : ℕ → Content → Option ℕ
goes_on greatest Nothing = Some greatest
goes_on greatest (Yarn y) = Some greatest
goes_on greatest (Cell k) = cond (nat_le k (greatest + 1)) (Some (max greatest k)) None

-- the greatest number named once the line of cell i is read, or none where that line breaks the numbering rule
abbrev pub line_goes_on : ℕ → ℕ → PatternCell → Option ℕ
line_goes_on i greatest c = cond (nat_le i greatest) (given (goes_on greatest c.left) (λ g. goes_on g c.right)) None

-- Line by line.

-- a place in a text: how many cells it announces, which of them is due, the greatest number named so far, and the
-- text from the due line on
pub record Place : Type 0 where
  pub count : ℕ
  pub next : ℕ
  pub greatest : ℕ
  pub rest : List ℕ

abbrev pub place_of : Reader → Place
place_of r = record { count = r.count; next = r.next; greatest = r.greatest; rest = r.rest.now }

-- the number of the due line: behind the header and the lines of the cells before
abbrev pub line_due : Place → ℕ
line_due p = p.next + 2

-- go on with an accepted value
abbrev pub and_then : {X Y E : Type 0} → Result X E → (X → Result Y E) → Result Y E
and_then (Ok x) more = more x
and_then (Err e) more = Err e

-- a value that is there, or else the fault
abbrev pub or_fault : {X E : Type 0} → Option X → E → Result X E
or_fault None e = Err e
or_fault (Some x) e = Ok x

-- the fault, unless the test is good
abbrev pub unless : {X E : Type 0} → Bool → E → Result X E → Result X E
unless good e more = cond good more (Err e)

-- the due line as fields, and the text behind it: 13, then 9 for a line that is none of the three
abbrev pub as_line : ℕ → List ℕ × List ℕ → Result (Fields × List ℕ) FileFault
as_line line cut = and_then (or_fault (line_in cut.0) (OfLine (Form line))) (λ fields. Ok (fields, cut.1))

abbrev pub line_at : ℕ → List ℕ → Result (Fields × List ℕ) FileFault
line_at line text = and_then (or_fault (cut_at 10 text) (NoLine line)) (as_line line)

-- the header: 13, 9, then 10, then 11
abbrev pub with_count : List ℕ → ℕ × ℕ → Result Place FileFault
with_count rest numbers =
    unless (numbers.0 == 1) (Version 1) (
    unless (count_fits numbers.1) (OfLine (Range 1)) (
    Ok (record { count = numbers.1; next = 0; greatest = 0; rest = rest })))

abbrev pub as_heading : Fields × List ℕ → Result Place FileFault
as_heading line = and_then (or_fault (header_numbers line.0) (OfLine (Form 1))) (with_count line.1)

abbrev pub opened : List ℕ → Result Place FileFault
opened text = and_then (line_at 1 text) as_heading

-- the line of the cell that is due: 13, 9, then 11, then 12
abbrev pub cell_read : Place → List ℕ → PatternCell → ℕ → Result (PatternCell × Place) FileFault
cell_read p rest c g = Ok (c, record { count = p.count; next = p.next + 1; greatest = g; rest = rest })

abbrev pub in_range : Place → List ℕ → PatternCell → Result (PatternCell × Place) FileFault
in_range p rest c =
    unless (content_fits p.count c.left && content_fits p.count c.right) (OfLine (Range (line_due p))) (
    and_then (or_fault (line_goes_on p.next p.greatest c) (Numbering (line_due p))) (cell_read p rest c))

abbrev pub as_cell : Place → Fields × List ℕ → Result (PatternCell × Place) FileFault
as_cell p line = and_then (or_fault (cell_values line.0) (OfLine (Form (line_due p)))) (in_range p line.1)

abbrev pub cell_due : Place → Result (PatternCell × Place) FileFault
cell_due p = and_then (line_at (line_due p) p.rest) (as_cell p)

-- the end line: 13, 9, also for another count; and behind it nothing: 14
abbrev pub same_count : Place → List ℕ → ℕ → Result ℕ FileFault
same_count p rest n =
    unless (n == p.count) (OfLine (Form (line_due p))) (
    unless (length rest == 0) (Trailing (line_due p + 1)) (
    Ok p.count))

abbrev pub as_end : Place → Fields × List ℕ → Result ℕ FileFault
as_end p line = and_then (or_fault (end_count line.0) (OfLine (Form (line_due p)))) (same_count p line.1)

abbrev pub finished : Place → Result ℕ FileFault
finished p = and_then (line_at (line_due p) p.rest) (as_end p)

-- the lines of the next k cells
abbrev pub in_front : PatternCell → Pattern × Place → Result (Pattern × Place) FileFault
in_front c more = Ok (c ∷ more.0, more.1)

abbrev pub cells_from : ℕ → Place → Result (Pattern × Place) FileFault
cells_from zero p = Ok ([], p)
cells_from (suc k) p = and_then (cell_due p) (λ first. and_then (cells_from k first.1) (in_front first.0))

-- how many cell lines are due
abbrev pub due : Place → ℕ
due p = p.count - p.next

-- the place behind the line of the last cell
abbrev pub behind_cells : Place → Result Place FileFault
behind_cells p = and_then (cells_from (due p) p) (λ cells. Ok cells.1)

-- the pattern that a text is, or the first fault
abbrev pub ending : Pattern × Place → Result Pattern FileFault
ending cells = and_then (finished cells.1) (λ n. Ok cells.0)

abbrev pub cells_and_end : Place → Result Pattern FileFault
cells_and_end p = and_then (cells_from (due p) p) ending

abbrev pub pattern_in : List ℕ → Result Pattern FileFault
pattern_in text = and_then (opened text) cells_and_end

-- the verdict: how many cells, or the first fault
abbrev pub judged : List ℕ → Result ℕ FileFault
judged text = and_then (pattern_in text) (λ p. Ok (length p))

-- A reader's step: the next cell, none behind the last; its place moves only where a cell was read.

abbrev pub cell_given : Result (PatternCell × Place) FileFault → Result (Option PatternCell) FileFault
cell_given (Ok read) = Ok (Some read.0)
cell_given (Err e) = Err e

abbrev pub next_cell : Place → Result (Option PatternCell) FileFault
next_cell p = cond (nat_le p.count p.next) (Ok None) (cell_given (cell_due p))

abbrev pub moved_on : Place → Result (PatternCell × Place) FileFault → Place
moved_on p (Ok read) = read.1
moved_on p (Err e) = p

abbrev pub place_after : Place → Place
place_after p = cond (nat_le p.count p.next) p (moved_on p (cell_due p))
