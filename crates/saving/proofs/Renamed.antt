-- Two tables that have the same number for each cell rename the lines of a sound heap alike.
use Rattle.std.proofs.Common.{◌≡◌, ℕ, ◌<◌, List, get_or, refl, ap, arith}
use Rattle.cells.specs.declared.content.Content.{Content}
use Rattle.cells.specs.declared.content.Content.TheVariants.{Nothing, Yarn, Cell}
use Rattle.cells.specs.Calls.{InRange, Lawful}
use Rattle.cells.specs.Cells.{Cells}
use Rattle.lines.specs.declared.cell.PatternCell.{PatternCell}
use Rattle.numbering.specs.Walk.{renamed, renamed_line}
use Rattle.saving.specs.Tables.{entry_for}
use Rattle.saving.specs.Text.{line_in, number_in}

content_alike : (size : ℕ) (f g : ℕ → ℕ) → ((c : ℕ) → c < size → f c ≡ g c) → (x : Content) → InRange size x → renamed f x ≡ renamed g x
content_alike size f g same Nothing range = refl
content_alike size f g same (Yarn y) range = refl
content_alike size f g same (Cell c) range = ap Cell (same c range)

-- cell c as a line that names the heap's cells
abbrev bare_line : Cells → ℕ → PatternCell
bare_line cells c = record { joint = cells.joint c; left = cells.left c; right = cells.right c }

pub line_alike : (cells : Cells) (f g : ℕ → ℕ) (c : ℕ) → Lawful cells → ((d : ℕ) → d < cells.size → f d ≡ g d) → renamed_line f (bare_line cells c) ≡ renamed_line g (bare_line cells c)
line_alike cells f g c lawful same =
    let lefts = content_alike cells.size f g same (cells.left c) (lawful.left_in_range c) in
    let rights = content_alike cells.size f g same (cells.right c) (lawful.right_in_range c) in
    λ i. record { joint = cells.joint c; left = lefts i; right = rights i }

-- Each cell's number is in the table's range, so a line is renamed by the table alone.
pub line_renamed : (cells : Cells) (numbers order : List ℕ) (k : ℕ) → Lawful cells
    → renamed_line (λ c. get_or numbers c 0) (record { joint = cells.joint (get_or order k 0); left = cells.left (get_or order k 0); right = cells.right (get_or order k 0) }) ≡ line_in cells numbers order k
line_renamed cells numbers order k lawful =
    let few = lawful.few in
    line_alike cells (λ c. get_or numbers c 0) (number_in numbers) (get_or order k 0) lawful (λ d h. ap (λ e. get_or numbers e 0) (let same : d ≡ entry_for d = omega arith in same))
