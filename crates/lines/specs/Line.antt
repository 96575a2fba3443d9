-- A line as its fields.
use Rattle.std.specs.Prelude.{◌≡◌, ℕ, cond, List, ◌∷◌, ◌++◌, is_some, Some, None, codes, Option}
use Rattle.std.specs.Str.{bytes_eq}
use Rattle.text.specs.Cut.{Lacks, cut_at}
use Rattle.lines.specs.declared.line.Line.{Line}
use Rattle.lines.specs.declared.line.Line.TheVariants.{Header, Cell, End}

-- the bytes of a line's fields, without its first word
pub data Fields : Type 0 where
  header : List ℕ → List ℕ → Fields
  cell : List ℕ → List ℕ → List ℕ → Fields
  end : List ℕ → Fields

-- what the borrowed parts of a line hold
abbrev pub fields_of : Line → Fields
fields_of (Header version count) = header version.now count.now
fields_of (Cell joint left right) = cell joint.now left.now right.now
fields_of (End count) = end count.now

abbrev pub fields_in : Option Line → Option Fields
fields_in None = None
fields_in (Some line) = Some (fields_of line)

-- fields behind a first one, parted by a tab
abbrev pub tabbed : List ℕ → List ℕ → List ℕ
tabbed first more = first ++ (9 ∷ more)

-- the bytes of a line without its line end
abbrev pub body : Fields → List ℕ
body (header version count) = tabbed (codes "pattern") (tabbed version count)
body (cell joint left right) = tabbed (codes "cell") (tabbed joint (tabbed left right))
body (end count) = tabbed (codes "end") count

-- no field has a tab
abbrev pub Tabless : Fields → Type 0
Tabless (header version count) = Lacks 9 version × Lacks 9 count
Tabless (cell joint left right) = Lacks 9 joint × Lacks 9 left × Lacks 9 right
Tabless (end count) = Lacks 9 count

-- The law of a line: the fields are the parts of the text between its tabs, behind the line's word.
abbrev pub IsLine : List ℕ → Fields → Type 0
IsLine text f = (text ≡ body f) × Tabless f

-- one field and no second
abbrev pub last_of : List ℕ × List ℕ → Option (List ℕ × List ℕ)
last_of parts = cond (is_some (cut_at 9 parts.1)) None (Some parts)

abbrev pub exactly_two : Option (List ℕ × List ℕ) → Option (List ℕ × List ℕ)
exactly_two None = None
exactly_two (Some parts) = last_of parts

-- the two fields of a text that has just two
abbrev pub two_in : List ℕ → Option (List ℕ × List ℕ)
two_in text = exactly_two (cut_at 9 text)

abbrev pub as_header : Option (List ℕ × List ℕ) → Option Fields
as_header None = None
as_header (Some parts) = Some (header parts.0 parts.1)

abbrev pub header_in : List ℕ → Option Fields
header_in text = as_header (two_in text)

abbrev pub with_joint : List ℕ → Option (List ℕ × List ℕ) → Option Fields
with_joint joint None = None
with_joint joint (Some parts) = Some (cell joint parts.0 parts.1)

abbrev pub after_joint : Option (List ℕ × List ℕ) → Option Fields
after_joint None = None
after_joint (Some parts) = with_joint parts.0 (two_in parts.1)

abbrev pub cell_in : List ℕ → Option Fields
cell_in text = after_joint (cut_at 9 text)

abbrev pub end_in : List ℕ → Option Fields
end_in text = cond (is_some (cut_at 9 text)) None (Some (end text))

abbrev pub after_word : Option (List ℕ × List ℕ) → Option Fields
after_word None = None
after_word (Some parts) =
    cond (bytes_eq parts.0 (codes "pattern")) (header_in parts.1)
    (cond (bytes_eq parts.0 (codes "cell")) (cell_in parts.1)
    (cond (bytes_eq parts.0 (codes "end")) (end_in parts.1) None))

-- the line that the bytes before a line end are
abbrev pub line_in : List ℕ → Option Fields
line_in text = after_word (cut_at 9 text)
