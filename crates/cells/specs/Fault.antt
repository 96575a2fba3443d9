-- What a heap refuses, in the order in which it asks.
use Rattle.std.specs.Prelude.{ℕ, cond, Some, None, Ok, Err, Option, Result, nat_le, nat_lt}
use Rattle.cells.specs.declared.content.Content.{Content}
use Rattle.cells.specs.declared.content.Content.TheVariants.{Nothing, Yarn, Cell}
use Rattle.cells.specs.declared.fault.HeapFault.{HeapFault}
use Rattle.cells.specs.declared.fault.HeapFault.TheVariants.{YarnRange, CellRange, GreyLeft}

-- the number of each refusal in the table of refusals
abbrev pub fault_number : HeapFault → ℕ
fault_number YarnRange = 5
fault_number CellRange = 18
fault_number GreyLeft = 19

-- what a call answers: the refusal if there is one, else a
abbrev pub answer : {A : Type 0} → Option HeapFault → A → Result A HeapFault
answer None a = Ok a
answer (Some fault) a = Err fault

-- what a call leaves: `new` if it is not refused, else `old`
abbrev pub unless_fault : {A : Type 0} → Option HeapFault → A → A → A
unless_fault None new old = new
unless_fault (Some fault) new old = old

-- the first of two refusals
abbrev pub or_else : Option HeapFault → Option HeapFault → Option HeapFault
or_else None second = second
or_else (Some fault) second = Some fault

-- a cell number is refused if it is not below the size
abbrev pub index_fault : ℕ → ℕ → Option HeapFault
index_fault size i = cond (nat_lt i size) None (Some CellRange)

-- a content is refused if it is a yarn above 4,095 or a cell that does not exist
abbrev pub content_fault : ℕ → Content → Option HeapFault
content_fault size Nothing = None
content_fault size (Yarn y) = cond (nat_le y 4095) None (Some YarnRange)
content_fault size (Cell i) = index_fault size i

-- a write asks for the index, then for the left content, then for the right one
abbrev pub write_fault : ℕ → ℕ → Content → Content → Option HeapFault
write_fault size i left right = or_else (index_fault size i) (or_else (content_fault size left) (content_fault size right))

-- an exchange is refused if there is a first grey cell
abbrev pub grey_fault : Option ℕ → Option HeapFault
grey_fault None = None
grey_fault (Some i) = Some GreyLeft
