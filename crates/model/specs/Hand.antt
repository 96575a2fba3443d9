-- The designer's hand (the mutator): yarn, drop, copy, follow and tie, each with its answer, refusals in their order, and
-- the state it leaves. What copy, follow and tie move, they shade.
use Rattle.std.specs.Prelude.{ℕ, Bool, Ok, Err, Result, nat_le, nat_lt}
use Rattle.cells.specs.declared.content.Content.{Content}
use Rattle.cells.specs.declared.content.Content.TheVariants.{Nothing, Yarn, Cell}
use Rattle.cells.specs.declared.cell.Side.{Side}
use Rattle.cells.specs.declared.cell.Side.TheVariants.{Left, Right}
use Rattle.cells.specs.Cells.{Cells, changed_at}
use Rattle.archive.specs.Reading.{and_then, unless}
use Rattle.model.specs.declared.fault.StoreFault.{StoreFault}
use Rattle.model.specs.declared.fault.StoreFault.TheVariants.{NoHold, NoCellHeld, YarnRange}
use Rattle.model.specs.Collector.{shade}
use Rattle.model.specs.State.{State, with_cells, with_hold}

-- what an accepted call leaves, and what a refused one leaves
abbrev pub if_ok : {X E : Type 0} → Result X E → (X → State) → State → State
if_ok (Ok x) new old = new x
if_ok (Err e) new old = old

-- an accepted call that has nothing to tell
abbrev pub done : {X E : Type 0} → Result X E → Result (Unit {0}) E
done r = and_then r (λ _. Ok tt)

abbrev pub is_hold : State → ℕ → Bool
is_hold s h = nat_lt h s.hold_count

-- the cell that a content is, or refusal 4
abbrev pub held_cell : Content → Result ℕ StoreFault
held_cell Nothing = Err NoCellHeld
held_cell (Yarn y) = Err NoCellHeld
held_cell (Cell c) = Ok c

-- yarn and drop

abbrev pub yarn_answer : State → ℕ → ℕ → Result (Unit {0}) StoreFault
yarn_answer s h y = unless (is_hold s h) NoHold (unless (nat_le y 4095) YarnRange (Ok tt))

abbrev pub after_yarn : State → ℕ → ℕ → State
after_yarn s h y = if_ok (yarn_answer s h y) (λ _. with_hold s h (Yarn y)) s

abbrev pub drop_answer : State → ℕ → Result (Unit {0}) StoreFault
drop_answer s h = unless (is_hold s h) NoHold (Ok tt)

abbrev pub after_drop : State → ℕ → State
after_drop s h = if_ok (drop_answer s h) (λ _. with_hold s h Nothing) s

-- copy

-- a content moves into hold h
abbrev pub move_into : State → ℕ → Content → State
move_into s h x = with_hold (shade s x) h x

abbrev pub copy_answer : State → ℕ → ℕ → Result (Unit {0}) StoreFault
copy_answer s h g = unless (is_hold s h) NoHold (unless (is_hold s g) NoHold (Ok tt))

abbrev pub after_copy : State → ℕ → ℕ → State
after_copy s h g = if_ok (copy_answer s h g) (λ _. move_into s h (s.hold g)) s

-- follow and tie

-- the cell in hold h, where h and g are holds
abbrev pub cell_beside : State → ℕ → ℕ → Result ℕ StoreFault
cell_beside s h g = unless (is_hold s h) NoHold (unless (is_hold s g) NoHold (held_cell (s.hold h)))

-- what cell i contains on a side
abbrev pub content_at : Cells → Side → ℕ → Content
content_at c Left i = c.left i
content_at c Right i = c.right i

abbrev pub follow_answer : State → ℕ → ℕ → Result (Unit {0}) StoreFault
follow_answer s h g = done (cell_beside s h g)

abbrev pub after_follow : State → ℕ → Side → ℕ → State
after_follow s h side g = if_ok (cell_beside s h g) (λ i. move_into s g (content_at s.cells side i)) s

-- the left contents, and the right ones, once cell i has x on a side
abbrev pub left_tied : Side → (ℕ → Content) → ℕ → Content → ℕ → Content
left_tied Left left i x = changed_at left i x
left_tied Right left i x = left

abbrev pub right_tied : Side → (ℕ → Content) → ℕ → Content → ℕ → Content
right_tied Left right i x = right
right_tied Right right i x = changed_at right i x

abbrev pub tied_cells : Cells → Side → ℕ → Content → Cells
tied_cells c side i x = record { size = c.size; joint = c.joint; left = left_tied side c.left i x; right = right_tied side c.right i x; tag = c.tag; mark = c.mark; sweep = c.sweep }

-- a content is tied to a side of cell i
abbrev pub tie_to : State → Side → ℕ → Content → State
tie_to s side i x = with_cells s (tied_cells (shade s x).cells side i x)

abbrev pub tie_answer : State → ℕ → ℕ → Result (Unit {0}) StoreFault
tie_answer s h g = done (cell_beside s h g)

abbrev pub after_tie : State → ℕ → Side → ℕ → State
after_tie s h side g = if_ok (cell_beside s h g) (λ i. tie_to s side i (s.hold g)) s
