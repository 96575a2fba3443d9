-- A walk as the code keeps it: two tables in memory that is lent to it.
use Rattle.std.specs.Prelude.{◌≡◌}
use Rattle.saving.specs.declared.tables.Walk.{Walk}
use Rattle.saving.specs.Tables.{Tables, tables}

-- the tables of a walk
abbrev pub tables_of : Walk → Tables
tables_of w = tables w.count w.numbers.now w.order.now

-- the walk has come to other tables, in the memory that it had
pub record Becomes (before after : Walk) (t : Tables) : Type 0 where
  pub tables_are : tables_of after ≡ t
  pub lenders : (after.numbers.ghost_name ≡ before.numbers.ghost_name) × (after.order.ghost_name ≡ before.order.ghost_name)
