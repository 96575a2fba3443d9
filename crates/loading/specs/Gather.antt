-- The first pass of a load: the front of the free list, told in a table.
use Rattle.std.specs.Prelude.{◌≡◌, ℕ, ◌<◌, ◌≤◌, List, ◌++◌, length, take, drop, slice_index}
use Rattle.cells.specs.Cells.{Cells}
use Rattle.model.specs.FreeList.{IsFreeList}

-- The free list begins at `front`, and has `count` cells or more; the table has room for so many.
pub record Listed (cells : Cells) (free : List ℕ) (front count : ℕ) (places : List ℕ) : Type 0 where
  pub is_free : IsFreeList cells free
  pub begins : 0 < length free → front ≡ slice_index free 0
  pub enough : count ≤ length free
  pub room : count ≤ length places

-- The table tells the first `count` cells of the list and is otherwise as it was; `next` is the cell behind them, if any.
pub record Gathered (free : List ℕ) (count : ℕ) (before after : List ℕ) (next : ℕ) : Type 0 where
  pub table : after ≡ take count free ++ drop count before
  pub begins : count < length free → next ≡ slice_index free count
