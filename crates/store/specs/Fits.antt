-- What the parts of a call are asked with: holds that there are, and a cell that the sweeper is at.
use Rattle.std.specs.Prelude.{ℕ, ◌<◌}
use Rattle.cells.specs.declared.heap.Heap.{Ghosts}
use Rattle.store.specs.declared.take.Order.{Order}
use Rattle.store.specs.declared.whole.Store.{Store}

-- the store has hold h
abbrev pub IsHold : {H : Type 0} → Store H → ℕ → Type 0
IsHold s h = h < s.holds.count

-- the store has the three holds of an order
pub record OrderFits {H : Type 0} (s : Store H) (order : Order) : Type 0 where
  pub hold : IsHold s order.hold
  pub left : IsHold s order.left
  pub right : IsHold s order.right

-- the sweeper is at a cell, and not past the last
abbrev pub PlaceIsCell : {H : Type 0} → Ghosts H → Store H → Type 0
PlaceIsCell memory s = s.place < (memory.meaning s.heap).size
