-- What becomes of the two ends and the count of the free list.
use Rattle.std.specs.Prelude.{ℕ, ◌+◌, ◌-◌, ◌^◌, ◌==◌, cond, min, Some, None, Option}
use Rattle.store.specs.declared.free_list.FreeList.{FreeList}

-- all of m cells, in rising order
abbrev pub list_of_all : ℕ → FreeList
list_of_all m = record { front = 0; last = m - 1; count = m }

-- the last cell, if there is any
abbrev pub list_end : FreeList → Option ℕ
list_end l = cond (l.count == 0) None (Some l.last)

-- cell i behind the others; a list that is empty begins with it
abbrev pub list_pushed : FreeList → ℕ → FreeList
list_pushed l i = record { front = cond (l.count == 0) i l.front; last = i; count = min (l.count + 1) (2 ^ 32 - 1) }

-- the list without its front, behind which `next` comes
abbrev pub list_without_front : FreeList → ℕ → FreeList
list_without_front l next = record { front = next; last = l.last; count = l.count - 1 }
