-- The free list: which cells are on it, and how they are linked. Only this file says what a free cell contains.
use Rattle.std.specs.Prelude.{◌≡◌, ℕ, ◌<◌, Bool, true, false, List, [], ◌∷◌}
use Rattle.cells.specs.declared.content.Content.{Content}
use Rattle.cells.specs.declared.content.Content.TheVariants.{Nothing, Cell}
use Rattle.cells.specs.declared.content.Joint.TheVariants.{Beside}
use Rattle.cells.specs.declared.cell.Tag.TheVariants.{Free}
use Rattle.cells.specs.Cells.{Cells, changed_at}
use Rattle.numbering.specs.Lists.{In, Once}

abbrev pub none_free : List ℕ → Bool
none_free [] = true
none_free (x ∷ xs) = false

-- the left contents once cell i is linked behind the last cell of a list
abbrev pub linked_behind : List ℕ → (ℕ → Content) → ℕ → ℕ → Content
linked_behind [] left i = left
linked_behind (x ∷ []) left i = changed_at left x (Cell i)
linked_behind (x ∷ y ∷ ys) left i = linked_behind (y ∷ ys) left i

-- cell i is put back behind the end: it is free, and the last cell before it names it on its left
abbrev pub put_back_cells : Cells → List ℕ → ℕ → Cells
put_back_cells c free i = record {
  size = c.size;
  joint = changed_at c.joint i Beside;
  left = changed_at (linked_behind free c.left i) i Nothing;
  right = changed_at c.right i Nothing;
  tag = changed_at c.tag i Free;
  mark = c.mark;
  sweep = c.sweep;
}

-- each cell of the list has the next one as left, and the last one has nothing
abbrev pub Linked : (ℕ → Content) → List ℕ → Type 0
Linked left [] = Unit {0}
Linked left (x ∷ []) = left x ≡ Nothing
Linked left (x ∷ y ∷ ys) = (left x ≡ Cell y) × Linked left (y ∷ ys)

-- The list has exactly the free cells, each once, linked in this order; their joint is `b` and their right nothing.
pub record IsFreeList (c : Cells) (free : List ℕ) : Type 0 where
  pub only : (i : ℕ) → In i free → (i < c.size) × (c.tag i ≡ Free)
  pub all : (i : ℕ) → i < c.size → c.tag i ≡ Free → In i free
  pub once : Once free
  pub linked : Linked c.left free
  pub joints : (i : ℕ) → In i free → c.joint i ≡ Beside
  pub rights : (i : ℕ) → In i free → c.right i ≡ Nothing
