-- Making all cells free, one after the other.
use Rattle.std.proofs.Common.{◌≡◌, ℕ, suc, ◌+◌, ◌<◌, ◌≤◌, Bool, true, false, cond, eqb, ltb, sym, refl, ap, ◌∙◌, inl, inr, arith}
use mathlib.Core.Path.{fun_ext}
use Rattle.std.proofs.lemmas.Bool.{cases_lt, le-ltb, ltb-true}
use Rattle.cells.specs.declared.content.Content.{Content}
use Rattle.cells.specs.declared.content.Content.TheVariants.{Nothing, Cell}
use Rattle.cells.specs.declared.cell.CellRecord.{CellRecord}
use Rattle.cells.specs.Calls.{InRange, Lawful}
use Rattle.cells.specs.Cells.{Cells, cell_at, cells_of, changed_at}
use Rattle.cells.proofs.Changed.{changed_by}
use Rattle.model.specs.State.{opened_cells}
use Rattle.steps.specs.Steps.{cells_renewed, link_of}

-- cells that agree in size and in every cell are the same
pub cells_same : (c d : Cells) → c.size ≡ d.size → ((i : ℕ) → cell_at c i ≡ cell_at d i) → c ≡ d
cells_same c d e h = λ t. cells_of (e t) (fun_ext {f = cell_at c} {g = cell_at d} h t)

-- a free cell with this left
abbrev free_cell : Content → CellRecord
free_cell x = cell_at (cells_renewed (opened_cells 0) 0 x) 0

-- only the cell that is renewed is another
renewed_at : (c : Cells) (i : ℕ) (x : Content) (j : ℕ) → cell_at (cells_renewed c i x) j ≡ changed_at (cell_at c) i (free_cell x) j
renewed_at c i x j = go (eqb j i) refl
  where
    go : (b : Bool) → eqb j i ≡ b → cell_at (cells_renewed c i x) j ≡ cond b (free_cell x) (cell_at c j)
    go true e = rw e refl
    go false e = rw e refl

link_in_range : (m i : ℕ) → InRange m (link_of m i)
link_in_range m i = go (ltb (suc i) m) refl
  where
    go : (b : Bool) → ltb (suc i) m ≡ b → InRange m (cond b (Cell (suc i)) Nothing)
    go true e = ltb-true (suc i) m e
    go false e = tt

-- the cells below i are as a new store has them
pub record Resetting {H : Type 0} (mean : H → Cells) (sound : H → Type 0) (h : H) (m i : ℕ) : Type 0 where
  pub is_sound : sound h
  pub size_is : (mean h).size ≡ m
  pub done : (j : ℕ) → j < i → cell_at (mean h) j ≡ cell_at (opened_cells m) j

pub reset_none : {H : Type 0} (mean : H → Cells) (sound : H → Type 0) (h : H) (m : ℕ) → sound h → m ≡ (mean h).size → Resetting mean sound h m 0
reset_none mean sound h m s e = record { is_sound = s; size_is = sym e; done = λ j l. absurd (omega arith) }

pub reset_more : {H : Type 0} (mean : H → Cells) (sound : H → Type 0) (h k : H) (m i : ℕ) (x : Content) → i < m → x ≡ link_of m i
    → (sound h → i < (mean h).size → InRange (mean h).size x → mean k ≡ cells_renewed (mean h) i x) → (sound h → sound k) → Resetting mean sound h m i → Resetting mean sound k m (i + 1)
reset_more mean sound h k m i x l e after kept a =
    let sz = a.size_is in
    let made = after a.is_sound (omega arith) (rw (sz, e) (link_in_range m i)) in
    record {
      is_sound = kept a.is_sound;
      size_is = ap (λ c. c.size) made ∙ sz;
      done = λ j q. ap (λ c. cell_at c j) made ∙ renewed_at (mean h) i x j
          ∙ changed_by (λ n r. r ≡ cell_at (opened_cells m) n) (cell_at (mean h)) i (free_cell x) j (λ z. ap free_cell (e ∙ ap (link_of m) (sym z))) (λ n. a.done j (omega arith));
    }

pub reset_all : {H : Type 0} (mean : H → Cells) (sound : H → Type 0) (lawful : (h : H) → sound h → Lawful (mean h)) (h : H) (m i : ℕ) → m ≤ i → Resetting mean sound h m i → mean h ≡ opened_cells m
reset_all mean sound lawful h m i l a = let z = a.size_is in cells_same (mean h) (opened_cells m) z (λ j. elim (cases_lt j m) [
  | inl q ↦ a.done j (omega arith)
  | inr q ↦ (lawful h a.is_sound).new_beyond j (omega arith) ∙ ap (λ b. free_cell (cond b (Cell (suc j)) Nothing)) (sym (le-ltb (suc j) m (omega arith)))
])
