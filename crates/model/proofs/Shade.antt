-- What shading does to the mark colours.
use Rattle.std.proofs.Common.{◌≡◌, ℕ, Bool, true, false, cond, ◌⊎◌, sym, refl, ap, inl, inr, arith}
use Rattle.cells.specs.declared.content.Content.{Content}
use Rattle.cells.specs.declared.content.Content.TheVariants.{Nothing, Yarn, Cell}
use Rattle.cells.specs.declared.cell.MarkColour.{MarkColour}
use Rattle.cells.specs.declared.cell.MarkColour.TheVariants.{White, Grey, Black}
use Rattle.cells.specs.Cells.{changed_at}
use Rattle.cells.proofs.Changed.{changed_by, changed_from, changed_same}
use Rattle.shading.specs.Shading.{is_white, shaded}
use Rattle.model.specs.Invariant.{Dark, IsBlack}

-- colours
pub black_dark : (m : MarkColour) → IsBlack m → Dark m
black_dark White h = h
black_dark Grey h = tt
black_dark Black h = tt

not_white_dark : (m : MarkColour) → is_white m ≡ false → Dark m
not_white_dark White e = let z : true ≡ false = e in grind arith
not_white_dark Grey e = tt
not_white_dark Black e = tt

white_not_black : (m : MarkColour) → is_white m ≡ true → IsBlack m → ⊥
white_not_black White e b = b
white_not_black Grey e b = b
white_not_black Black e b = let z : false ≡ true = e in grind arith

-- a cell's shading, by whether the cell is white
by_white : (P : (ℕ → MarkColour) → Type 0) (marks : ℕ → MarkColour) (c : ℕ) → (is_white (marks c) ≡ true → P (changed_at marks c Grey)) → (is_white (marks c) ≡ false → P marks) → P (shaded marks (Cell c))
by_white P marks c a b = go (is_white (marks c)) refl
  where
    go : (w : Bool) → is_white (marks c) ≡ w → P (cond w (changed_at marks c Grey) marks)
    go true e = a e
    go false e = b e

-- what is grey or black stays so
pub shaded_keeps : (marks : ℕ → MarkColour) (x : Content) (j : ℕ) → Dark (marks j) → Dark (shaded marks x j)
shaded_keeps marks Nothing j d = d
shaded_keeps marks (Yarn y) j d = d
shaded_keeps marks (Cell c) j d = by_white (λ m. Dark (m j)) marks c (λ _. changed_by (λ _ m. Dark m) marks c Grey j (λ _. tt) (λ _. d)) (λ _. d)

-- the shaded cell is grey or black
pub shaded_is : (marks : ℕ → MarkColour) (x : Content) (c : ℕ) → x ≡ Cell c → Dark (shaded marks x c)
shaded_is marks x c e = rw e (by_white (λ m. Dark (m c)) marks c (λ _. rw (changed_same marks c Grey) tt) (not_white_dark (marks c)))

-- what is grey or black was so, or is the shaded cell
pub shaded_from : (marks : ℕ → MarkColour) (x : Content) (j : ℕ) → Dark (shaded marks x j) → Dark (marks j) ⊎ (x ≡ Cell j)
shaded_from marks Nothing j d = inl d
shaded_from marks (Yarn y) j d = inl d
shaded_from marks (Cell c) j d = by_white (λ m. Dark (m j) → Dark (marks j) ⊎ (Cell c ≡ Cell j)) marks c
    (λ _ h. elim (changed_from (λ _ m. Dark m) marks c Grey j h) [ inl p ↦ inr (ap Cell (sym p.0)) | inr p ↦ inl p.1 ])
    (λ _ h. inl h) d

-- black stays black, and nothing becomes black
pub shaded_black : (marks : ℕ → MarkColour) (x : Content) (j : ℕ) → IsBlack (marks j) → IsBlack (shaded marks x j)
shaded_black marks Nothing j b = b
shaded_black marks (Yarn y) j b = b
shaded_black marks (Cell c) j b = by_white (λ m. IsBlack (m j)) marks c
    (λ w. changed_by (λ _ m. IsBlack m) marks c Grey j (λ e. white_not_black (marks c) w (rw e at b)) (λ _. b))
    (λ _. b)

pub black_before : (marks : ℕ → MarkColour) (x : Content) (j : ℕ) → IsBlack (shaded marks x j) → IsBlack (marks j)
black_before marks Nothing j b = b
black_before marks (Yarn y) j b = b
black_before marks (Cell c) j b = by_white (λ m. IsBlack (m j) → IsBlack (marks j)) marks c
    (λ _ h. elim (changed_from (λ _ m. IsBlack m) marks c Grey j h) [ inl p ↦ absurd p.1 | inr p ↦ p.1 ])
    (λ _ h. h) b
