-- Tags and sweep colours that cannot be two at once, and tables that are changed where cells are new.
use Rattle.std.proofs.Common.{◌≡◌, ℕ, Bool, true, false, cond, ◌⊎◌, sym, refl, ◌∙◌, inl, inr, arith}
use Rattle.std.proofs.lemmas.Bool.{cond-true, cond-false}
use Rattle.cells.specs.declared.cell.Tag.{Tag}
use Rattle.cells.specs.declared.cell.Tag.TheVariants.{Free, Used}
use Rattle.cells.specs.declared.cell.SweepColour.{SweepColour}
use Rattle.cells.specs.declared.cell.SweepColour.TheVariants.{White, Black}
use Rattle.model.specs.Take.{where_new}

pub free_or_used : (t : Tag) → (t ≡ Free) ⊎ (t ≡ Used)
free_or_used Free = inl refl
free_or_used Used = inr refl

pub not_both_tags : {t : Tag} → t ≡ Free → t ≡ Used → ⊥
not_both_tags f u = let z : Free ≡ Used = sym f ∙ u in grind arith

pub white_or_black : (c : SweepColour) → (c ≡ White) ⊎ (c ≡ Black)
white_or_black White = inl refl
white_or_black Black = inr refl

pub not_both_colours : {c : SweepColour} → c ≡ White → c ≡ Black → ⊥
not_both_colours w b = let z : White ≡ Black = sym w ∙ b in grind arith

-- an entry of a new cell, an entry of an old one, and a fact by cases
pub at_new : {A : Type 0} (new : ℕ → Bool) (g f : ℕ → A) (i : ℕ) → new i ≡ true → where_new new g f i ≡ g i
at_new new g f i e = cond-true (new i) (g i) (f i) e

pub at_old : {A : Type 0} (new : ℕ → Bool) (g f : ℕ → A) (i : ℕ) → new i ≡ false → where_new new g f i ≡ f i
at_old new g f i e = cond-false (new i) (g i) (f i) e

pub by_new : {A : Type 0} (P : A → Type 0) (new : ℕ → Bool) (g f : ℕ → A) (i : ℕ) → (new i ≡ true → P (g i)) → (new i ≡ false → P (f i)) → P (where_new new g f i)
by_new P new g f i a b = go (new i) refl
  where
    go : (t : Bool) → new i ≡ t → P (cond t (g i) (f i))
    go true e = a e
    go false e = b e
