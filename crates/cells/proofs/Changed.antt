-- A table changed at one place, and the cells that a table means.
use Rattle.std.proofs.Common.{◌≡◌, ℕ, Bool, true, false, cond, eqb, ◌⊎◌, None, sym, refl, ap, ◌∙◌, inl, inr}
use mathlib.Core.Path.{fun_ext}
use Rattle.std.proofs.lemmas.Bool.{cond-true, cond-false, eqb-true, eqb-false, eq-eqb, ne_eqb}
use Rattle.cells.specs.declared.cell.Colour.{Colour}
use Rattle.cells.specs.declared.cell.Colour.TheVariants.{Mark, Sweep}
use Rattle.cells.specs.declared.cell.LinkRecord.{LinkRecord}
use Rattle.cells.specs.declared.cell.CellRecord.{CellRecord}
use Rattle.cells.specs.Cells.{cells_of, changed_at}
use Rattle.cells.specs.Calls.{paint_unless, write_unless}
use Rattle.cells.specs.Record.{painted_cell, relinked_cell}

pub changed_same : {A : Type 0} (f : ℕ → A) (i : ℕ) (v : A) → changed_at f i v i ≡ v
changed_same f i v = cond-true (eqb i i) v (f i) (eq-eqb i i refl)

pub changed_other : {A : Type 0} (f : ℕ → A) (i : ℕ) (v : A) (j : ℕ) → (j ≡ i → ⊥) → changed_at f i v j ≡ f j
changed_other f i v j ne = cond-false (eqb j i) v (f j) (ne_eqb j i ne)

-- a fact about a changed table, by cases: at i, and elsewhere
pub changed_by : {A : Type 0} (P : ℕ → A → Type 0) (f : ℕ → A) (i : ℕ) (v : A) (j : ℕ) → (j ≡ i → P j v) → ((j ≡ i → ⊥) → P j (f j)) → P j (changed_at f i v j)
changed_by P f i v j here there = go (eqb j i) refl
  where
    go : (b : Bool) → eqb j i ≡ b → P j (cond b v (f j))
    go true e = here (eqb-true j i e)
    go false e = there (eqb-false j i e)

-- the other way: what holds of a changed entry held of the new value or of the old entry
pub changed_from : {A : Type 0} (P : ℕ → A → Type 0) (f : ℕ → A) (i : ℕ) (v : A) (j : ℕ) → P j (changed_at f i v j) → ((j ≡ i) × P j v) ⊎ ((j ≡ i → ⊥) × P j (f j))
changed_from P f i v j h = go (eqb j i) refl h
  where
    go : (b : Bool) → eqb j i ≡ b → P j (cond b v (f j)) → ((j ≡ i) × P j v) ⊎ ((j ≡ i → ⊥) × P j (f j))
    go true e p = inl (eqb-true j i e, p)
    go false e p = inr (eqb-false j i e, p)

-- a part of the entries: one that the change sets, and one that it leaves
pub part_set : {A B : Type 0} (p : A → B) (f : ℕ → A) (i : ℕ) (v : A) → (λ j. p (changed_at f i v j)) ≡ changed_at (λ j. p (f j)) i (p v)
part_set {A} {B} p f i v = fun_ext (λ j. go j (eqb j i))
  where
    go : (j : ℕ) (b : Bool) → p (cond b v (f j)) ≡ cond b (p v) (p (f j))
    go j true = refl
    go j false = refl

pub part_left : {A B : Type 0} (p : A → B) (f : ℕ → A) (i : ℕ) (v : A) → p v ≡ p (f i) → ◌≡◌ {A = ℕ → B} (λ j. p (changed_at f i v j)) (λ j. p (f j))
part_left p f i v e = fun_ext (λ j. changed_by (λ k x. p x ≡ p (f k)) f i v j (λ q. e ∙ ap (λ k. p (f k)) (sym q)) (λ _. refl))

-- one entry painted, or relinked, is the cell painted, or written
pub paint_table : (n : ℕ) (f : ℕ → CellRecord) (i : ℕ) (k : Colour) → cells_of n (changed_at f i (painted_cell (f i) k)) ≡ paint_unless None (cells_of n f) i k
paint_table n f i (Mark m) =
    let v = painted_cell (f i) (Mark m) in
    let joints = part_left (λ x. x.links.joint) f i v refl in
    let lefts = part_left (λ x. x.links.left) f i v refl in
    let rights = part_left (λ x. x.links.right) f i v refl in
    let tags = part_left (λ x. x.links.tag) f i v refl in
    let marks = part_set (λ x. x.mark) f i v in
    let sweeps = part_left (λ x. x.sweep) f i v refl in
    λ t. record { size = n; joint = joints t; left = lefts t; right = rights t; tag = tags t; mark = marks t; sweep = sweeps t }
paint_table n f i (Sweep s) =
    let v = painted_cell (f i) (Sweep s) in
    let joints = part_left (λ x. x.links.joint) f i v refl in
    let lefts = part_left (λ x. x.links.left) f i v refl in
    let rights = part_left (λ x. x.links.right) f i v refl in
    let tags = part_left (λ x. x.links.tag) f i v refl in
    let marks = part_left (λ x. x.mark) f i v refl in
    let sweeps = part_set (λ x. x.sweep) f i v in
    λ t. record { size = n; joint = joints t; left = lefts t; right = rights t; tag = tags t; mark = marks t; sweep = sweeps t }

pub write_table : (n : ℕ) (f : ℕ → CellRecord) (i : ℕ) (links : LinkRecord) → cells_of n (changed_at f i (relinked_cell (f i) links)) ≡ write_unless None (cells_of n f) i links
write_table n f i links =
    let v = relinked_cell (f i) links in
    let joints = part_set (λ x. x.links.joint) f i v in
    let lefts = part_set (λ x. x.links.left) f i v in
    let rights = part_set (λ x. x.links.right) f i v in
    let tags = part_set (λ x. x.links.tag) f i v in
    let marks = part_left (λ x. x.mark) f i v refl in
    let sweeps = part_left (λ x. x.sweep) f i v refl in
    λ t. record { size = n; joint = joints t; left = lefts t; right = rights t; tag = tags t; mark = marks t; sweep = sweeps t }
