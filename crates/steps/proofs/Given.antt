-- One cell more among the new ones.
use Rattle.std.proofs.Common.{◌≡◌, ℕ, Bool, true, false, cond, ◌||◌, eqb, sym, refl, ap}
use mathlib.Core.Path.{fun_ext}
use Rattle.std.proofs.lemmas.Bool.{eqb-true}
use Rattle.cells.specs.declared.cell.MarkColour.TheVariants.{Black}
use Rattle.cells.specs.declared.cell.Tag.TheVariants.{Used}
use Rattle.cells.specs.Cells.{Cells, changed_at}
use Rattle.lines.specs.declared.cell.PatternCell.{PatternCell}
use Rattle.model.specs.Take.{given_cells, new_sweep, where_new}
use Rattle.steps.specs.Steps.{cells_used}

-- each part of the cells is changed for that cell only
part_more : {A : Type 0} (new : ℕ → Bool) (i : ℕ) (g f : ℕ → A) → changed_at (where_new new g f) i (g i) ≡ where_new (λ j. new j || eqb j i) g f
part_more new i g f = fun_ext (λ j. go j (eqb j i) (new j) refl)
  where
    go : (j : ℕ) (here was : Bool) → eqb j i ≡ here → cond here (g i) (cond was (g j) (f j)) ≡ cond (was || here) (g j) (f j)
    go j true true e = ap g (sym (eqb-true j i e))
    go j true false e = ap g (sym (eqb-true j i e))
    go j false true e = refl
    go j false false e = refl

pub used_more : (c : Cells) (new : ℕ → Bool) (given : ℕ → PatternCell) (place i : ℕ) → cells_used (given_cells c place new given) i (given i) place ≡ given_cells c place (λ j. new j || eqb j i) given
used_more c new given place i = λ t. record {
  size = c.size;
  joint = part_more new i (λ j. (given j).joint) c.joint t;
  left = part_more new i (λ j. (given j).left) c.left t;
  right = part_more new i (λ j. (given j).right) c.right t;
  tag = part_more new i (λ _. Used) c.tag t;
  mark = part_more new i (λ _. Black) c.mark t;
  sweep = part_more new i (new_sweep place) c.sweep t;
}
