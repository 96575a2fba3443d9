-- The invariant holds of a new store.
use Rattle.std.proofs.Common.{◌≡◌, ℕ, suc, ◌≤◌, Bool, true, false, cond, ltb, refl, arith}
use Rattle.std.proofs.lemmas.Bool.{ltb-true}
use Rattle.cells.specs.declared.content.Content.TheVariants.{Nothing, Cell}
use Rattle.cells.specs.Calls.{InRange}
use Rattle.model.specs.Invariant.{Invariant}
use Rattle.model.specs.State.{opened}
use Rattle.model.proofs.Basics.{not_both_colours, not_both_tags}
use Rattle.model.proofs.FreeList.{free_opened}

link_range : (m i : ℕ) → InRange m (cond (ltb (suc i) m) (Cell (suc i)) Nothing)
link_range m i = go (ltb (suc i) m) refl
  where
    go : (b : Bool) → ltb (suc i) m ≡ b → InRange m (cond b (Cell (suc i)) Nothing)
    go true e = ltb-true (suc i) m e
    go false e = tt

pub opened_keeps : (m r : ℕ) → m ≤ 16384 → Invariant (opened m r)
opened_keeps m r few = record {
  few = few;
  some_hold = omega arith;
  hold_range = λ h. tt;
  left_range = link_range m;
  right_range = λ i. tt;
  stage_range = λ q e. let z : ◌≡◌ {A = ℕ} 0 q = cc in omega arith;
  place_range = omega arith;
  swept = λ i l. refl;
  sweep_range = λ i b. absurd (not_both_colours refl b);
  held_kept = λ h c q. absurd (let z = q.1 in grind arith);
  named_kept = λ i c k n. absurd (not_both_tags refl k.1);
  dark_kept = λ i d. absurd d;
  black_names = λ i c b n. absurd b;
  visited_dark = λ h c l q. absurd (omega arith);
  ended_black = λ e i d. absurd d;
  free_list = free_opened m;
}
