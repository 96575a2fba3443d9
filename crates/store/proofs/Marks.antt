-- A mark of the store is a mark of its state.
use Rattle.std.proofs.Common.{◌≡◌, ℕ, ◌<◌, Some, None, Option, sym, refl, ap, ◌∙◌, subst}
use Rattle.cells.specs.declared.heap.Heap.{Ghosts}
use Rattle.model.specs.declared.stage.Stage.{Stage}
use Rattle.model.specs.declared.stage.Stage.TheVariants.{AtHold, AtCell, Ended}
use Rattle.model.specs.declared.answer.MarkAnswer.{MarkAnswer}
use Rattle.model.specs.Collector.{after_mark, mark_answer, mark_answer_at, mark_at, mark_found, next_grey, stage_after, stage_answer}
use Rattle.model.specs.Invariant.{Invariant}
use Rattle.model.specs.State.{State, with_cells, with_stage}
use Rattle.model.proofs.Moves.{mark_keeps, next_found}
use Rattle.steps.specs.Steps.{cells_blackened}
use Rattle.store.specs.declared.whole.Store.{Store}
use Rattle.store.specs.Marking.{found_at, found_cells, marked_cells}
use Rattle.store.specs.View.{InState, WellFormed, view, with_heap}
use Rattle.store.proofs.Forming.{in_state, list_stays}

module _ {H : Type 0} (memory : Ghosts H) (s : Store H) where
  -- the cell that is found is black
  pub blackened_found : (h : H) (k i : ℕ) → WellFormed memory s → Some i ≡ next_grey (memory.meaning s.heap) k
      → (memory.sound s.heap → i < (memory.meaning s.heap).size → memory.meaning h ≡ cells_blackened (memory.meaning s.heap) i) → (memory.sound s.heap → memory.sound h)
      → (memory.meaning h ≡ found_cells (memory.meaning s.heap) (next_grey (memory.meaning s.heap) k)) × memory.sound h
  blackened_found h k i a e black kept = (black a.heap (next_found (memory.meaning s.heap) k i (sym e)).0 ∙ ap (found_cells (memory.meaning s.heap)) e, kept a.heap)

-- a mark, put together from its two parts
mark_parts : (s : State) (g : Stage) → s.stage ≡ g → with_stage (with_cells s (marked_cells s g)) (stage_after s.hold_count g (found_at s.cells g)) ≡ mark_at s g
mark_parts s (AtHold r) e = refl
mark_parts s (AtCell k) e = found (next_grey s.cells k)
  where
    found : (f : Option ℕ) → with_stage (with_cells s (found_cells s.cells f)) (stage_after s.hold_count (AtCell k) f) ≡ mark_found s f
    found None = refl
    found (Some i) = refl
mark_parts s Ended e = ap (with_stage s) (sym e)

answer_parts : (s : State) (g : Stage) → stage_answer g (found_at s.cells g) ≡ mark_answer_at s g
answer_parts s (AtHold r) = refl
answer_parts s (AtCell k) = refl
answer_parts s Ended = refl

abbrev pub staged : {H : Type 0} → Store H → Stage → Store H
staged s g = record s { stage = g }

-- the store t after the first part, and then the step of its stage
module _ {H : Type 0} (memory : Ghosts H) (s t : Store H) (found : Option ℕ) (a : WellFormed memory s) (rest : t ≡ with_heap s t.heap) (is_found : found ≡ found_at (memory.meaning s.heap) s.stage) where
  pub mark_state : (g : Stage) → (memory.meaning t.heap ≡ marked_cells (view memory s) s.stage) × memory.sound t.heap → g ≡ stage_after t.holds.count t.stage found → InState memory (staged t g) (after_mark (view memory s))
  mark_state g cells e =
      let next : Stage = stage_after s.holds.count s.stage (found_at (memory.meaning s.heap) s.stage) in
      let whole : with_stage (with_cells (view memory s) (marked_cells (view memory s) s.stage)) next ≡ after_mark (view memory s) = mark_parts (view memory s) s.stage refl in
      let is_next : g ≡ next = e ∙ ap (λ x. stage_after x.holds.count x.stage found) rest ∙ ap (stage_after s.holds.count s.stage) is_found in
      let st : InState memory (staged (with_heap s t.heap) next) (with_stage (with_cells (view memory s) (marked_cells (view memory s) s.stage)) next) = in_state memory (staged (with_heap s t.heap) next) (with_stage (with_cells (view memory s) (marked_cells (view memory s) s.stage)) next) cells.0 cells.1 (subst Invariant (sym whole) (mark_keeps (view memory s) a.invariant)) (record {
        count_is = refl;
        holds_are = refl;
        stage_is = refl;
        place_is = refl;
        list = list_stays memory s (marked_cells (view memory s) s.stage).size a (size_stays s.stage);
      }) in
      subst (λ x. InState memory (staged x g) (after_mark (view memory s))) (sym rest) (subst (λ z. InState memory (staged (with_heap s t.heap) z) (after_mark (view memory s))) (sym is_next) (subst (InState memory (staged (with_heap s t.heap) next)) whole st))
    where
      size_stays : (g : Stage) → (marked_cells (view memory s) g).size ≡ (memory.meaning s.heap).size
      size_stays (AtHold r) = refl
      size_stays (AtCell k) = found_size (next_grey (memory.meaning s.heap) k)
        where
          found_size : (f : Option ℕ) → (found_cells (memory.meaning s.heap) f).size ≡ (memory.meaning s.heap).size
          found_size None = refl
          found_size (Some i) = refl
      size_stays Ended = refl

  pub mark_told : (answer : MarkAnswer) → answer ≡ stage_answer t.stage found → answer ≡ mark_answer (view memory s)
  mark_told answer e = e ∙ ap (λ x. stage_answer x.stage found) rest ∙ ap (stage_answer s.stage) is_found ∙ answer_parts (view memory s) s.stage
