-- The collector leaves reach as it is.
use Rattle.std.proofs.Common.{◌≡◌, ℕ, ◌<◌, Bool, Some, None, Option, refl, ◌∙◌}
use Rattle.cells.specs.declared.cell.Tag.TheVariants.{Used}
use Rattle.cells.specs.declared.cell.SweepColour.TheVariants as sweep
use Rattle.numbering.specs.Same.{Names}
use Rattle.model.specs.declared.stage.Stage.{Stage}
use Rattle.model.specs.declared.stage.Stage.TheVariants.{AtHold, AtCell, Ended}
use Rattle.model.specs.Collector.{after_mark, after_sweep, after_turn, after_unit, can_turn, mark_and_sweep, mark_at, mark_found, next_grey, pass_by, put_back, sweep_answer, turned}
use Rattle.model.specs.Invariant.{Invariant}
use Rattle.model.specs.Reach.{Reached, Reached.held, Reached.through}
use Rattle.model.specs.State.{State, size_of}
use Rattle.model.proofs.FreeList.{named_after}
use Rattle.model.proofs.Moves.{Rolled, Rolled.rolls, Rolled.rests, Swept, Swept.put, Swept.past, Swept.idle, mark_keeps, put_apart, put_names, sweeps_how, turns_how}
use Rattle.model.proofs.Runs.{reached_kept}

-- a step with the same numbers of cells and holds, and the same reach
pub record SameReach (s t : State) : Type 0 where
  pub size_is : size_of t ≡ size_of s
  pub count_is : t.hold_count ≡ s.hold_count
  pub onward : (i : ℕ) → Reached s i → Reached t i
  pub back : (i : ℕ) → Reached t i → Reached s i

pub reach_then : (s t u : State) → SameReach s t → SameReach t u → SameReach s u
reach_then s t u p q = record {
  size_is = q.size_is ∙ p.size_is;
  count_is = q.count_is ∙ p.count_is;
  onward = λ i r. q.onward i (p.onward i r);
  back = λ i r. p.back i (q.back i r);
}

-- with the same holds and contents
module _ (s t : State) (hold_is : (h : ℕ) → t.hold h ≡ s.hold h) (count_is : t.hold_count ≡ s.hold_count) (names : (i c : ℕ) → Names s.cells i c → Names t.cells i c) where
  carried : (i : ℕ) → Reached s i → Reached t i
  carried i (held h c q) = held h c (rw count_is q.0, hold_is h ∙ q.1)
  carried i (through k c r n) = through k c (carried k r) (names k c n)

same_links : (s t : State) → size_of t ≡ size_of s → t.hold_count ≡ s.hold_count → ((h : ℕ) → t.hold h ≡ s.hold h) → ((h : ℕ) → s.hold h ≡ t.hold h) → s.hold_count ≡ t.hold_count → ((i c : ℕ) → Names s.cells i c → Names t.cells i c) → ((i c : ℕ) → Names t.cells i c → Names s.cells i c) → SameReach s t
same_links s t size count there here count' on off = record { size_is = size; count_is = count; onward = carried s t there count on; back = carried t s here count' off }

pub mark_reach : (s : State) → SameReach s (after_mark s)
mark_reach s = go s.stage
  where
    found : (f : Option ℕ) → SameReach s (mark_found s f)
    found None = same_links s (mark_found s None) refl refl (λ _. refl) (λ _. refl) refl (λ _ _ n. n) (λ _ _ n. n)
    found (Some i) = same_links s (mark_found s (Some i)) refl refl (λ _. refl) (λ _. refl) refl (λ _ _ n. n) (λ _ _ n. n)

    go : (g : Stage) → SameReach s (mark_at s g)
    go (AtHold r) = same_links s (mark_at s (AtHold r)) refl refl (λ _. refl) (λ _. refl) refl (λ _ _ n. n) (λ _ _ n. n)
    go (AtCell k) = found (next_grey s.cells k)
    go Ended = same_links s s refl refl (λ _. refl) (λ _. refl) refl (λ _ _ n. n) (λ _ _ n. n)

-- a cell that is put back is not reached, and no cell that names it is
module _ (s : State) (v : Invariant s) (on : s.place < size_of s) (used : s.cells.tag s.place ≡ Used) (lost : s.cells.sweep s.place ≡ sweep.White) where
  put_onward : (i : ℕ) → Reached s i → Reached (put_back s) i
  put_onward i (held h c q) = held h c q
  put_onward i (through k c r n) =
      let kept = reached_kept s v k r in
      through k c (put_onward k r) (named_after s.cells s.free s.place v.free_list on used k c kept.1 (put_apart s v on used lost k kept) n)

  put_backward : (i : ℕ) → Reached (put_back s) i → Reached s i
  put_backward i (held h c q) = held h c q
  put_backward i (through k c r n) = let o = put_backward k r in through k c o (put_names s v on used lost k c (reached_kept s v k o) n)

pub swept_reach : (s t : State) (a : Option (ℕ × Bool)) → Invariant s → Swept s a t → SameReach s t
swept_reach s t a v (put on used lost) = record { size_is = refl; count_is = refl; onward = put_onward s v on used lost; back = put_backward s v on used lost }
swept_reach s t a v (past on stays) = same_links s (pass_by s) refl refl (λ _. refl) (λ _. refl) refl (λ _ _ n. n) (λ _ _ n. n)
swept_reach s t a v (idle l) = same_links s s refl refl (λ _. refl) (λ _. refl) refl (λ _ _ n. n) (λ _ _ n. n)

pub sweep_reach : (s : State) → Invariant s → SameReach s (after_sweep s)
sweep_reach s v = swept_reach s (after_sweep s) (sweep_answer s) v (sweeps_how s)

pub rolled_reach : (s t : State) (b : Bool) → Rolled s b t → SameReach s t
rolled_reach s t b (rolls e a) = same_links s (turned s) refl refl (λ _. refl) (λ _. refl) refl (λ _ _ n. n) (λ _ _ n. n)
rolled_reach s t b (rests r) = same_links s s refl refl (λ _. refl) (λ _. refl) refl (λ _ _ n. n) (λ _ _ n. n)

pub turn_reach : (s : State) → SameReach s (after_turn s)
turn_reach s = rolled_reach s (after_turn s) (can_turn s) (turns_how s)

pub half_reach : (s : State) → Invariant s → SameReach s (mark_and_sweep s)
half_reach s v = reach_then s (after_mark s) (mark_and_sweep s) (mark_reach s) (sweep_reach (after_mark s) (mark_keeps s v))

pub unit_reach : (s : State) → Invariant s → SameReach s (after_unit s)
unit_reach s v = reach_then s (mark_and_sweep s) (after_unit s) (half_reach s v) (turn_reach (mark_and_sweep s))
