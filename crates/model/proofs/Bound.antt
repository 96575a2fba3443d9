-- The bounds: K units contain a turn, and 3 × K units without a free cell show that every cell is reached.
use Rattle.std.proofs.Common.{◌≡◌, ℕ, zero, suc, ◌+◌, ◌-◌, ◌*◌, ◌<◌, ◌≤◌, Bool, true, false, cond, ltb, ◌↔◌, List, [], ◌∷◌, ◌++◌, length, Some, None, Option, sym, refl, ap, ◌∙◌, inl, inr, arith}
use Rattle.std.proofs.lemmas.Bool.{both_ways, cases_eq, cases_lt, cond-true}
use Rattle.cells.specs.declared.content.Content.{Content}
use Rattle.cells.specs.declared.cell.Tag.TheVariants.{Used}
use Rattle.cells.specs.declared.cell.MarkColour.{MarkColour}
use Rattle.cells.specs.declared.cell.MarkColour.TheVariants as mark
use Rattle.cells.specs.declared.cell.SweepColour.TheVariants as sweep
use Rattle.cells.specs.Cells.{changed_at}
use Rattle.cells.specs.Record.{as_sweep, is_grey}
use Rattle.cells.proofs.Changed.{changed_other, changed_same}
use Rattle.shading.specs.Shading.{shaded}
use Rattle.model.specs.declared.stage.Stage.{Stage}
use Rattle.model.specs.declared.stage.Stage.TheVariants.{AtHold, AtCell, Ended}
use Rattle.model.specs.Collector.{after_mark, after_unit, after_units, can_turn, mark_and_sweep, mark_at, mark_found, next_grey, next_stage, span, sweep_answer, turned}
use Rattle.model.specs.FreeList.{none_free}
use Rattle.model.specs.History.{Event.marks as a_mark, Event.sweeps as a_sweep, Event.turns as a_turn, at, units_moments}
use Rattle.model.specs.Invariant.{Invariant, IsBlack}
use Rattle.model.specs.Reach.{Full, Reached}
use Rattle.model.specs.Runs.{has_turn}
use Rattle.model.specs.State.{State, size_of}
use Rattle.model.specs.Take.{Pace, hunt_for, units_for, worked}
use Rattle.model.proofs.Basics.{free_or_used, not_both_colours, not_both_tags, white_or_black}
use Rattle.model.proofs.Moves.{Rolled, Rolled.rolls, Rolled.rests, Swept, Swept.put, Swept.past, Swept.idle, as_sweep_black, cannot_turn, half_keeps, next_found, sweeps_how, turn_keeps, turns_how, unit_keeps}
use Rattle.model.proofs.Phases.{Condemned, pass_touch}
use Rattle.model.proofs.Reached.{SameReach, half_reach, reach_then, rolled_reach}
use Rattle.model.proofs.Runs.{reached_kept, turned_touched}
use Rattle.model.proofs.Shade.{black_before, black_dark, shaded_black}
use Rattle.model.proofs.Steps.{mark_quiet}
use Rattle.model.proofs.Touched.{Quiet, Touched, Touched.by_mark}

-- Marks left until marking has ended: at a cell, one for each cell that is not black and one more that ends it; at a hold,
-- one for each hold left besides.

abbrev pub black_mark : MarkColour → Bool
black_mark mark.White = false
black_mark mark.Grey = false
black_mark mark.Black = true

is_black : (m : MarkColour) → IsBlack m → black_mark m ≡ true
is_black mark.White b = absurd b
is_black mark.Grey b = absurd b
is_black mark.Black b = refl

black_is : (m : MarkColour) → black_mark m ≡ true → IsBlack m
black_is mark.White e = absurd (grind arith)
black_is mark.Grey e = absurd (grind arith)
black_is mark.Black e = tt

-- how many of the first n are not black
abbrev pub not_black : (ℕ → MarkColour) → ℕ → ℕ
not_black marks zero = 0
not_black marks (suc n) = cond (black_mark (marks n)) 0 1 + not_black marks n

not_black_le : (marks : ℕ → MarkColour) (n : ℕ) → not_black marks n ≤ n
not_black_le marks zero = omega arith
not_black_le marks (suc n) = let q = not_black_le marks n in elim (black_mark (marks n)) as (λ b. cond b 0 1 + not_black marks n ≤ suc n) [ true ↦ omega arith | false ↦ omega arith ]

not_black_same : (marks marks' : ℕ → MarkColour) (n : ℕ) → ((i : ℕ) → i < n → black_mark (marks' i) ≡ black_mark (marks i)) → not_black marks' n ≡ not_black marks n
not_black_same marks marks' zero e = refl
not_black_same marks marks' (suc n) e = let q = not_black_same marks marks' n (λ i l. e i (omega arith)) in let z = e n (omega arith) in rw (z, q)

not_black_less : (marks marks' : ℕ → MarkColour) (n i : ℕ) → i < n → black_mark (marks i) ≡ false → black_mark (marks' i) ≡ true → ((j : ℕ) → (j ≡ i → ⊥) → black_mark (marks' j) ≡ black_mark (marks j)) → not_black marks' n < not_black marks n
not_black_less marks marks' zero i l a b e = absurd (omega arith)
not_black_less marks marks' (suc n) i l a b e = elim (cases_eq i n) [
  | inl z ↦ (let q = not_black_same marks marks' n (λ j h. e j (omega arith)) in let a2 : black_mark (marks n) ≡ false = rw z at a in let b2 : black_mark (marks' n) ≡ true = rw z at b in rw (a2, b2) (omega arith))
  | inr z ↦ (let q = not_black_less marks marks' n i (omega arith) a b e in let y : black_mark (marks' n) ≡ black_mark (marks n) = e n (omega arith) in rw y (omega arith))
]

abbrev pub marks_left : ℕ → (ℕ → MarkColour) → ℕ → Stage → ℕ
marks_left hold_count marks size (AtHold r) = (hold_count - r) + not_black marks size + 1
marks_left hold_count marks size (AtCell k) = not_black marks size + 1
marks_left hold_count marks size Ended = 0

abbrev pub marks_due : State → ℕ
marks_due s = marks_left s.hold_count s.cells.mark (size_of s) s.stage

abbrev pub sweeps_due : State → ℕ
sweeps_due s = size_of s - s.place

-- shading makes nothing black
shaded_same : (marks : ℕ → MarkColour) (x : Content) (i : ℕ) → black_mark (shaded marks x i) ≡ black_mark (marks i)
shaded_same marks x i = go (black_mark (marks i)) refl (black_mark (shaded marks x i)) refl
  where
    go : (a : Bool) → black_mark (marks i) ≡ a → (b : Bool) → black_mark (shaded marks x i) ≡ b → black_mark (shaded marks x i) ≡ black_mark (marks i)
    go true e true f = f ∙ sym e
    go false e false f = f ∙ sym e
    go true e false f = absurd (both_ways _ f (is_black _ (shaded_black marks x i (black_is (marks i) e))))
    go false e true f = absurd (both_ways _ e (is_black _ (black_before marks x i (black_is _ f))))

next_due : (hold_count r : ℕ) (marks : ℕ → MarkColour) (size : ℕ) → r < hold_count → marks_left hold_count marks size (next_stage hold_count r) ≤ ((hold_count - r) + not_black marks size + 1) - 1
next_due hold_count r marks size l = go (ltb (suc r) hold_count)
  where
    go : (b : Bool) → marks_left hold_count marks size (cond b (AtHold (suc r)) (AtCell 0)) ≤ ((hold_count - r) + not_black marks size + 1) - 1
    go true = omega arith
    go false = omega arith

grey_not_black : (m : MarkColour) → is_grey m ≡ true → black_mark m ≡ false
grey_not_black mark.White e = refl
grey_not_black mark.Grey e = refl
grey_not_black mark.Black e = grind arith

-- every mark lowers what is left, until nothing is
mark_due : (s : State) → Invariant s → marks_due (after_mark s) ≤ marks_due s - 1
mark_due s v = go s.stage refl
  where
    found : (f : Option ℕ) → ((i : ℕ) → f ≡ Some i → (i < size_of s) × (black_mark (s.cells.mark i) ≡ false)) → marks_due (mark_found s f) ≤ (not_black s.cells.mark (size_of s) + 1) - 1
    found None b = omega arith
    found (Some i) b =
        let m1 = shaded s.cells.mark (s.cells.left i) in
        let m2 = shaded m1 (s.cells.right i) in
        let q : not_black (changed_at m2 i mark.Black) (size_of s) < not_black s.cells.mark (size_of s) = not_black_less s.cells.mark (changed_at m2 i mark.Black) (size_of s) i (b i refl).0 (b i refl).1 (ap black_mark (changed_same m2 i mark.Black)) (λ j n. ap black_mark (changed_other m2 i mark.Black j n) ∙ shaded_same m1 (s.cells.right i) j ∙ shaded_same s.cells.mark (s.cells.left i) j) in
        omega arith

    go : (g : Stage) → s.stage ≡ g → marks_due (mark_at s g) ≤ marks_due s - 1
    go (AtHold r) e =
        let l : r < s.hold_count = v.stage_range r e in
        let o : not_black (shaded s.cells.mark (s.hold r)) (size_of s) ≡ not_black s.cells.mark (size_of s) = not_black_same s.cells.mark (shaded s.cells.mark (s.hold r)) (size_of s) (λ i _. shaded_same s.cells.mark (s.hold r) i) in
        let q = next_due s.hold_count r (shaded s.cells.mark (s.hold r)) (size_of s) l in
        rw e (omega arith)
    go (AtCell k) e = rw e (found (next_grey s.cells k) (λ i z. let w = next_found s.cells k i z in (w.0, grey_not_black (s.cells.mark i) w.1)))
    go Ended e = rw e (omega arith)

due_none : (hold_count : ℕ) (marks : ℕ → MarkColour) (size : ℕ) (g : Stage) → marks_left hold_count marks size g ≤ 0 → g ≡ Ended
due_none hold_count marks size (AtHold r) l = absurd (omega arith)
due_none hold_count marks size (AtCell k) l = absurd (omega arith)
due_none hold_count marks size Ended l = refl

pub due_le : (s : State) → marks_due s ≤ span s
due_le s = go s.stage
  where
    go : (g : Stage) → marks_left s.hold_count s.cells.mark (size_of s) g ≤ span s
    go (AtHold r) = let q = not_black_le s.cells.mark (size_of s) in omega arith
    go (AtCell k) = let q = not_black_le s.cells.mark (size_of s) in omega arith
    go Ended = omega arith

-- every sweep lowers what is left to sweep
swept_due : (s t : State) (a : Option (ℕ × Bool)) → Swept s a t → sweeps_due t ≤ sweeps_due s - 1
swept_due s t a (put on used lost) = omega arith
swept_due s t a (past on stays) = omega arith
swept_due s t a (idle l) = omega arith

quiet_sweeps : (s t : State) → Quiet s t → sweeps_due t ≡ sweeps_due s
quiet_sweeps s t q = let a = q.size_is in let b = q.place_is in omega arith

quiet_marks : (s t : State) (a : Option (ℕ × Bool)) → Swept s a t → marks_due t ≡ marks_due s
quiet_marks s t a (put on used lost) = refl
quiet_marks s t a (past on stays) = refl
quiet_marks s t a (idle l) = refl

-- Mark and sweep in one unit lower both.
pub record Halved (s t : State) : Type 0 where
  pub kept : Invariant t
  pub reach : SameReach s t
  pub marks : marks_due t ≤ marks_due s - 1
  pub sweeps_on_lem : sweeps_due t ≤ sweeps_due s - 1

pub halved : (s : State) → Invariant s → Halved s (mark_and_sweep s)
halved s v =
    let a = mark_due s v in
    let b = quiet_marks (after_mark s) (mark_and_sweep s) (sweep_answer (after_mark s)) (sweeps_how (after_mark s)) in
    let c = swept_due (after_mark s) (mark_and_sweep s) (sweep_answer (after_mark s)) (sweeps_how (after_mark s)) in
    let d = quiet_sweeps s (after_mark s) (mark_quiet s v) in
    record { kept = half_keeps s v; reach = half_reach s v; marks = omega (arith, a, b); sweeps_on_lem = omega (arith, c, d) }

-- so a unit that does not turn leaves less of both, and some of it
no_rest : (s m : State) (k : ℕ) → Halved s m → (m.stage ≡ Ended → m.place ≡ size_of m → ⊥) → marks_due s ≤ k → sweeps_due s ≤ k → k ≤ 1 → ⊥
no_rest s m k h r d p l =
    let a = h.marks in
    let b = h.sweeps_on_lem in
    let i = h.kept.place_range in
    r (due_none m.hold_count m.cells.mark (size_of m) m.stage (omega arith)) (omega arith)

-- Any K units in a row contain a turn.
turn_within : (n k : ℕ) (s : State) → Invariant s → marks_due s ≤ k → sweeps_due s ≤ k → 0 < k → k ≤ n → has_turn (units_moments n s) ≡ true
turn_within zero k s v d p o l = absurd (omega arith)
turn_within (suc n) k s v d p o l = roll (can_turn (mark_and_sweep s)) refl (halved s v) (turn_within n)
  where
    roll : (b : Bool) → can_turn (mark_and_sweep s) ≡ b → Halved s (mark_and_sweep s) → ((k : ℕ) (t : State) → Invariant t → marks_due t ≤ k → sweeps_due t ≤ k → 0 < k → k ≤ n → has_turn (units_moments n t) ≡ true)
        → has_turn ((at s a_mark ∷ at (after_mark s) (a_sweep (sweep_answer (after_mark s))) ∷ cond b (at (mark_and_sweep s) a_turn ∷ []) []) ++ units_moments n (cond b (turned (mark_and_sweep s)) (mark_and_sweep s))) ≡ true
    roll true e h rec = refl
    roll false e h rec =
        let a = h.marks in
        let b = h.sweeps_on_lem in
        let more : 1 < k = elim (cases_lt 1 k) [ inl q ↦ q | inr q ↦ absurd (no_rest s (mark_and_sweep s) k h (cannot_turn (mark_and_sweep s) e) d p q) ] in
        rec (k - 1) (mark_and_sweep s) h.kept (omega arith) (omega arith) (omega arith) (omega arith)

pub span_has_turn : (s : State) → Invariant s → has_turn (units_moments (span s) s) ≡ true
span_has_turn s v = turn_within (span s) (span s) s v (due_le s) (omega arith) (omega arith) (omega arith)

-- Hunting for a free cell.

abbrev pub NoneFree : State → Type 0
NoneFree s = none_free s.free ≡ true

none_is : (xs : List ℕ) → none_free xs ≡ true → xs ≡ []
none_is [] e = refl
none_is (x ∷ xs) e = absurd (grind arith)

pushed_some : (xs : List ℕ) (y : ℕ) → none_free (xs ++ (y ∷ [])) ≡ true → ⊥
pushed_some [] y e = grind arith
pushed_some (x ∷ xs) y e = grind arith

pub hunt_on : (n : ℕ) (s : State) → NoneFree s → hunt_for (suc n) s ≡ hunt_for n (after_unit s)
hunt_on n s e = cond-true (none_free s.free) (hunt_for n (after_unit s)) s e

-- a hunt that ends without a free cell began without one
hunt_none : (n : ℕ) (s : State) → NoneFree (hunt_for n s) → NoneFree s
hunt_none zero s e = e
hunt_none (suc n) s e = go (none_free s.free) refl e
  where
    go : (b : Bool) → none_free s.free ≡ b → NoneFree (cond b (hunt_for n (after_unit s)) s) → NoneFree s
    go true z q = z
    go false z q = q

roll_free : (m u : State) (b : Bool) → Rolled m b u → u.free ≡ m.free
roll_free m u b (rolls x y) = refl
roll_free m u b (rests x) = refl

-- a unit of such a hunt: nothing is put back, no further cell is touched, and a condemned cell waits
record Round (s : State) : Type 0 where
  half : Halved s (mark_and_sweep s)
  touch : (i : ℕ) → Touched (mark_and_sweep s) i → Touched s i
  waits : (x : ℕ) → Condemned s x → Condemned (mark_and_sweep s) x
  none : NoneFree (mark_and_sweep s)
  after : Rolled (mark_and_sweep s) (can_turn (mark_and_sweep s)) (after_unit s)

swept_touch : (s a t : State) (o : Option (ℕ × Bool)) → Quiet s a → Swept a o t → NoneFree t → (i : ℕ) → Touched t i → Touched s i
swept_touch s a t o q (put on used lost) e i h = absurd (pushed_some a.free a.place e)
swept_touch s a t o q (past on stays) e i h = q.touch i (pass_touch a i h)
swept_touch s a t o q (idle l) e i h = q.touch i h

swept_waits : (s a t : State) (o : Option (ℕ × Bool)) → Quiet s a → Swept a o t → NoneFree t → (x : ℕ) → Condemned s x → Condemned t x
swept_waits s a t o q (put on used lost) e x c = absurd (pushed_some a.free a.place e)
swept_waits s a t o q (past on stays) e x c =
    let n = q.place_is in
    let z = q.size_is in
    elim (cases_eq a.place x) [
      | inl y ↦ absurd (not_both_colours (q.sweep_is x ∙ c.3) (rw y at (stays (rw y (q.tag_is x ∙ c.1)))))
      | inr y ↦ (omega arith, q.tag_is x ∙ c.1, omega arith, changed_other a.cells.sweep a.place sweep.White x (omega arith) ∙ (q.sweep_is x ∙ c.3))
    ]
swept_waits s a t o q (idle l) e x c = let n = q.place_is in let z = q.size_is in (omega arith, q.tag_is x ∙ c.1, omega arith, q.sweep_is x ∙ c.3)

round : (n : ℕ) (s : State) → Invariant s → NoneFree (hunt_for (suc n) s) → Round s × NoneFree (hunt_for n (after_unit s))
round n s v e =
    let f : NoneFree s = hunt_none (suc n) s e in
    let g : NoneFree (hunt_for n (after_unit s)) = sym (ap (λ t. none_free t.free) (hunt_on n s f)) ∙ e in
    let h : NoneFree (mark_and_sweep s) = sym (ap none_free (roll_free (mark_and_sweep s) (after_unit s) (can_turn (mark_and_sweep s)) (turns_how (mark_and_sweep s)))) ∙ hunt_none n (after_unit s) g in (
      record {
        half = halved s v;
        touch = swept_touch s (after_mark s) (mark_and_sweep s) (sweep_answer (after_mark s)) (mark_quiet s v) (sweeps_how (after_mark s)) h;
        waits = swept_waits s (after_mark s) (mark_and_sweep s) (sweep_answer (after_mark s)) (mark_quiet s v) (sweeps_how (after_mark s)) h;
        none = h;
        after = turns_how (mark_and_sweep s);
      },
      g,
    )

-- 1. A condemned cell is put back before the sweep ends, so no hunt that long ends without a free cell.
condemned_go : (n : ℕ) (s m u : State) (b : Bool) (x : ℕ) → Condemned m x → sweeps_due s ≤ suc n → Halved s m → Rolled m b u → ((t : State) → Invariant t → Condemned t x → sweeps_due t ≤ n → NoneFree (hunt_for n t) → ⊥) → NoneFree (hunt_for n u) → ⊥
condemned_go n s m u b x c l h (rolls a p) rec z = omega arith
condemned_go n s m u b x c l h (rests r) rec z = rec m h.kept c (let p = h.sweeps_on_lem in omega arith) z

condemned_freed : (n : ℕ) (s : State) (x : ℕ) → Invariant s → Condemned s x → sweeps_due s ≤ n → NoneFree (hunt_for n s) → ⊥
condemned_freed zero s x v c l e = omega arith
condemned_freed (suc n) s x v c l e =
    let o = round n s v e in
    condemned_go n s (mark_and_sweep s) (after_unit s) (can_turn (mark_and_sweep s)) x (o.0.waits x c) l o.0.half o.0.after (λ t w d q z. condemned_freed n t x w d q z) o.1

due_turned : (m : State) → marks_due (turned m) ≤ m.hold_count + size_of m + 1
due_turned m = let q = not_black_le (turned m).cells.mark (size_of m) in omega arith

module _ (s0 : State) (x : ℕ) (within : x < size_of s0) where
  -- 2. In a round that began with no cell marked, what is marked at its end was reached: x is marked then, or condemned.
  abbrev Begun : ℕ → Type 0
  Begun n = (k : ℕ) (s : State) → Invariant s → ((i : ℕ) → Touched s i → Reached s0 i) → size_of s ≡ size_of s0 → s.hold_count ≡ s0.hold_count → marks_due s ≤ k → sweeps_due s ≤ k → 0 < k → k + span s0 ≤ n → NoneFree (hunt_for n s) → Reached s0 x

  begun_go : (n k : ℕ) (s m u : State) (b : Bool) → ((i : ℕ) → Touched m i → Reached s0 i) → size_of s ≡ size_of s0 → s.hold_count ≡ s0.hold_count → marks_due s ≤ k → sweeps_due s ≤ k → k + span s0 ≤ suc n → NoneFree m → Halved s m → Rolled m b u → Begun n → NoneFree (hunt_for n u) → Reached s0 x
  begun_go n k s m u b t es er d p l f h (rolls ended all) rec z =
      let ms = h.reach.size_is in
      elim (white_or_black (as_sweep (m.cells.mark x))) [
        | inl w ↦ absurd (condemned_freed n (turned m) x (turn_keeps m ended all h.kept) (omega arith, used, omega arith, w) (omega arith) z)
        | inr e ↦ t x (by_mark x (black_dark (m.cells.mark x) (as_sweep_black (m.cells.mark x) e)))
      ]
    where
      used : m.cells.tag x ≡ Used
      used = elim (free_or_used (m.cells.tag x)) [ inl e ↦ absurd (rw (none_is m.free f) at (h.kept.free_list.all x (let q = h.reach.size_is in omega arith) e)) | inr e ↦ e ]
  begun_go n k s m u b t es er d p l f h (rests r) rec z =
      let ms = h.reach.size_is in
      let mr = h.reach.count_is in
      let hm = h.marks in
      let hs = h.sweeps_on_lem in
      let more : 1 < k = elim (cases_lt 1 k) [ inl q ↦ q | inr q ↦ absurd (no_rest s m k h r d p q) ] in
      rec (k - 1) m h.kept t (ms ∙ es) (mr ∙ er) (omega arith) (omega arith) (omega arith) (omega arith) z

  begun : (n : ℕ) → Begun n
  begun zero k s v t es er d p o l e = absurd (omega arith)
  begun (suc n) k s v t es er d p o l e =
      let q = round n s v e in
      begun_go n k s (mark_and_sweep s) (after_unit s) (can_turn (mark_and_sweep s)) (λ i w. t i (q.0.touch i w)) es er d p l q.0.none q.0.half q.0.after (begun n) q.1

  -- 3. From any state the first turn comes within K units, and such a round begins.
  abbrev Anywhere : ℕ → Type 0
  Anywhere n = (k : ℕ) (s : State) → Invariant s → ((i : ℕ) → Reached s i → Reached s0 i) → size_of s ≡ size_of s0 → s.hold_count ≡ s0.hold_count → marks_due s ≤ k → sweeps_due s ≤ k → 0 < k → k + (span s0 + span s0) ≤ n → NoneFree (hunt_for n s) → Reached s0 x

  anywhere_go : (n k : ℕ) (s m u : State) (b : Bool) → ((i : ℕ) → Reached m i → Reached s0 i) → size_of s ≡ size_of s0 → s.hold_count ≡ s0.hold_count → marks_due s ≤ k → sweeps_due s ≤ k → k + (span s0 + span s0) ≤ suc n → 0 < k → Halved s m → Rolled m b u → Anywhere n → NoneFree (hunt_for n u) → Reached s0 x
  anywhere_go n k s m u b t es er d p l o h (rolls ended all) rec z =
      let ms = h.reach.size_is in
      let mr = h.reach.count_is in
      let dt = due_turned m in
      begun n (span s0) (turned m) (turn_keeps m ended all h.kept) (λ i q. t i (turned_touched m h.kept all i q)) (ms ∙ es) (mr ∙ er) (omega arith) (omega arith) (omega arith) (omega arith) z
  anywhere_go n k s m u b t es er d p l o h (rests r) rec z =
      let ms = h.reach.size_is in
      let mr = h.reach.count_is in
      let hm = h.marks in
      let hs = h.sweeps_on_lem in
      let more : 1 < k = elim (cases_lt 1 k) [ inl q ↦ q | inr q ↦ absurd (no_rest s m k h r d p q) ] in
      rec (k - 1) m h.kept t (ms ∙ es) (mr ∙ er) (omega arith) (omega arith) (omega arith) (omega arith) z

  anywhere : (n : ℕ) → Anywhere n
  anywhere zero k s v t es er d p o l e = absurd (omega arith)
  anywhere (suc n) k s v t es er d p o l e =
      let q = round n s v e in
      anywhere_go n k s (mark_and_sweep s) (after_unit s) (can_turn (mark_and_sweep s)) (λ i w. t i (q.0.half.reach.back i w)) es er d p l o q.0.half q.0.after (anywhere n) q.1

-- So 3 × K units without a free cell show that every cell is reached,
hunted_full : (s : State) → Invariant s → NoneFree (hunt_for (3 * span s) s) → Full s
hunted_full s v e x l = anywhere s x l (3 * span s) (span s) s v (λ i r. r) refl refl (due_le s) (omega arith) (omega arith) (omega arith) e

-- .. and where every cell is reached, none is free and none comes free.
full_none : (s : State) → Invariant s → Full s → NoneFree s
full_none s v f = go s.free refl
  where
    go : (xs : List ℕ) → s.free ≡ xs → none_free xs ≡ true
    go [] e = refl
    go (x ∷ xs) e =
        let q = v.free_list.only x (rw e (inl refl)) in
        absurd (not_both_tags q.1 (reached_kept s v x (f x q.0)).1)

full_moves : (s t : State) → SameReach s t → Full s → Full t
full_moves s t h f i l = h.onward i (f i (let z = h.size_is in omega arith))

full_unit : (s : State) → Invariant s → Full s → Invariant (after_unit s) × Full (after_unit s)
full_unit s v f =
    let h = halved s v in
    (unit_keeps s v, full_moves s (after_unit s) (reach_then s (mark_and_sweep s) (after_unit s) h.reach (rolled_reach (mark_and_sweep s) (after_unit s) (can_turn (mark_and_sweep s)) (turns_how (mark_and_sweep s)))) f)

full_hunt : (n : ℕ) (s : State) → Invariant s → Full s → NoneFree (hunt_for n s)
full_hunt zero s v f = full_none s v f
full_hunt (suc n) s v f = let q = full_unit s v f in ap (λ t. none_free t.free) (hunt_on n s (full_none s v f)) ∙ full_hunt n (after_unit s) q.0 q.1

-- a free cell stays free through units
swept_none : (a t : State) (o : Option (ℕ × Bool)) → Swept a o t → NoneFree t → NoneFree a
swept_none a t o (put on used lost) e = absurd (pushed_some a.free a.place e)
swept_none a t o (past on stays) e = e
swept_none a t o (idle l) e = e

units_none : (n : ℕ) (s : State) → Invariant s → NoneFree (after_units n s) → NoneFree s
units_none zero s v e = e
units_none (suc n) s v e =
    let q = units_none n (after_unit s) (unit_keeps s v) e in
    let m : NoneFree (mark_and_sweep s) = sym (ap none_free (roll_free (mark_and_sweep s) (after_unit s) (can_turn (mark_and_sweep s)) (turns_how (mark_and_sweep s)))) ∙ q in
    sym (ap none_free (mark_quiet s v).free_is) ∙ swept_none (after_mark s) (mark_and_sweep s) (sweep_answer (after_mark s)) (sweeps_how (after_mark s)) m

-- A take's units leave no cell free exactly if the holds reach every cell before them.
pub exactly_full : (s : State) (pace : Pace) → Invariant s → NoneFree (worked s pace) ↔ Full s
exactly_full s pace v = (λ e. to_full (none_free s.free) refl e, λ f. from_full (none_free s.free) refl f)
  where
    to_full : (b : Bool) → none_free s.free ≡ b → NoneFree (cond b (hunt_for (3 * span s) s) (after_units (units_for pace (span s) (length s.free)) s)) → Full s
    to_full true z e = hunted_full s v e
    to_full false z e = absurd (both_ways _ z (units_none (units_for pace (span s) (length s.free)) s v e))

    from_full : (b : Bool) → none_free s.free ≡ b → Full s → NoneFree (cond b (hunt_for (3 * span s) s) (after_units (units_for pace (span s) (length s.free)) s))
    from_full true z f = full_hunt (3 * span s) s v f
    from_full false z f = absurd (both_ways _ z (full_none s v f))
