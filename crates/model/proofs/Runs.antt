-- What holds of every chain of steps.
use Rattle.std.proofs.Common.{◌≡◌, ℕ, ◌+◌, ◌<◌, Bool, true, false, ◌||◌, ◌⊎◌, ◌↔◌, List, [], ◌∷◌, ◌++◌, sym, refl, ap, ◌∙◌, inl, inr, append_assoc, append-nil, arith}
use Rattle.archive.specs.Pattern.{among}
use Rattle.cells.specs.declared.cell.Tag.TheVariants.{Free, Used}
use Rattle.cells.specs.Cells.{changed_at}
use Rattle.cells.specs.Record.{as_sweep}
use Rattle.cells.proofs.Changed.{changed_by, changed_from}
use Rattle.numbering.proofs.Lists.{among_in, among_not}
use Rattle.model.specs.declared.stage.Stage.TheVariants.{Ended}
use Rattle.model.specs.Collector.{turned}
use Rattle.model.specs.History.{Event, Event.turns, Moment, at}
use Rattle.model.specs.Invariant.{Invariant, Kept}
use Rattle.model.specs.Reach.{Reached, Reached.held, Reached.through, Stray}
use Rattle.model.specs.Runs.{FirstInFirstOut, NeverFree, NoTurns, PutBackOnce, ReachesUsed, TagsAgree, TagsTell, back_by, back_in, given_by, given_in, times_back, used_after}
use Rattle.model.specs.State.{State, size_of}
use Rattle.model.proofs.Basics.{not_both_colours, not_both_tags, white_or_black}
use Rattle.model.proofs.Moves.{as_mark_dark, as_sweep_black, black_as_sweep}
use Rattle.model.proofs.Phases.{Condemned, Done, Floating, Kind, Kind.quiet, Kind.grown, Kind.put, Kind.past, Kind.turn, Silent, Silent.marking, Silent.moving, Silent.idle, Spared, condemned_step, done_step, floating_step, spared_step}
use Rattle.model.proofs.Shade.{black_dark}
use Rattle.model.proofs.Steps.{Step, step_fine}
use Rattle.model.proofs.Touched.{Touched, Touched.by_hold, Touched.by_mark, Touched.by_name, reached_touched, touched_kept}

-- The moments from one state to another, each a step.
pub data Run : State → List Moment → State → Type 0 where
  stop : (s : State) → Run s [] s
  go : {s t u : State} {e : Event} {ms : List Moment} → Step s e t → Run t ms u → Run s (at s e ∷ ms) u

pub run_then : (s t u : State) (ms ns : List Moment) → Run s ms t → Run t ns u → Run s (ms ++ ns) u
run_then s t u ms ns (stop _) q = q
run_then s t u ms ns (go {t = a} {ms = rest} st r) q = go st (run_then a t u rest ns r q)

pub run_keeps : (s u : State) (ms : List Moment) → Invariant s → Run s ms u → Invariant u
run_keeps s u ms v (stop _) = v
run_keeps s u ms v (go {t = t} {e = e} {ms = rest} st r) = run_keeps t u rest (step_fine s t e v st).0 r

-- Reached cells are kept, so they are used.
pub reached_kept : (s : State) → Invariant s → (i : ℕ) → Reached s i → Kept s i
reached_kept s v i r = touched_kept s v i (reached_touched s i r)

-- The tags say what the history tells.

-- after a step of one of the five kinds
tell_silent : (e : Event) (used : ℕ → Bool) → Silent e → used_after e used ≡ used
tell_silent e used marking = refl
tell_silent e used moving = refl
tell_silent e used idle = refl

tags_step : (s t : State) (e : Event) (used : ℕ → Bool) → Kind s e t → TagsTell used s → TagsTell (used_after e used) t
tags_step s t e used (quiet n q) a = rw (tell_silent e used n) (λ i l. let k = a i (rw q.size_is at l) in (λ u. k.0 (sym (q.tag_is i) ∙ u), λ b. q.tag_is i ∙ k.1 b))
tags_step s t e used (grown names g) a = λ i l. given i (a i (rw g.size_is at l)) (among i names) refl
  where
    given : (i : ℕ) → (s.cells.tag i ≡ Used) ↔ (used i ≡ true) → (b : Bool) → among i names ≡ b → (t.cells.tag i ≡ Used) ↔ ((b || used i) ≡ true)
    given i k true m = (λ _. refl, λ _. (g.new_kept i (among_in i names m)).1)
    given i k false m = let o = among_not i names m in (λ u. k.0 (sym (g.tag_is i o) ∙ u), λ b. g.tag_is i o ∙ k.1 b)
tags_step s t e used (put _ l u w) a = λ i b. put_back i b
  where
    put_back : (i : ℕ) → i < size_of s → (changed_at s.cells.tag s.place Free i ≡ Used) ↔ (changed_at used s.place false i ≡ true)
    put_back i b = (
      λ z. elim (changed_from (λ _ y. y ≡ Used) s.cells.tag s.place Free i z) [ inl q ↦ absurd (not_both_tags refl q.1) | inr q ↦ changed_by (λ _ y. y ≡ true) used s.place false i (λ e. absurd (q.0 e)) (λ _. (a i b).0 q.1) ],
      λ z. elim (changed_from (λ _ y. y ≡ true) used s.place false i z) [ inl q ↦ absurd (let o : false ≡ true = q.1 in grind arith) | inr q ↦ changed_by (λ _ y. y ≡ Used) s.cells.tag s.place Free i (λ e. absurd (q.0 e)) (λ _. (a i b).1 q.1) ],
    )
tags_step s t e used (past _ l k) a = a
tags_step s t e used (turn _ x y) a = a

pub tags_agree : (s u : State) (ms : List Moment) (used : ℕ → Bool) → Invariant s → TagsTell used s → Run s ms u → TagsAgree used ms u
tags_agree s u ms used v a (stop _) = a
tags_agree s u ms used v a (go {t = t} {e = e} {ms = rest} st r) = let f = step_fine s t e v st in (a, tags_agree t u rest (used_after e used) f.0 (tags_step s t e used f.1 a) r)

-- No reached cell is free.
reaches_used : (s : State) (used : ℕ → Bool) → Invariant s → TagsTell used s → ReachesUsed used s
reaches_used s used v a i r = let k = reached_kept s v i r in (a i k.0).0 k.1

pub never_free : (s u : State) (ms : List Moment) (used : ℕ → Bool) → Invariant s → TagsTell used s → Run s ms u → NeverFree used ms u
never_free s u ms used v a (stop _) = reaches_used s used v a
never_free s u ms used v a (go {t = t} {e = e} {ms = rest} st r) =
    let f = step_fine s t e v st in
    (reaches_used s used v a, never_free t u rest (used_after e used) f.0 (tags_step s t e used f.1 a) r)

-- The free list is first in, first out.
fifo_step : (s t : State) (e : Event) → Kind s e t → given_by e ++ t.free ≡ s.free ++ back_by e
fifo_step s t e (quiet marking q) = q.free_is ∙ sym (append-nil s.free)
fifo_step s t e (quiet moving q) = q.free_is ∙ sym (append-nil s.free)
fifo_step s t e (quiet idle q) = q.free_is ∙ sym (append-nil s.free)
fifo_step s t e (grown names g) = sym g.free_is ∙ sym (append-nil s.free)
fifo_step s t e (put _ l u w) = refl
fifo_step s t e (past _ l k) = sym (append-nil s.free)
fifo_step s t e (turn _ a b) = sym (append-nil s.free)

pub first_in_first_out : (s u : State) (ms : List Moment) → Invariant s → Run s ms u → FirstInFirstOut s ms u
first_in_first_out s u ms v (stop _) = sym (append-nil s.free)
first_in_first_out s u ms v (go {t = t} {e = e} {ms = rest} st r) =
    let f = step_fine s t e v st in
    append_assoc (given_by e) (given_in rest) u.free ∙ ap (λ xs. given_by e ++ xs) (first_in_first_out t u rest f.0 r) ∙ sym (append_assoc (given_by e) t.free (back_in rest)) ∙ ap (λ xs. xs ++ back_in rest) (fifo_step s t e f.1) ∙ append_assoc s.free (back_by e) (back_in rest)

-- One cell between two turns.
module _ (x : ℕ) where
  done_run : (s u : State) (ms : List Moment) → Invariant s → Run s ms u → NoTurns ms → Done s x → (times_back x ms ≡ 0) × Done u x
  done_run s u ms v (stop _) n d = (refl, d)
  done_run s u ms v (go {t = t} {e = e} {ms = rest} st r) n d =
      let f = step_fine s t e v st in
      let a = done_step s t e x f.1 n.0 d in
      let b = done_run t u rest f.0 r n.1 a.1 in
      (omega (arith, a.0, b.0), b.1)

  spared_run : (s u : State) (ms : List Moment) → Invariant s → Run s ms u → NoTurns ms → Spared s x → (times_back x ms ≡ 0) × Spared u x
  spared_run s u ms v (stop _) n d = (refl, d)
  spared_run s u ms v (go {t = t} {e = e} {ms = rest} st r) n d =
      let f = step_fine s t e v st in
      let a = spared_step s t e x f.1 n.0 d in
      let b = spared_run t u rest f.0 r n.1 a.1 in
      (omega (arith, a.0, b.0), b.1)

  floating_run : (s u : State) (ms : List Moment) → Invariant s → Run s ms u → NoTurns ms → Floating s x → (times_back x ms ≡ 0) × Floating u x
  floating_run s u ms v (stop _) n d = (refl, d)
  floating_run s u ms v (go {t = t} {e = e} {ms = rest} st r) n d =
      let f = step_fine s t e v st in
      let a = floating_step s t e x v f.1 n.0 d in
      let b = floating_run t u rest f.0 r n.1 a.1 in
      (omega (arith, a.0, b.0), b.1)

  condemned_run : (s u : State) (ms : List Moment) → Invariant s → Run s ms u → NoTurns ms → Condemned s x → ((times_back x ms ≡ 0) × Condemned u x) ⊎ ((times_back x ms ≡ 1) × Done u x)
  condemned_run s u ms v (stop _) n d = inl (refl, d)
  condemned_run s u ms v (go {t = t} {e = e} {ms = rest} st r) n d =
      let f = step_fine s t e v st in
      elim (condemned_step s t e x f.1 n.0 d) [
        | inl a ↦ elim (condemned_run t u rest f.0 r n.1 a.1) [ inl b ↦ inl (omega (arith, a.0, b.0), b.1) | inr b ↦ inr (omega (arith, a.0, b.0), b.1) ]
        | inr a ↦ let b = done_run t u rest f.0 r n.1 a.1 in inr (omega (arith, a.0, b.0), b.1)
      ]

-- Over a turn: what is touched after it was reached before it,
pub turned_touched : (s : State) → Invariant s → s.place ≡ size_of s → (i : ℕ) → Touched (turned s) i → Reached s i
turned_touched s v all i (by_hold h c q) = held h c q
turned_touched s v all i (by_mark j d) = absurd (let b = as_mark_dark (s.cells.sweep j) d in not_both_colours (v.swept j (let z = v.sweep_range j b in omega arith)) b)
turned_touched s v all i (by_name j c t n) = through j c (turned_touched s v all j t) n

-- .. a stray is condemned or floats,
stray_turns : (s : State) → Invariant s → s.place ≡ size_of s → (x : ℕ) → Stray s x → Condemned (turned s) x ⊎ Floating (turned s) x
stray_turns s v all x st = elim (white_or_black (as_sweep (s.cells.mark x))) [
  | inl w ↦ inl (st.0.0, st.0.1, omega arith, w)
  | inr b ↦ inr ((st.0.0, st.0.1, inr b), λ t. st.1 (turned_touched s v all x t))
]

-- .. a floating cell is condemned,
floating_turns : (s : State) → (x : ℕ) → Floating s x → Condemned (turned s) x
floating_turns s x f = (
  f.0.0,
  f.0.1,
  omega arith,
  elim (white_or_black (as_sweep (s.cells.mark x))) [
    | inl w ↦ w
    | inr b ↦ absurd (f.1 (by_mark x (black_dark (s.cells.mark x) (as_sweep_black (s.cells.mark x) b))))
  ],
)

-- .. and what is done is spared.
done_turns : (s : State) → Invariant s → s.stage ≡ Ended → (x : ℕ) → Done s x → Spared (turned s) x
done_turns s v ended x d u p w = elim d.1 [ inl f ↦ not_both_tags f u | inr k ↦ not_both_colours w (black_as_sweep (s.cells.mark x) (v.ended_black ended x k)) ]

-- A chain up to a turn in it, and from there on.
record UpTo (s r u : State) (zs ds : List Moment) : Type 0 where
  before : Run s zs r
  kept : Invariant r
  ended : r.stage ≡ Ended
  all_swept : r.place ≡ size_of r
  kept_after : Invariant (turned r)
  after : Run (turned r) ds u

turn_is : (s t : State) → Kind s turns t → (t ≡ turned s) × (s.stage ≡ Ended) × (s.place ≡ size_of s)
turn_is s t (quiet n q) = elim n [ ]
turn_is s t (turn _ a b) = (refl, a, b)

up_to : (s r u : State) (zs ds : List Moment) → Invariant s → Run s (zs ++ (at r turns ∷ ds)) u → UpTo s r u zs ds
up_to s r u [] ds v (go {t = t} st rest) =
    let f = step_fine s t turns v st in
    let q = turn_is s t f.1 in
    record { before = stop s; kept = v; ended = q.1; all_swept = q.2; kept_after = rw q.0 at f.0; after = rw q.0 at rest }
up_to s r u (m ∷ zs) ds v (go {t = t} {e = e} st rest) =
    let q = up_to t r u zs ds (step_fine s t e v st).0 rest in
    record { before = go st q.before; kept = q.kept; ended = q.ended; all_swept = q.all_swept; kept_after = q.kept_after; after = q.after }

-- From one turn to the next: a condemned cell is put back once, a spared one not, and a floating one neither.
module _ (x : ℕ) (s r u : State) (zs ds : List Moment) (v : Invariant s) (run : Run s (zs ++ (at r turns ∷ ds)) u) (n : NoTurns zs) where
  there : UpTo s r u zs ds
  there = up_to s r u zs ds v run

  condemned_round : Condemned s x → (times_back x zs ≡ 1) × Done r x
  condemned_round c = elim (condemned_run x s r zs v there.before n c) [ inl a ↦ absurd (let p = a.1 in let e = there.all_swept in omega arith) | inr b ↦ b ]

  spared_round : Spared s x → times_back x zs ≡ 0
  spared_round c = (spared_run x s r zs v there.before n c).0

  floating_round : Floating s x → (times_back x zs ≡ 0) × Floating r x
  floating_round c = floating_run x s r zs v there.before n c

two_rounds : (x : ℕ) (s q r u : State) (bs cs ds : List Moment) → Invariant s → Run s (bs ++ (at q turns ∷ (cs ++ (at r turns ∷ ds)))) u → NoTurns bs → NoTurns cs → Condemned s x ⊎ Floating s x → times_back x bs + times_back x cs ≡ 1
two_rounds x s q r u bs cs ds v run nb nc (inl c) =
    let a = up_to s q u bs (cs ++ (at r turns ∷ ds)) v run in
    let d = condemned_round x s q u bs (cs ++ (at r turns ∷ ds)) v run nb c in
    let k = spared_round x (turned q) r u cs ds a.kept_after a.after nc (done_turns q a.kept a.ended x d.1) in
    omega (arith, d.0, k)
two_rounds x s q r u bs cs ds v run nb nc (inr c) =
    let a = up_to s q u bs (cs ++ (at r turns ∷ ds)) v run in
    let d = floating_round x s q u bs (cs ++ (at r turns ∷ ds)) v run nb c in
    let k = condemned_round x (turned q) r u cs ds a.kept_after a.after nc (floating_turns q x d.1) in
    omega (arith, d.0, k.0)

pub put_back_once : (s u : State) (ms : List Moment) → Invariant s → Run s ms u → PutBackOnce ms
put_back_once s u ms v run zs bs cs ds p q r e nb nc x stray =
    let a = up_to s p u zs (bs ++ (at q turns ∷ (cs ++ (at r turns ∷ ds)))) v (rw e at run) in
    two_rounds x (turned p) q r u bs cs ds a.kept_after a.after nb nc (stray_turns p a.kept a.all_swept x stray)
