-- The five kinds of step, and the phases of one cell between two turns.
use Rattle.std.proofs.Common.{◌≡◌, ℕ, ◌<◌, ◌≤◌, true, false, eqb, ◌⊎◌, List, ◌++◌, Some, None, sym, refl, ◌∙◌, inl, inr, arith}
use Rattle.std.proofs.lemmas.Bool.{cases_Bool, cases_eq, cond-false, cond-true, eq-eqb, ne_eqb}
use Rattle.archive.specs.Pattern.{among}
use Rattle.cells.specs.declared.cell.Tag.TheVariants.{Free, Used}
use Rattle.cells.specs.declared.cell.SweepColour.TheVariants as sweep
use Rattle.cells.proofs.Changed.{changed_from, changed_other, changed_same}
use Rattle.numbering.specs.Lists.{In}
use Rattle.numbering.proofs.Lists.{among_in, among_not}
use Rattle.model.specs.declared.stage.Stage.TheVariants.{Ended}
use Rattle.model.specs.Collector.{pass_by, put_back, turned}
use Rattle.model.specs.History.{Event, Event.marks, Event.sweeps, Event.turns, Event.gives, Event.moves}
use Rattle.model.specs.Invariant.{Dark, Invariant, Kept}
use Rattle.model.specs.Runs.{NoTurn, backs}
use Rattle.model.specs.State.{State, size_of}
use Rattle.model.proofs.Basics.{not_both_colours, not_both_tags}
use Rattle.model.proofs.Moves.{pass_kept, put_apart, put_kept, put_names}
use Rattle.model.proofs.Touched.{Quiet, Touched, Touched.by_hold, Touched.by_mark, Touched.by_name, touched_kept}

-- The cells of a list are given, and nothing else changes that counts.
pub record Grown (s t : State) (names : List ℕ) : Type 0 where
  pub size_is : size_of t ≡ size_of s
  pub place_is : t.place ≡ s.place
  pub was_free : (i : ℕ) → In i names → s.cells.tag i ≡ Free
  pub tag_is : (i : ℕ) → (In i names → ⊥) → t.cells.tag i ≡ s.cells.tag i
  pub sweep_is : (i : ℕ) → (In i names → ⊥) → t.cells.sweep i ≡ s.cells.sweep i
  pub darker : (i : ℕ) → Dark (s.cells.mark i) → Dark (t.cells.mark i)
  pub new_kept : (i : ℕ) → In i names → Kept t i
  pub new_dark : (i : ℕ) → In i names → Dark (t.cells.mark i)
  pub touch : (i : ℕ) → Touched t i → In i names ⊎ Touched s i
  pub free_is : s.free ≡ names ++ t.free

-- an event that gives no cell, puts none back and is no turn
pub data Silent : Event → Type 0 where
  marking : Silent marks
  moving : Silent moves
  idle : Silent (sweeps None)

pub data Kind : State → Event → State → Type 0 where
  quiet : {s t : State} {e : Event} → Silent e → Quiet s t → Kind s e t
  grown : {s t : State} (names : List ℕ) → Grown s t names → Kind s (gives names) t
  put : (s : State) → s.place < size_of s → s.cells.tag s.place ≡ Used → s.cells.sweep s.place ≡ sweep.White → Kind s (sweeps (Some (s.place, true))) (put_back s)
  past : (s : State) → s.place < size_of s → (s.cells.tag s.place ≡ Used → s.cells.sweep s.place ≡ sweep.Black) → Kind s (sweeps (Some (s.place, false))) (pass_by s)
  turn : (s : State) → s.stage ≡ Ended → s.place ≡ size_of s → Kind s turns (turned s)

pub silent_backs : (x : ℕ) (e : Event) → Silent e → backs x e ≡ 0
silent_backs x e marking = refl
silent_backs x e moving = refl
silent_backs x e idle = refl

-- whether a number is in a list
in_or_not : (i : ℕ) (names : List ℕ) → In i names ⊎ (In i names → ⊥)
in_or_not i names = elim (cases_Bool (among i names)) [ inl e ↦ inl (among_in i names e) | inr e ↦ inr (among_not i names e) ]

other_back : (i x : ℕ) → (i ≡ x → ⊥) → backs x (sweeps (Some (i, true))) ≡ 0
other_back i x n = cond-false (eqb i x) 1 0 (ne_eqb i x n)

this_back : (i x : ℕ) → i ≡ x → backs x (sweeps (Some (i, true))) ≡ 1
this_back i x e = cond-true (eqb i x) 1 0 (eq-eqb i x e)

-- The phases of a cell x.

-- the sweeper will put it back
abbrev pub Condemned : State → ℕ → Type 0
Condemned s x = (x < size_of s) × (s.cells.tag x ≡ Used) × (s.place ≤ x) × (s.cells.sweep x ≡ sweep.White)

-- the sweeper has passed it, and it is free or marked
abbrev pub Done : State → ℕ → Type 0
Done s x = (x < s.place) × ((s.cells.tag x ≡ Free) ⊎ Dark (s.cells.mark x))

-- the sweeper will not put it back
abbrev pub Spared : State → ℕ → Type 0
Spared s x = s.cells.tag x ≡ Used → s.place ≤ x → s.cells.sweep x ≡ sweep.White → ⊥

-- it is kept until the next turn, but nothing touches it
abbrev pub Floating : State → ℕ → Type 0
Floating s x = Kept s x × (Touched s x → ⊥)

-- One lemma for each phase, over the five kinds of step.

pub done_step : (s t : State) (e : Event) (x : ℕ) → Kind s e t → NoTurn e → Done s x → (backs x e ≡ 0) × Done t x
done_step s t e x (quiet n q) nt d =
    (silent_backs x e n, (let p = q.place_is in omega arith, elim d.1 [ inl f ↦ inl (q.tag_is x ∙ f) | inr k ↦ inr (q.darker x k) ]))
done_step s t e x (grown names g) nt d =
    (refl, (let p = g.place_is in omega arith, elim (in_or_not x names) [ inl n ↦ inr (g.new_dark x n) | inr o ↦ elim d.1 [ inl f ↦ inl (g.tag_is x o ∙ f) | inr k ↦ inr (g.darker x k) ] ]))
done_step s t e x (put _ l u w) nt d =
    (other_back s.place x (omega arith), (omega arith, elim d.1 [ inl f ↦ inl (changed_other s.cells.tag s.place Free x (omega arith) ∙ f) | inr k ↦ inr k ]))
done_step s t e x (past _ l k) nt d = (refl, (omega arith, d.1))
done_step s t e x (turn _ a b) nt d = absurd nt

pub spared_step : (s t : State) (e : Event) (x : ℕ) → Kind s e t → NoTurn e → Spared s x → (backs x e ≡ 0) × Spared t x
spared_step s t e x (quiet n q) nt d = (silent_backs x e n, λ u p w. d (sym (q.tag_is x) ∙ u) (let z = q.place_is in omega arith) (sym (q.sweep_is x) ∙ w))
spared_step s t e x (grown names g) nt d = (
  refl,
  λ u p w. elim (in_or_not x names) [
    | inl n ↦ elim (g.new_kept x n).2 [ inl l ↦ omega arith | inr b ↦ not_both_colours w b ]
    | inr o ↦ d (sym (g.tag_is x o) ∙ u) (let z = g.place_is in omega arith) (sym (g.sweep_is x o) ∙ w)
  ],
)
spared_step s t e x (put _ l u w) nt d =
    (other_back s.place x (λ z. d (rw (← z) u) (omega arith) (rw (← z) w)), λ u2 p2 w2. elim (changed_from (λ _ y. y ≡ Used) s.cells.tag s.place Free x u2) [ inl q ↦ omega arith | inr q ↦ d q.1 (omega arith) w2 ])
spared_step s t e x (past _ l k) nt d = (refl, λ u2 p2 w2. d u2 (omega arith) (sym (changed_other s.cells.sweep s.place sweep.White x (omega arith)) ∙ w2))
spared_step s t e x (turn _ a b) nt d = absurd nt

-- neither a put back nor a pass touches a further cell
put_touch : (s : State) (v : Invariant s) (l : s.place < size_of s) (u : s.cells.tag s.place ≡ Used) (w : s.cells.sweep s.place ≡ sweep.White) (i : ℕ) → Touched (put_back s) i → Touched s i
put_touch s v l u w i (by_hold h c q) = by_hold h c q
put_touch s v l u w i (by_mark j d) = by_mark j d
put_touch s v l u w i (by_name j c t n) = let o = put_touch s v l u w j t in by_name j c o (put_names s v l u w j c (touched_kept s v j o) n)

pub pass_touch : (s : State) (i : ℕ) → Touched (pass_by s) i → Touched s i
pass_touch s i (by_hold h c q) = by_hold h c q
pass_touch s i (by_mark j d) = by_mark j d
pass_touch s i (by_name j c t n) = by_name j c (pass_touch s j t) n

pub floating_step : (s t : State) (e : Event) (x : ℕ) → Invariant s → Kind s e t → NoTurn e → Floating s x → (backs x e ≡ 0) × Floating t x
floating_step s t e x v (quiet n q) nt d =
    let k = d.0 in
    let a = q.size_is in
    let b = q.place_is in
    (silent_backs x e n, ((omega arith, q.tag_is x ∙ k.1, elim k.2 [ inl l ↦ inl (omega arith) | inr z ↦ inr (q.sweep_is x ∙ z) ]), λ h. d.1 (q.touch x h)))
floating_step s t e x v (grown names g) nt d =
    let k = d.0 in
    let a = g.size_is in
    let b = g.place_is in
    let o : In x names → ⊥ = λ n. not_both_tags (g.was_free x n) k.1 in
    (refl, ((omega arith, g.tag_is x o ∙ k.1, elim k.2 [ inl l ↦ inl (omega arith) | inr z ↦ inr (g.sweep_is x o ∙ z) ]), λ h. elim (g.touch x h) [ inl n ↦ o n | inr z ↦ d.1 z ]))
floating_step s t e x v (put _ l u w) nt d =
    (other_back s.place x (λ z. put_apart s v l u w x d.0 (sym z)), (put_kept s v l u w x d.0, λ h. d.1 (put_touch s v l u w x h)))
floating_step s t e x v (past _ l k) nt d = (refl, (pass_kept s v l k x d.0, λ h. d.1 (pass_touch s x h)))
floating_step s t e x v (turn _ a b) nt d = absurd nt

pub condemned_step : (s t : State) (e : Event) (x : ℕ) → Kind s e t → NoTurn e → Condemned s x → ((backs x e ≡ 0) × Condemned t x) ⊎ ((backs x e ≡ 1) × Done t x)
condemned_step s t e x (quiet n q) nt d =
    let a = q.size_is in
    let b = q.place_is in
    inl (silent_backs x e n, (omega arith, q.tag_is x ∙ d.1, omega arith, q.sweep_is x ∙ d.3))
condemned_step s t e x (grown names g) nt d =
    let a = g.size_is in
    let b = g.place_is in
    let o : In x names → ⊥ = λ n. not_both_tags (g.was_free x n) d.1 in
    inl (refl, (omega arith, g.tag_is x o ∙ d.1, omega arith, g.sweep_is x o ∙ d.3))
condemned_step s t e x (put _ l u w) nt d = elim (cases_eq s.place x) [
  | inl z ↦ inr (this_back s.place x z, (omega arith, inl (rw (← z) (changed_same s.cells.tag s.place Free))))
  | inr n ↦ inl (other_back s.place x n, (d.0, changed_other s.cells.tag s.place Free x (omega arith) ∙ d.1, omega arith, d.3))
]
condemned_step s t e x (past _ l k) nt d = elim (cases_eq s.place x) [
  | inl z ↦ absurd (not_both_colours d.3 (rw z at (k (rw z d.1))))
  | inr n ↦ inl (refl, (d.0, d.1, omega arith, changed_other s.cells.sweep s.place sweep.White x (omega arith) ∙ d.3))
]
condemned_step s t e x (turn _ a b) nt d = absurd nt
