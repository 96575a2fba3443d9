-- Every step of a history keeps the invariant and is of one of the five kinds.
use Rattle.std.proofs.Common.{◌≡◌, ℕ, ◌<◌, Bool, true, false, eqb, ◌⊎◌, List, [], ◌∷◌, ◌++◌, length, get_or, Some, None, Option, sym, refl, ◌∙◌, inl, inr, arith}
use Rattle.std.proofs.lemmas.Bool.{cases_Bool, eq-eqb, eqb-true}
use Rattle.archive.specs.Pattern.{Pattern, among}
use Rattle.cells.specs.declared.content.Content.{Content}
use Rattle.cells.specs.declared.content.Content.TheVariants.{Nothing, Yarn, Cell}
use Rattle.cells.specs.declared.content.Joint.{Joint}
use Rattle.cells.specs.declared.cell.Side.{Side}
use Rattle.cells.specs.declared.cell.Tag.TheVariants.{Used}
use Rattle.cells.specs.declared.cell.MarkColour.TheVariants as mark
use Rattle.cells.specs.Calls.{InRange}
use Rattle.cells.specs.Cells.{changed_at}
use Rattle.cells.proofs.Changed.{changed_by}
use Rattle.lines.specs.declared.cell.PatternCell.{PatternCell}
use Rattle.numbering.specs.Lists.{In}
use Rattle.numbering.specs.Same.{no_line}
use Rattle.numbering.specs.Walk.{place, renamed}
use Rattle.numbering.proofs.Lists.{among_in, at_in, in_among, in_left}
use Rattle.model.specs.declared.stage.Stage.{Stage}
use Rattle.model.specs.declared.stage.Stage.TheVariants.{AtHold, AtCell, Ended}
use Rattle.model.specs.Collector.{after_mark, after_sweep, blacken, mark_at, mark_found, next_grey, next_stage, shade, sweep_answer, turned}
use Rattle.model.specs.Hand.{move_into, tie_to}
use Rattle.model.specs.History.{Event, Event.marks, Event.sweeps, Event.turns, Event.gives, Event.moves}
use Rattle.model.specs.Invariant.{Dark, Invariant, Kept}
use Rattle.model.specs.Load.{cell_of, load_into, loaded_cell}
use Rattle.model.specs.State.{State, size_of, with_hold, with_mark_colours, with_stage}
use Rattle.model.specs.Take.{give, give_one, new_sweep}
use Rattle.model.proofs.Basics.{at_old}
use Rattle.model.proofs.Give.{Fresh, GivenNames, give_keeps, new_dark, new_kept, new_names, old_names, still_dark, was_free}
use Rattle.model.proofs.Phases.{Grown, Kind, Kind.quiet, Kind.grown, Kind.put, Kind.past, Silent.marking, Silent.moving, Silent.idle}
use Rattle.model.proofs.Moves.{Settled, Swept, Swept.put, Swept.past, Swept.idle, grey_dark, hold_keeps, mark_keeps, next_found, shade_keeps, sweeps_how, swept_keeps, tie_keeps, turn_keeps}
use Rattle.model.proofs.Shade.{shaded_is, shaded_keeps}
use Rattle.model.proofs.Touched.{Known, Quiet, Touched, Touched.by_hold, Touched.by_mark, Touched.by_name, hold_quiet, known_shadable, quiet_same, quiet_then, shade_quiet, tie_quiet, touched_kept}

-- The invariant and the kind of a step.
abbrev pub Fine : State → Event → State → Type 0
Fine s e t = Invariant t × Kind s e t

-- The hand.

-- a content that is no cell
abbrev pub NoCellIn : Content → Type 0
NoCellIn x = (c : ℕ) → x ≡ Cell c → ⊥

set_fine : (s : State) (h : ℕ) (x : Content) → Invariant s → InRange (size_of s) x → NoCellIn x → Fine s moves (with_hold s h x)
set_fine s h x v r n = (hold_keeps s h x v r (λ c e. absurd (n c e)), quiet moving (hold_quiet s h x (λ c e. absurd (n c e))))

-- a known content is shaded: then it is known, kept and marked
module _ (s : State) (x : Content) (v : Invariant s) (r : InRange (size_of s) x) (k : Known s x) where
  shade_fine : Invariant (shade s x)
  shade_fine = shade_keeps s x v (known_shadable s v x k)

  settled : Settled (shade s x) x
  settled c e = (touched_kept s v c (k c e), shaded_is s.cells.mark x c e)

  known_after : Known (shade s x) x
  known_after c e = by_mark c (shaded_is s.cells.mark x c e)

  into_fine : (h : ℕ) → Fine s moves (move_into s h x)
  into_fine h = (hold_keeps (shade s x) h x shade_fine r settled, quiet moving (quiet_then s (shade s x) (move_into s h x) (shade_quiet s x k) (hold_quiet (shade s x) h x known_after)))

  tie_fine : (side : Side) (i : ℕ) → s.cells.tag i ≡ Used → Fine s moves (tie_to s side i x)
  tie_fine side i u = (tie_keeps (shade s x) side i x shade_fine u r settled, quiet moving (quiet_then s (shade s x) (tie_to s side i x) (shade_quiet s x k) (tie_quiet (shade s x) side i x known_after)))

-- Marking.

held_known : (s : State) (h : ℕ) → h < s.hold_count → Known s (s.hold h)
held_known s h l c e = by_hold h c (l, e)

stage_touch : (s : State) (g : Stage) (i : ℕ) → Touched (with_stage s g) i → Touched s i
stage_touch s g i (by_hold h c q) = by_hold h c q
stage_touch s g i (by_mark j d) = by_mark j d
stage_touch s g i (by_name j c t n) = by_name j c (stage_touch s g j t) n

stage_quiet : (s : State) (g : Stage) → Quiet s (with_stage s g)
stage_quiet s g = record { size_is = refl; place_is = refl; tag_is = λ i. refl; sweep_is = λ i. refl; darker = λ i d. d; touch = stage_touch s g; free_is = refl }

paint_touch : (s : State) (k : ℕ) → Touched s k → (i : ℕ) → Touched (with_mark_colours s (changed_at s.cells.mark k mark.Black)) i → Touched s i
paint_touch s k t i (by_hold h c q) = by_hold h c q
paint_touch s k t i (by_mark j d) = changed_by (λ n m. Dark m → Touched s n) s.cells.mark k mark.Black j (λ e _. rw e t) (λ _ z. by_mark j z) d
paint_touch s k t i (by_name j c u n) = by_name j c (paint_touch s k t j u) n

paint_quiet : (s : State) (k : ℕ) → Touched s k → Quiet s (with_mark_colours s (changed_at s.cells.mark k mark.Black))
paint_quiet s k t = record { size_is = refl; place_is = refl; tag_is = λ i. refl; sweep_is = λ i. refl; darker = λ i d. changed_by (λ _ m. Dark m) s.cells.mark k mark.Black i (λ _. tt) (λ _. d); touch = paint_touch s k t; free_is = refl }

found_quiet : (s : State) (f : Option ℕ) → ((i : ℕ) → f ≡ Some i → Dark (s.cells.mark i)) → Quiet s (mark_found s f)
found_quiet s None d = stage_quiet s Ended
found_quiet s (Some i) d =
    let t : Touched s i = by_mark i (d i refl) in
    let s1 : State = shade s (s.cells.left i) in
    let q1 : Quiet s s1 = shade_quiet s (s.cells.left i) (λ c e. by_name i c t (inl e)) in
    let d1 : Dark (s1.cells.mark i) = shaded_keeps s.cells.mark (s.cells.left i) i (d i refl) in
    let s2 : State = shade s1 (s.cells.right i) in
    let q2 : Quiet s1 s2 = shade_quiet s1 (s.cells.right i) (λ c e. by_name i c (by_mark i d1) (inr e)) in
    let d2 : Dark (s2.cells.mark i) = shaded_keeps s1.cells.mark (s.cells.right i) i d1 in
    let q3 : Quiet s2 (blacken s i) = paint_quiet s2 i (by_mark i d2) in
    quiet_then s (blacken s i) (mark_found s (Some i)) (quiet_then s s2 (blacken s i) (quiet_then s s1 s2 q1 q2) q3) (stage_quiet (blacken s i) (AtCell i))

pub mark_quiet : (s : State) → Invariant s → Quiet s (after_mark s)
mark_quiet s v = go s.stage refl
  where
    go : (g : Stage) → s.stage ≡ g → Quiet s (mark_at s g)
    go (AtHold r) e = quiet_then s (shade s (s.hold r)) (mark_at s (AtHold r)) (shade_quiet s (s.hold r) (held_known s r (v.stage_range r e))) (stage_quiet (shade s (s.hold r)) (next_stage s.hold_count r))
    go (AtCell k) e = found_quiet s (next_grey s.cells k) (λ i z. grey_dark (s.cells.mark i) (next_found s.cells k i z).1)
    go Ended e = quiet_same s

-- Sweeping.

swept_kind : (s t : State) (a : Option (ℕ × Bool)) → Swept s a t → Kind s (sweeps a) t
swept_kind s t a (put l u w) = Kind.put s l u w
swept_kind s t a (past l k) = Kind.past s l k
swept_kind s t a (idle l) = quiet idle (quiet_same s)

-- New cells.

given_touch : (s : State) (new : ℕ → Bool) (given : ℕ → PatternCell) (names rest : List ℕ) → Invariant s → Fresh s new given names rest → ((i c : ℕ) → new i ≡ true → GivenNames (given i) c → (new c ≡ true) ⊎ Touched s c) → (i : ℕ) → Touched (give s new given rest) i → (new i ≡ true) ⊎ Touched s i
given_touch s new given names rest v f a i (by_hold h c q) = inr (by_hold h c q)
given_touch s new given names rest v f a i (by_mark k d) = elim (cases_Bool (new k)) [ inl n ↦ inl n | inr o ↦ inr (by_mark k (rw (at_old new (λ _. mark.Black) s.cells.mark k o) at d)) ]
given_touch s new given names rest v f a i (by_name k c t n) = elim (cases_Bool (new k)) [
  | inl e ↦ a k c e (new_names s.cells s.place new given k c e n)
  | inr o ↦ elim (given_touch s new given names rest v f a k t) [
    | inl e ↦ a k c e (new_names s.cells s.place new given k c e n)
    | inr w ↦ inr (by_name k c w (old_names s.cells s.place new given k c o n))
  ]
]

module _ (s : State) (new : ℕ → Bool) (given : ℕ → PatternCell) (names rest : List ℕ) (v : Invariant s) (f : Fresh s new given names rest) (a : (i c : ℕ) → new i ≡ true → GivenNames (given i) c → (new c ≡ true) ⊎ Touched s c) where
  not_new : (i : ℕ) → (In i names → ⊥) → new i ≡ false
  not_new i n = elim (cases_Bool (new i)) [ inl e ↦ absurd (n (f.listed i e)) | inr e ↦ e ]

  give_grown : Grown s (give s new given rest) names
  give_grown = record {
    size_is = refl;
    place_is = refl;
    was_free = λ i h. (was_free s new given names rest v f i (f.all_new i h)).1;
    tag_is = λ i n. at_old new (λ _. Used) s.cells.tag i (not_new i n);
    sweep_is = λ i n. at_old new (new_sweep s.place) s.cells.sweep i (not_new i n);
    darker = still_dark s new given names rest v f;
    new_kept = λ i h. new_kept s new given names rest v f i (f.all_new i h);
    new_dark = λ i h. new_dark s new given names rest v f i (f.all_new i h);
    touch = λ i t. elim (given_touch s new given names rest v f a i t) [ inl e ↦ inl (f.listed i e) | inr w ↦ inr w ];
    free_is = f.list;
  }

-- quiet steps before, and a hold that gets one of the new cells after
grown_after : (s t u : State) (names : List ℕ) → Quiet s t → Grown t u names → Grown s u names
grown_after s t u names q g = record {
  size_is = g.size_is ∙ q.size_is;
  place_is = g.place_is ∙ q.place_is;
  was_free = λ i h. sym (q.tag_is i) ∙ g.was_free i h;
  tag_is = λ i n. g.tag_is i n ∙ q.tag_is i;
  sweep_is = λ i n. g.sweep_is i n ∙ q.sweep_is i;
  darker = λ i d. g.darker i (q.darker i d);
  new_kept = g.new_kept;
  new_dark = g.new_dark;
  touch = λ i h. elim (g.touch i h) [ inl n ↦ inl n | inr z ↦ inr (q.touch i z) ];
  free_is = sym q.free_is ∙ g.free_is;
}

grown_hold : (s t : State) (h i : ℕ) (names : List ℕ) → Grown s t names → In i names → Grown s (with_hold t h (Cell i)) names
grown_hold s t h i names g e =
    let q : Quiet t (with_hold t h (Cell i)) = hold_quiet t h (Cell i) (λ c z. by_mark c (rw (← (same z)) (g.new_dark i e))) in
    record {
      size_is = g.size_is;
      place_is = g.place_is;
      was_free = g.was_free;
      tag_is = g.tag_is;
      sweep_is = g.sweep_is;
      darker = g.darker;
      new_kept = g.new_kept;
      new_dark = g.new_dark;
      touch = λ k w. g.touch k (q.touch k w);
      free_is = g.free_is;
    }
  where
    same : {c : ℕ} → Cell i ≡ Cell c → i ≡ c
    same z = cc

-- the gift, and then the hold
gift_fine : (s : State) (new : ℕ → Bool) (given : ℕ → PatternCell) (names rest : List ℕ) (h i : ℕ) → Invariant s → Fresh s new given names rest → ((j c : ℕ) → new j ≡ true → GivenNames (given j) c → (new c ≡ true) ⊎ Touched s c) → In i names → Invariant (with_hold (give s new given rest) h (Cell i)) × Grown s (with_hold (give s new given rest) h (Cell i)) names
gift_fine s new given names rest h i v f a e =
    let g = give_grown s new given names rest v f a in
    let k : Kept (give s new given rest) i = g.new_kept i e in
    (hold_keeps (give s new given rest) h (Cell i) (give_keeps s new given names rest v f) k.0 (λ c z. let y : i ≡ c = cc in rw (← y) (k, g.new_dark i e)), grown_hold s (give s new given rest) h i names g e)

-- one cell, by a take
module _ (s : State) (h i : ℕ) (rest : List ℕ) (joint : Joint) (a b : ℕ) (v : Invariant s) (front : s.free ≡ i ∷ rest) (la : a < s.hold_count) (lb : b < s.hold_count) where
  abbrev given : PatternCell
  given = record { joint = joint; left = s.hold a; right = s.hold b }

  abbrev s2 : State
  s2 = shade (shade s (s.hold a)) (s.hold b)

  v1 : Invariant (shade s (s.hold a))
  v1 = shade_keeps s (s.hold a) v (known_shadable s v (s.hold a) (held_known s a la))

  v2 : Invariant s2
  v2 = shade_keeps (shade s (s.hold a)) (s.hold b) v1 (known_shadable (shade s (s.hold a)) v1 (s.hold b) (held_known (shade s (s.hold a)) b lb))

  quiet_before : Quiet s s2
  quiet_before = quiet_then s (shade s (s.hold a)) s2 (shade_quiet s (s.hold a) (held_known s a la)) (shade_quiet (shade s (s.hold a)) (s.hold b) (held_known (shade s (s.hold a)) b lb))

  content_dark : (c : ℕ) → GivenNames given c → Touched s2 c × Dark (s2.cells.mark c)
  content_dark c (inl e) = (by_hold a c (la, e), shaded_keeps (shade s (s.hold a)).cells.mark (s.hold b) c (shaded_is s.cells.mark (s.hold a) c e))
  content_dark c (inr e) = (by_hold b c (lb, e), shaded_is (shade s (s.hold a)).cells.mark (s.hold b) c e)

  fresh : Fresh s2 (λ k. eqb k i) (λ _. given) (i ∷ []) rest
  fresh = record {
    list = front;
    listed = λ k e. inl (eqb-true k i e);
    all_new = λ k q. elim q [ inl e ↦ eq-eqb k i e | inr z ↦ absurd z ];
    left_range = λ k e. v.hold_range a;
    right_range = λ k e. v.hold_range b;
    contents = λ k c e n. let q = content_dark c n in inr (touched_kept s2 v2 c q.0, q.1);
  }

  take_fine : Fine s (gives (i ∷ [])) (give_one s h i rest given)
  take_fine =
      let g = gift_fine s2 (λ k. eqb k i) (λ _. given) (i ∷ []) rest h i v2 fresh (λ k c e n. inr (content_dark c n).0) (inl refl) in
      (g.0, grown (i ∷ []) (grown_after s s2 (give_one s h i rest given) (i ∷ []) quiet_before g.1))

-- all cells of a pattern, by a load: a file cell names file cells only
module _ (s : State) (h : ℕ) (names rest : List ℕ) (pattern : Pattern) (v : Invariant s) (list : s.free ≡ names ++ rest) (some : 0 < length names) (even : length pattern ≡ length names) (lefts : (k : ℕ) → InRange (length pattern) (get_or pattern k no_line).left) (rights : (k : ℕ) → InRange (length pattern) (get_or pattern k no_line).right) where
  renamed_new : (x : Content) (c : ℕ) → InRange (length pattern) x → renamed (cell_of names) x ≡ Cell c → In c names
  renamed_new Nothing c r e = absurd (grind arith)
  renamed_new (Yarn y) c r e = absurd (grind arith)
  renamed_new (Cell k) c r e = let z : get_or names k 0 ≡ c = cc in rw (← z) (at_in names k (omega arith))

  below : (i : ℕ) → In i names → i < size_of s
  below i q = (v.free_list.only i (rw list (in_left names rest i q))).0

  renamed_range : (x : Content) → InRange (length pattern) x → InRange (size_of s) (renamed (cell_of names) x)
  renamed_range Nothing r = tt
  renamed_range (Yarn y) r = r
  renamed_range (Cell k) r = below (get_or names k 0) (at_in names k (omega arith))

  file_names : (i c : ℕ) → GivenNames (loaded_cell names pattern i) c → among c names ≡ true
  file_names i c (inl e) = in_among c names (renamed_new (get_or pattern (place i names) no_line).left c (lefts (place i names)) e)
  file_names i c (inr e) = in_among c names (renamed_new (get_or pattern (place i names) no_line).right c (rights (place i names)) e)

  load_fresh : Fresh s (λ i. among i names) (loaded_cell names pattern) names rest
  load_fresh = record {
    list = list;
    listed = λ i e. among_in i names e;
    all_new = λ i q. in_among i names q;
    left_range = λ i e. renamed_range (get_or pattern (place i names) no_line).left (lefts (place i names));
    right_range = λ i e. renamed_range (get_or pattern (place i names) no_line).right (rights (place i names));
    contents = λ i c e n. inl (file_names i c n);
  }

  load_fine : Fine s (gives names) (load_into s h names rest pattern)
  load_fine =
      let g = gift_fine s (λ i. among i names) (loaded_cell names pattern) names rest h (cell_of names 0) v load_fresh (λ i c e n. inl (file_names i c n)) (at_in names 0 some) in
      (g.0, grown names g.1)

-- The steps of a history.
pub data Step : State → Event → State → Type 0 where
  marked : (s : State) → Step s marks (after_mark s)
  swept : (s : State) → Step s (sweeps (sweep_answer s)) (after_sweep s)
  turned_round : (s : State) → s.stage ≡ Ended → s.place ≡ size_of s → Step s turns (turned s)
  set : (s : State) (h : ℕ) (x : Content) → InRange (size_of s) x → NoCellIn x → Step s moves (with_hold s h x)
  moved : (s : State) (h : ℕ) (x : Content) → InRange (size_of s) x → Known s x → Step s moves (move_into s h x)
  tied : (s : State) (side : Side) (i : ℕ) (x : Content) → s.cells.tag i ≡ Used → InRange (size_of s) x → Known s x → Step s moves (tie_to s side i x)
  took : (s : State) (h i : ℕ) (rest : List ℕ) (joint : Joint) (a b : ℕ) → s.free ≡ i ∷ rest → a < s.hold_count → b < s.hold_count → Step s (gives (i ∷ [])) (give_one s h i rest (record { joint = joint; left = s.hold a; right = s.hold b }))
  loaded : (s : State) (h : ℕ) (names rest : List ℕ) (pattern : Pattern) → s.free ≡ names ++ rest → 0 < length names → length pattern ≡ length names → ((k : ℕ) → InRange (length pattern) (get_or pattern k no_line).left) → ((k : ℕ) → InRange (length pattern) (get_or pattern k no_line).right) → Step s (gives names) (load_into s h names rest pattern)

pub step_fine : (s t : State) (e : Event) → Invariant s → Step s e t → Fine s e t
step_fine s t e v (marked _) = (mark_keeps s v, quiet marking (mark_quiet s v))
step_fine s t e v (swept _) = (swept_keeps s t (sweep_answer s) v (sweeps_how s), swept_kind s t (sweep_answer s) (sweeps_how s))
step_fine s t e v (turned_round _ a b) = (turn_keeps s a b v, Kind.turn s a b)
step_fine s t e v (set _ h x r n) = set_fine s h x v r n
step_fine s t e v (moved _ h x r k) = into_fine s x v r k h
step_fine s t e v (tied _ side i x u r k) = tie_fine s x v r k side i u
step_fine s t e v (took _ h i rest joint a b front la lb) = take_fine s h i rest joint a b v front la lb
step_fine s t e v (loaded _ h names rest pattern list some even l r) = load_fine s h names rest pattern v list some even l r
