-- The invariant is kept by each small move of which the calls are made.
use Rattle.std.proofs.Common.{◌≡◌, ℕ, suc, ◌<◌, ◌≤◌, Bool, true, false, cond, eqb, ltb, ◌⊎◌, List, Some, None, Option, sym, refl, ◌∙◌, inl, inr, arith}
use Rattle.std.proofs.lemmas.Bool.{and_cases, and_parts, cases_eq, eqb-false, eqb-true, ltb-false, ltb-true}
use Rattle.cells.specs.declared.content.Content.{Content}
use Rattle.cells.specs.declared.content.Content.TheVariants.{Nothing, Cell}
use Rattle.cells.specs.declared.cell.Side.{Side}
use Rattle.cells.specs.declared.cell.Side.TheVariants.{Left, Right}
use Rattle.cells.specs.declared.cell.Tag.{Tag}
use Rattle.cells.specs.declared.cell.Tag.TheVariants.{Free, Used}
use Rattle.cells.specs.declared.cell.MarkColour.{MarkColour}
use Rattle.cells.specs.declared.cell.MarkColour.TheVariants as mark
use Rattle.cells.specs.declared.cell.SweepColour.{SweepColour}
use Rattle.cells.specs.declared.cell.SweepColour.TheVariants as sweep
use Rattle.cells.specs.Calls.{InRange, first_grey}
use Rattle.cells.specs.Cells.{Cells, changed_at}
use Rattle.cells.specs.Record.{as_mark, as_sweep, is_grey}
use Rattle.cells.proofs.Changed.{changed_by, changed_from, changed_other}
use Rattle.cells.proofs.Seek.{found_grey, none_grey}
use Rattle.numbering.specs.Same.{Names}
use Rattle.shading.specs.Shading.{shaded, with_marks}
use Rattle.model.specs.declared.stage.Stage.{Stage}
use Rattle.model.specs.declared.stage.Stage.TheVariants.{AtHold, AtCell, Ended}
use Rattle.model.specs.Collector.{after_mark, after_sweep, after_turn, after_unit, blacken, can_turn, has_ended, mark_and_sweep, mark_at, mark_found, next_grey, next_stage, or_else_found, pass_by, put_back, puts_back, shade, sweep_answer, sweeps_on, turned, used_tag, white_sweep}
use Rattle.model.specs.FreeList.{IsFreeList}
use Rattle.model.specs.Hand.{tied_cells}
use Rattle.model.specs.Invariant.{Dark, Invariant, IsBlack, Kept, visited_holds}
use Rattle.model.specs.Reach.{Holds}
use Rattle.model.specs.State.{State, size_of, with_cells, with_hold, with_mark_colours, with_stage}
use Rattle.model.proofs.Basics.{not_both_colours}
use Rattle.model.proofs.FreeList.{free_put_back, free_stays, left_in_range_lem, named_before}
use Rattle.model.proofs.Shade.{black_before, black_dark, shaded_black, shaded_from, shaded_is, shaded_keeps}

-- Other colours leave the free list as it is.
recoloured : (c : Cells) (marks : ℕ → MarkColour) (free : List ℕ) → IsFreeList c free → IsFreeList (with_marks c marks) free
recoloured c marks free = free_stays c (with_marks c marks) free refl (λ _. refl) (λ _ _. refl) (λ _ _. refl) (λ _ _. refl)

-- Shading: the content may be shaded if its cell is kept and, once marking has ended, already marked.
abbrev pub Shadable : State → Content → Type 0
Shadable s x = (c : ℕ) → x ≡ Cell c → Kept s c × (s.stage ≡ Ended → Dark (s.cells.mark c))

pub shade_keeps : (s : State) (x : Content) → Invariant s → Shadable s x → Invariant (shade s x)
shade_keeps s x v ok = record {
  few = v.few;
  some_hold = v.some_hold;
  hold_range = v.hold_range;
  left_range = v.left_range;
  right_range = v.right_range;
  stage_range = v.stage_range;
  place_range = v.place_range;
  swept = v.swept;
  sweep_range = v.sweep_range;
  held_kept = v.held_kept;
  named_kept = v.named_kept;
  dark_kept = λ i d. elim (shaded_from s.cells.mark x i d) [ inl h ↦ v.dark_kept i h | inr e ↦ (ok i e).0 ];
  black_names = λ i c b n. shaded_keeps s.cells.mark x c (v.black_names i c (black_before s.cells.mark x i b) n);
  visited_dark = λ h c l e. shaded_keeps s.cells.mark x c (v.visited_dark h c l e);
  ended_black = λ e i d. shaded_black s.cells.mark x i (v.ended_black e i (elim (shaded_from s.cells.mark x i d) [ inl h ↦ h | inr q ↦ (ok i q).1 e ]));
  free_list = recoloured s.cells (shaded s.cells.mark x) s.free v.free_list;
}

-- A hold gets a content whose cell is kept and marked.
abbrev pub Settled : State → Content → Type 0
Settled s x = (c : ℕ) → x ≡ Cell c → Kept s c × Dark (s.cells.mark c)

pub hold_keeps : (s : State) (h : ℕ) (x : Content) → Invariant s → InRange (size_of s) x → Settled s x → Invariant (with_hold s h x)
hold_keeps s h x v r ok = record {
  few = v.few;
  some_hold = v.some_hold;
  hold_range = λ g. changed_by (λ _ y. InRange (size_of s) y) s.hold h x g (λ _. r) (λ _. v.hold_range g);
  left_range = v.left_range;
  right_range = v.right_range;
  stage_range = v.stage_range;
  place_range = v.place_range;
  swept = v.swept;
  sweep_range = v.sweep_range;
  held_kept = λ g c q. changed_by (λ _ y. y ≡ Cell c → Kept s c) s.hold h x g (λ _ e. (ok c e).0) (λ _ e. v.held_kept g c (q.0, e)) q.1;
  named_kept = v.named_kept;
  dark_kept = v.dark_kept;
  black_names = v.black_names;
  visited_dark = λ g c l q. changed_by (λ _ y. y ≡ Cell c → Dark (s.cells.mark c)) s.hold h x g (λ _ e. (ok c e).1) (λ _ e. v.visited_dark g c l (q.0, e)) q.1;
  ended_black = v.ended_black;
  free_list = v.free_list;
}

-- A used cell gets such a content on a side.
pub names_tied : (c : Cells) (side : Side) (i : ℕ) (x : Content) (k d : ℕ) → Names (tied_cells c side i x) k d → (x ≡ Cell d) ⊎ Names c k d
names_tied c Left i x k d (inl e) = changed_by (λ _ y. y ≡ Cell d → (x ≡ Cell d) ⊎ Names c k d) c.left i x k (λ _ z. inl z) (λ _ z. inr (inl z)) e
names_tied c Left i x k d (inr e) = inr (inr e)
names_tied c Right i x k d (inl e) = inr (inl e)
names_tied c Right i x k d (inr e) = changed_by (λ _ y. y ≡ Cell d → (x ≡ Cell d) ⊎ Names c k d) c.right i x k (λ _ z. inl z) (λ _ z. inr (inr z)) e

tied_left_range : (c : Cells) (side : Side) (i : ℕ) (x : Content) → InRange c.size x → (k : ℕ) → InRange c.size (c.left k) → InRange c.size ((tied_cells c side i x).left k)
tied_left_range c Left i x r k h = changed_by (λ _ y. InRange c.size y) c.left i x k (λ _. r) (λ _. h)
tied_left_range c Right i x r k h = h

tied_right_range : (c : Cells) (side : Side) (i : ℕ) (x : Content) → InRange c.size x → (k : ℕ) → InRange c.size (c.right k) → InRange c.size ((tied_cells c side i x).right k)
tied_right_range c Left i x r k h = h
tied_right_range c Right i x r k h = changed_by (λ _ y. InRange c.size y) c.right i x k (λ _. r) (λ _. h)

tied_left_other : (c : Cells) (side : Side) (i : ℕ) (x : Content) (k : ℕ) → (k ≡ i → ⊥) → (tied_cells c side i x).left k ≡ c.left k
tied_left_other c Left i x k n = changed_other c.left i x k n
tied_left_other c Right i x k n = refl

tied_right_other : (c : Cells) (side : Side) (i : ℕ) (x : Content) (k : ℕ) → (k ≡ i → ⊥) → (tied_cells c side i x).right k ≡ c.right k
tied_right_other c Left i x k n = refl
tied_right_other c Right i x k n = changed_other c.right i x k n

pub tie_keeps : (s : State) (side : Side) (i : ℕ) (x : Content) → Invariant s → s.cells.tag i ≡ Used → InRange (size_of s) x → Settled s x → Invariant (with_cells s (tied_cells s.cells side i x))
tie_keeps s side i x v u r ok = record {
  few = v.few;
  some_hold = v.some_hold;
  hold_range = v.hold_range;
  left_range = λ k. tied_left_range s.cells side i x r k (v.left_range k);
  right_range = λ k. tied_right_range s.cells side i x r k (v.right_range k);
  stage_range = v.stage_range;
  place_range = v.place_range;
  swept = v.swept;
  sweep_range = v.sweep_range;
  held_kept = v.held_kept;
  named_kept = λ k d q n. elim (names_tied s.cells side i x k d n) [ inl e ↦ (ok d e).0 | inr o ↦ v.named_kept k d q o ];
  dark_kept = v.dark_kept;
  black_names = λ k d b n. elim (names_tied s.cells side i x k d n) [ inl e ↦ (ok d e).1 | inr o ↦ v.black_names k d b o ];
  visited_dark = v.visited_dark;
  ended_black = v.ended_black;
  free_list = free_stays s.cells (tied_cells s.cells side i x) s.free refl (λ _. refl) (λ _ _. refl) (λ k t. tied_left_other s.cells side i x k (apart k t)) (λ k t. tied_right_other s.cells side i x k (apart k t)) v.free_list;
}
  where
    apart : (k : ℕ) → s.cells.tag k ≡ Free → k ≡ i → ⊥
    apart k t e = let z : Free ≡ Used = sym t ∙ rw e u in grind arith

-- Marking.

pub stage_keeps : (s : State) (g : Stage) → Invariant s → ((r : ℕ) → g ≡ AtHold r → r < s.hold_count) → ((h c : ℕ) → h < visited_holds g s.hold_count → Holds s h c → Dark (s.cells.mark c)) → (g ≡ Ended → (i : ℕ) → Dark (s.cells.mark i) → IsBlack (s.cells.mark i)) → Invariant (with_stage s g)
stage_keeps s g v range visited ended = record {
  few = v.few;
  some_hold = v.some_hold;
  hold_range = v.hold_range;
  left_range = v.left_range;
  right_range = v.right_range;
  stage_range = range;
  place_range = v.place_range;
  swept = v.swept;
  sweep_range = v.sweep_range;
  held_kept = v.held_kept;
  named_kept = v.named_kept;
  dark_kept = v.dark_kept;
  black_names = v.black_names;
  visited_dark = visited;
  ended_black = ended;
  free_list = v.free_list;
}

-- a marked cell becomes black once the cells it names are marked
pub paint_keeps : (s : State) (i : ℕ) → Invariant s → Dark (s.cells.mark i) → ((c : ℕ) → Names s.cells i c → Dark (s.cells.mark c)) → Invariant (with_mark_colours s (changed_at s.cells.mark i mark.Black))
paint_keeps s i v d named = record {
  few = v.few;
  some_hold = v.some_hold;
  hold_range = v.hold_range;
  left_range = v.left_range;
  right_range = v.right_range;
  stage_range = v.stage_range;
  place_range = v.place_range;
  swept = v.swept;
  sweep_range = v.sweep_range;
  held_kept = v.held_kept;
  named_kept = v.named_kept;
  dark_kept = λ j. changed_by (λ k m. Dark m → Kept s k) s.cells.mark i mark.Black j (λ e _. rw e (v.dark_kept i d)) (λ _ h. v.dark_kept j h);
  black_names = λ j c b n. more c (changed_by (λ k m. IsBlack m → Names s.cells k c → Dark (s.cells.mark c)) s.cells.mark i mark.Black j (λ q _ z. named c (rw q at z)) (λ _ h z. v.black_names j c h z) b n);
  visited_dark = λ h c l q. more c (v.visited_dark h c l q);
  ended_black = λ e j. changed_by (λ _ m. Dark m → IsBlack m) s.cells.mark i mark.Black j (λ _ _. tt) (λ _ h. v.ended_black e j h);
  free_list = recoloured s.cells (changed_at s.cells.mark i mark.Black) s.free v.free_list;
}
  where
    more : (c : ℕ) → Dark (s.cells.mark c) → Dark (changed_at s.cells.mark i mark.Black c)
    more c h = changed_by (λ _ m. Dark m) s.cells.mark i mark.Black c (λ _. tt) (λ _. h)

-- what a hold contains may be shaded
pub held_shadable : (s : State) → Invariant s → (g : ℕ) → g < s.hold_count → Shadable s (s.hold g)
held_shadable s v g l c e = (v.held_kept g c (l, e), λ z. v.visited_dark g c (rw z l) (l, e))

-- the search
pub grey_dark : (m : MarkColour) → is_grey m ≡ true → Dark m
grey_dark mark.White h = grind arith
grey_dark mark.Grey h = tt
grey_dark mark.Black h = tt

dark_black : (m : MarkColour) → is_grey m ≡ false → Dark m → IsBlack m
dark_black mark.White h d = d
dark_black mark.Grey h d = grind arith
dark_black mark.Black h d = tt

or_none : (f g : Option ℕ) → or_else_found f g ≡ None → g ≡ None
or_none None g e = e
or_none (Some k) g e = let z : ◌≡◌ {A = Option ℕ} (Some k) None = e in let o : ◌≡◌ {A = ℕ} 0 1 = cc in absurd (omega arith)

or_found : (f g : Option ℕ) (i : ℕ) → or_else_found f g ≡ Some i → (f ≡ Some i) ⊎ (g ≡ Some i)
or_found None g i e = inr e
or_found (Some k) g i e = inl e

pub next_found : (c : Cells) (k i : ℕ) → next_grey c k ≡ Some i → (i < c.size) × (is_grey (c.mark i) ≡ true)
next_found c k i e = elim (or_found (first_grey c k) (first_grey c 0) i e) [ inl q ↦ found_grey c k i q | inr q ↦ found_grey c 0 i q ]

next_none : (c : Cells) (k : ℕ) → next_grey c k ≡ None → (i : ℕ) → i < c.size → is_grey (c.mark i) ≡ false
next_none c k e i l = none_grey c 0 (or_none (first_grey c k) (first_grey c 0) e) i (omega arith) l

found_keeps : (s : State) (f : Option ℕ) (k : ℕ) → s.stage ≡ AtCell k → next_grey s.cells k ≡ f → Invariant s → Invariant (mark_found s f)
found_keeps s None k st e v =
    stage_keeps s Ended v (λ r z. grind arith) (λ h c l q. v.visited_dark h c (rw st l) q) (λ _ i d. dark_black (s.cells.mark i) (next_none s.cells k e i (v.dark_kept i d).0) d)
found_keeps s (Some i) k st e v =
    let d : Dark (s.cells.mark i) = grey_dark (s.cells.mark i) (next_found s.cells k i e).1 in
    let kept : Kept s i = v.dark_kept i d in
    let goes_on : s.stage ≡ Ended → ⊥ = λ z. grind arith in
    let s1 : State = shade s (s.cells.left i) in
    let v1 : Invariant s1 = shade_keeps s (s.cells.left i) v (λ c q. (v.named_kept i c kept (inl q), λ z. absurd (goes_on z))) in
    let s2 : State = shade s1 (s.cells.right i) in
    let v2 : Invariant s2 = shade_keeps s1 (s.cells.right i) v1 (λ c q. (v.named_kept i c kept (inr q), λ z. absurd (goes_on z))) in
    let d2 : Dark (s2.cells.mark i) = shaded_keeps s1.cells.mark (s.cells.right i) i (shaded_keeps s.cells.mark (s.cells.left i) i d) in
    let v3 : Invariant (blacken s i) = paint_keeps s2 i v2 d2 (named_dark s i) in
    stage_keeps (blacken s i) (AtCell i) v3 (λ r z. grind arith) (λ h c l q. v3.visited_dark h c (rw st l) q) (λ z. grind arith)
  where
    named_dark : (s : State) (i c : ℕ) → Names s.cells i c → Dark (shaded (shaded s.cells.mark (s.cells.left i)) (s.cells.right i) c)
    named_dark s i c (inl q) = shaded_keeps (shaded s.cells.mark (s.cells.left i)) (s.cells.right i) c (shaded_is s.cells.mark (s.cells.left i) c q)
    named_dark s i c (inr q) = shaded_is (shaded s.cells.mark (s.cells.left i)) (s.cells.right i) c q

next_visited : (n r h : ℕ) → r < n → h < visited_holds (next_stage n r) n → h < suc r
next_visited n r h q l = go (ltb (suc r) n) refl l
  where
    go : (b : Bool) → ltb (suc r) n ≡ b → h < visited_holds (cond b (AtHold (suc r)) (AtCell 0)) n → h < suc r
    go true e p = p
    go false e p = let w = ltb-false (suc r) n e in omega arith

next_range : (n r q : ℕ) → next_stage n r ≡ AtHold q → q < n
next_range n r q e = go (ltb (suc r) n) refl e
  where
    go : (b : Bool) → ltb (suc r) n ≡ b → cond b (AtHold (suc r)) (AtCell 0) ≡ AtHold q → q < n
    go true z p = let w = ltb-true (suc r) n z in let y : suc r ≡ q = cc in omega arith
    go false z p = grind arith

next_goes_on : (n r : ℕ) → next_stage n r ≡ Ended → ⊥
next_goes_on n r e = go (ltb (suc r) n) e
  where
    go : (b : Bool) → cond b (AtHold (suc r)) (AtCell 0) ≡ Ended → ⊥
    go true p = grind arith
    go false p = grind arith

pub mark_keeps : (s : State) → Invariant s → Invariant (after_mark s)
mark_keeps s v = go s.stage refl
  where
    go : (g : Stage) → s.stage ≡ g → Invariant (mark_at s g)
    go (AtHold r) e =
        let l : r < s.hold_count = v.stage_range r e in
        let w : Invariant (shade s (s.hold r)) = shade_keeps s (s.hold r) v (held_shadable s v r l) in
        stage_keeps (shade s (s.hold r)) (next_stage s.hold_count r) w (next_range s.hold_count r) (λ h c q z. elim (cases_eq h r) [ inl y ↦ shaded_is s.cells.mark (s.hold r) c (rw y at z.1) | inr y ↦ shaded_keeps s.cells.mark (s.hold r) c (v.visited_dark h c (rw e (let u = next_visited s.hold_count r h l q in omega arith)) z) ]) (λ z. absurd (next_goes_on s.hold_count r z))
    go (AtCell k) e = found_keeps s (next_grey s.cells k) k e refl v
    go Ended e = v

-- Sweeping.

-- What a sweep answers and does: it puts its cell back, passes it, or has ended.
pub data Swept (s : State) : Option (ℕ × Bool) → State → Type 0 where
  put : s.place < size_of s → s.cells.tag s.place ≡ Used → s.cells.sweep s.place ≡ sweep.White → Swept s (Some (s.place, true)) (put_back s)
  past : s.place < size_of s → (s.cells.tag s.place ≡ Used → s.cells.sweep s.place ≡ sweep.Black) → Swept s (Some (s.place, false)) (pass_by s)
  idle : size_of s ≤ s.place → Swept s None s

used_is : (t : Tag) → used_tag t ≡ true → t ≡ Used
used_is Free e = grind arith
used_is Used e = refl

not_used : (t : Tag) → used_tag t ≡ false → t ≡ Used → ⊥
not_used Free e u = grind arith
not_used Used e u = grind arith

white_is : (c : SweepColour) → white_sweep c ≡ true → c ≡ sweep.White
white_is sweep.White e = refl
white_is sweep.Black e = grind arith

black_is : (c : SweepColour) → white_sweep c ≡ false → c ≡ sweep.Black
black_is sweep.White e = grind arith
black_is sweep.Black e = refl

pub sweeps_how : (s : State) → Swept s (sweep_answer s) (after_sweep s)
sweeps_how s = go (sweeps_on s) refl (puts_back s) refl
  where
    go : (a : Bool) → sweeps_on s ≡ a → (b : Bool) → puts_back s ≡ b → Swept s (cond a (Some (s.place, b)) None) (cond a (cond b (put_back s) (pass_by s)) s)
    go false e b f = idle (ltb-false s.place (size_of s) e)
    go true e true f =
        let q = and_parts (used_tag (s.cells.tag s.place)) (white_sweep (s.cells.sweep s.place)) f in
        put (ltb-true s.place (size_of s) e) (used_is (s.cells.tag s.place) q.0) (white_is (s.cells.sweep s.place) q.1)
    go true e false f =
        past (ltb-true s.place (size_of s) e) (λ u. elim (and_cases (used_tag (s.cells.tag s.place)) (white_sweep (s.cells.sweep s.place)) f) [ inl z ↦ absurd (not_used (s.cells.tag s.place) z u) | inr z ↦ black_is (s.cells.sweep s.place) z ])

module _ (s : State) (v : Invariant s) (on : s.place < size_of s) (used : s.cells.tag s.place ≡ Used) (lost : s.cells.sweep s.place ≡ sweep.White) where
  pub put_apart : (i : ℕ) → Kept s i → i ≡ s.place → ⊥
  put_apart i k e = elim k.2 [ inl l ↦ omega arith | inr b ↦ not_both_colours lost (rw e at b) ]

  pub put_kept : (i : ℕ) → Kept s i → Kept (put_back s) i
  put_kept i k = (k.0, changed_other s.cells.tag s.place Free i (put_apart i k) ∙ k.1, elim k.2 [ inl l ↦ inl (omega arith) | inr b ↦ inr b ])

  kept_put : (i : ℕ) → Kept (put_back s) i → Kept s i
  kept_put i k = elim (changed_from (λ _ t. t ≡ Used) s.cells.tag s.place Free i k.1) [
    | inl q ↦ absurd (let z : Free ≡ Used = q.1 in grind arith)
    | inr q ↦ (k.0, q.1, elim k.2 [ inl l ↦ inl (let n = q.0 in omega arith) | inr b ↦ inr b ])
  ]

  pub put_names : (i c : ℕ) → Kept s i → Names (put_back s).cells i c → Names s.cells i c
  put_names i c k n = named_before s.cells s.free s.place v.free_list on used i c k.1 (put_apart i k) n

  pub put_back_keeps : Invariant (put_back s)
  put_back_keeps = record {
    few = v.few;
    some_hold = v.some_hold;
    hold_range = v.hold_range;
    left_range = left_in_range_lem s.cells s.free s.place v.free_list on used v.left_range;
    right_range = λ i. changed_by (λ _ y. InRange (size_of s) y) s.cells.right s.place Nothing i (λ _. tt) (λ _. v.right_range i);
    stage_range = v.stage_range;
    place_range = on;
    swept = λ i l. elim (cases_eq i s.place) [ inl e ↦ rw e lost | inr n ↦ v.swept i (omega arith) ];
    sweep_range = v.sweep_range;
    held_kept = λ h c q. put_kept c (v.held_kept h c q);
    named_kept = λ i c k n. let o = kept_put i k in put_kept c (v.named_kept i c o (put_names i c o n));
    dark_kept = λ i d. put_kept i (v.dark_kept i d);
    black_names = λ i c b n. v.black_names i c b (put_names i c (v.dark_kept i (black_dark (s.cells.mark i) b)) n);
    visited_dark = v.visited_dark;
    ended_black = v.ended_black;
    free_list = free_put_back s.cells s.free s.place v.free_list on used;
  }

module _ (s : State) (v : Invariant s) (on : s.place < size_of s) (stays : s.cells.tag s.place ≡ Used → s.cells.sweep s.place ≡ sweep.Black) where
  pub pass_kept : (i : ℕ) → Kept s i → Kept (pass_by s) i
  pass_kept i k = (
    k.0,
    k.1,
    elim (cases_eq i s.place) [
      | inl e ↦ inl (omega arith)
      | inr n ↦ elim k.2 [ inl l ↦ inl (omega arith) | inr b ↦ inr (changed_other s.cells.sweep s.place sweep.White i n ∙ b) ]
    ],
  )

  kept_passed : (i : ℕ) → Kept (pass_by s) i → Kept s i
  kept_passed i k = (
    k.0,
    k.1,
    elim (cases_eq i s.place) [
      | inl e ↦ inr (rw e (stays (rw e at k.1)))
      | inr n ↦ elim k.2 [ inl l ↦ inl (omega arith) | inr b ↦ inr (sym (changed_other s.cells.sweep s.place sweep.White i n) ∙ b) ]
    ],
  )

  pub pass_keeps : Invariant (pass_by s)
  pass_keeps = record {
    few = v.few;
    some_hold = v.some_hold;
    hold_range = v.hold_range;
    left_range = v.left_range;
    right_range = v.right_range;
    stage_range = v.stage_range;
    place_range = on;
    swept = λ i l. changed_by (λ _ c. c ≡ sweep.White) s.cells.sweep s.place sweep.White i (λ _. refl) (λ n. v.swept i (omega arith));
    sweep_range = λ i b. elim (changed_from (λ _ c. c ≡ sweep.Black) s.cells.sweep s.place sweep.White i b) [ inl q ↦ absurd (not_both_colours refl q.1) | inr q ↦ v.sweep_range i q.1 ];
    held_kept = λ h c q. pass_kept c (v.held_kept h c q);
    named_kept = λ i c k n. pass_kept c (v.named_kept i c (kept_passed i k) n);
    dark_kept = λ i d. pass_kept i (v.dark_kept i d);
    black_names = v.black_names;
    visited_dark = v.visited_dark;
    ended_black = v.ended_black;
    free_list = free_stays s.cells (pass_by s).cells s.free refl (λ _. refl) (λ _ _. refl) (λ _ _. refl) (λ _ _. refl) v.free_list;
  }

pub swept_keeps : (s t : State) (a : Option (ℕ × Bool)) → Invariant s → Swept s a t → Invariant t
swept_keeps s t a v (put on used lost) = put_back_keeps s v on used lost
swept_keeps s t a v (past on stays) = pass_keeps s v on stays
swept_keeps s t a v (idle l) = v

pub sweep_keeps : (s : State) → Invariant s → Invariant (after_sweep s)
sweep_keeps s v = swept_keeps s (after_sweep s) (sweep_answer s) v (sweeps_how s)

-- Turning.

-- What a turn does: the colours are exchanged, or it comes too early.
pub data Rolled (s : State) : Bool → State → Type 0 where
  rolls : s.stage ≡ Ended → s.place ≡ size_of s → Rolled s true (turned s)
  rests : (s.stage ≡ Ended → s.place ≡ size_of s → ⊥) → Rolled s false s

ended_is : (g : Stage) → has_ended g ≡ true → g ≡ Ended
ended_is (AtHold r) e = grind arith
ended_is (AtCell k) e = grind arith
ended_is Ended e = refl

pub can_turn_parts : (s : State) → can_turn s ≡ true → (s.stage ≡ Ended) × (s.place ≡ size_of s)
can_turn_parts s e = let q = and_parts (has_ended s.stage) (eqb s.place (size_of s)) e in (ended_is s.stage q.0, eqb-true s.place (size_of s) q.1)

pub cannot_turn : (s : State) → can_turn s ≡ false → s.stage ≡ Ended → s.place ≡ size_of s → ⊥
cannot_turn s e a b = elim (and_cases (has_ended s.stage) (eqb s.place (size_of s)) e) [ inl z ↦ (let y : true ≡ false = rw a at z in grind arith) | inr z ↦ eqb-false s.place (size_of s) z b ]

pub turns_how : (s : State) → Rolled s (can_turn s) (after_turn s)
turns_how s = go (can_turn s) refl
  where
    go : (b : Bool) → can_turn s ≡ b → Rolled s b (cond b (turned s) s)
    go true e = let q = can_turn_parts s e in rolls q.0 q.1
    go false e = rests (cannot_turn s e)

-- the colours after an exchange
pub as_mark_dark : (c : SweepColour) → Dark (as_mark c) → c ≡ sweep.Black
as_mark_dark sweep.White d = absurd d
as_mark_dark sweep.Black d = refl

pub black_as_sweep : (m : MarkColour) → IsBlack m → as_sweep m ≡ sweep.Black
black_as_sweep mark.White b = absurd b
black_as_sweep mark.Grey b = absurd b
black_as_sweep mark.Black b = refl

pub as_sweep_black : (m : MarkColour) → as_sweep m ≡ sweep.Black → IsBlack m
as_sweep_black mark.White e = not_both_colours refl e
as_sweep_black mark.Grey e = not_both_colours refl e
as_sweep_black mark.Black e = tt

pub turn_keeps : (s : State) → s.stage ≡ Ended → s.place ≡ size_of s → Invariant s → Invariant (turned s)
turn_keeps s ended all v = record {
  few = v.few;
  some_hold = v.some_hold;
  hold_range = v.hold_range;
  left_range = v.left_range;
  right_range = v.right_range;
  stage_range = λ r e. let z : ◌≡◌ {A = ℕ} 0 r = cc in rw (← z) v.some_hold;
  place_range = omega arith;
  swept = λ i l. absurd (omega arith);
  sweep_range = λ i e. (v.dark_kept i (black_dark (s.cells.mark i) (as_sweep_black (s.cells.mark i) e))).0;
  held_kept = λ h c q. kept c (v.visited_dark h c (rw ended q.0) q);
  named_kept = λ i c k n. kept c (v.black_names i c (was_black i k) n);
  dark_kept = λ i d. absurd (none_dark i d);
  black_names = λ i c b n. absurd (none_dark i (black_dark _ b));
  visited_dark = λ h c l q. absurd (omega arith);
  ended_black = λ e i d. absurd (none_dark i d);
  free_list = free_stays s.cells (turned s).cells s.free refl (λ _. refl) (λ _ _. refl) (λ _ _. refl) (λ _ _. refl) v.free_list;
}
  where
    none_dark : (i : ℕ) → Dark (as_mark (s.cells.sweep i)) → ⊥
    none_dark i d = let b = as_mark_dark (s.cells.sweep i) d in not_both_colours (v.swept i (rw all (v.sweep_range i b))) b

    kept : (c : ℕ) → Dark (s.cells.mark c) → Kept (turned s) c
    kept c d = let k = v.dark_kept c d in (k.0, k.1, inr (black_as_sweep (s.cells.mark c) (v.ended_black ended c d)))

    was_black : (i : ℕ) → Kept (turned s) i → IsBlack (s.cells.mark i)
    was_black i k = elim k.2 [ inl l ↦ absurd (omega arith) | inr e ↦ as_sweep_black (s.cells.mark i) e ]

pub rolled_keeps : (m u : State) (b : Bool) → Rolled m b u → Invariant m → Invariant u
rolled_keeps m u b (rolls ended all) v = turn_keeps m ended all v
rolled_keeps m u b (rests r) v = v

-- A unit.
pub half_keeps : (s : State) → Invariant s → Invariant (mark_and_sweep s)
half_keeps s v = sweep_keeps (after_mark s) (mark_keeps s v)

pub unit_keeps : (s : State) → Invariant s → Invariant (after_unit s)
unit_keeps s v = rolled_keeps (mark_and_sweep s) (after_unit s) (can_turn (mark_and_sweep s)) (turns_how (mark_and_sweep s)) (half_keeps s v)
