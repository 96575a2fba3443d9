-- Touched: reached from a hold or from a cell that is already marked. What is touched is kept; what is not will be white
-- at the next turn.
use Rattle.std.proofs.Common.{◌≡◌, ℕ, refl, ◌∙◌, inl, inr}
use Rattle.cells.specs.declared.content.Content.{Content}
use Rattle.cells.specs.declared.content.Content.TheVariants.{Cell}
use Rattle.cells.specs.declared.cell.Side.{Side}
use Rattle.cells.proofs.Changed.{changed_by}
use Rattle.numbering.specs.Same.{Names}
use Rattle.model.specs.declared.stage.Stage.TheVariants.{Ended}
use Rattle.model.specs.Collector.{shade}
use Rattle.model.specs.Hand.{tied_cells}
use Rattle.model.specs.Invariant.{Dark, Invariant, Kept}
use Rattle.model.specs.Reach.{Holds, Reached, Reached.held, Reached.through}
use Rattle.model.specs.State.{State, size_of, with_cells, with_hold}
use Rattle.model.proofs.Moves.{Shadable, names_tied}
use Rattle.model.proofs.Shade.{shaded_from, shaded_keeps}

pub data Touched (s : State) : ℕ → Type 0 where
  by_hold : (h c : ℕ) → Holds s h c → Touched s c
  by_mark : (i : ℕ) → Dark (s.cells.mark i) → Touched s i
  by_name : (i c : ℕ) → Touched s i → Names s.cells i c → Touched s c

pub reached_touched : (s : State) (i : ℕ) → Reached s i → Touched s i
reached_touched s i (held h c q) = by_hold h c q
reached_touched s i (through k c r n) = by_name k c (reached_touched s k r) n

pub touched_kept : (s : State) → Invariant s → (i : ℕ) → Touched s i → Kept s i
touched_kept s v i (by_hold h c q) = v.held_kept h c q
touched_kept s v i (by_mark k d) = v.dark_kept k d
touched_kept s v i (by_name k c t n) = v.named_kept k c (touched_kept s v k t) n

-- once marking has ended, what is touched is marked
pub touched_dark : (s : State) → Invariant s → s.stage ≡ Ended → (i : ℕ) → Touched s i → Dark (s.cells.mark i)
touched_dark s v z i (by_hold h c q) = v.visited_dark h c (rw z q.0) q
touched_dark s v z i (by_mark k d) = d
touched_dark s v z i (by_name k c t n) = v.black_names k c (v.ended_black z k (touched_dark s v z k t)) n

-- a content that a hand may move: its cell is touched
abbrev pub Known : State → Content → Type 0
Known s x = (c : ℕ) → x ≡ Cell c → Touched s c

pub known_shadable : (s : State) → Invariant s → (x : Content) → Known s x → Shadable s x
known_shadable s v x k c e = (touched_kept s v c (k c e), λ z. touched_dark s v z c (k c e))

-- A quiet step gives no cell and puts none back, takes no mark away and touches no further cell.
pub record Quiet (s t : State) : Type 0 where
  pub size_is : size_of t ≡ size_of s
  pub place_is : t.place ≡ s.place
  pub tag_is : (i : ℕ) → t.cells.tag i ≡ s.cells.tag i
  pub sweep_is : (i : ℕ) → t.cells.sweep i ≡ s.cells.sweep i
  pub darker : (i : ℕ) → Dark (s.cells.mark i) → Dark (t.cells.mark i)
  pub touch : (i : ℕ) → Touched t i → Touched s i
  pub free_is : t.free ≡ s.free

pub quiet_same : (s : State) → Quiet s s
quiet_same s = record { size_is = refl; place_is = refl; tag_is = λ i. refl; sweep_is = λ i. refl; darker = λ i d. d; touch = λ i t. t; free_is = refl }

pub quiet_then : (s t u : State) → Quiet s t → Quiet t u → Quiet s u
quiet_then s t u p q = record {
  size_is = q.size_is ∙ p.size_is;
  place_is = q.place_is ∙ p.place_is;
  tag_is = λ i. q.tag_is i ∙ p.tag_is i;
  sweep_is = λ i. q.sweep_is i ∙ p.sweep_is i;
  darker = λ i d. q.darker i (p.darker i d);
  touch = λ i d. p.touch i (q.touch i d);
  free_is = q.free_is ∙ p.free_is;
}

-- shading, a hold's new content and a tie are quiet where the content is known
shade_touch : (s : State) (x : Content) → Known s x → (i : ℕ) → Touched (shade s x) i → Touched s i
shade_touch s x k i (by_hold h c q) = by_hold h c q
shade_touch s x k i (by_mark j d) = elim (shaded_from s.cells.mark x j d) [ inl o ↦ by_mark j o | inr e ↦ k j e ]
shade_touch s x k i (by_name j c t n) = by_name j c (shade_touch s x k j t) n

pub shade_quiet : (s : State) (x : Content) → Known s x → Quiet s (shade s x)
shade_quiet s x k = record { size_is = refl; place_is = refl; tag_is = λ i. refl; sweep_is = λ i. refl; darker = λ i d. shaded_keeps s.cells.mark x i d; touch = shade_touch s x k; free_is = refl }

hold_touch : (s : State) (h : ℕ) (x : Content) → Known s x → (i : ℕ) → Touched (with_hold s h x) i → Touched s i
hold_touch s h x k i (by_hold g c q) = changed_by (λ _ y. y ≡ Cell c → Touched s c) s.hold h x g (λ _ z. k c z) (λ _ z. by_hold g c (q.0, z)) q.1
hold_touch s h x k i (by_mark j d) = by_mark j d
hold_touch s h x k i (by_name j c t n) = by_name j c (hold_touch s h x k j t) n

pub hold_quiet : (s : State) (h : ℕ) (x : Content) → Known s x → Quiet s (with_hold s h x)
hold_quiet s h x k = record { size_is = refl; place_is = refl; tag_is = λ i. refl; sweep_is = λ i. refl; darker = λ i d. d; touch = hold_touch s h x k; free_is = refl }

tie_touch : (s : State) (side : Side) (a : ℕ) (x : Content) → Known s x → (i : ℕ) → Touched (with_cells s (tied_cells s.cells side a x)) i → Touched s i
tie_touch s side a x k i (by_hold g c q) = by_hold g c q
tie_touch s side a x k i (by_mark j d) = by_mark j d
tie_touch s side a x k i (by_name j c t n) = elim (names_tied s.cells side a x j c n) [ inl e ↦ k c e | inr o ↦ by_name j c (tie_touch s side a x k j t) o ]

pub tie_quiet : (s : State) (side : Side) (a : ℕ) (x : Content) → Known s x → Quiet s (with_cells s (tied_cells s.cells side a x))
tie_quiet s side a x k = record { size_is = refl; place_is = refl; tag_is = λ i. refl; sweep_is = λ i. refl; darker = λ i d. d; touch = tie_touch s side a x k; free_is = refl }
