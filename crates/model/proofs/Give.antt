-- New cells: one lemma for the one cell of a take and for all cells of a load.
use Rattle.std.proofs.Common.{◌≡◌, ℕ, ◌<◌, Bool, true, false, leb, ◌⊎◌, List, ◌++◌, sym, ◌∙◌, inl, inr}
use Rattle.std.proofs.lemmas.Bool.{cases_Bool, cond-false, cond-true, leb-false, lt-leb}
use Rattle.cells.specs.declared.content.Content.TheVariants.{Cell}
use Rattle.cells.specs.declared.cell.Tag.TheVariants.{Free, Used}
use Rattle.cells.specs.declared.cell.MarkColour.TheVariants as mark
use Rattle.cells.specs.declared.cell.SweepColour.TheVariants as sweep
use Rattle.cells.specs.Calls.{InRange}
use Rattle.cells.specs.Cells.{Cells}
use Rattle.lines.specs.declared.cell.PatternCell.{PatternCell}
use Rattle.numbering.specs.Lists.{In}
use Rattle.numbering.specs.Same.{Names}
use Rattle.numbering.proofs.Lists.{in_left}
use Rattle.model.specs.FreeList.{IsFreeList}
use Rattle.model.specs.Invariant.{Dark, Invariant, IsBlack, Kept}
use Rattle.model.specs.State.{State, size_of}
use Rattle.model.specs.Take.{give, given_cells, new_sweep}
use Rattle.model.proofs.Basics.{at_new, at_old, by_new, not_both_tags}
use Rattle.model.proofs.FreeList.{free_given}

-- a given cell has cell c as left or right
abbrev pub GivenNames : PatternCell → ℕ → Type 0
GivenNames given c = (given.left ≡ Cell c) ⊎ (given.right ≡ Cell c)

-- a new cell names what it was given, an old one what it named
pub new_names : (c : Cells) (place : ℕ) (new : ℕ → Bool) (given : ℕ → PatternCell) (i d : ℕ) → new i ≡ true → Names (given_cells c place new given) i d → GivenNames (given i) d
new_names c place new given i d e (inl q) = inl (sym (at_new new (λ k. (given k).left) c.left i e) ∙ q)
new_names c place new given i d e (inr q) = inr (sym (at_new new (λ k. (given k).right) c.right i e) ∙ q)

pub old_names : (c : Cells) (place : ℕ) (new : ℕ → Bool) (given : ℕ → PatternCell) (i d : ℕ) → new i ≡ false → Names (given_cells c place new given) i d → Names c i d
old_names c place new given i d e (inl q) = inl (sym (at_old new (λ k. (given k).left) c.left i e) ∙ q)
old_names c place new given i d e (inr q) = inr (sym (at_old new (λ k. (given k).right) c.right i e) ∙ q)

-- What may be given: the front of the free list, with contents in range whose cells are new or kept and marked.
pub record Fresh (s : State) (new : ℕ → Bool) (given : ℕ → PatternCell) (names rest : List ℕ) : Type 0 where
  pub list : s.free ≡ names ++ rest
  pub listed : (i : ℕ) → new i ≡ true → In i names
  pub all_new : (i : ℕ) → In i names → new i ≡ true
  pub left_range : (i : ℕ) → new i ≡ true → InRange (size_of s) (given i).left
  pub right_range : (i : ℕ) → new i ≡ true → InRange (size_of s) (given i).right
  pub contents : (i c : ℕ) → new i ≡ true → GivenNames (given i) c → (new c ≡ true) ⊎ (Kept s c × Dark (s.cells.mark c))

module _ (s : State) (new : ℕ → Bool) (given : ℕ → PatternCell) (names rest : List ℕ) (v : Invariant s) (f : Fresh s new given names rest) where
  abbrev after : State
  after = give s new given rest

  listed_free : IsFreeList s.cells (names ++ rest)
  listed_free = rw f.list at v.free_list

  pub was_free : (i : ℕ) → new i ≡ true → (i < size_of s) × (s.cells.tag i ≡ Free)
  was_free i e = listed_free.only i (in_left names rest i (f.listed i e))

  kept_old : (i : ℕ) → Kept s i → new i ≡ false
  kept_old i k = elim (cases_Bool (new i)) [ inl e ↦ absurd (not_both_tags (was_free i e).1 k.1) | inr e ↦ e ]

  -- what was kept is kept
  pub still_kept : (i : ℕ) → Kept s i → Kept (give s new given rest) i
  still_kept i k =
      let o = kept_old i k in
      (k.0, at_old new (λ _. Used) s.cells.tag i o ∙ k.1, elim k.2 [ inl q ↦ inl q | inr q ↦ inr (at_old new (new_sweep s.place) s.cells.sweep i o ∙ q) ])

  -- a new cell is kept: the sweeper has passed it, or finds it black
  pub new_kept : (i : ℕ) → new i ≡ true → Kept (give s new given rest) i
  new_kept i e = (
    (was_free i e).0,
    at_new new (λ _. Used) s.cells.tag i e,
    elim (cases_Bool (leb s.place i)) [
      | inl q ↦ inr (at_new new (new_sweep s.place) s.cells.sweep i e ∙ cond-true (leb s.place i) sweep.Black sweep.White q)
      | inr q ↦ inl (leb-false s.place i q)
    ],
  )

  kept_before : (i : ℕ) → new i ≡ false → Kept (give s new given rest) i → Kept s i
  kept_before i e k =
      (k.0, sym (at_old new (λ _. Used) s.cells.tag i e) ∙ k.1, elim k.2 [ inl q ↦ inl q | inr q ↦ inr (sym (at_old new (new_sweep s.place) s.cells.sweep i e) ∙ q) ])

  pub still_dark : (i : ℕ) → Dark (s.cells.mark i) → Dark ((give s new given rest).cells.mark i)
  still_dark i d = by_new Dark new (λ _. mark.Black) s.cells.mark i (λ _. tt) (λ _. d)

  pub new_dark : (i : ℕ) → new i ≡ true → Dark ((give s new given rest).cells.mark i)
  new_dark i e = rw (at_new new (λ _. mark.Black) s.cells.mark i e) tt

  content_kept : (c : ℕ) → (new c ≡ true) ⊎ (Kept s c × Dark (s.cells.mark c)) → Kept (give s new given rest) c
  content_kept c (inl e) = new_kept c e
  content_kept c (inr k) = still_kept c k.0

  content_dark : (c : ℕ) → (new c ≡ true) ⊎ (Kept s c × Dark (s.cells.mark c)) → Dark ((give s new given rest).cells.mark c)
  content_dark c (inl e) = new_dark c e
  content_dark c (inr k) = still_dark c k.1

  passed_white : (i : ℕ) → i < s.place → new_sweep s.place i ≡ sweep.White
  passed_white i l = cond-false (leb s.place i) sweep.Black sweep.White (lt-leb s.place i l)

  pub give_keeps : Invariant (give s new given rest)
  give_keeps = record {
    few = v.few;
    some_hold = v.some_hold;
    hold_range = v.hold_range;
    left_range = λ i. by_new (InRange (size_of s)) new (λ k. (given k).left) s.cells.left i (f.left_range i) (λ _. v.left_range i);
    right_range = λ i. by_new (InRange (size_of s)) new (λ k. (given k).right) s.cells.right i (f.right_range i) (λ _. v.right_range i);
    stage_range = v.stage_range;
    place_range = v.place_range;
    swept = λ i l. by_new (λ c. c ≡ sweep.White) new (new_sweep s.place) s.cells.sweep i (λ _. passed_white i l) (λ _. v.swept i l);
    sweep_range = λ i b. elim (cases_Bool (new i)) [ inl n ↦ (was_free i n).0 | inr o ↦ v.sweep_range i (sym (at_old new (new_sweep s.place) s.cells.sweep i o) ∙ b) ];
    held_kept = λ h c q. still_kept c (v.held_kept h c q);
    named_kept = λ i c k n. elim (cases_Bool (new i)) [
      | inl e ↦ content_kept c (f.contents i c e (new_names s.cells s.place new given i c e n))
      | inr o ↦ still_kept c (v.named_kept i c (kept_before i o k) (old_names s.cells s.place new given i c o n))
    ];
    dark_kept = λ i d. elim (cases_Bool (new i)) [ inl n ↦ new_kept i n | inr o ↦ still_kept i (v.dark_kept i (rw (at_old new (λ _. mark.Black) s.cells.mark i o) at d)) ];
    black_names = λ i c b n. elim (cases_Bool (new i)) [
      | inl e ↦ content_dark c (f.contents i c e (new_names s.cells s.place new given i c e n))
      | inr o ↦ still_dark c (v.black_names i c (rw (at_old new (λ _. mark.Black) s.cells.mark i o) at b) (old_names s.cells s.place new given i c o n))
    ];
    visited_dark = λ h c l q. still_dark c (v.visited_dark h c l q);
    ended_black = λ z i. by_new (λ m. Dark m → IsBlack m) new (λ _. mark.Black) s.cells.mark i (λ _ _. tt) (λ _ d. v.ended_black z i d);
    free_list = free_given s.cells s.place new given names rest listed_free f.listed f.all_new;
  }
