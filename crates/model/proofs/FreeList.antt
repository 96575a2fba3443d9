-- The laws of the free list. No other file speaks of what a free cell contains.
use Rattle.std.proofs.Common.{◌≡◌, ℕ, zero, suc, ◌+◌, ◌<◌, Bool, true, false, ltb, List, [], ◌∷◌, ◌++◌, sym, refl, ◌∙◌, inl, inr, arith}
use Rattle.std.proofs.lemmas.Bool.{both_ways, cases_Bool, cond-true, cond-false, le-ltb, lt-ltb}
use Rattle.cells.specs.declared.content.Content.{Content}
use Rattle.cells.specs.declared.content.Content.TheVariants.{Nothing, Cell}
use Rattle.cells.specs.declared.cell.Tag.TheVariants.{Free, Used}
use Rattle.cells.specs.Calls.{InRange}
use Rattle.cells.specs.Cells.{Cells, changed_at}
use Rattle.cells.proofs.Changed.{changed_by, changed_from, changed_other, changed_same}
use Rattle.lines.specs.declared.cell.PatternCell.{PatternCell}
use Rattle.numbering.specs.Lists.{In, Once, count_from}
use Rattle.numbering.specs.Same.{Names}
use Rattle.numbering.proofs.Lists.{count_in, count_once, in_append, in_count, in_left, in_push, in_right, once_apart, once_push, once_right}
use Rattle.model.specs.FreeList.{IsFreeList, Linked, linked_behind, put_back_cells}
use Rattle.model.specs.State.{opened_cells}
use Rattle.model.specs.Take.{given_cells}
use Rattle.model.proofs.Basics.{at_new, at_old, not_both_tags}

-- Links.

-- the links of a list depend on its own cells only
linked_same : (left left' : ℕ → Content) (xs : List ℕ) → ((i : ℕ) → In i xs → left' i ≡ left i) → Linked left xs → Linked left' xs
linked_same left left' [] e l = tt
linked_same left left' (x ∷ []) e l = e x (inl refl) ∙ l
linked_same left left' (x ∷ y ∷ ys) e l = (e x (inl refl) ∙ l.0, linked_same left left' (y ∷ ys) (λ i h. e i (inr h)) l.1)

linked_rest : (left : ℕ → Content) (x : ℕ) (xs : List ℕ) → Linked left (x ∷ xs) → Linked left xs
linked_rest left x [] l = tt
linked_rest left x (y ∷ ys) l = l.1

linked_right : (left : ℕ → Content) (xs ys : List ℕ) → Linked left (xs ++ ys) → Linked left ys
linked_right left [] ys l = l
linked_right left (x ∷ xs) ys l = linked_right left xs ys (linked_rest left x (xs ++ ys) l)

-- linking behind the end changes no cell that is not in the list
linked_other : (xs : List ℕ) (left : ℕ → Content) (p j : ℕ) → (In j xs → ⊥) → linked_behind xs left p j ≡ left j
linked_other [] left p j n = refl
linked_other (x ∷ []) left p j n = changed_other left x (Cell p) j (λ e. n (inl e))
linked_other (x ∷ y ∷ ys) left p j n = linked_other (y ∷ ys) left p j (λ h. n (inr h))

linked_push : (xs : List ℕ) (left : ℕ → Content) (p : ℕ) → Once xs → (In p xs → ⊥) → Linked left xs → Linked (changed_at (linked_behind xs left p) p Nothing) (xs ++ (p ∷ []))
linked_push [] left p o n l = changed_same left p Nothing
linked_push (x ∷ []) left p o n l =
    (changed_other (changed_at left x (Cell p)) p Nothing x (λ e. n (inl (sym e))) ∙ changed_same left x (Cell p), changed_same (changed_at left x (Cell p)) p Nothing)
linked_push (x ∷ y ∷ ys) left p o n l =
    (changed_other (linked_behind (y ∷ ys) left p) p Nothing x (λ e. n (inl (sym e))) ∙ linked_other (y ∷ ys) left p x o.0 ∙ l.0, linked_push (y ∷ ys) left p o.1 (λ h. n (inr h)) l.1)

linked_range : (m : ℕ) (xs : List ℕ) (left : ℕ → Content) (p : ℕ) → p < m → ((i : ℕ) → InRange m (left i)) → (j : ℕ) → InRange m (linked_behind xs left p j)
linked_range m [] left p h r j = r j
linked_range m (x ∷ []) left p h r j = changed_by (λ _ y. InRange m y) left x (Cell p) j (λ _. h) (λ _. r j)
linked_range m (x ∷ y ∷ ys) left p h r j = linked_range m (y ∷ ys) left p h r j

-- A free cell is not used, and no used cell is on the list.
pub not_listed : (c : Cells) (free : List ℕ) → IsFreeList c free → (i : ℕ) → c.tag i ≡ Used → In i free → ⊥
not_listed c free f i u h = not_both_tags (f.only i h).1 u

-- Cells that differ only in colours and in what used cells contain have the same free list.
pub free_stays : (c d : Cells) (free : List ℕ) → d.size ≡ c.size → ((i : ℕ) → d.tag i ≡ c.tag i) → ((i : ℕ) → c.tag i ≡ Free → d.joint i ≡ c.joint i) → ((i : ℕ) → c.tag i ≡ Free → d.left i ≡ c.left i) → ((i : ℕ) → c.tag i ≡ Free → d.right i ≡ c.right i) → IsFreeList c free → IsFreeList d free
free_stays c d free size tag joint left right f = record {
  only = λ i h. let q = f.only i h in (rw size q.0, tag i ∙ q.1);
  all = λ i l e. f.all i (rw size at l) (sym (tag i) ∙ e);
  once = f.once;
  linked = linked_same c.left d.left free (λ i h. left i (f.only i h).1) f.linked;
  joints = λ i h. joint i (f.only i h).1 ∙ f.joints i h;
  rights = λ i h. right i (f.only i h).1 ∙ f.rights i h;
}

-- A cell is put back: it is behind the end.
module _ (c : Cells) (free : List ℕ) (p : ℕ) (f : IsFreeList c free) (below : p < c.size) (used : c.tag p ≡ Used) where
  apart : (i : ℕ) → In i free → i ≡ p → ⊥
  apart i h e = not_listed c free f i (rw e used) h

  pub free_put_back : IsFreeList (put_back_cells c free p) (free ++ (p ∷ []))
  free_put_back = record {
    only = λ i h. elim (in_push free p i h) [ inl q ↦ ((f.only i q).0, changed_other c.tag p Free i (apart i q) ∙ (f.only i q).1) | inr e ↦ rw e (below, changed_same c.tag p Free) ];
    all = λ i l t. elim (changed_from (λ _ u. u ≡ Free) c.tag p Free i t) [ inl q ↦ in_right free (p ∷ []) i (inl q.0) | inr q ↦ in_left free (p ∷ []) i (f.all i l q.1) ];
    once = once_push free p f.once (not_listed c free f p used);
    linked = linked_push free c.left p f.once (not_listed c free f p used) f.linked;
    joints = λ i h. elim (in_push free p i h) [ inl q ↦ changed_other c.joint p _ i (apart i q) ∙ f.joints i q | inr e ↦ rw e (changed_same c.joint p _) ];
    rights = λ i h. elim (in_push free p i h) [ inl q ↦ changed_other c.right p Nothing i (apart i q) ∙ f.rights i q | inr e ↦ rw e (changed_same c.right p Nothing) ];
  }

  -- every other used cell names what it named
  left_stays : (i : ℕ) → c.tag i ≡ Used → (i ≡ p → ⊥) → (put_back_cells c free p).left i ≡ c.left i
  left_stays i u n = changed_other (linked_behind free c.left p) p Nothing i n ∙ linked_other free c.left p i (not_listed c free f i u)

  pub named_before : (i d : ℕ) → c.tag i ≡ Used → (i ≡ p → ⊥) → Names (put_back_cells c free p) i d → Names c i d
  named_before i d u n (inl e) = inl (sym (left_stays i u n) ∙ e)
  named_before i d u n (inr e) = inr (sym (changed_other c.right p Nothing i n) ∙ e)

  pub named_after : (i d : ℕ) → c.tag i ≡ Used → (i ≡ p → ⊥) → Names c i d → Names (put_back_cells c free p) i d
  named_after i d u n (inl e) = inl (left_stays i u n ∙ e)
  named_after i d u n (inr e) = inr (changed_other c.right p Nothing i n ∙ e)

  -- the contents stay in range
  pub left_in_range_lem : ((i : ℕ) → InRange c.size (c.left i)) → (i : ℕ) → InRange c.size ((put_back_cells c free p).left i)
  left_in_range_lem r i = changed_by (λ _ y. InRange c.size y) (linked_behind free c.left p) p Nothing i (λ _. tt) (λ _. linked_range c.size free c.left p below r i)

-- The front of the list is given away: the rest is the list.
pub free_given : (c : Cells) (place : ℕ) (new : ℕ → Bool) (given : ℕ → PatternCell) (names rest : List ℕ) → IsFreeList c (names ++ rest) → ((i : ℕ) → new i ≡ true → In i names) → ((i : ℕ) → In i names → new i ≡ true) → IsFreeList (given_cells c place new given) rest
free_given c place new given names rest f to from = record {
  only = λ i h. ((f.only i (in_right names rest i h)).0, at_old new (λ _. Used) c.tag i (old i h) ∙ (f.only i (in_right names rest i h)).1);
  all = λ i l t. elim (cases_Bool (new i)) [ inl n ↦ absurd (not_both_tags t (at_new new (λ _. Used) c.tag i n)) | inr o ↦ elim (in_append names rest i (f.all i l (sym (at_old new (λ _. Used) c.tag i o) ∙ t))) [ inl h ↦ absurd (both_ways (new i) o (from i h)) | inr h ↦ h ] ];
  once = once_right names rest f.once;
  linked = linked_same c.left (given_cells c place new given).left rest (λ i h. at_old new (λ k. (given k).left) c.left i (old i h)) (linked_right c.left names rest f.linked);
  joints = λ i h. at_old new (λ k. (given k).joint) c.joint i (old i h) ∙ f.joints i (in_right names rest i h);
  rights = λ i h. at_old new (λ k. (given k).right) c.right i (old i h) ∙ f.rights i (in_right names rest i h);
}
  where
    old : (i : ℕ) → In i rest → new i ≡ false
    old i h = elim (cases_Bool (new i)) [ inl n ↦ absurd (once_apart names rest i f.once (to i n) h) | inr o ↦ o ]

-- A new store: all cells in rising order.
linked_count : (m k n : ℕ) → k + n ≡ m → Linked (opened_cells m).left (count_from k n)
linked_count m k zero e = tt
linked_count m k (suc zero) e = cond-false (ltb (suc k) m) (Cell (suc k)) Nothing (le-ltb (suc k) m (omega arith))
linked_count m k (suc (suc n)) e = (cond-true (ltb (suc k) m) (Cell (suc k)) Nothing (lt-ltb (suc k) m (omega arith)), linked_count m (suc k) (suc n) (omega arith))

pub free_opened : (m : ℕ) → IsFreeList (opened_cells m) (count_from 0 m)
free_opened m = record {
  only = λ i h. let q = in_count 0 m i h in (omega arith, refl);
  all = λ i l _. count_in 0 m i (omega arith) (omega arith);
  once = count_once 0 m;
  linked = linked_count m 0 m (omega arith);
  joints = λ i h. refl;
  rights = λ i h. refl;
}
