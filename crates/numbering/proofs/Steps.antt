-- The order as it grows: content by content, cell by cell, line by line.
use Rattle.std.proofs.Common.{◌≡◌, ℕ, zero, suc, ◌+◌, ◌-◌, ◌<◌, ◌≤◌, ltb, ◌⊎◌, List, [], ◌∷◌, ◌++◌, length, get_or, sym, refl, ap, ◌∙◌, subst, inl, inr, arith}
use Rattle.std.proofs.lemmas.Bool.{cond_both, cond-false, cond-true, le-ltb, lt-ltb}
use Rattle.cells.specs.declared.content.Content.{Content}
use Rattle.cells.specs.declared.content.Content.TheVariants.{Nothing, Yarn, Cell}
use Rattle.cells.specs.Cells.{Cells}
use Rattle.archive.specs.Pattern.{among}
use Rattle.numbering.specs.Lists.{In, Once}
use Rattle.numbering.specs.Same.{Names}
use Rattle.numbering.specs.Walk.{meets, meets_both, meets_line, order_after}
use Rattle.numbering.proofs.Fronts.{Front, front_in, front_on, front_same}
use Rattle.numbering.proofs.Lists.{among_in, among_not, in_among, in_push, in_right, not_among, once_push}

-- A cell that is met: the order has it already, or goes on with it.
pub meets_old : (w : List ℕ) (c : ℕ) → In c w → meets w (Cell c) ≡ w
meets_old w c h = cond-true (among c w) w (w ++ (c ∷ [])) (in_among c w h)

pub meets_new : (w : List ℕ) (c : ℕ) → (In c w → ⊥) → meets w (Cell c) ≡ w ++ (c ∷ [])
meets_new w c n = cond-false (among c w) w (w ++ (c ∷ [])) (not_among c w n)

-- A content that is met: the order goes on,
pub meets_front : (w : List ℕ) (x : Content) → Front w (meets w x)
meets_front w Nothing = front_same w
meets_front w (Yarn y) = front_same w
meets_front w (Cell c) = cond_both (among c w) w (w ++ (c ∷ [])) (Front w) (λ e. front_same w) (λ e. (c ∷ [], refl))

-- no cell comes twice,
meets_once : (w : List ℕ) (x : Content) → Once w → Once (meets w x)
meets_once w Nothing once = once
meets_once w (Yarn y) once = once
meets_once w (Cell c) once = cond_both (among c w) w (w ++ (c ∷ [])) Once (λ e. once) (λ e. once_push w c once (among_not c w e))

-- the cell of the content is there,
pub meets_named : (w : List ℕ) (x : Content) (c : ℕ) → x ≡ Cell c → In c (meets w x)
meets_named w x c e =
    subst (λ y. In c (meets w y)) (sym e) (cond_both (among c w) w (w ++ (c ∷ [])) (In c) (among_in c w) (λ _. in_right w (c ∷ []) c (inl refl)))

-- and no other is new
meets_only : (w : List ℕ) (x : Content) (c : ℕ) → In c (meets w x) → In c w ⊎ (x ≡ Cell c)
meets_only w Nothing c h = inl h
meets_only w (Yarn y) c h = inl h
meets_only w (Cell d) c h =
    cond_both (among d w) w (w ++ (d ∷ [])) (λ v. In c v → In c w ⊎ (Cell d ≡ Cell c))
    (λ _ q. inl q)
    (λ _ q. elim (in_push w d c q) [ inl p ↦ inl p | inr e ↦ inr (ap Cell (sym e)) ])
    h

-- The same once both contents of a cell are met.
module _ (cells : Cells) where
  pub both_front : (w : List ℕ) (i : ℕ) → Front w (meets_both cells w i)
  both_front w i =
      let u = meets w (cells.left i) in
      front_on w u (meets_both cells w i) (meets_front w (cells.left i)) (meets_front u (cells.right i))

  pub both_once : (w : List ℕ) (i : ℕ) → Once w → Once (meets_both cells w i)
  both_once w i once = meets_once (meets w (cells.left i)) (cells.right i) (meets_once w (cells.left i) once)

  pub both_named : (w : List ℕ) (i c : ℕ) → Names cells i c → In c (meets_both cells w i)
  both_named w i c (inl e) =
      let u = meets w (cells.left i) in
      front_in u (meets_both cells w i) c (meets_front u (cells.right i)) (meets_named w (cells.left i) c e)
  both_named w i c (inr e) = meets_named (meets w (cells.left i)) (cells.right i) c e

  pub both_only : (w : List ℕ) (i c : ℕ) → In c (meets_both cells w i) → In c w ⊎ Names cells i c
  both_only w i c h = elim (meets_only (meets w (cells.left i)) (cells.right i) c h) [
    | inl p ↦ elim (meets_only w (cells.left i) c p) [ inl q ↦ inl q | inr e ↦ inr (inl e) ]
    | inr e ↦ inr (inr e)
  ]

  -- Line by line: where a cell has number k, its contents are met,
  pub line_is : (k : ℕ) (w : List ℕ) (c : ℕ) → k < length w → get_or w k 0 ≡ c → meets_line cells k w ≡ meets_both cells w c
  line_is k w c h e =
      cond-true (ltb k (length w)) (meets_both cells w (get_or w k 0)) w (lt-ltb k (length w) h) ∙ ap (meets_both cells w) e

  -- the order only goes on,
  line_front : (k : ℕ) (w : List ℕ) → Front w (meets_line cells k w)
  line_front k w =
      cond_both (ltb k (length w)) (meets_both cells w (get_or w k 0)) w (Front w) (λ _. both_front w (get_or w k 0)) (λ _. front_same w)

  more_front : (start : List ℕ) (k d : ℕ) → Front (order_after cells start k) (order_after cells start (d + k))
  more_front start k zero = rw (let t : 0 + k ≡ k = omega arith in t) (front_same (order_after cells start k))
  more_front start k (suc d) =
      rw (let t : suc d + k ≡ suc (d + k) = omega arith in t)
      (front_on (order_after cells start k) (order_after cells start (d + k)) (order_after cells start (suc (d + k)))
      (more_front start k d) (line_front (d + k) (order_after cells start (d + k))))

  pub walk_front : (start : List ℕ) (k m : ℕ) → k ≤ m → Front (order_after cells start k) (order_after cells start m)
  walk_front start k m h =
      subst (λ j. Front (order_after cells start k) (order_after cells start j)) (let t : (m - k) + k ≡ m = omega arith in t) (more_front start k (m - k))

  -- and past the last line it stays
  more_stays : (start : List ℕ) (k d : ℕ) → length (order_after cells start k) ≤ k → order_after cells start (d + k) ≡ order_after cells start k
  more_stays start k zero h = ap (order_after cells start) (let t : 0 + k ≡ k = omega arith in t)
  more_stays start k (suc d) h =
      let w = order_after cells start k in
      ap (order_after cells start) (let t : suc d + k ≡ suc (d + k) = omega arith in t)
      ∙ ap (meets_line cells (d + k)) (more_stays start k d h)
      ∙ cond-false (ltb (d + k) (length w)) (meets_both cells w (get_or w (d + k) 0)) w (le-ltb (d + k) (length w) (omega arith))

  pub walk_stays : (start : List ℕ) (k m : ℕ) → length (order_after cells start k) ≤ k → k ≤ m
      → order_after cells start m ≡ order_after cells start k
  walk_stays start k m h le = ap (order_after cells start) (let t : m ≡ (m - k) + k = omega arith in t) ∙ more_stays start k (m - k) h
