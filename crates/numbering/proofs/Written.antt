-- The lines of a walk obey the numbering rule, so their text is accepted.
use Rattle.std.proofs.Common.{◌≡◌, ℕ, suc, ◌+◌, ◌<◌, ◌≤◌, max, leb, List, [], ◌∷◌, ◌++◌, map, length, get_or, Some, None, sym, refl, ap, ◌∙◌, subst, inl, inr, arith}
use Rattle.std.specs.List.{AllByRecursion}
use Rattle.std.proofs.lemmas.List.{append_assoc, get_or_at, length-append, length-map, length_push}
use Rattle.std.proofs.lemmas.Bool.{cases_lt, cond_both, cond-true, le-leb}
use Rattle.cells.specs.declared.content.Content.{Content}
use Rattle.cells.specs.declared.content.Content.TheVariants.{Nothing, Yarn, Cell}
use Rattle.cells.specs.Calls.{InRange}
use Rattle.cells.specs.Cells.{Cells}
use Rattle.archive.specs.Pattern.{Numbered, Writes, among, contents, pattern_text}
use Rattle.archive.specs.Reading.{goes_on}
use Rattle.archive.proofs.Accepts.{GoesOn}
use Rattle.archive.proofs.Whole.{accepted_exactly, pattern_written}
use Rattle.numbering.specs.Laws.{Accepted, Sound}
use Rattle.numbering.specs.Lists.{In}
use Rattle.numbering.specs.Same.{named}
use Rattle.numbering.specs.Walk.{line_of, meets, meets_both, number_of, order_after, order_from, pattern_of, renamed}
use Rattle.numbering.proofs.Fronts.{Front, front_at, front_on}
use Rattle.numbering.proofs.Lists.{among_in, among_not}
use Rattle.numbering.proofs.Numbers.{number_at, number_new, number_stays}
use Rattle.numbering.proofs.Reach.{numbers_each, order_few}
use Rattle.numbering.proofs.Rule.{Obeys, line_then, obeys_numbered}
use Rattle.numbering.proofs.Steps.{line_is, meets_front, meets_named, walk_front, walk_stays}

-- A content with the numbers of an order that goes on from here may stand next, where g is the last number given; and
-- the greatest number named is again the last one given.
meets_goes : (w v : List ℕ) (x : Content) (g : ℕ) → suc g ≡ length w → Front (meets w x) v
    → (h : ℕ) × (goes_on g (renamed (number_of v) x) ≡ Some h) × (suc h ≡ length (meets w x))
meets_goes w v Nothing g last f = (g, refl, last)
meets_goes w v (Yarn y) g last f = (g, refl, last)
meets_goes w v (Cell c) g last f =
    let k = number_of v c in
    let next = cond_both (among c w) w (w ++ (c ∷ [])) (λ u. number_of v c ≡ number_of u c → (k ≤ g + 1) × (suc (max g k) ≡ length u))
    (λ q e. let n = (number_at w c (among_in c w q)).below in (omega arith, omega arith))
    (λ q e. let n = number_new w c (among_not c w q) in (omega arith, omega (arith, length_push w c)))
    (number_stays (meets w (Cell c)) v c f (meets_named w (Cell c) c refl))
    in
    (max g k, cond-true (leb k (g + 1)) (Some (max g k)) None (le-leb k (g + 1) next.0), next.1)

-- so may the line of a cell whose number is given
cell_goes : (cells : Cells) (w order : List ℕ) (c k g : ℕ) → k < length w → suc g ≡ length w → Front (meets_both cells w c) order
    → (h : ℕ) × GoesOn k g (line_of cells order c) h × (suc h ≡ length (meets_both cells w c))
cell_goes cells w order c k g lt last f =
    let u = meets w (cells.left c) in
    let left = meets_goes w order (cells.left c) g last (front_on u (meets_both cells w c) order (meets_front u (cells.right c)) f) in
    let right = meets_goes u order (cells.right c) left.0 left.2 f in
    (right.0, record { met = omega arith; middle = left.0; left_goes = left.1; right_goes = right.1 }, right.2)

module _ (cells : Cells) (first : ℕ) (sound : Sound cells) (inside : first < cells.size) where
  -- the order of the whole pattern
  abbrev order : List ℕ
  order = order_from cells first

  -- the order once the cells with the numbers below k are gone through
  abbrev after : ℕ → List ℕ
  after k = order_after cells (first ∷ []) k

  -- each cell has its number before its own line is due
  in_time : (k : ℕ) → k < length order → k < length (after k)
  in_time k h =
      let few = order_few cells first sound inside in
      elim (cases_lt k (length (after k))) [
        | inl y ↦ y
        | inr n ↦ absurd (let e = ap length (walk_stays cells (first ∷ []) k cells.size n (omega arith)) in omega arith)
      ]

  -- the lines that are left may stand behind those that are done
  lines_obey : (done rest : List ℕ) (k g : ℕ) → order ≡ done ++ rest → length done ≡ k → suc g ≡ length (after k)
      → Obeys k g (map (line_of cells order) rest)
  lines_obey done [] k g e long last = record { follows = tt; met = tt }
  lines_obey done (c ∷ rest) k g e long last =
      let few = order_few cells first sound inside in
      let all = ap length e ∙ length-append done (c ∷ rest) in
      let w = after k in
      let due : k < length w = in_time k (omega arith) in
      let here : get_or order k 0 ≡ c = ap (λ x. get_or x k 0) e ∙ get_or_at done c rest 0 k long in
      let cell : get_or w k 0 ≡ c = sym (front_at w order k (walk_front cells (first ∷ []) k cells.size (omega arith)) due) ∙ here in
      let is : after (suc k) ≡ meets_both cells w c = line_is cells k w c due cell in
      let front = subst (λ v. Front v order) is (walk_front cells (first ∷ []) (suc k) cells.size (omega arith)) in
      let step = cell_goes cells w order c k g due last front in
      let split = e ∙ sym (append_assoc done (c ∷ []) rest) in
      let more = lines_obey (done ++ (c ∷ [])) rest (suc k) step.0 split (omega (arith, length_push done c)) (omega (arith, step.2, ap length is)) in
      line_then k g step.0 (line_of cells order c) (map (line_of cells order) rest) step.1 more

  -- the numbers of the lines are below their count
  content_fits_lem : (x : Content) → InRange cells.size x → ((c : ℕ) → x ≡ Cell c → In c order)
      → InRange (length order) (renamed (number_of order) x)
  content_fits_lem Nothing range met = tt
  content_fits_lem (Yarn y) range met = range
  content_fits_lem (Cell c) range met = (number_at order c (met c refl)).below

  lines_fit : (rest : List ℕ) → ((c : ℕ) → In c rest → In c order) → AllByRecursion (InRange (length order)) (contents (map (line_of cells order) rest))
  lines_fit [] there = tt
  lines_fit (i ∷ rest) there =
      let each = numbers_each cells first sound inside in
      let mine = each.only i (there i (inl refl)) in (
        content_fits_lem (cells.left i) (sound.lefts i) (λ c e. each.all c (named i c mine (inl e))),
        (
          content_fits_lem (cells.right i) (sound.rights i) (λ c e. each.all c (named i c mine (inr e))),
          lines_fit rest (λ c h. there c (inr h)),
        ),
      )

  -- The law: the lines obey the rule, and their text is read as these lines and accepted with their count.
  walk_numbered : Numbered (pattern_of cells order)
  walk_numbered =
      let long = length-map order (line_of cells order) in
      obeys_numbered (pattern_of cells order)
      (omega (arith, (numbers_each cells first sound inside).some))
      (omega (arith, order_few cells first sound inside, sound.few))
      (subst (λ n. AllByRecursion (InRange n) (contents (pattern_of cells order))) (sym long) (lines_fit order (λ c h. h)))
      (lines_obey [] order 0 0 refl refl refl)

  pub walk_accepted : Accepted (pattern_of cells (order_from cells first))
  walk_accepted =
      let p = pattern_of cells order in
      let writes : Writes p (pattern_text p) = record { numbered = walk_numbered; text_is = refl } in
      record {
        numbered = walk_numbered;
        read = pattern_written (pattern_text p) p writes;
        judged = (accepted_exactly (pattern_text p) (length p)).1 (p, refl, writes);
      }
