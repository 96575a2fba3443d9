-- Lines that obey the numbering rule are met in their own order, wherever they lie, and come back as they are.
use Rattle.std.proofs.Common.{◌≡◌, ℕ, zero, suc, ◌+◌, ◌<◌, ◌≤◌, max, List, [], ◌∷◌, ◌++◌, length, get_or, Some, sym, refl, ap, ◌∙◌, subst, inl, inr, arith}
use Rattle.std.specs.List.{AllByRecursion}
use Rattle.std.proofs.lemmas.List.{append_assoc, ext_get_or, get_or_at, get_or-map, length-append, length-map, length_push}
use Rattle.std.proofs.lemmas.Bool.{cases_eq}
use Rattle.cells.specs.declared.content.Content.{Content}
use Rattle.cells.specs.declared.content.Content.TheVariants.{Nothing, Yarn, Cell}
use Rattle.cells.specs.Calls.{InRange}
use Rattle.cells.specs.Cells.{Cells}
use Rattle.archive.specs.Pattern.{Numbered, Pattern, contents}
use Rattle.archive.specs.Reading.{goes_on}
use Rattle.archive.proofs.Accepts.{GoesOn}
use Rattle.archive.proofs.Numbering.{behind_content, follows_content}
use Rattle.numbering.specs.Laws.{ComesBack, places_of}
use Rattle.numbering.specs.Lists.{In}
use Rattle.numbering.specs.Same.{LiesAt, no_line}
use Rattle.numbering.specs.Walk.{line_of, meets, meets_line, number_of, order_after, order_from, pattern_of, renamed}
use Rattle.numbering.proofs.Numbers.{number_at}
use Rattle.numbering.proofs.Places.{in_places, places_at, places_in, places_length, places_push}
use Rattle.numbering.proofs.Rule.{Obeys, first_line, numbered_obeys}
use Rattle.numbering.proofs.Steps.{line_is, meets_new, meets_old, walk_stays}

-- what holds of all contents of a pattern holds of those of its k-th line
pub contents_at : (P : Content → Type 0) (p : Pattern) (k : ℕ) → AllByRecursion P (contents p) → k < length p → P (get_or p k no_line).left × P (get_or p k no_line).right
contents_at P [] k all h = absurd (omega arith)
contents_at P (c ∷ cs) zero all h = (all.0, all.1.0)
contents_at P (c ∷ cs) (suc k) all h = contents_at P cs k all.1.1 (omega arith)

module _ (cells : Cells) (at : ℕ → ℕ) (lines : Pattern) (rule : Numbered lines) (lies : LiesAt cells at lines) where
  -- how many lines
  abbrev n : ℕ
  n = length lines

  -- the order once the cells with the numbers below k are gone through
  abbrev after : ℕ → List ℕ
  after k = order_after cells (at 0 ∷ []) k

  -- the cells with the numbers up to g
  abbrev up_to : ℕ → List ℕ
  up_to g = places_of at (suc g)

  -- An order of the cells up to number g goes on to those up to number h.
  record GrowsTo (g h : ℕ) (order : List ℕ) : Type 0 where
    up : g ≤ h
    below : h < n
    is : order ≡ up_to h

  -- a content that may stand
  content_grows : (g h : ℕ) (x : Content) → g < n → InRange n x → goes_on g x ≡ Some h → GrowsTo g h (meets (up_to g) (renamed at x))
  content_grows g h Nothing low range e =
      let same : g ≡ h = omega (arith, behind_content g Nothing h e) in
      record { up = omega arith; below = omega arith; is = ap up_to same }
  content_grows g h (Yarn y) low range e =
      let same : g ≡ h = omega (arith, behind_content g (Yarn y) h e) in
      record { up = omega arith; below = omega arith; is = ap up_to same }
  content_grows g h (Cell c) low range e =
      let next : c ≤ g + 1 = (follows_content g (Cell c) h [] e tt).0 in
      let top : h ≡ max g (max c 0) = behind_content g (Cell c) h e in
      record {
        up = omega arith;
        below = omega (arith, range);
        is = elim (cases_eq c (suc g)) [
          | inl e ↦ new e ∙ ap up_to (let t : suc g ≡ h = omega arith in t)
          | inr other ↦ meets_old (up_to g) (at c) (places_in at (suc g) c (omega arith)) ∙ ap up_to (let t : g ≡ h = omega arith in t)
        ];
      }
    where
      not_yet : c ≡ suc g → In (at c) (up_to g) → ⊥
      not_yet e met =
          let from = in_places at (suc g) (at c) met in
          let same = lies.apart from.0 c (omega (arith, from.1)) range from.2 in
          omega (arith, from.1)

      new : c ≡ suc g → meets (up_to g) (Cell (at c)) ≡ up_to (suc g)
      new e = meets_new (up_to g) (at c) (not_yet e) ∙ ap (λ k. up_to g ++ (at k ∷ [])) e ∙ sym (places_push at (suc g))

  -- a line that may stand
  line_grows : (k g h : ℕ) → k < n → g < n → GoesOn k g (get_or lines k no_line) h → GrowsTo g h (meets_line cells k (up_to g))
  line_grows k g h lt low on =
      let c = get_or lines k no_line in
      let range = contents_at (InRange n) lines k rule.in_range lt in
      let left = content_grows g on.middle c.left low range.0 on.left_goes in
      let right = content_grows on.middle h c.right left.below range.1 on.right_goes in
      let due : k < suc g = omega (arith, on.met) in
      record {
        up = omega (arith, left.up, right.up);
        below = right.below;
        is =
            line_is cells k (up_to g) (at k) (rw (places_length at (suc g)) due) (places_at at (suc g) k due)
            ∙ ap (λ x. meets (meets (up_to g) x) (cells.right (at k))) (lies.lefts k lt)
            ∙ ap (λ x. meets (meets (up_to g) (renamed at c.left)) x) (lies.rights k lt)
            ∙ ap (λ w. meets w (renamed at c.right)) left.is
            ∙ right.is;
      }

  -- all lines, of which some are done
  lines_grow : (done rest : Pattern) (k g : ℕ) → lines ≡ done ++ rest → length done ≡ k → k ≤ suc g → g < n → Obeys k g rest
      → after k ≡ up_to g → after n ≡ places_of at n
  lines_grow done [] k g e long up low obeys is =
      let all = ap length e ∙ length-append done [] in
      ap after (let t : n ≡ k = omega arith in t) ∙ is ∙ ap (places_of at) (let t : suc g ≡ n = omega arith in t)
  lines_grow done (c ∷ rest) k g e long up low obeys is =
      let all = ap length e ∙ length-append done (c ∷ rest) in
      let here : get_or lines k no_line ≡ c = ap (λ x. get_or x k no_line) e ∙ get_or_at done c rest no_line k long in
      let first = first_line k g c rest obeys in
      let h = first.0 in
      let step = line_grows k g h (omega arith) low (subst (λ d. GoesOn k g d h) (sym here) first.1) in
      lines_grow (done ++ (c ∷ [])) rest (suc k) h
      (e ∙ sym (append_assoc done (c ∷ []) rest)) (omega (arith, length_push done c))
      (omega (arith, first.1.met, step.up)) step.below first.2
      (ap (meets_line cells k) is ∙ step.is)

  -- so the walk meets the places in the order of the lines
  order_is : n ≤ cells.size → order_from cells (at 0) ≡ places_of at n
  order_is fits =
      let is = lines_grow [] lines 0 0 refl refl (omega arith) (omega (arith, rule.some)) (numbered_obeys lines rule) refl in
      walk_stays cells (at 0 ∷ []) n cells.size (omega (arith, ap length is, places_length at n)) fits ∙ is

  -- the number of a place is the number of its line, so each line is again what it was
  number_back : (k : ℕ) → k < n → number_of (places_of at n) (at k) ≡ k
  number_back k h =
      let number = number_at (places_of at n) (at k) (places_in at n k h) in
      let j = number_of (places_of at n) (at k) in
      let low : j < n = omega (arith, number.below, places_length at n) in
      lies.apart j k low h (sym (places_at at n j low) ∙ number.at_place)

  content_back : (x : Content) → InRange n x → renamed (number_of (places_of at n)) (renamed at x) ≡ x
  content_back Nothing range = refl
  content_back (Yarn y) range = refl
  content_back (Cell k) range = ap Cell (number_back k range)

  line_back : (k : ℕ) → k < n → line_of cells (places_of at n) (at k) ≡ get_or lines k no_line
  line_back k h =
      let c = get_or lines k no_line in
      let range = contents_at (InRange n) lines k rule.in_range h in
      let names = renamed (number_of (places_of at n)) in
      let left = ap names (lies.lefts k h) ∙ content_back c.left range.0 in
      let right = ap names (lies.rights k h) ∙ content_back c.right range.1 in
      λ i. record { joint = lies.joints k h i; left = left i; right = right i }

  lines_back : pattern_of cells (places_of at n) ≡ lines
  lines_back =
      let line = line_of cells (places_of at n) in
      let long = length-map (places_of at n) line ∙ places_length at n in
      ext_get_or no_line (pattern_of cells (places_of at n)) lines long (λ k h.
      let lt : k < n = rw long at h in
      get_or-map line (places_of at n) k 0 no_line (rw (places_length at n) lt) ∙ ap line (places_at at n k lt) ∙ line_back k lt)

  -- The law: the order is that of the lines, and the walk makes the same lines.
  pub lines_come_back : length lines ≤ cells.size → ComesBack cells at lines
  lines_come_back fits = record { order = order_is fits; lines = ap (pattern_of cells) (order_is fits) ∙ lines_back }
