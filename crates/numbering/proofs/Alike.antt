-- The lines of a walk, wherever they lie, are the same pattern.
use Rattle.std.proofs.Common.{◌≡◌, ℕ, ◌<◌, List, length, get_or, sym, refl, ap, ◌∙◌, subst, inl, inr, arith}
use Rattle.std.proofs.lemmas.List.{get_or-map, length-map}
use Rattle.cells.specs.declared.content.Content.{Content}
use Rattle.cells.specs.declared.content.Content.TheVariants.{Nothing, Yarn, Cell}
use Rattle.cells.specs.Cells.{Cells}
use Rattle.numbering.specs.Laws.{Sound}
use Rattle.numbering.specs.Same.{LiesAt, Names, SamePattern, Within, itself, named, no_line}
use Rattle.numbering.specs.Walk.{line_of, number_of, order_from, pattern_of, renamed}
use Rattle.numbering.proofs.Numbers.{Numbers, number_at, number_of_place}
use Rattle.numbering.proofs.Reach.{numbers_each}

-- A content renamed twice is renamed at once, and what it then names had a name before.
renamed_twice : (f g : ℕ → ℕ) (x : Content) → renamed f (renamed g x) ≡ renamed (λ c. f (g c)) x
renamed_twice f g Nothing = refl
renamed_twice f g (Yarn y) = refl
renamed_twice f g (Cell c) = refl

renamed_from : (f : ℕ → ℕ) (x : Content) (d : ℕ) → renamed f x ≡ Cell d → (c : ℕ) × (x ≡ Cell c) × (f c ≡ d)
renamed_from f Nothing d e = absurd (grind arith)
renamed_from f (Yarn y) d e = absurd (grind arith)
renamed_from f (Cell c) d e = (c, refl, cc)

module _ (cells : Cells) (first : ℕ) (there : Cells) (at : ℕ → ℕ) (sound : Sound cells) (inside : first < cells.size)
    (lies : LiesAt there at (pattern_of cells (order_from cells first))) where
  -- the order of the whole pattern
  abbrev order : List ℕ
  order = order_from cells first

  -- a cell's pair lies where the line with its number lies
  abbrev pair : ℕ → ℕ
  pair c = at (number_of order c)

  -- the number of a cell is that of a line, and the line there is its own
  number : (c : ℕ) → Within cells first c → Numbers order (number_of order c) c
  number c h = number_at order c ((numbers_each cells first sound inside).all c h)

  below : (c : ℕ) → Within cells first c → number_of order c < length (pattern_of cells order)
  below c h = rw (length-map order (line_of cells order)) (number c h).below

  line : (c : ℕ) → Within cells first c → get_or (pattern_of cells order) (number_of order c) no_line ≡ line_of cells order c
  line c h = get_or-map (line_of cells order) order (number_of order c) 0 no_line (number c h).below ∙ ap (line_of cells order) (number c h).at_place

  -- a pair has the contents of its cell, with pairs for cells
  lefts_pair : (c : ℕ) → Within cells first c → there.left (pair c) ≡ renamed pair (cells.left c)
  lefts_pair c h =
      lies.lefts (number_of order c) (below c h) ∙ ap (λ l. renamed at l.left) (line c h) ∙ renamed_twice at (number_of order) (cells.left c)

  rights_pair : (c : ℕ) → Within cells first c → there.right (pair c) ≡ renamed pair (cells.right c)
  rights_pair c h =
      lies.rights (number_of order c) (below c h) ∙ ap (λ l. renamed at l.right) (line c h) ∙ renamed_twice at (number_of order) (cells.right c)

  -- the pair of the first cell is the first place
  first_pair : pair first ≡ at 0
  first_pair =
      let each = numbers_each cells first sound inside in
      ap at (ap (number_of order) (sym each.front) ∙ number_of_place order 0 each.once each.some)

  -- a pair names the pairs of what its cell names, and no other
  names_pair : (i c : ℕ) → Within cells first i → Names cells i c → Names there (pair i) (pair c)
  names_pair i c h (inl e) = inl (lefts_pair i h ∙ ap (renamed pair) e)
  names_pair i c h (inr e) = inr (rights_pair i h ∙ ap (renamed pair) e)

  pair_names : (i d : ℕ) → Within cells first i → Names there (pair i) d → (c : ℕ) × Names cells i c × (pair c ≡ d)
  pair_names i d h (inl e) = let from = renamed_from pair (cells.left i) d (sym (lefts_pair i h) ∙ e) in (from.0, inl from.1, from.2)
  pair_names i d h (inr e) = let from = renamed_from pair (cells.right i) d (sym (rights_pair i h) ∙ e) in (from.0, inr from.1, from.2)

  -- so the pairs are the cells of the other pattern,
  pairs_into : (c : ℕ) → Within cells first c → Within there (at 0) (pair c)
  pairs_into c itself = subst (Within there (at 0)) (sym first_pair) itself
  pairs_into c (named i _ h n) = named (pair i) (pair c) (pairs_into i h) (names_pair i c h n)

  pairs_onto : (d : ℕ) → Within there (at 0) d → (c : ℕ) × Within cells first c × (pair c ≡ d)
  pairs_onto d itself = (first, itself, first_pair)
  pairs_onto d (named i _ h n) =
      let mine = pairs_onto i h in
      let from = pair_names mine.0 d mine.1 (subst (λ j. Names there j d) (sym mine.2) n) in
      (from.0, named mine.0 from.0 mine.1 from.1, from.2)

  -- and each is the pair of one cell
  one_pair : (c d : ℕ) → Within cells first c → Within cells first d → pair c ≡ pair d → c ≡ d
  one_pair c d h k e =
      let same = lies.apart (number_of order c) (number_of order d) (below c h) (below d k) e in
      sym (number c h).at_place ∙ ap (λ j. get_or order j 0) same ∙ (number d k).at_place

  -- The law: the two patterns are the same.
  pub walk_same : SamePattern cells first there (at 0)
  walk_same = (
    pair,
    record {
      firsts = first_pair;
      into = pairs_into;
      onto = pairs_onto;
      one_to_one = one_pair;
      joints = λ c h. lies.joints (number_of order c) (below c h) ∙ ap (λ l. l.joint) (line c h);
      lefts = lefts_pair;
      rights = rights_pair;
    },
  )
