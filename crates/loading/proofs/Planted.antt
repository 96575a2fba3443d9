-- The second pass, line by line.
use Rattle.std.proofs.Common.{◌≡◌, ℕ, ◌+◌, ◌<◌, ◌≤◌, ◌||◌, eqb, List, [], ◌∷◌, ◌++◌, length, get_or, take, drop, Some, None, Ok, sym, refl, ap, ◌∙◌, subst, arith}
use mathlib.Core.Path.{fun_ext}
use Rattle.std.specs.List.{AllByRecursion}
use Rattle.std.proofs.lemmas.List.{drop_more, get_or-take, length-drop, length-take-le, take_all, take_more}
use Rattle.std.proofs.Math.Bool.{or_assoc, or-false}
use Rattle.std.proofs.lemmas.Bool.{cond-true}
use Rattle.cells.specs.declared.content.Content.{Content}
use Rattle.cells.specs.declared.content.Content.TheVariants.{Nothing, Yarn, Cell}
use Rattle.cells.specs.Calls.{InRange}
use Rattle.cells.specs.Cells.{Cells}
use Rattle.lines.specs.declared.cell.PatternCell.{PatternCell}
use Rattle.archive.specs.Pattern.{Pattern, among, contents}
use Rattle.archive.specs.Reading.{Place, next_cell, place_after}
use Rattle.model.specs.Load.{cell_of, loaded_cell}
use Rattle.model.specs.Take.{given_cells}
use Rattle.numbering.specs.Lists.{In, Once}
use Rattle.numbering.specs.Same.{no_line}
use Rattle.numbering.specs.Walk.{place, renamed, renamed_line}
use Rattle.numbering.proofs.Lists.{at_in, in_among}
use Rattle.numbering.proofs.Numbers.{number_of_place}
use Rattle.numbering.proofs.Return.{contents_at}
use Rattle.loading.specs.Settle.{Suits, line_given, lines_left, settled_cells}
use Rattle.steps.specs.Steps.{LineFits, cells_used}
use Rattle.steps.proofs.Given.{used_more}
use Rattle.loading.proofs.LinesLeft.{line_given_lem, none_given}

-- One cell more among the new ones.

among_push : (i c : ℕ) (xs : List ℕ) → among i (xs ++ (c ∷ [])) ≡ (among i xs || eqb i c)
among_push i c [] = or-false (eqb i c)
among_push i c (x ∷ xs) = ap (λ b. eqb i x || b) (among_push i c xs) ∙ sym (or_assoc (eqb i x) (among i xs) (eqb i c))

-- the k-th of some cells, each there once, has place k
place_at : (names : List ℕ) (k : ℕ) → Once names → k < length names → place (get_or names k 0) names ≡ k
place_at names k once h =
    let c = get_or names k 0 in
    sym (cond-true (among c names) (place c names) 65535 (in_among c names (at_in names k h))) ∙ number_of_place names k once h

-- file cell k, made in the k-th of the cells, is what that cell becomes
used_next : (c : Cells) (s : ℕ) (names : List ℕ) (pattern : Pattern) (k : ℕ) → Once names → k < length names
    → cells_used (given_cells c s (λ i. among i (take k names)) (loaded_cell names pattern)) (get_or names k 0) (renamed_line (cell_of names) (get_or pattern k no_line)) s
    ≡ given_cells c s (λ i. among i (take (k + 1) names)) (loaded_cell names pattern)
used_next c s names pattern k once h =
    let i = get_or names k 0 in
    ap (λ n. cells_used (given_cells c s (λ j. among j (take k names)) (loaded_cell names pattern)) i (renamed_line (cell_of names) (get_or pattern n no_line)) s) (sym (place_at names k once h))
    ∙ used_more c (λ j. among j (take k names)) (loaded_cell names pattern) s i
    ∙ ap (λ new. given_cells c s new (loaded_cell names pattern)) (fun_ext (λ j. sym (among_push j i (take k names)) ∙ ap (among j) (sym (take_more names k 0 h))))

-- Contents that name cells of the table.

-- they are in range where the cells of the table are
renamed_in : (m : ℕ) (names : List ℕ) (x : Content) → ((i : ℕ) → In i names → i < m) → InRange (length names) x → InRange m (renamed (cell_of names) x)
renamed_in m names Nothing inside h = tt
renamed_in m names (Yarn y) inside h = h
renamed_in m names (Cell k) inside h = inside (get_or names k 0) (at_in names k h)

-- what stands behind the first n entries is not asked for
renamed_front : (places : List ℕ) (n : ℕ) (x : Content) → InRange n x → renamed (cell_of places) x ≡ renamed (cell_of (take n places)) x
renamed_front places n Nothing h = refl
renamed_front places n (Yarn y) h = refl
renamed_front places n (Cell k) h = ap Cell (sym (get_or-take n places k 0 h))

-- The pass.

module _ (before : Cells) (s : ℕ) (places : List ℕ) (pattern : Pattern) where
  -- the cells that the lines become
  abbrev names : List ℕ
  names = take (length pattern) places

  -- the cells once the first k lines are made
  abbrev so_far : ℕ → Cells
  so_far k = given_cells before s (λ i. among i (take k names)) (loaded_cell names pattern)

  -- the first k lines are made, and the reader, which is at this place, has the others
  pub record Underway (cells : Cells) (k : ℕ) (p : Place) : Type 0 where
    pub made : cells ≡ so_far k
    pub left : lines_left p ≡ Ok (drop k pattern)

  module _ (suits : Suits before.size places pattern) where
    -- there are as many of them as lines
    length_names : length names ≡ length pattern
    length_names = length-take-le (length pattern) places suits.room

    -- a line that is due at place k: its cell exists, its contents fit there, and made in it, it is the next of the pattern
    record Due (k : ℕ) (line : PatternCell) : Type 0 where
      below : get_or places k 0 < before.size
      fits : LineFits before.size (renamed_line (cell_of places) line)
      next : cells_used (so_far k) (get_or places k 0) (renamed_line (cell_of places) line) s ≡ so_far (k + 1)

    line_due : (k : ℕ) → k < length pattern → AllByRecursion (InRange (length pattern)) (contents pattern) → Due k (get_or pattern k no_line)
    line_due k h range =
        let line = get_or pattern k no_line in
        let fit = contents_at (InRange (length pattern)) pattern k range h in
        let here : get_or names k 0 ≡ get_or places k 0 = get_or-take (length pattern) places k 0 h in
        let inside : k < length names = rw length_names h in
        let named_left = renamed_front places (length pattern) line.left fit.0 in
        let named_right = renamed_front places (length pattern) line.right fit.1 in
        record {
          below = rw (sym here) (suits.inside (get_or names k 0) (at_in names k inside));
          fits = (rw named_left (renamed_in before.size names line.left suits.inside (rw length_names fit.0)), rw named_right (renamed_in before.size names line.right suits.inside (rw length_names fit.1)));
          next = ap (λ i. cells_used (so_far k) i (renamed_line (cell_of places) line) s) (sym here)
              ∙ (λ t. cells_used (so_far k) (get_or names k 0) (record { joint = line.joint; left = named_left t; right = named_right t }) s)
              ∙ used_next before s names pattern k suits.once inside;
        }

    -- one turn: the reader gives a line, which is made in the next place
    pub underway_more : (cells after : Cells) (k : ℕ) (p q : Place) (line : PatternCell) (cell : ℕ) → AllByRecursion (InRange (length pattern)) (contents pattern)
        → Some line ≡ line_given (next_cell p) → q ≡ place_after p → cell ≡ get_or places k 0
        → (cell < cells.size → LineFits cells.size (renamed_line (cell_of places) line) → after ≡ cells_used cells cell (renamed_line (cell_of places) line) s)
        → Underway cells k p → Underway after (k + 1) q
    underway_more cells after k p q line cell range given moved here made u =
        let read = line_given_lem p (drop k pattern) line u.left given in
        let h : k < length pattern = omega (arith, length-drop k pattern, ap length read.1) in
        let split : get_or pattern k no_line ∷ drop (k + 1) pattern ≡ line ∷ read.0 = sym (drop_more pattern k no_line h) ∙ read.1 in
        let first : get_or pattern k no_line ≡ line = cc in
        let rest : drop (k + 1) pattern ≡ read.0 = cc in
        let due = subst (Due k) first (line_due k h range) in
        let size = ap (λ c. c.size) u.made in
        record {
          made = made (rw (here, size) due.below) (rw size due.fits)
              ∙ ap (λ c. cells_used c cell (renamed_line (cell_of places) line) s) u.made
              ∙ ap (λ i. cells_used (so_far k) i (renamed_line (cell_of places) line) s) here
              ∙ due.next;
          left = ap lines_left moved ∙ read.2 ∙ ap Ok (sym rest);
        }

    -- where as many lines are made as there are, all is made
    pub underway_all : (cells : Cells) (k : ℕ) (p : Place) → length pattern ≤ k → Underway cells k p → cells ≡ settled_cells before s names pattern
    underway_all cells k p h u = u.made ∙ ap (λ xs. given_cells before s (λ i. among i xs) (loaded_cell names pattern)) (take_all k names (omega (arith, length_names)))

    -- and so it is where the reader has no line left
    pub underway_none : (cells : Cells) (k : ℕ) (p : Place) → None ≡ line_given (next_cell p) → Underway cells k p → cells ≡ settled_cells before s names pattern
    underway_none cells k p none u =
        underway_all cells k p (omega (arith, length-drop k pattern, ap length (none_given p (drop k pattern) u.left none))) u
