-- The walk through the tables is the walk of the numbering, and the lines made from the tables are the pattern's.
use Rattle.std.proofs.Common.{◌≡◌, ℕ, zero, suc, ◌<◌, ◌≤◌, List, [], ◌∷◌, map, length, get_or, Option, sym, refl, ap, ◌∙◌, inl, inr, arith}
use Rattle.std.proofs.lemmas.List.{ext_get_or, get_or-map, length-map}
use Rattle.std.proofs.lemmas.Bool.{cases_lt, le-ltb, lt-ltb}
use Rattle.text.specs.Buffer.{length_put, put}
use Rattle.cells.specs.declared.content.Content.{Content}
use Rattle.cells.specs.declared.content.Content.TheVariants.{Cell}
use Rattle.cells.specs.Calls.{InRange, Lawful}
use Rattle.cells.specs.Cells.{Cells}
use Rattle.lines.specs.declared.cell.PatternCell.{PatternCell}
use Rattle.archive.specs.Pattern.{pattern_text}
use Rattle.numbering.specs.Laws.{Sound}
use Rattle.numbering.specs.Lists.{count_from}
use Rattle.numbering.specs.Same.{no_line}
use Rattle.numbering.specs.Walk.{line_of, meets, meets_both, meets_line, number_of, order_after, order_from, pattern_of, renamed}
use Rattle.numbering.proofs.Fronts.{front_length}
use Rattle.numbering.proofs.Lists.{count_at, length_count}
use Rattle.numbering.proofs.Reach.{order_few}
use Rattle.numbering.proofs.Steps.{meets_front, walk_front}
use Rattle.saving.specs.Saved.{Savable, Saved}
use Rattle.saving.specs.Tables.{Tables, entry_for, line_visited_in, met_in, both_met_in, numbered_in, tables, walked_in}
use Rattle.saving.specs.Text.{line_in, lines_in, number_in, text_in}
use Rattle.saving.proofs.Entries as entries
use Rattle.saving.proofs.Entries.{Fits}
use Rattle.saving.proofs.Renamed.{line_alike}

module _ (cells : Cells) (first : ℕ) (numbers order : List ℕ) (lawful : Lawful cells) (given : Savable cells first numbers order) where
  -- what is known of the cells and of the lent tables
  sound : Sound cells
  sound = record { few = lawful.few; lefts = lawful.left_in_range; rights = lawful.right_in_range }

  fits : Fits cells.size numbers order
  fits = record { few = lawful.few; numbers_fit = given.numbers_fit; order_fits = given.order_fits }

  -- the tables once the cells of an order are met
  abbrev tables_for : List ℕ → Tables
  tables_for w = entries.tables_for cells.size numbers order fits w

  -- a content is met, and both contents of a cell
  met : (w : List ℕ) (x : Content) → InRange cells.size x → length (meets w x) ≤ cells.size → met_in (tables_for w) x ≡ tables_for (meets w x)
  met w x = entries.met cells.size numbers order fits w x

  both_met : (w : List ℕ) (c : ℕ) → length (meets_both cells w c) ≤ cells.size
      → met_in (met_in (tables_for w) (cells.left c)) (cells.right c) ≡ tables_for (meets_both cells w c)
  both_met w c room =
      let u = meets w (cells.left c) in
      let grows = front_length u (meets_both cells w c) (meets_front u (cells.right c)) in
      ap (λ t. met_in t (cells.right c)) (met w (cells.left c) (lawful.left_in_range c) (omega arith))
      ∙ met u (cells.right c) (lawful.right_in_range c) room

  -- the cell with number k is gone through, if there is one
  line_met : (k : ℕ) (w : List ℕ) → length (meets_line cells k w) ≤ cells.size → line_visited_in cells k (tables_for w) ≡ tables_for (meets_line cells k w)
  line_met k w room = elim (cases_lt k (length w)) [
    | inl h ↦
        let here = lt-ltb k (length w) h in
        let fit = simp here at room in
        simp here (ap (both_met_in cells (tables_for w)) (entries.order_entry cells.size numbers order fits w k h) ∙ both_met w (get_or w k 0) fit)
    | inr h ↦ simp (le-ltb k (length w) h) refl
  ]

  -- at any time the tables are those of the order so far,
  walked : (k : ℕ) → k ≤ cells.size → walked_in cells (tables_for (first ∷ [])) k ≡ tables_for (order_after cells (first ∷ []) k)
  walked zero h = refl
  walked (suc k) h =
      let w = order_after cells (first ∷ []) k in
      let room = front_length (order_after cells (first ∷ []) (suc k)) (order_from cells first) (walk_front cells (first ∷ []) (suc k) cells.size h) in
      ap (line_visited_in cells k) (walked k (omega arith)) ∙ line_met k w (omega (arith, order_few cells first sound given.inside))

  -- and at the end those of the whole order
  numbered : numbered_in cells first numbers order ≡ tables_for (order_from cells first)
  numbered =
      let inside = given.inside in
      ap (λ t. walked_in cells (met_in t (Cell first)) cells.size) (entries.cleared cells.size numbers order fits)
      ∙ ap (λ t. walked_in cells t cells.size) (met [] (Cell first) inside (omega arith))
      ∙ walked cells.size (omega arith)

  -- the line of a number, by the tables of an order
  abbrev line : List ℕ → ℕ → PatternCell
  line w = line_in cells (tables_for w).numbers (tables_for w).order

  -- which is that of its cell
  line_is : (w : List ℕ) (k : ℕ) → k < length w → line w k ≡ line_of cells w (get_or w k 0)
  line_is w k h =
      let few = lawful.few in
      let name = number_in (tables_for w).numbers in
      ap (λ d. record { joint = cells.joint d; left = renamed name (cells.left d); right = renamed name (cells.right d) })
      (entries.order_entry cells.size numbers order fits w k h)
      ∙ line_alike cells name (number_of w) (get_or w k 0) lawful
      (λ d h. let same : entry_for d ≡ d = omega arith in ap (λ e. get_or (tables_for w).numbers e 0) same ∙ entries.number_entry cells.size numbers order fits w d h)

  -- and all lines are the pattern
  lines_are : (w : List ℕ) → lines_in cells (tables_for w).numbers (tables_for w).order (length w) ≡ pattern_of cells w
  lines_are w =
      ext_get_or no_line (map (line w) (count_from 0 (length w))) (pattern_of cells w) (all ∙ sym (length-map w (line_of cells w))) (λ i h. each i (omega (arith, all)))
    where
      all : length (map (line w) (count_from 0 (length w))) ≡ length w
      all = length-map (count_from 0 (length w)) (line w) ∙ length_count 0 (length w)

      each : (i : ℕ) → i < length w → get_or (map (line w) (count_from 0 (length w))) i no_line ≡ get_or (pattern_of cells w) i no_line
      each i h =
          get_or-map (line w) (count_from 0 (length w)) i 0 no_line (rw (length_count 0 (length w)) h)
          ∙ ap (line w) (count_at 0 (length w) i h ∙ omega arith)
          ∙ line_is w i h
          ∙ sym (get_or-map (line_of cells w) w i 0 no_line h)

  -- The law: the tables of the walk and the text that is written from them are those of a save.
  pub saved : (count : ℕ) (numbers' order' buffer buffer' : List ℕ) (answer : Option ℕ) → tables count numbers' order' ≡ numbered_in cells first numbers order
      → answer ≡ length_put buffer 0 (text_in cells numbers' order' count)
      → buffer' ≡ put buffer 0 (text_in cells numbers' order' count)
      → Saved cells first buffer numbers order (count, answer) buffer' numbers' order'
  saved count numbers' order' buffer buffer' answer e told after =
      let is : tables count numbers' order' ≡ tables_for (order_from cells first) = e ∙ numbered in
      let text = ap (λ u. text_in cells u.numbers u.order u.count) is ∙ ap pattern_text (lines_are (order_from cells first)) in
      let bytes = told ∙ ap (length_put buffer 0) text in
      record {
        answer_is = λ i. ((is i).count, bytes i);
        buffer_is = after ∙ ap (put buffer 0) text;
        numbers_are = ap (λ u. u.numbers) is;
        order_is = ap (λ u. u.order) is;
      }
