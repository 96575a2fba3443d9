-- The text that is made from the tables, line by line.
use Rattle.std.proofs.Common.{◌≡◌, ℕ, zero, suc, suc, ◌+◌, List, [], ◌∷◌, ◌++◌, map, length, take, drop, sym, refl, ap, ◌∙◌, subst, arith}
use Rattle.std.specs.List.{range_with_len, sum_by}
use Rattle.std.proofs.lemmas.List.Sums.{sum_by-cons}
use Rattle.std.proofs.lemmas.List.{append_assoc, append-nil, length-append, length-map, map_push, take-append-drop}
use Rattle.text.specs.declared.buffer.Writer.{Writer}
use Rattle.text.specs.Writer.{Puts, PutsInRoom}
use Rattle.text.proofs.Writes.{in_room_also, puts_also, puts_in_room}
use Rattle.cells.specs.Cells.{Cells}
use Rattle.lines.specs.declared.cell.PatternCell.{PatternCell}
use Rattle.lines.specs.Text.{cell_fields, end_fields, header_fields, line_text}
use Rattle.archive.specs.Pattern.{Pattern, cells_text}
use Rattle.numbering.specs.Lists.{count_from}
use Rattle.numbering.proofs.Lists.{count_push, length_count}
use Rattle.saving.specs.Text.{cells_in, line_in, lines_in, text_in}

-- a writer that has written nothing
pub nothing_in_room : (w : Writer) → PutsInRoom w [] w
nothing_in_room w = record {
  same = refl;
  bytes = λ room. sym (take-append-drop w.at w.buffer.now) ∙ ap (λ k. take w.at w.buffer.now ++ drop k w.buffer.now) (let same : w.at ≡ w.at + 0 = omega arith in same);
  at = λ room. omega arith;
}

-- the lines of a pattern with one cell more
cells_push : (p : Pattern) (cell : PatternCell) → cells_text (p ++ (cell ∷ [])) ≡ cells_text p ++ line_text (cell_fields cell)
cells_push [] cell = append-nil (line_text (cell_fields cell))
cells_push (c ∷ p) cell =
    ap (λ text. line_text (cell_fields c) ++ text) (cells_push p cell) ∙ sym (append_assoc (line_text (cell_fields c)) (cells_text p) (line_text (cell_fields cell)))

module _ (cells : Cells) (numbers order : List ℕ) where
  -- the text of the first k lines
  abbrev up_to : ℕ → List ℕ
  up_to k = cells_in cells numbers order k

  -- the text of line k
  abbrev line_at : ℕ → List ℕ
  line_at k = line_text (cell_fields (line_in cells numbers order k))

  -- the text of one line more, and its length
  more : (k : ℕ) → up_to (k + 1) ≡ up_to k ++ line_at k
  more k =
      let f = line_in cells numbers order in
      ap up_to (let next : k + 1 ≡ suc k = omega arith in next)
      ∙ ap (λ ks. cells_text (map f ks)) (count_push 0 k)
      ∙ ap cells_text (map_push f (count_from 0 k) (0 + k))
      ∙ cells_push (lines_in cells numbers order k) (f (0 + k))
      ∙ ap (λ j. up_to k ++ line_at j) (let same : 0 + k ≡ k = omega arith in same)

  -- a turn that writes a line
  pub written_turn : (k : ℕ) (cell : PatternCell) (a b c : Writer) → cell ≡ line_in cells numbers order k
      → PutsInRoom a (up_to k) b → Puts b (line_text (cell_fields cell)) c → PutsInRoom a (up_to (k + 1)) c
  written_turn k cell a b c is so_far puts =
      let line = subst (λ x. PutsInRoom b (line_text (cell_fields x)) c) is (puts_in_room puts) in
      rw (more k) (in_room_also so_far line)

  -- the whole text by its three parts, and its length
  pub text_parts : (n : ℕ) → text_in cells numbers order n ≡ line_text (header_fields n) ++ (up_to n ++ line_text (end_fields n))
  text_parts n =
      ap (λ k. line_text (header_fields k) ++ (up_to n ++ line_text (end_fields k)))
      (length-map (count_from 0 n) (line_in cells numbers order) ∙ length_count 0 n)

  pub text_put : (n : ℕ) (a b c d : Writer) → Puts a (line_text (header_fields n)) b → PutsInRoom b (up_to n) c → Puts c (line_text (end_fields n)) d → PutsInRoom a (text_in cells numbers order n) d
  text_put n a b c d header lines end = rw (text_parts n) (puts_also header (in_room_also lines (puts_in_room end)))

  pub text_length : (n : ℕ) → length (text_in cells numbers order n) ≡ length (line_text (header_fields n)) + length (cells_in cells numbers order n) + length (line_text (end_fields n))
  text_length n =
      ap length (text_parts n)
      ∙ length-append (line_text (header_fields n)) (up_to n ++ line_text (end_fields n))
      ∙ omega (arith, length-append (up_to n) (line_text (end_fields n)))

  -- the lengths of the lines together
  length_sum_from : (a n : ℕ) → sum_by (λ k. length (line_text (cell_fields (line_in cells numbers order k)))) (range_with_len a n) ≡ length (cells_text (map (line_in cells numbers order) (count_from a n)))
  length_sum_from a zero = refl
  length_sum_from a (suc n) =
      sum_by-cons (λ k. length (line_at k)) a (range_with_len (a + 1) n)
      ∙ ap (λ k. length (line_at a) + k) (length_sum_from (a + 1) n ∙ ap (λ b. length (cells_text (map (line_in cells numbers order) (count_from b n)))) (let next : a + 1 ≡ suc a = omega arith in next))
      ∙ sym (length-append (line_at a) (cells_text (map (line_in cells numbers order) (count_from (suc a) n))))

  pub length_sum : (n : ℕ) → sum_by (λ k. length (line_text (cell_fields (line_in cells numbers order k)))) (range_with_len 0 n) ≡ length (cells_in cells numbers order n)
  length_sum n = length_sum_from 0 n
