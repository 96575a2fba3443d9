-- A text is read as a pattern exactly if it is that pattern's written text and the pattern is numbered by the rule.
use Rattle.std.proofs.Common.{◌≡◌, ℕ, zero, suc, ◌+◌, ◌≤◌, max, ◌↔◌, List, [], ◌∷◌, ◌++◌, length, Ok, Err, Result, sym, refl, ap, ◌∙◌, subst, append_assoc, arith}
use native.Mathlib.Nat.{sub-zero}
use Rattle.std.specs.List.{AllByRecursion}
use Rattle.cells.specs.Calls.{InRange}
use Rattle.lines.specs.declared.cell.PatternCell.{PatternCell}
use Rattle.archive.specs.declared.fault.FileFault.{FileFault}
use Rattle.lines.specs.Text.{cell_fields, end_fields, header_fields, line_text}
use Rattle.archive.specs.Pattern.{OnePattern, Pattern, Writes, WritesSome, cells_text, contents, greatest, named}
use Rattle.archive.specs.Reading.{Place, and_then, behind_cells, cell_due, cells_and_end, cells_from, due, ending, finished, in_front, judged, opened, pattern_in}
use Rattle.archive.proofs.Accepts.{CellRead, GoesOn, HeaderRead, cell_read_lem, cell_written, end_read, end_written, header_read, header_written}
use Rattle.archive.proofs.Numbering.{Follows, Met, behind_content, behind_cell, content_follows, each_follows, follows_content, follows_each, greatest_append, met_named, named_append, named_met}
use Rattle.archive.proofs.Outcomes.{and_then_ok, ok_same}

-- the lines of some cells, as the reader passes them
pub record CellsRead (p : Place) (cs : Pattern) (q : Place) : Type 0 where
  pub text_is : p.rest ≡ cells_text cs ++ q.rest
  pub count_is : q.count ≡ p.count
  pub in_range : AllByRecursion (InRange p.count) (contents cs)
  pub follows : Follows p.greatest (named (contents cs))
  pub met : Met p.next p.greatest cs

-- the greatest number named behind a cell
one_two : (c : PatternCell) → greatest (named (c.left ∷ c.right ∷ [])) ≡ max (greatest (named (c.left ∷ []))) (greatest (named (c.right ∷ [])))
one_two c = ap greatest (named_append (c.left ∷ []) (c.right ∷ [])) ∙ greatest_append (named (c.left ∷ [])) (named (c.right ∷ []))

pub behind_cell_lem : (i g : ℕ) (c : PatternCell) (h : ℕ) → GoesOn i g c h → h ≡ behind_cell g c
behind_cell_lem i g c h on =
    omega (arith, behind_content g c.left on.middle on.left_goes, behind_content on.middle c.right h on.right_goes, one_two c)

-- one line more in front
line_in_front : (p : Place) (c : PatternCell) (m : Place) (cs : Pattern) (q : Place) → CellRead p c m → CellsRead m cs q → CellsRead p (c ∷ cs) q
line_in_front p c m cs q first more =
    let on = first.goes in
    let h = behind_cell_lem p.next p.greatest c m.greatest on in
    record {
      text_is = first.text_is ∙ ap (λ t. line_text (cell_fields c) ++ t) more.text_is ∙ sym (append_assoc (line_text (cell_fields c)) (cells_text cs) q.rest);
      count_is = more.count_is ∙ first.count_is;
      in_range = (first.left_in, (first.right_in, subst (λ n. AllByRecursion (InRange n) (contents cs)) first.count_is more.in_range));
      follows =
          follows_content p.greatest c.left on.middle (c.right ∷ contents cs) on.left_goes
          (follows_content on.middle c.right m.greatest (contents cs) on.right_goes more.follows);
      met = (on.met, subst (λ g. Met (p.next + 1) g cs) h (subst (λ i. Met i m.greatest cs) first.next_is more.met));
    }

cells_read : (k : ℕ) (p : Place) (cs : Pattern) (q : Place) → cells_from k p ≡ Ok (cs, q) → (length cs ≡ k) × CellsRead p cs q
cells_read zero p cs q e =
    let none : CellsRead p [] p = record { text_is = refl; count_is = refl; in_range = tt; follows = tt; met = tt } in
    subst (λ (r : Pattern × Place). (length r.0 ≡ 0) × CellsRead p r.0 r.1) (ok_same e) (refl, none)
cells_read (suc k) p cs q e =
    let first = and_then_ok (cell_due p) (λ first. and_then (cells_from k first.1) (in_front first.0)) (cs, q) e in
    let c = first.0.0 in
    let m = first.0.1 in
    let more = and_then_ok (cells_from k m) (in_front c) (cs, q) first.2 in
    let rest = cells_read k m more.0.0 more.0.1 more.1 in
    let read = line_in_front p c m more.0.0 more.0.1 (cell_read_lem p c m first.1) rest.1 in
    subst (λ (r : Pattern × Place). (length r.0 ≡ suc k) × CellsRead p r.0 r.1) (ok_same more.2) (ap suc rest.0, read)

-- the same lines, written
pub record CellsBack (p : Place) (cs : Pattern) (rest : List ℕ) : Type 0 where
  pub end : Place
  pub read : cells_from (length cs) p ≡ Ok (cs, end)
  pub rest_is : end.rest ≡ rest
  pub count_is : end.count ≡ p.count

cells_written : (cs : Pattern) (p : Place) (rest : List ℕ) → p.count ≤ 16384 → p.rest ≡ cells_text cs ++ rest → AllByRecursion (InRange p.count) (contents cs) → Follows p.greatest (named (contents cs)) → Met p.next p.greatest cs → CellsBack p cs rest
cells_written [] p rest few text range follows met = record { end = p; read = refl; rest_is = text; count_is = refl }
cells_written (c ∷ cs) p rest few text range follows met =
    let left = content_follows p.greatest c.left (c.right ∷ contents cs) follows in
    let right = content_follows left.0 c.right (contents cs) left.2 in
    let m : Place = record { count = p.count; next = p.next + 1; greatest = right.0; rest = cells_text cs ++ rest } in
    let on : GoesOn p.next p.greatest c right.0 = record { met = met.0; middle = left.0; left_goes = left.1; right_goes = right.1 } in
    let line : CellRead p c m = record {
      text_is = text ∙ append_assoc (line_text (cell_fields c)) (cells_text cs) rest;
      count_is = refl;
      next_is = refl;
      left_in = range.0;
      right_in = range.1.0;
      goes = on;
    } in
    let h = behind_cell_lem p.next p.greatest c right.0 on in
    let more = cells_written cs m rest few refl range.1.1 right.2 (subst (λ g. Met (p.next + 1) g cs) (sym h) met.1) in
    record {
      end = more.end;
      read =
          ap (λ r. and_then r (λ first. and_then (cells_from (length cs) first.1) (in_front first.0))) (cell_written p c m few line)
          ∙ ap (λ r. and_then r (in_front c)) more.read;
      rest_is = more.rest_is;
      count_is = more.count_is;
    }

-- The theorem.

whole_read : (text : List ℕ) (s : Place) (cs : Pattern) (q : Place) → HeaderRead text s → length cs ≡ due s → CellsRead s cs q → q.rest ≡ line_text (end_fields q.count) → Writes cs text
whole_read text s cs q head long cells last =
    let n : s.count ≡ length cs = omega (arith, head.at_first) in
    let follows = subst (λ g. Follows g (named (contents cs))) head.none_named cells.follows in
    let met = subst (λ i. Met i 0 cs) head.at_first (subst (λ g. Met s.next g cs) head.none_named cells.met) in
    record {
      numbered = record {
        some = omega (arith, head.some);
        few = omega (arith, head.few);
        in_range = subst (λ k. AllByRecursion (InRange k) (contents cs)) n cells.in_range;
        met_before = met_named cs follows met;
        next_number = λ before k after e. omega (arith, each_follows 0 (named (contents cs)) follows before k after e);
      };
      text_is =
          head.text_is
          ∙ ap (λ t. line_text (header_fields s.count) ++ t) (cells.text_is ∙ ap (λ t. cells_text cs ++ t) (last ∙ ap (λ k. line_text (end_fields k)) cells.count_is))
          ∙ ap (λ k. line_text (header_fields k) ++ (cells_text cs ++ line_text (end_fields k))) n;
    }

pub pattern_read : (text : List ℕ) (p : Pattern) → pattern_in text ≡ Ok p → Writes p text
pattern_read text p e =
    let start = and_then_ok (opened text) cells_and_end p e in
    let s = start.0 in
    let cells = and_then_ok (cells_from (due s) s) ending p start.2 in
    let cs = cells.0.0 in
    let q = cells.0.1 in
    let last = and_then_ok (finished q) (λ n. Ok cs) p cells.2 in
    let read = cells_read (due s) s cs q cells.1 in
    let whole = whole_read text s cs q (header_read text s start.1) read.0 read.1 (end_read q last.0 last.1).0 in
    subst (λ r. Writes r text) (ok_same last.2) whole

pub pattern_written : (text : List ℕ) (p : Pattern) → Writes p text → pattern_in text ≡ Ok p
pattern_written text p w =
    let n = length p in
    let rule = w.numbered in
    let last = line_text (end_fields n) in
    let start : Place = record { count = n; next = 0; greatest = 0; rest = cells_text p ++ last } in
    let follows = follows_each 0 (named (contents p)) (λ before k after e. omega (arith, rule.next_number before k after e)) in
    let back = cells_written p start last rule.few refl rule.in_range follows (named_met p follows rule.met_before) in
    let q = back.end in
    let end_is : q.rest ≡ line_text (end_fields q.count) = back.rest_is ∙ ap (λ k. line_text (end_fields k)) (sym back.count_is) in
    ap pattern_in w.text_is
    ∙ ap (λ r. and_then r cells_and_end) (header_written n (cells_text p ++ last) rule.some rule.few)
    ∙ ap (λ k. and_then (cells_from k start) ending) (sub-zero n)
    ∙ ap (λ r. and_then r ending) back.read
    ∙ ap (λ r. and_then r (λ k. Ok p)) (end_written q (omega (arith, rule.few, back.count_is)) end_is)

-- The verdict counts the cells of the pattern.

pub count_is : (text : List ℕ) (s : Place) (cs : Pattern) (q : Place) (n : ℕ) → opened text ≡ Ok s → cells_from (due s) s ≡ Ok (cs, q) → finished q ≡ Ok n → n ≡ length cs
count_is text s cs q n e f h =
    let read = cells_read (due s) s cs q f in
    let head = header_read text s e in
    omega (arith, (end_read q n h).1, read.0, read.1.count_is, head.at_first)

counted : (text : List ℕ) (s : Place) → opened text ≡ Ok s → and_then (behind_cells s) finished ≡ and_then (cells_and_end s) (λ p. Ok (length p))
counted text s e = by (cells_from (due s) s) refl
  where
    last : (cs : Pattern) (q : Place) → cells_from (due s) s ≡ Ok (cs, q) → (r : Result ℕ FileFault) → finished q ≡ r → r ≡ and_then (and_then r (λ n. Ok cs)) (λ p. Ok (length p))
    last cs q f (Err g) h = refl
    last cs q f (Ok n) h = ap Ok (count_is text s cs q n e f h)

    by : (r : Result (Pattern × Place) FileFault) → cells_from (due s) s ≡ r → and_then (and_then r (λ cells. Ok cells.1)) finished ≡ and_then (and_then r ending) (λ p. Ok (length p))
    by (Err g) f = refl
    by (Ok cells) f = last cells.0 cells.1 f (finished cells.1) refl

-- header, cells and end line, in this order
pub verdict_is : (text : List ℕ) (r : Result ℕ FileFault) → r ≡ and_then (opened text) (λ p. and_then (behind_cells p) finished) → judged text ≡ r
verdict_is text r h = sym (h ∙ by (opened text) refl)
  where
    by : (r : Result Place FileFault) → opened text ≡ r → and_then r (λ p. and_then (behind_cells p) finished) ≡ and_then (and_then r cells_and_end) (λ p. Ok (length p))
    by (Err g) e = refl
    by (Ok s) e = counted text s e

-- The laws of judging.

pub accepted_exactly : (text : List ℕ) (n : ℕ) → (judged text ≡ Ok n) ↔ WritesSome n text
accepted_exactly text n = (
  λ e. let read = and_then_ok (pattern_in text) (λ p. Ok (length p)) n e in (read.0, ok_same read.2, pattern_read text read.0 read.1),
  λ w. ap (λ r. and_then r (λ p. Ok (length p))) (pattern_written text w.0 w.2) ∙ ap Ok w.1,
)

pub one_pattern : (text : List ℕ) → OnePattern text
one_pattern text p q a b = ok_same (sym (pattern_written text p a) ∙ pattern_written text q b)
