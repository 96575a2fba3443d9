-- What an accepted line shows, and which lines are accepted.
use Rattle.std.proofs.Common.{◌≡◌, ℕ, ◌+◌, ◌<◌, ◌≤◌, Bool, true, false, cond, ◌&&◌, eqb, leb, List, [], ◌∷◌, ◌++◌, length, Some, None, Ok, codes, decimal, sym, refl, ap, ◌∙◌, subst, append_assoc, append-nil, arith, ltb-true, lt-ltb, eq-eqb, eqb-true, le-leb, leb-true}
use Rattle.std.proofs.lemmas.Bool.{and_parts}
use Rattle.std.proofs.lemmas.Bool.Decides.{nat_tests}
use Rattle.text.specs.Cut.{Lacks, cut_at}
use Rattle.text.specs.Number.{number_in}
use Rattle.text.proofs.Cuts.{cut_holds, cut_found}
use Rattle.text.proofs.Trip.{number_written}
use Rattle.cells.specs.declared.content.Content.{Content}
use Rattle.cells.specs.declared.content.Content.TheVariants.{Nothing, Yarn, Cell}
use Rattle.cells.specs.Calls.{InRange}
use Rattle.lines.specs.declared.cell.PatternCell.{PatternCell}
use Rattle.lines.specs.declared.fault.LineFault.TheVariants.{Form, Range}
use Rattle.archive.specs.declared.fault.FileFault.TheVariants.{OfLine, Version, Numbering, NoLine, Trailing}
use Rattle.lines.specs.Line.{Fields, header, Tabless, body, line_in}
use Rattle.lines.specs.Text.{cell_fields, end_fields, header_fields, line_text}
use Rattle.lines.specs.Values.{cell_values, end_count, given, header_numbers}
use Rattle.archive.specs.Reading.{Place, and_then, as_cell, as_end, as_heading, as_line, cell_due, cell_read, content_fits, count_fits, finished, goes_on, in_range, line_at, line_due, line_goes_on, opened, or_fault, same_count, unless, with_count}
use Rattle.lines.proofs.Forms.{line_holds, line_back}
use Rattle.lines.proofs.Options.{given_some}
use Rattle.lines.proofs.Plain.{cell_ends, cell_plain, end_ends, end_plain, header_ends, header_plain, version_is}
use Rattle.archive.proofs.Outcomes.{and_then_ok, step_ok, step_back, unless_ok, unless_back, ok_same}
use Rattle.lines.proofs.Values.{Short, cell_values_lem, cell_values_back, empty, end_count_lem, header_numbers_lem}

-- Lines.

pub line_read : (line : ℕ) (text : List ℕ) (f : Fields) (rest : List ℕ) → line_at line text ≡ Ok (f, rest) → text ≡ line_text f ++ rest
line_read line text f rest e =
    let cut = step_ok (cut_at 10 text) (NoLine line) (as_line line) (f, rest) e in
    let form = step_ok (line_in cut.0.0) (OfLine (Form line)) (λ fields. Ok (fields, cut.0.1)) (f, rest) cut.2 in
    let same = ok_same form.2 in
    let text_is = (cut_holds 10 text cut.0.0 cut.0.1 cut.1).0 in
    let body_is = (line_holds cut.0.0 form.0 form.1).0 in
    text_is ∙ ap (λ b. b ++ (10 ∷ cut.0.1)) body_is ∙ ap (λ p. body p.0 ++ (10 ∷ p.1)) same ∙ sym (append_assoc (body f) (10 ∷ []) rest)

pub line_written : (line : ℕ) (f : Fields) (rest : List ℕ) → Tabless f → Lacks 10 (body f) → line_at line (line_text f ++ rest) ≡ Ok (f, rest)
line_written line f rest plain ends =
    let text_is : line_text f ++ rest ≡ body f ++ (10 ∷ rest) = append_assoc (body f) (10 ∷ []) rest in
    ap (line_at line) text_is
    ∙ step_back (cut_at 10 (body f ++ (10 ∷ rest))) (NoLine line) (as_line line) (body f, rest) (cut_found 10 (body f) rest ends)
    ∙ step_back (line_in (body f)) (OfLine (Form line)) (λ fields. Ok (fields, rest)) f (line_back f plain)

-- The header.

pub record HeaderRead (text : List ℕ) (p : Place) : Type 0 where
  pub text_is : text ≡ line_text (header_fields p.count) ++ p.rest
  pub some : 1 ≤ p.count
  pub few : p.count ≤ 16384
  pub at_first : p.next ≡ 0
  pub none_named : p.greatest ≡ 0

pub header_read : (text : List ℕ) (p : Place) → opened text ≡ Ok p → HeaderRead text p
header_read text p e =
    let line = and_then_ok (line_at 1 text) as_heading p e in
    let rest = line.0.1 in
    let numbers = step_ok (header_numbers line.0.0) (OfLine (Form 1)) (with_count rest) p line.2 in
    let v = numbers.0.0 in
    let n = numbers.0.1 in
    let start : Place = record { count = n; next = 0; greatest = 0; rest = rest } in
    let version = unless_ok (eqb v 1) (Version 1) (unless (count_fits n) (OfLine (Range 1)) (Ok start)) p numbers.2 in
    let range = unless_ok (count_fits n) (OfLine (Range 1)) (Ok start) p version.1 in
    let good = range.0 in
    let same = ok_same range.1 in
    let fields = header_numbers_lem line.0.0 v n numbers.1 in
    let read : HeaderRead text start = record {
      text_is = line_read 1 text line.0.0 rest line.1 ∙ ap (λ f. line_text f ++ rest) (fields ∙ ap (λ k. header (decimal k) (decimal n)) (eqb-true v 1 version.0) ∙ ap (λ t. header t (decimal n)) version_is);
      some = grind (arith, nat_tests);
      few = grind (arith, nat_tests);
      at_first = refl;
      none_named = refl;
    } in
    subst (HeaderRead text) same read

pub header_written : (n : ℕ) (rest : List ℕ) → 1 ≤ n → n ≤ 16384 → opened (line_text (header_fields n) ++ rest) ≡ Ok (record { count = n; next = 0; greatest = 0; rest = rest })
header_written n rest some few =
    let short : n < 100000 = omega arith in
    let start : Place = record { count = n; next = 0; greatest = 0; rest = rest } in
    let one : number_in (codes "1") ≡ Some 1 = ap number_in (sym version_is) ∙ number_written 1 (omega arith) in
    let numbers : header_numbers (header_fields n) ≡ Some (1, n) =
    ap (λ o. given o (λ v. given (number_in (decimal n)) (λ k. Some (v, k)))) one ∙ ap (λ o. given o (λ k. Some (1, k))) (number_written n short) in
    let good : count_fits n ≡ true = grind (arith, nat_tests) in
    ap (λ line. and_then line as_heading) (line_written 1 (header_fields n) rest (header_plain n short) (header_ends n short))
    ∙ step_back (header_numbers (header_fields n)) (OfLine (Form 1)) (with_count rest) (1, n) numbers
    ∙ unless_back (count_fits n) (OfLine (Range 1)) (Ok start) good

-- The line of a cell.

-- a content in range has a number of at most five digits
fits_range : (n : ℕ) (x : Content) → content_fits n x ≡ true → InRange n x
fits_range n Nothing e = tt
fits_range n (Yarn y) e = leb-true y 4095 e
fits_range n (Cell k) e = ltb-true k n e

range_fits : (n : ℕ) (x : Content) → InRange n x → content_fits n x ≡ true
range_fits n Nothing h = refl
range_fits n (Yarn y) h = le-leb y 4095 h
range_fits n (Cell k) h = lt-ltb k n h

range_short : (n : ℕ) (x : Content) → n ≤ 16384 → InRange n x → Short x
range_short n Nothing few h = tt
range_short n (Yarn y) few h = omega arith
range_short n (Cell k) few h = omega arith

-- the contents of cell i may stand behind the greatest number g, and leave h as the greatest
pub record GoesOn (i g : ℕ) (c : PatternCell) (h : ℕ) : Type 0 where
  pub met : i ≤ g
  pub middle : ℕ
  pub left_goes : goes_on g c.left ≡ Some middle
  pub right_goes : goes_on middle c.right ≡ Some h

goes_on_lem : (i g : ℕ) (c : PatternCell) (h : ℕ) → line_goes_on i g c ≡ Some h → GoesOn i g c h
goes_on_lem i g c h e = by (leb i g) refl e
  where
    by : (t : Bool) → leb i g ≡ t → cond t (given (goes_on g c.left) (λ k. goes_on k c.right)) None ≡ Some h → GoesOn i g c h
    by true q e =
        let left = given_some (goes_on g c.left) (λ k. goes_on k c.right) h e in
        record { met = leb-true i g q; middle = left.0; left_goes = left.1; right_goes = left.2 }
    by false q e = cc

goes_back : (i g : ℕ) (c : PatternCell) (h : ℕ) → GoesOn i g c h → line_goes_on i g c ≡ Some h
goes_back i g c h on =
    ap (λ t. cond t (given (goes_on g c.left) (λ k. goes_on k c.right)) None) (le-leb i g on.met)
    ∙ ap (λ o. given o (λ k. goes_on k c.right)) on.left_goes
    ∙ on.right_goes

pub record CellRead (p : Place) (c : PatternCell) (q : Place) : Type 0 where
  pub text_is : p.rest ≡ line_text (cell_fields c) ++ q.rest
  pub count_is : q.count ≡ p.count
  pub next_is : q.next ≡ p.next + 1
  pub left_in : InRange p.count c.left
  pub right_in : InRange p.count c.right
  pub goes : GoesOn p.next p.greatest c q.greatest

pub cell_read_lem : (p : Place) (c : PatternCell) (q : Place) → cell_due p ≡ Ok (c, q) → CellRead p c q
cell_read_lem p c q e =
    let at = line_due p in
    let line = and_then_ok (line_at at p.rest) (as_cell p) (c, q) e in
    let f = line.0.0 in
    let rest = line.0.1 in
    let value = step_ok (cell_values f) (OfLine (Form at)) (in_range p rest) (c, q) line.2 in
    let d = value.0 in
    let fits = content_fits p.count d.left && content_fits p.count d.right in
    let number = and_then (or_fault (line_goes_on p.next p.greatest d) (Numbering at)) (cell_read p rest d) in
    let range = unless_ok fits (OfLine (Range at)) number (c, q) value.2 in
    let both = and_parts (content_fits p.count d.left) (content_fits p.count d.right) range.0 in
    let goes = step_ok (line_goes_on p.next p.greatest d) (Numbering at) (cell_read p rest d) (c, q) range.1 in
    let after : Place = record { count = p.count; next = p.next + 1; greatest = goes.0; rest = rest } in
    let same : (d, after) ≡ (c, q) = ok_same {x = (d, after)} {y = (c, q)} goes.2 in
    let read : CellRead p d after = record {
      text_is = line_read at p.rest f rest line.1 ∙ ap (λ t. line_text t ++ rest) (cell_values_lem f d value.1);
      count_is = refl;
      next_is = refl;
      left_in = fits_range p.count d.left both.0;
      right_in = fits_range p.count d.right both.1;
      goes = goes_on_lem p.next p.greatest d goes.0 goes.1;
    } in
    subst (λ r. CellRead p r.0 r.1) {x = (d, after)} {y = (c, q)} same read

pub cell_written : (p : Place) (c : PatternCell) (q : Place) → p.count ≤ 16384 → CellRead p c q → cell_due p ≡ Ok (c, q)
cell_written p c q few read =
    let at = line_due p in
    let left = range_short p.count c.left few read.left_in in
    let right = range_short p.count c.right few read.right_in in
    let fits = content_fits p.count c.left && content_fits p.count c.right in
    let good : fits ≡ true =
    ap (λ t. t && content_fits p.count c.right) (range_fits p.count c.left read.left_in) ∙ range_fits p.count c.right read.right_in in
    let number = and_then (or_fault (line_goes_on p.next p.greatest c) (Numbering at)) (cell_read p q.rest c) in
    ap (λ t. and_then (line_at at t) (as_cell p)) read.text_is
    ∙ ap (λ line. and_then line (as_cell p)) (line_written at (cell_fields c) q.rest (cell_plain c left right) (cell_ends c left right))
    ∙ step_back (cell_values (cell_fields c)) (OfLine (Form at)) (in_range p q.rest) c (cell_values_back c left right)
    ∙ unless_back fits (OfLine (Range at)) number good
    ∙ step_back (line_goes_on p.next p.greatest c) (Numbering at) (cell_read p q.rest c) q.greatest (goes_back p.next p.greatest c q.greatest read.goes)
    ∙ ap (λ n. Ok (c, record { count = n; next = p.next + 1; greatest = q.greatest; rest = q.rest })) (sym read.count_is)
    ∙ ap (λ k. Ok (c, record { count = q.count; next = k; greatest = q.greatest; rest = q.rest })) (sym read.next_is)

-- The end line.

pub end_read : (p : Place) (n : ℕ) → finished p ≡ Ok n → (p.rest ≡ line_text (end_fields p.count)) × (n ≡ p.count)
end_read p n e =
    let at = line_due p in
    let line = and_then_ok (line_at at p.rest) (as_end p) n e in
    let f = line.0.0 in
    let rest = line.0.1 in
    let count = step_ok (end_count f) (OfLine (Form at)) (same_count p rest) n line.2 in
    let k = count.0 in
    let same = unless_ok (eqb k p.count) (OfLine (Form at)) (unless (eqb (length rest) 0) (Trailing (at + 1)) (Ok p.count)) n count.2 in
    let last = unless_ok (eqb (length rest) 0) (Trailing (at + 1)) (Ok p.count) n same.1 in (
      line_read at p.rest f rest line.1
          ∙ ap (λ t. line_text f ++ t) (empty rest last.0)
          ∙ append-nil (line_text f)
          ∙ ap line_text (end_count_lem f k count.1 ∙ ap end_fields (eqb-true k p.count same.0)),
      sym (ok_same last.1),
    )

pub end_written : (p : Place) → p.count < 100000 → p.rest ≡ line_text (end_fields p.count) → finished p ≡ Ok p.count
end_written p h e =
    let at = line_due p in
    let n = p.count in
    let text : p.rest ≡ line_text (end_fields n) ++ [] = e ∙ sym (append-nil (line_text (end_fields n))) in
    ap (λ t. and_then (line_at at t) (as_end p)) text
    ∙ ap (λ line. and_then line (as_end p)) (line_written at (end_fields n) [] (end_plain n h) (end_ends n h))
    ∙ step_back (end_count (end_fields n)) (OfLine (Form at)) (same_count p []) n (number_written n h)
    ∙ unless_back (eqb n n) (OfLine (Form at)) (unless (eqb (length {A = ℕ} []) 0) (Trailing (at + 1)) (Ok n)) (eq-eqb n n refl)
