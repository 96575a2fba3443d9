-- The counts that are kept while a text is read are those of its pattern.
use Rattle.std.proofs.Common.{◌≡◌, ℕ, ◌+◌, ◌<◌, ◌≤◌, max, Bool, true, false, cond, leb, List, [], ◌∷◌, length, Ok, Err, count_by, Result, sym, refl, ap, ◌∙◌, arith, leb-false, leb-true}
use Rattle.std.proofs.lemmas.List.Sums.{sum_by-cons}
use Rattle.std.proofs.lemmas.Bool.Decides.{nat_tests}
use Rattle.cells.specs.declared.content.Content.{Content}
use Rattle.cells.specs.declared.content.Content.TheVariants.{Nothing, Yarn, Cell}
use Rattle.cells.specs.declared.content.Joint.{Joint}
use Rattle.cells.specs.declared.content.Joint.TheVariants.{Beside, Above}
use Rattle.lines.specs.declared.cell.PatternCell.{PatternCell}
use Rattle.archive.specs.declared.fault.FileFault.{FileFault}
use Rattle.archive.specs.Pattern.{Pattern, Writes, among, contents, named}
use Rattle.archive.specs.Reading.{Place, and_then, cells_and_end, cells_from, due, ending, finished, opened, pattern_in}
use Rattle.archive.proofs.Numbering.{Follows, follows_each}
use Rattle.archive.proofs.Whole.{pattern_read, pattern_written}
use Rattle.report.specs.declared.tally.Summary.{Summary}
use Rattle.report.specs.declared.tally.Tally.{Tally}
use Rattle.report.specs.Summary.{is_above, is_nothing, is_yarn, met_again, summary_of, surveyed, ties}
use Rattle.report.specs.Survey.{tallied_end, tally_from}
use Rattle.report.specs.Tally.{cell_noted, content_noted, empty, joint_noted, tallied}

-- The counts of one content.

abbrev one : Bool → ℕ
one t = cond t 1 0

-- of the numbers ks, how many are at most the greatest before them
abbrev at_most : ℕ → List ℕ → ℕ
at_most g [] = 0
at_most g (k ∷ ks) = one (leb k g) + at_most (max g k) ks

-- what a content adds to a tally, where ks are the numbers named behind it
record Adds (t : Tally) (x : Content) (u : Tally) : Type 0 where
  cells : u.counts.cells ≡ t.counts.cells
  above : u.counts.above ≡ t.counts.above
  yarns : u.counts.yarns ≡ t.counts.yarns + one (is_yarn x)
  nothings : u.counts.nothings ≡ t.counts.nothings + one (is_nothing x)
  ties : (xs : List Content) → u.counts.ties + at_most u.greatest (named xs) ≡ t.counts.ties + at_most t.greatest (named (x ∷ xs))

adds : (t : Tally) (x : Content) → Adds t x (content_noted t x)
adds t Nothing = record { cells = refl; above = refl; yarns = omega arith; nothings = refl; ties = λ xs. refl }
adds t (Yarn y) = record { cells = refl; above = refl; yarns = refl; nothings = omega arith; ties = λ xs. refl }
adds t (Cell k) = by (leb k t.greatest) refl
  where
    stays : k ≤ t.greatest → max t.greatest k ≡ t.greatest
    stays h = omega arith

    rises : t.greatest < k → max t.greatest k ≡ k
    rises h = omega arith

    by : (b : Bool) → leb k t.greatest ≡ b → Adds t (Cell k) (cond b (record t { counts = record (t.counts) { ties = t.counts.ties + 1 } }) (record t { greatest = k }))
    by true q =
        let h = leb-true k t.greatest q in
        record {
          cells = refl;
          above = refl;
          yarns = omega arith;
          nothings = omega arith;
          ties = λ xs. omega (arith, ap one q, ap (λ m. at_most m (named xs)) (stays h));
        }
    by false q =
        let h = leb-false k t.greatest q in
        record {
          cells = refl;
          above = refl;
          yarns = omega arith;
          nothings = omega arith;
          ties = λ xs. omega (arith, ap one q, ap (λ m. at_most m (named xs)) (rises h));
        }

-- The counts of a cell, and of all cells.

count_cons : {X : Type 0} (test : X → Bool) (x : X) (xs : List X) → count_by test (x ∷ xs) ≡ one (test x) + count_by test xs
count_cons test x xs = sum_by-cons (λ y. one (test y)) x xs

record Counted (t : Tally) (p : Pattern) (u : Tally) : Type 0 where
  cells : u.counts.cells ≡ t.counts.cells + length p
  above : u.counts.above ≡ t.counts.above + count_by is_above p
  yarns : u.counts.yarns ≡ t.counts.yarns + count_by is_yarn (contents p)
  nothings : u.counts.nothings ≡ t.counts.nothings + count_by is_nothing (contents p)
  ties : u.counts.ties ≡ t.counts.ties + at_most t.greatest (named (contents p))

-- what a joint adds to the counts
record Joined (s : Summary) (c : PatternCell) (u : Summary) : Type 0 where
  cells : u.cells ≡ s.cells + 1
  above : u.above ≡ s.above + one (is_above c)
  yarns : u.yarns ≡ s.yarns
  nothings : u.nothings ≡ s.nothings
  ties : u.ties ≡ s.ties

joined : (s : Summary) (c : PatternCell) → Joined s c (joint_noted s c.joint)
joined s c = by c.joint refl
  where
    by : (j : Joint) → c.joint ≡ j → Joined s c (joint_noted s j)
    by Beside q = let b : is_above c ≡ false = ap (λ j. elim j [ Beside ↦ false | Above ↦ true ]) q in record { cells = refl; above = omega (arith, ap one b); yarns = refl; nothings = refl; ties = refl }
    by Above q = let b : is_above c ≡ true = ap (λ j. elim j [ Beside ↦ false | Above ↦ true ]) q in record { cells = refl; above = omega (arith, ap one b); yarns = refl; nothings = refl; ties = refl }

counted : (t : Tally) (p : Pattern) → Counted t p (tallied t p)
counted t [] = record { cells = omega arith; above = omega arith; yarns = omega arith; nothings = omega arith; ties = omega arith }
counted t (c ∷ cs) =
    let j : Tally = record t { counts = joint_noted t.counts c.joint } in
    let l = content_noted j c.left in
    let joint = joined t.counts c in
    let left = adds j c.left in
    let right = adds l c.right in
    let more = counted (cell_noted t c) cs in
    let both = c.left ∷ c.right ∷ contents cs in
    record {
      cells = omega (arith, more.cells, right.cells, left.cells, joint.cells);
      above = omega (arith, more.above, right.above, left.above, joint.above, count_cons is_above c cs);
      yarns =
          omega (arith, more.yarns, right.yarns, left.yarns, joint.yarns, count_cons is_yarn c.left (c.right ∷ contents cs), count_cons is_yarn c.right (contents cs));
      nothings =
          omega (arith, more.nothings, right.nothings, left.nothings, joint.nothings, count_cons is_nothing c.left (c.right ∷ contents cs), count_cons is_nothing c.right (contents cs));
      ties =
          more.ties ∙ right.ties (contents cs) ∙ left.ties (c.right ∷ contents cs)
          ∙ ap (λ k. k + at_most t.greatest (named both)) joint.ties;
    }

-- Under the numbering rule, a number was met before exactly if it is at most the greatest before it.

met_next : (g k : ℕ) (met : List ℕ) → k ≤ g + 1 → ((j : ℕ) → among j met ≡ leb j g) → (j : ℕ) → among j (k ∷ met) ≡ leb j (max g k)
met_next g k met h m j = let e = m j in grind (arith, nat_tests)

met_at_most : (g : ℕ) (met ks : List ℕ) → Follows g ks → ((j : ℕ) → among j met ≡ leb j g) → met_again met ks ≡ at_most g ks
met_at_most g met [] f m = refl
met_at_most g met (k ∷ ks) f m =
    let more = met_at_most (max g k) (k ∷ met) ks f.1 (met_next g k met f.0 m) in
    omega (arith, ap one (m k), more)

first_met : (j : ℕ) → among j (0 ∷ []) ≡ leb j 0
first_met j = grind (arith, nat_tests)

same_counts : (s : Summary) (c a y n k : ℕ) → s.cells ≡ c → s.above ≡ a → s.yarns ≡ y → s.nothings ≡ n → s.ties ≡ k → s ≡ record { cells = c; above = a; yarns = y; nothings = n; ties = k }
same_counts s c a y n k e f g h i = rw (← e, ← f, ← g, ← h, ← i)

summary_is : (text : List ℕ) (p : Pattern) → Writes p text → (tallied empty p).counts ≡ summary_of p
summary_is text p w =
    let all = counted empty p in
    let rule = w.numbered in
    let follows = follows_each 0 (named (contents p)) (λ before k after e. omega (arith, rule.next_number before k after e)) in
    let met = met_at_most 0 (0 ∷ []) (named (contents p)) follows first_met in
    same_counts (tallied empty p).counts (length p) (count_by is_above p) (count_by is_yarn (contents p)) (count_by is_nothing (contents p)) (ties p)
    (omega (arith, all.cells)) (omega (arith, all.above)) (omega (arith, all.yarns)) (omega (arith, all.nothings)) (omega (arith, all.ties, met))

-- The whole text.

pub survey_is : (text : List ℕ) (r : Result Summary FileFault) → r ≡ and_then (opened text) (λ p. and_then (tally_from p) tallied_end) → surveyed text ≡ r
survey_is text r h = sym (h ∙ by (opened text) refl)
  where
    with_end : (s : Place) → opened text ≡ Ok s → (cs : Pattern) (q : Place) → cells_from (due s) s ≡ Ok (cs, q) → (r : Result ℕ FileFault) → finished q ≡ r → and_then r (λ n. Ok (tallied empty cs).counts) ≡ and_then (and_then r (λ n. Ok cs)) (λ p. Ok (summary_of p))
    with_end s e cs q f (Err g) h = refl
    with_end s e cs q f (Ok n) h =
        let read : pattern_in text ≡ Ok cs = ap (λ r. and_then r cells_and_end) e ∙ ap (λ r. and_then r ending) f ∙ ap (λ r. and_then r (λ n. Ok cs)) h in
        ap Ok (summary_is text cs (pattern_read text cs read))

    with_cells_lem : (s : Place) → opened text ≡ Ok s → (r : Result (Pattern × Place) FileFault) → cells_from (due s) s ≡ r → and_then (and_then r (λ cells. Ok (tallied empty cells.0, cells.1))) tallied_end ≡ and_then (and_then r ending) (λ p. Ok (summary_of p))
    with_cells_lem s e (Err g) f = refl
    with_cells_lem s e (Ok cells) f = with_end s e cells.0 cells.1 f (finished cells.1) refl

    by : (r : Result Place FileFault) → opened text ≡ r → and_then r (λ p. and_then (tally_from p) tallied_end) ≡ and_then (and_then r cells_and_end) (λ p. Ok (summary_of p))
    by (Err g) e = refl
    by (Ok s) e = with_cells_lem s e (cells_from (due s) s) refl

pub survey_pattern : (text : List ℕ) (p : Pattern) → Writes p text → surveyed text ≡ Ok (summary_of p)
survey_pattern text p w = ap (λ r. and_then r (λ q. Ok (summary_of q))) (pattern_written text p w)
