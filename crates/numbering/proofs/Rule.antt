-- The numbering rule, line by line.
use Rattle.std.proofs.Common.{◌≡◌, ℕ, suc, ◌+◌, ◌≤◌, ◌∷◌, length, sym, subst, arith}
use Rattle.std.specs.List.{AllByRecursion}
use Rattle.cells.specs.Calls.{InRange}
use Rattle.lines.specs.declared.cell.PatternCell.{PatternCell}
use Rattle.archive.specs.Pattern.{Numbered, Pattern, contents, named}
use Rattle.archive.proofs.Accepts.{GoesOn}
use Rattle.archive.proofs.Numbering.{Follows, Met, behind_cell, content_follows, each_follows, follows_content, follows_each, met_named, named_met}
use Rattle.archive.proofs.Whole.{behind_cell_lem}

-- these lines may stand from line i on, where g is the greatest number named before them
pub record Obeys (i g : ℕ) (lines : Pattern) : Type 0 where
  pub follows : Follows g (named (contents lines))
  pub met : Met i g lines

-- the first of them may stand, and then the others behind it
pub line_then : (i g h : ℕ) (c : PatternCell) (cs : Pattern) → GoesOn i g c h → Obeys (suc i) h cs → Obeys i g (c ∷ cs)
line_then i g h c cs on more =
    let next : suc i ≡ i + 1 = omega arith in
    record {
      follows =
          follows_content g c.left on.middle (c.right ∷ contents cs) on.left_goes
          (follows_content on.middle c.right h (contents cs) on.right_goes more.follows);
      met = (on.met, subst (λ j. Met j (behind_cell g c) cs) next (subst (λ k. Met (suc i) k cs) (behind_cell_lem i g c h on) more.met));
    }

pub first_line : (i g : ℕ) (c : PatternCell) (cs : Pattern) → Obeys i g (c ∷ cs) → (h : ℕ) × GoesOn i g c h × Obeys (suc i) h cs
first_line i g c cs rule =
    let left = content_follows g c.left (c.right ∷ contents cs) rule.follows in
    let right = content_follows left.0 c.right (contents cs) left.2 in
    let on : GoesOn i g c right.0 = record { met = rule.met.0; middle = left.0; left_goes = left.1; right_goes = right.1 } in
    let next : i + 1 ≡ suc i = omega arith in
    let met = subst (λ k. Met (i + 1) k cs) (sym (behind_cell_lem i g c right.0 on)) rule.met.1 in
    (right.0, on, record { follows = right.2; met = subst (λ j. Met j right.0 cs) next met })

-- A pattern is numbered by the rule exactly if its lines may stand from line 0 on.
pub obeys_numbered : (p : Pattern) → 1 ≤ length p → length p ≤ 16384 → AllByRecursion (InRange (length p)) (contents p) → Obeys 0 0 p → Numbered p
obeys_numbered p some few range rule = record {
  some = some;
  few = few;
  in_range = range;
  met_before = met_named p rule.follows rule.met;
  next_number = λ before k after e. omega (arith, each_follows 0 (named (contents p)) rule.follows before k after e);
}

pub numbered_obeys : (p : Pattern) → Numbered p → Obeys 0 0 p
numbered_obeys p rule =
    let follows = follows_each 0 (named (contents p)) (λ before k after e. omega (arith, rule.next_number before k after e)) in
    record { follows = follows; met = named_met p follows rule.met_before }
