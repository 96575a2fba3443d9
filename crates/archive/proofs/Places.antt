-- A reader's steps: what is left to read, cell by cell.
use Rattle.std.proofs.Common.{◌≡◌, suc, ◌+◌, ◌-◌, ◌<◌, Bool, true, false, cond, leb, [], is_some, Some, None, Ok, Err, Option, Result, sym, refl, ap, ◌∙◌, arith, leb-false, leb-true}
use Rattle.std.proofs.lemmas.Option.{same_Some}
use Rattle.lines.specs.declared.cell.PatternCell.{PatternCell}
use Rattle.archive.specs.declared.fault.FileFault.{FileFault}
use Rattle.archive.specs.Pattern.{Pattern}
use Rattle.archive.specs.Reading.{Place, and_then, cell_due, cells_from, cell_given, in_front, moved_on, next_cell, place_after, behind_cells, due}
use Rattle.archive.proofs.Accepts.{CellRead, cell_read_lem}
use Rattle.archive.proofs.Outcomes.{ok_same}

module _ (p : Place) where
  -- a due cell is the first of what is left
  first_then : Result (PatternCell × Place) FileFault → Result (Pattern × Place) FileFault
  first_then r = and_then r (λ first. and_then (cells_from (p.count - (p.next + 1)) first.1) (in_front first.0))

  cells_first : leb p.count p.next ≡ false → cells_from (due p) p ≡ first_then (cell_due p)
  unfolding first_then
  cells_first q = let h = leb-false _ _ q in let e : due p ≡ suc (p.count - (p.next + 1)) = omega arith in ap (λ k. cells_from k p) e

  pub cells_fault : (f : FileFault) → next_cell p ≡ Err f → cells_from (due p) p ≡ Err f
  unfolding first_then
  cells_fault f e = by (leb p.count p.next) refl e
    where
      fault : (r : Result (PatternCell × Place) FileFault) → cell_given r ≡ Err f → first_then r ≡ Err f
      fault (Ok read) e = cc
      fault (Err g) e = cc

      by : (t : Bool) → leb p.count p.next ≡ t → cond t (Ok None) (cell_given (cell_due p)) ≡ Err f → cells_from (due p) p ≡ Err f
      by true q e = cc
      by false q e = cells_first q ∙ fault (cell_due p) e

  -- where no cell was given, none is due
  none_due : next_cell p ≡ Ok None → leb p.count p.next ≡ true
  none_due e = by (leb p.count p.next) e
    where
      never : (r : Result (PatternCell × Place) FileFault) → cell_given r ≡ Ok None → ⊥
      never (Ok read) e = cc
      never (Err g) e = cc

      by : (t : Bool) → cond t (Ok None) (cell_given (cell_due p)) ≡ Ok None → t ≡ true
      by true e = refl
      by false e = absurd (never (cell_due p) e)

  pub cells_none : next_cell p ≡ Ok None → cells_from (due p) p ≡ Ok ([], p)
  cells_none e = let h = leb-true _ _ (none_due e) in let z : due p ≡ 0 = omega arith in ap (λ k. cells_from k p) z

  pub place_stays : next_cell p ≡ Ok None → place_after p ≡ p
  place_stays e = ap (λ t. cond t p (moved_on p (cell_due p))) (none_due e)

  -- where a cell was given, the place behind it
  record Given (c : PatternCell) : Type 0 where
    more : leb p.count p.next ≡ false
    read : cell_due p ≡ Ok (c, place_after p)

  given_cell : (c : PatternCell) → next_cell p ≡ Ok (Some c) → Given c
  given_cell c e = by (leb p.count p.next) refl e
    where
      moved : (r : Result (PatternCell × Place) FileFault) → cell_given r ≡ Ok (Some c) → r ≡ Ok (c, moved_on p r)
      moved (Ok read) e = ap (λ d. Ok (d, read.1)) (same_Some _ _ (ok_same e))
      moved (Err g) e = cc

      by : (t : Bool) → leb p.count p.next ≡ t → cond t (Ok None) (cell_given (cell_due p)) ≡ Ok (Some c) → Given c
      by true q e = cc
      by false q e =
          let after : place_after p ≡ moved_on p (cell_due p) = ap (λ t. cond t p (moved_on p (cell_due p))) q in
          record { more = q; read = moved (cell_due p) e ∙ ap (λ z. Ok (c, z)) (sym after) }

  pub due_falls : (c : PatternCell) → next_cell p ≡ Ok (Some c) → due (place_after p) < due p
  due_falls c e =
      let g = given_cell c e in
      let h = leb-false _ _ g.more in
      let m = cell_read_lem p c (place_after p) g.read in
      omega (arith, m.count_is, m.next_is)

  pub place_moves : (c : PatternCell) → next_cell p ≡ Ok (Some c) → CellRead p c (place_after p)
  place_moves c e = cell_read_lem p c (place_after p) (given_cell c e).read

  pub cells_some : (c : PatternCell) → next_cell p ≡ Ok (Some c) → cells_from (due p) p ≡ and_then (cells_from (due (place_after p)) (place_after p)) (in_front c)
  unfolding first_then
  cells_some c e =
      let g = given_cell c e in
      let m = cell_read_lem p c (place_after p) g.read in
      let k : p.count - (p.next + 1) ≡ due (place_after p) = omega (arith, m.count_is, m.next_is) in
      cells_first g.more ∙ ap first_then g.read ∙ ap (λ n. and_then (cells_from n (place_after p)) (in_front c)) k

  -- the place behind the last cell, step by step
  pub behind_fault : (f : FileFault) → next_cell p ≡ Err f → behind_cells p ≡ Err f
  behind_fault f e = ap (λ r. and_then r (λ cells. Ok cells.1)) (cells_fault f e)

  pub behind_some : (c : PatternCell) → next_cell p ≡ Ok (Some c) → behind_cells p ≡ behind_cells (place_after p)
  behind_some c e = ap (λ r. and_then r (λ cells. Ok cells.1)) (cells_some c e) ∙ passed (cells_from (due (place_after p)) (place_after p))
    where
      passed : (r : Result (Pattern × Place) FileFault) → and_then (and_then r (in_front c)) (λ cells. Ok cells.1) ≡ and_then r (λ cells. Ok cells.1)
      passed (Ok cells) = refl
      passed (Err f) = refl

  -- where some cell was given, no end is changed and less is due
  pub passes : (given : Option PatternCell) → next_cell p ≡ Ok given → is_some given ≡ true → (behind_cells (place_after p) ≡ behind_cells p) × (due (place_after p) < due p)
  passes (Some c) e t = (sym (behind_some c e), due_falls c e)
  passes None e t = cc
