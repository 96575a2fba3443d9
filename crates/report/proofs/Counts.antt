-- A cell raises no count by more than three.
use Rattle.std.proofs.Common.{ℕ, ◌+◌, ◌≤◌, Bool, true, false, cond, leb, arith}
use Rattle.cells.specs.declared.content.Content.{Content}
use Rattle.cells.specs.declared.content.Content.TheVariants.{Nothing, Yarn, Cell}
use Rattle.cells.specs.declared.content.Joint.{Joint}
use Rattle.cells.specs.declared.content.Joint.TheVariants.{Beside, Above}
use Rattle.lines.specs.declared.cell.PatternCell.{PatternCell}
use Rattle.report.specs.declared.tally.Tally.{Tally}
use Rattle.report.specs.Tally.{Upto, cell_noted, content_noted, joint_noted}

pub joint_upto : (n : ℕ) (t : Tally) (j : Joint) → Upto n t → Upto (n + 1) (record t { counts = joint_noted t.counts j })
joint_upto n t Beside u = grind arith
joint_upto n t Above u = grind arith

pub content_upto : (n : ℕ) (t : Tally) (x : Content) → Upto n t → Upto (n + 1) (content_noted t x)
content_upto n t Nothing u = grind arith
content_upto n t (Yarn y) u = grind arith
content_upto n t (Cell k) u = by (leb k t.greatest)
  where
    by : (b : Bool) → Upto (n + 1) (cond b (record t { counts = record (t.counts) { ties = t.counts.ties + 1 } }) (record t { greatest = k }))
    by true = grind arith
    by false = grind arith

pub cell_upto : (n m : ℕ) (t : Tally) (c : PatternCell) → n + 3 ≤ m → Upto n t → Upto m (cell_noted t c)
cell_upto n m t c h u =
    let j : Tally = record t { counts = joint_noted t.counts c.joint } in
    let one = joint_upto n t c.joint u in
    let two = content_upto (n + 1) j c.left one in
    let three = content_upto (n + 1 + 1) (content_noted j c.left) c.right two in
    (omega arith, omega arith, omega arith, omega arith, omega arith)
