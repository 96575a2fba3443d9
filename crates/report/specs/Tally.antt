-- The counts of a pattern as they are kept while its cells are read.
use Rattle.std.specs.Prelude.{ℕ, ◌+◌, ◌≤◌, cond, [], ◌∷◌, nat_le}
use Rattle.cells.specs.declared.content.Content.{Content}
use Rattle.cells.specs.declared.content.Content.TheVariants.{Nothing, Yarn, Cell}
use Rattle.cells.specs.declared.content.Joint.{Joint}
use Rattle.cells.specs.declared.content.Joint.TheVariants.{Beside, Above}
use Rattle.lines.specs.declared.cell.PatternCell.{PatternCell}
use Rattle.archive.specs.Pattern.{Pattern}
use Rattle.report.specs.declared.tally.Summary.{Summary}
use Rattle.report.specs.declared.tally.Tally.{Tally}

abbrev pub empty : Tally
empty = record { counts = record { cells = 0; above = 0; yarns = 0; nothings = 0; ties = 0 }; greatest = 0 }

-- one cell more, with this joint
abbrev pub joint_noted : Summary → Joint → Summary
joint_noted s Beside = record s { cells = s.cells + 1 }
joint_noted s Above = record s { cells = s.cells + 1; above = s.above + 1 }

-- a number up to the greatest so far was named before; a higher one is named for the first time
abbrev pub content_noted : Tally → Content → Tally
content_noted t Nothing = record t { counts = record (t.counts) { nothings = t.counts.nothings + 1 } }
content_noted t (Yarn y) = record t { counts = record (t.counts) { yarns = t.counts.yarns + 1 } }
content_noted t (Cell k) =
    cond (nat_le k t.greatest)
    (record t { counts = record (t.counts) { ties = t.counts.ties + 1 } })
    (record t { greatest = k })

abbrev pub cell_noted : Tally → PatternCell → Tally
cell_noted t c = content_noted (content_noted (record t { counts = joint_noted t.counts c.joint }) c.left) c.right

abbrev pub tallied : Tally → Pattern → Tally
tallied t [] = t
tallied t (c ∷ cs) = tallied (cell_noted t c) cs

-- no count is above n
abbrev pub Upto : ℕ → Tally → Type 0
Upto n t = (t.counts.cells ≤ n) × (t.counts.above ≤ n) × (t.counts.yarns ≤ n) × (t.counts.nothings ≤ n) × (t.counts.ties ≤ n)
