-- The count stays right.
use Rattle.std.proofs.Common.{◌≡◌, ℕ, ◌+◌, ◌<◌, ◌≤◌, Ok, Result, sym, ◌∙◌, arith}
use Rattle.cells.specs.declared.cell.MarkColour.{MarkColour}
use Rattle.cells.specs.declared.cell.Colour.{Colour}
use Rattle.cells.specs.declared.cell.Colour.TheVariants.{Mark, Sweep}
use Rattle.cells.specs.declared.fault.HeapFault.{HeapFault}
use Rattle.cells.specs.Calls.{paint_answer, paint_cells}
use Rattle.cells.specs.Cells.{Cells}
use Rattle.cells.specs.Count.{grey_below, grey_count}
use Rattle.cells.specs.Record.{grey_weight}
use Rattle.cells.proofs.Counted.{count_le, count_more, count_paint, weight_counted, weight_le}
use Rattle.cells.proofs.Refused.{accepted_below}
use Rattle.tally.specs.Tally.{recount}

-- one more cell counted
pub counted_more : (g : ℕ → MarkColour) (i n w : ℕ) → n ≡ grey_below g i → w ≡ grey_weight (g i) → n + w ≡ grey_below g (i + 1)
counted_more g i n w e was = omega (arith, e, was, count_more g i)

recount_in : (c : Cells) (i n w : ℕ) (k : Colour) → c.size ≤ 16384 → i < c.size → n ≡ grey_count c → w ≡ grey_weight (c.mark i) → recount n w k ≡ grey_count (paint_cells c i k)
recount_in c i n w (Mark m) few h e was =
    omega (arith, e, was, weight_counted c.mark c.size i h, count_le c.mark c.size, weight_le m, count_paint c i (Mark m) h)
recount_in c i n w (Sweep s) few h e was = omega (arith, e, count_paint c i (Sweep s) h)

-- the count after a paint that was not refused
pub recount_done : (c : Cells) (i n w : ℕ) (k : Colour) (r : Result (Unit {0}) HeapFault) → c.size ≤ 16384 → n ≡ grey_count c → w ≡ grey_weight (c.mark i) → r ≡ paint_answer c i → r ≡ Ok tt → recount n w k ≡ grey_count (paint_cells c i k)
recount_done c i n w k r few e was told ok = recount_in c i n w k few (accepted_below c.size i (sym ok ∙ told)) e was
