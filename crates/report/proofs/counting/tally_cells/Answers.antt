use Rattle.std.proofs.Common.{◌≡◌, ◌+◌, ◌*◌, ◌<◌, Some, Ok, Err, sym, ap, ◌∙◌, subst, arith}
use Rattle.std.proofs.lemmas.Result.{err_from_is_err_and}
use Rattle.archive.specs.Reading.{due, next_cell, place_of}
use Rattle.archive.proofs.Places.{due_falls, place_moves}
use Rattle.report.specs.Survey.{tally_answer, tally_on}
use Rattle.report.specs.Tally.{Upto, cell_noted}
use Rattle.report.proofs.Counts.{cell_upto}
use Rattle.report.proofs.Steps.{tally_fault, tally_some}
use Rattle.report.proofs.counting.tally_cells.Goals as goal

pub returns-in_err-cell : goal.returns-in_err-cell
returns-in_err-cell c =
    let p = err_from_is_err_and c.from_residual.result c.from_residual.ensures.1 in
    let e = c.in_err-cell.ensures in
    ap tally_answer p.1 ∙ ap Err p.2 ∙ sym (tally_fault c.loop-cell.tally (place_of c.loop-cell.reader) _ (sym e.answer)) ∙ c.loop-cell.invariant.0

pub loop-cell-smaller : goal.loop-cell-smaller
loop-cell-smaller c =
    let e = c.in_ok-cell.ensures in
    let place = place_of c.loop-cell.reader in
    let given : next_cell place ≡ Ok (Some c.in-Some.cell) = sym e.answer ∙ ap Ok c.in-Some.is in
    subst (λ q. due q < due place) (sym e.place) (due_falls place c.in-Some.cell given)

pub loop-cell-preserved : goal.loop-cell-preserved
loop-cell-preserved c =
    let e = c.in_ok-cell.ensures in
    let place = place_of c.loop-cell.reader in
    let tally = c.loop-cell.tally in
    let cell = c.in-Some.cell in
    let given : next_cell place ≡ Ok (Some cell) = sym e.answer ∙ ap Ok c.in-Some.is in
    let next : c.next_cell.new.self.next ≡ c.loop-cell.reader.next + 1 = ap (λ q. q.next) e.place ∙ (place_moves place cell given).next_is in (
      ap (λ t. tally_on t (place_of c.next_cell.new.self)) c.note.ensures
          ∙ ap (tally_on (cell_noted tally cell)) e.place
          ∙ sym (tally_some tally place cell given)
          ∙ c.loop-cell.invariant.0,
      subst (Upto (3 * c.next_cell.new.self.next)) (sym c.note.ensures)
          (cell_upto (3 * c.loop-cell.reader.next) (3 * c.next_cell.new.self.next) tally cell (omega (arith, next)) c.loop-cell.invariant.1),
    )
