use Rattle.std.proofs.Common.{◌<◌, Err, sym, ap, ◌∙◌, subst}
use Rattle.std.proofs.lemmas.Result.{err_from_is_err_and}
use Rattle.archive.specs.Answers.{open_answer}
use Rattle.archive.specs.Reading.{behind_cells, due, place_of}
use Rattle.archive.proofs.Places.{behind_fault, passes}
use Rattle.archive.proofs.verdict.pass_cells.Goals as goal

pub returns-in_err-next_cell : goal.returns-in_err-next_cell
returns-in_err-next_cell c =
    let p = err_from_is_err_and c.from_residual.result c.from_residual.ensures.1 in
    let e = c.in_err-next_cell.ensures in
    ap open_answer p.1 ∙ ap Err p.2 ∙ sym (behind_fault (place_of c.loop.reader) _ (sym e.answer)) ∙ c.loop.invariant

pub loop-smaller : goal.loop-smaller
loop-smaller c =
    let e = c.in_ok-next_cell.ensures in
    let place = place_of c.loop.reader in
    subst (λ q. due q < due place) (sym e.place) (passes place c.in_ok-next_cell.field-0 (sym e.answer) (sym c.is_some.ensures ∙ c.if-is_some.true)).1

pub loop-preserved : goal.loop-preserved
loop-preserved c =
    let e = c.in_ok-next_cell.ensures in
    let place = place_of c.loop.reader in
    ap behind_cells e.place ∙ (passes place c.in_ok-next_cell.field-0 (sym e.answer) (sym c.is_some.ensures ∙ c.if-is_some.true)).0 ∙ c.loop.invariant
