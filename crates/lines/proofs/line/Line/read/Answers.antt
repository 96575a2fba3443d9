use Rattle.std.proofs.Common.{sym, ◌∙◌}
use Rattle.lines.proofs.Forms.{line_exactly}
use Rattle.lines.proofs.line.Line.read.Goals as goal

pub returns : goal.returns
returns c =
    let e = c.by_word.ensures in
    let law = line_exactly c.args.body.now in
    record { fields = e; exact = λ f. (λ h. (law f).0 (sym e ∙ h), λ h. e ∙ (law f).1 h) }
