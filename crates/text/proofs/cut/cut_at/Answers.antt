use Rattle.std.proofs.Common.{sym, ◌∙◌}
use Rattle.text.proofs.Cuts.{cuts_exactly}
use Rattle.text.proofs.cut.cut_at.Goals as goal

pub returns : goal.returns
returns c =
    let e = c.around.ensures in
    let law = cuts_exactly c.args.stop c.args.text.now in
    record { parts = e; exact = λ front rest. (λ h. (law front rest).0 (sym e ∙ h), λ h. e ∙ (law front rest).1 h) }
