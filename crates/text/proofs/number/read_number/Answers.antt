use Rattle.std.proofs.Common.{sym, ◌∙◌}
use Rattle.text.proofs.Trip.{reads_exactly}
use Rattle.text.proofs.number.read_number.Goals as goal

pub returns : goal.returns
returns c =
    let e = c.parse.ensures in
    record {
      value = e;
      exact = λ n. (λ h. (reads_exactly c.args.text.now n).0 (sym e ∙ h), λ h. e ∙ (reads_exactly c.args.text.now n).1 h);
    }
