use Rattle.archive.proofs.Whole.{accepted_exactly, one_pattern}
use Rattle.archive.proofs.verdict.judge.Goals as goal

pub returns-clause-accepted : goal.returns-clause-accepted
returns-clause-accepted c = rw c.pass_text.ensures (accepted_exactly c.args.text.now)

pub returns-clause-single : goal.returns-clause-single
returns-clause-single c = one_pattern c.args.text.now
