use Rattle.numbering.proofs.Written.{walk_accepted}
use Rattle.numbering.proofs.walk_is_accepted.Goals as goal

pub returns : goal.returns
returns c = walk_accepted
