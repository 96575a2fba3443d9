use Rattle.loading.proofs.Passes.{passes_fit}
use Rattle.loading.proofs.passes_fit.Goals as goal

pub returns : goal.returns
returns c = passes_fit
