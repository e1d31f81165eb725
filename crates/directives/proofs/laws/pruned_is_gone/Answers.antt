use Rattle.directives.proofs.Gone.{pruned_is_gone}
use Rattle.directives.proofs.laws.pruned_is_gone.Goals as goal

pub returns : goal.returns
returns c = pruned_is_gone
