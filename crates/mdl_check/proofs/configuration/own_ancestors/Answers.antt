use Rattle.mdl_check.proofs.OwnAncestors.{own_ancestors}
use Rattle.mdl_check.proofs.configuration.own_ancestors.Goals as goal

pub returns : goal.returns
returns c parents place = own_ancestors parents place
