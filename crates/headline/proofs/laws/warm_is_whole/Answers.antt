use Rattle.headline.proofs.WarmStarts.{warm_is_whole}
use Rattle.headline.proofs.laws.warm_is_whole.Goals as goal

pub returns : goal.returns
returns c = warm_is_whole
