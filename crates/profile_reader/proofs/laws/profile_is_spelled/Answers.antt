use Rattle.profile_reader.proofs.Spelled.{profile_is_spelled}
use Rattle.profile_reader.proofs.laws.profile_is_spelled.Goals as goal

pub returns : goal.returns
returns c = profile_is_spelled
