use Rattle.headline.proofs.Readable.{session_is_readable}
use Rattle.headline.proofs.laws.session_is_readable.Goals as goal

pub returns : goal.returns
returns c = session_is_readable c.verdicts_told.ensures
