use Rattle.report_picture.proofs.Safe.{safe}
use Rattle.report_picture.proofs.laws.texts_are_escaped.Goals as goal

pub returns : goal.returns
returns c = safe
