use Rattle.report_picture.proofs.Balance.{balanced}
use Rattle.report_picture.proofs.laws.details_balance.Goals as goal

pub returns : goal.returns
returns c = balanced
