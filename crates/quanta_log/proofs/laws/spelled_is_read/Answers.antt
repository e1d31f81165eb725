use Rattle.quanta_log.proofs.LogBytes.{log_again}
use Rattle.quanta_log.proofs.laws.spelled_is_read.Goals as goal

pub returns : goal.returns
returns c = log_again
