use Rattle.quanta_log.proofs.LogBytes.{log_spelled, one_log}
use Rattle.quanta_log.proofs.laws.bytes_are_spelled.Goals as goal

pub returns-clause-spelled : goal.returns-clause-spelled
returns-clause-spelled c = log_spelled

pub returns-clause-one : goal.returns-clause-one
returns-clause-one c = one_log
