use Rattle.word_flow.proofs.Bounds.{numbers_bound}
use Rattle.word_flow.proofs.laws.numbers_bound_executions.Goals as goal

pub returns : goal.returns
returns c = numbers_bound
