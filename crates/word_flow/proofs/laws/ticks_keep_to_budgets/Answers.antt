use Rattle.word_flow.proofs.Flows.{ticks_low}
use Rattle.word_flow.proofs.laws.ticks_keep_to_budgets.Goals as goal

pub returns : goal.returns
returns c = ticks_low
