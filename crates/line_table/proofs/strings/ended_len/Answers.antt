use Rattle.line_table.proofs.StringLemmas.{ended_all}
use Rattle.line_table.proofs.strings.ended_len.Goals as goal

pub returns-else-bytes-end-ne0 : goal.returns-else-bytes-end-ne0
returns-else-bytes-end-ne0 c = ended_all c.args.bytes.now c.loop-end.end c.loop-end.invariant.within c.loop-end.invariant.none (λ _. c.if-bytes-end-ne0.false)
