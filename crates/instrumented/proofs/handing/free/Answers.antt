use Rattle.instrumented.proofs.Handed.{freed_core_by}
use Rattle.instrumented.proofs.handing.free.Goals as goal

pub returns-then-free-clause-core : goal.returns-then-free-clause-core
returns-then-free-clause-core c = freed_core_by c.args.machine.now c.free.new.self c.args.point c.free.result c.free.ensures.may c.free.ensures.state
