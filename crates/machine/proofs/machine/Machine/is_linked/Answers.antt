use Rattle.rv_exec.specs.Shared.{prog_in}
use Rattle.machine.proofs.Calls.{all_apart}
use Rattle.machine.proofs.machine.Machine.is_linked.Goals as goal

pub has_live_mini-requires : goal.has_live_mini-requires
has_live_mini-requires c =
    let m = c.self.inside in
    all_apart m.harts.items (prog_in m.shared) m.store m.blocks m.budget c.self.invariant
