use Rattle.std.proofs.Common.{◌-◌, ◌++◌, [], ◌∷◌, ◌∙◌, ap, sym, subst, length}
use Rattle.rv_exec.specs.Shared.{prog_in}
use Rattle.machine.specs.Cores.{Written}
use Rattle.machine.specs.Events.{MayWrite}
use Rattle.machine.specs.States.{Machine}
use Rattle.machine.proofs.Calls.{put}
use Rattle.machine.proofs.machine.Machine.write.Goals as goal

pub invariant_of-self : goal.invariant_of-self
invariant_of-self c =
    let m = c.self.inside in
    let b = c.args.block.now in
    let may = subst (λ (z : Machine). MayWrite z.core b) (sym c.self.view_is) c.requires.may in
    put m.harts.items (prog_in m.shared) m.store m.blocks m.budget c.self.invariant b c.put_block.new.self c.push.new.self (m.blocks.room - 1) may c.put_block.ensures
    (c.push.ensures ∙ ap (λ n. record { rows = m.blocks.rows ++ record { point = b.point; at = b.at; len = n; base = b.base; status = Written } ∷ []; room = m.blocks.room - 1 }) (ap length c.as_slice.ensures))
