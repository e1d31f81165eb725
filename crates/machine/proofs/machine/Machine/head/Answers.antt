use Rattle.std.proofs.Common.{◌∙◌, ap, sym}
use Rattle.std.specs.Option.{option_map}
use Rattle.rv_exec.specs.Shared.{prog_in}
use Rattle.machine.specs.Views.{row_of}
use Rattle.machine.proofs.Calls.{found_links}
use Rattle.machine.proofs.machine.Machine.head.Goals as goal

pub next_of-requires : goal.next_of-requires
next_of-requires c =
    let m = c.self.inside in
    found_links m.harts.items (prog_in m.shared) m.store m.blocks m.budget c.self.invariant _ (row_of c.in-Some.base) (sym c.current_base.ensures ∙ ap (option_map row_of) c.in-Some.is)
