use Rattle.std.proofs.Common.{subst}
use Rattle.std.specs.Prelude.{IsTrue, ◌↔◌}
use Rattle.machine.specs.Events.{AreOutside, IsQuiet}
use Rattle.machine.specs.States.{Machine}
use Rattle.machine.proofs.machine.Machine.quiet.Goals as goal

pub returns : goal.returns
returns c =
    subst (λ (m : Machine). IsTrue c.none_inside.result ↔ IsQuiet m.core) c.self.view_is
    (subst (λ harts. IsTrue c.none_inside.result ↔ AreOutside harts) c.deref.ensures.value c.none_inside.ensures)
