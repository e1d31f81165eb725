use Rattle.std.proofs.Common.{◌≡◌, ◌∙◌, sym, ap, subst}
use Rattle.std.specs.Prelude.{IsTrue, ◌↔◌}
use Rattle.std.specs.List.{list_all}
use Rattle.machine.specs.Events.{AreOutside, IsQuiet}
use Rattle.machine.specs.LinkedSites.{is_site_linked}
use Rattle.machine.specs.Reached.{IsReached}
use Rattle.machine.specs.States.{Machine}
use Rattle.machine.proofs.LinkedSites.{sites_linked}
use Rattle.machine.proofs.machine.Machine.may_arm.Goals as goal

pub returns-then-none_inside : goal.returns-then-none_inside
returns-then-none_inside c =
    let core = c.args.self.now.core in
    let sites = c.args.instrument.now.sites in
    let reached : IsReached core = subst (λ (m : Machine). IsReached m.core) c.self.view_is c.self.invariant.reached in
    let both = sites_linked core reached sites in
    let is : c.are_linked.result ≡ list_all (is_site_linked core) sites = c.are_linked.ensures ∙ ap (list_all (is_site_linked core)) c.as_slice.ensures in
    let outside = subst (λ harts. IsTrue c.none_inside.result ↔ AreOutside harts) c.deref.ensures.value c.none_inside.ensures in
    let quiet = subst (λ (m : Machine). IsTrue c.none_inside.result ↔ IsQuiet m.core) c.self.view_is outside in
    (λ t. record { quiet = quiet.0 c.if-none_inside.true; linked = both.0 (sym is ∙ t) }, λ may. is ∙ both.1 may.linked)

pub returns-else-none_inside : goal.returns-else-none_inside
returns-else-none_inside c =
    let outside = subst (λ harts. IsTrue c.none_inside.result ↔ AreOutside harts) c.deref.ensures.value c.none_inside.ensures in
    let quiet = subst (λ (m : Machine). IsTrue c.none_inside.result ↔ IsQuiet m.core) c.self.view_is outside in
    (λ t. absurd cc, λ may. quiet.1 may.quiet)
