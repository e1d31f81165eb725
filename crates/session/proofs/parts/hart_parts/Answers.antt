use Rattle.std.proofs.Common.{ap, sym, ◌∙◌, map}
use Rattle.std.specs.Prelude.{slice_get}
use Rattle.session.specs.Seen.{hart_seen}
use Rattle.session.proofs.Reported.{one_more}
use Rattle.session.proofs.parts.hart_parts.Goals as goal

pub loop-number-preserved : goal.loop-number-preserved
loop-number-preserved c =
    let all = map (hart_seen c.args.settings.now.budget c.args.machine.now.state.core) c.args.machine.now.state.core.harts in
    one_more all c.loop-number.parts.items c.push.new.self.items c.loop-number.number c.hart_part.result c.loop-number.invariant
    (ap (slice_get all) (sym c.numbered-hart.ensures) ∙ c.hart_part.ensures) c.in_ok-push.ensures.items
