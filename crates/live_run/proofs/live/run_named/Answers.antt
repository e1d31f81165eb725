use Rattle.std.proofs.Common.{◌≡◌, length, drop, ℕ, ap, ◌∙◌, subst}
use Rattle.session_spec.specs.Inputs.{Inputs}
use Rattle.session_spec.specs.Work.{AreAllowed}
use Rattle.live_run.specs.Serving.{AreServed}
use Rattle.live_run.proofs.Wholes.{in_order, whole_by, by_workers}
use Rattle.live_run.proofs.live.run_named.Goals as goal

pub finish-session-requires-clause-order : goal.finish-session-requires-clause-order
finish-session-requires-clause-order g c = in_order _ _ _ 0 _ c.in_ok-seats.ensures.served

pub returns-clause-whole : goal.returns-clause-whole
returns-clause-whole g c =
    let f = c.finish-session.ensures in
    let harts : c.args.team.harts ≡ g.I.RunName.inputs.settings.harts = c.requires.harts ∙ ap (λ (i : Inputs). i.settings.harts) c.requires.session.1 in
    whole_by g.I.RunName.inputs c.finish-session.result.0.quanta c.args.team.workers c.args.team.turns c.in_ok-seats.seats.items c.requires.workers.0 c.in_ok-seats.ensures.len
    (subst (λ (i : Inputs). AreAllowed i c.finish-session.result.0.quanta) f.inputs c.laws.ensures.allowed)
    (subst (λ (n : ℕ). AreServed n c.args.team.workers c.args.team.turns 0 c.in_ok-seats.seats.items) harts c.in_ok-seats.ensures.served)
    f.halted

pub returns-clause-by_workers : goal.returns-clause-by_workers
returns-clause-by_workers g c =
    let f = c.finish-session.ensures in
    by_workers _ c.args.team.workers c.args.team.turns (length g.I.RunName.first) (drop (length g.I.RunName.first) c.finish-session.result.0.quanta) c.in_ok-seats.seats.items c.requires.workers.0 c.in_ok-seats.ensures.len c.in_ok-seats.ensures.served f.dealt
