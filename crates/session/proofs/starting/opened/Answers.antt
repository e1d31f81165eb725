use Rattle.session.specs.Kept.{IsAdmitted}
use Rattle.session.proofs.Begun.{passed}
use Rattle.session.proofs.Opened.{opened_kept, wished_fit, wished_places, wished_quiet}
use Rattle.session.proofs.starting.opened.Goals as goal

pub open-requires-clause-quiet : goal.open-requires-clause-quiet
unfolding IsAdmitted
open-requires-clause-quiet c = wished_quiet c.args.inputs.now c.in_ok-stored.stored c.in_ok-stored.ensures.admitted

pub open-requires-clause-places : goal.open-requires-clause-places
unfolding IsAdmitted
open-requires-clause-places c = wished_places c.args.inputs.now c.in_ok-stored.stored c.in_ok-stored.ensures.admitted

pub open-requires-clause-harts : goal.open-requires-clause-harts
unfolding IsAdmitted
open-requires-clause-harts c = wished_fit c.args.inputs.now c.in_ok-stored.stored c.in_ok-stored.ensures.admitted

pub open-requires-clause-live : goal.open-requires-clause-live
unfolding IsAdmitted
open-requires-clause-live c = (c.in_ok-stored.ensures.admitted).live

pub returns-clause-kept : goal.returns-clause-kept
unfolding IsAdmitted
returns-clause-kept c = opened_kept c.args.inputs.now c.in_ok-stored.stored c.in_ok-stored.ensures.admitted c.requires.given c.open.new.self c.open.ensures.table c.open.ensures.harts c.open.ensures.live

pub returns-in_err-pick-clause-refused : goal.returns-in_err-pick-clause-refused
returns-in_err-pick-clause-refused c =
    passed c.args.inputs.now c.from_residual-in_err-pick.result c.in_err-pick.field-0.0 c.from_residual-in_err-pick.ensures.1 c.in_err-pick.ensures.refused
