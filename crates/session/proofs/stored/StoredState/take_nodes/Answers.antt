use Rattle.std.proofs.Common.{◌≡◌, Some, sym, ap, ◌∙◌, refl, length}
use Rattle.std.specs.Prelude.{slice_get, false, true}
use Rattle.std.proofs.lemmas.Option.{slice_get_read}
use Rattle.session_spec.specs.Tests.{is_full}
use Rattle.session.specs.Tables.{StateTable}
use Rattle.session.proofs.Takings.{next_taking, node_ready, taken_all, taken_full}
use Rattle.session.proofs.stored.StoredState.take_nodes.Goals as goal

pub returns-then-is_full-clause-kept : goal.returns-then-is_full-clause-kept
returns-then-is_full-clause-kept c =
    let full : is_full c.loop-plan.self.machine.state.placer ≡ true =
    ap (λ (t : StateTable). is_full t.machine.state.placer) (sym c.self-in-loop-plan.view_is) ∙ (sym c.is_full.ensures ∙ c.if-is_full.true) in
    taken_full c.args.inputs.now c.args.plans.now c.args.candidates.items c.args.self.now c.loop-plan.plan-index c.loop-plan.self c.loop-plan.candidates.items c.loop-plan.force c.loop-plan.invariant full

pub take_node-force-requires-clause-ready : goal.take_node-force-requires-clause-ready
take_node-force-requires-clause-ready c =
    let at : slice_get c.args.plans.now c.loop-plan.plan-index ≡ Some c.plan-item.result =
    slice_get_read c.args.plans.now (length c.args.plans.now) c.loop-plan.plan-index c.plan-item.result refl c.loop-plan-test.true c.plan-item.is in
    node_ready c.args.inputs.now c.args.plans.now c.args.candidates.items c.args.self.now c.loop-plan.plan-index c.loop-plan.self c.loop-plan.candidates.items c.pop_front.new.self.items c.loop-plan.force c.plan-item.result c.in-Some.candidate c.loop-plan.invariant at c.in-Some.ensures.items

pub loop-plan-preserved : goal.loop-plan-preserved
loop-plan-preserved c =
    let at : slice_get c.args.plans.now c.loop-plan.plan-index ≡ Some c.plan-item.result =
    slice_get_read c.args.plans.now (length c.args.plans.now) c.loop-plan.plan-index c.plan-item.result refl c.loop-plan-test.true c.plan-item.is in
    let more_allowed : is_full c.loop-plan.self.machine.state.placer ≡ false =
    ap (λ (t : StateTable). is_full t.machine.state.placer) (sym c.self-in-loop-plan.view_is) ∙ (sym c.is_full.ensures ∙ c.if-is_full.false) in
    let e = c.take_node-force.ensures in
    next_taking c.args.inputs.now c.args.plans.now c.args.candidates.items c.args.self.now c.loop-plan.plan-index c.loop-plan.self c.loop-plan.candidates.items c.pop_front.new.self.items c.loop-plan.force c.plan-item.result c.in-Some.candidate c.loop-plan.invariant at c.in-Some.ensures.items
    c.take_node-force.new.self c.take_node-force.result more_allowed e.kept e.step e.search e.force

pub returns-clause-kept : goal.returns-clause-kept
returns-clause-kept c =
    taken_all c.args.inputs.now c.args.plans.now c.args.candidates.items c.args.self.now c.loop-plan.plan-index c.loop-plan.self c.loop-plan.candidates.items c.loop-plan.force c.loop-plan.invariant c.loop-plan-test.false
