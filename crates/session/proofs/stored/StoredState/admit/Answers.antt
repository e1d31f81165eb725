use Rattle.std.proofs.Common.{◌≡◌, ◌≤◌, List, sym, ap, ap₂, ◌∙◌, subst, arith, length, ⊎_elim}
use Rattle.std.specs.Prelude.{cond, drop, map, take}
use Rattle.std.specs.List.{list_all}
use Rattle.pn_types.specs.declared.plan.Plan.{Plan}
use Rattle.mdl_check.specs.declared.checked.CheckedWish.{CheckedWish}
use Rattle.machine.specs.Cores.{In}
use Rattle.instrument.specs.Needs.{need_of}
use Rattle.w3_search.specs.Steps.{SearchData}
use Rattle.session_spec.specs.Opening.{with_all}
use Rattle.session_spec.specs.States.{SessionState}
use Rattle.session_spec.specs.Tests.{in_force, with_nodes, with_tests}
use Rattle.session_spec.specs.Rosters.{AreBelow}
use Rattle.session_pairs.specs.declared.pair.SampledPair.{SampledPair}
use Rattle.session_pairs.proofs.Dropped.{shown_in}
use Rattle.session.specs.Candidates.{AreOfWishes}
use Rattle.session.specs.NodeCandidates.{AreNodeCandidates, numbers_in, queue_of}
use Rattle.session.specs.Tables.{IsMore, StateTable, kept_of}
use Rattle.session.proofs.OfNodeCandidates.{node_candidates_few, node_candidates_short, first_ready, in_part, tests_are}
use Rattle.session.proofs.Counting.{plans_short}
use Rattle.session.proofs.Forces.{force_is, more_costs}
use Rattle.session.proofs.Left.{HasForce, behind_first, least_force, left_out}
use Rattle.session.proofs.Prepared.{all_ready_in, parted}
use Rattle.session.proofs.stored.StoredState.admit.Goals as goal

pub reserve-requires : goal.reserve-requires
reserve-requires c p h =
    let i = c.args.inputs.now in
    let plans = c.in_ok-plans.field-0.plans.items in
    let k = length plans in
    let all = c.prepare_nodes.new.plans.items in
    ⊎_elim (λ (f : In p (take k all)). plans_short i c.args.wishes.now plans c.in_ok-plans.field-0.candidates.items c.in_ok-plans.ensures p (subst (λ (l : List Plan). In p l) c.in_ok-node_candidates.ensures.others f))
    (λ (b : In p (drop k all)). node_candidates_short i c.args.self.now.search.nodes (drop k all) c.in_ok-node_candidates.node_candidates.items c.in_ok-node_candidates.ensures.each p b)
    (in_part k all p (subst (λ (l : List Plan). In p l) c.deref.ensures.value h))

pub split_at-requires : goal.split_at-requires
split_at-requires c =
    let p = parted c.args.inputs.now c.args.wishes.now c.in_ok-plans.field-0.plans.items c.in_ok-plans.field-0.candidates.items c.prepare_nodes.new.plans.items c.in_ok-plans.ensures c.in_ok-node_candidates.ensures.others in
    subst (λ (l : List Plan). length c.args.wishes.now ≤ length l) (sym c.deref-2.ensures.value) p.within

pub consider_all-requires-clause-each : goal.consider_all-requires-clause-each
consider_all-requires-clause-each c =
    let p = parted c.args.inputs.now c.args.wishes.now c.in_ok-plans.field-0.plans.items c.in_ok-plans.field-0.candidates.items c.prepare_nodes.new.plans.items c.in_ok-plans.ensures c.in_ok-node_candidates.ensures.others in
    let front = c.split_at.ensures.front ∙ (ap (take (length c.args.wishes.now)) c.deref-2.ensures.value ∙ p.front) in
    subst (λ (l : List Plan). AreOfWishes c.args.inputs.now c.args.wishes.now l c.in_ok-plans.field-0.candidates.items) (sym front) c.in_ok-plans.ensures

pub consider_all-requires-clause-ready : goal.consider_all-requires-clause-ready
consider_all-requires-clause-ready c =
    first_ready (map need_of c.split_at.result.0.now) (map need_of c.split_at.result.1.now) c.reserve.new.self.machine.ready
    (all_ready_in (length c.args.wishes.now) c.deref-2.result.now c.split_at.result.0.now c.split_at.result.1.now c.reserve.new.self.machine.ready c.split_at.ensures.front c.split_at.ensures.back
    (c.in_ok-reserve.ensures.ready ∙ ap (λ (l : List Plan). map need_of l) (c.deref.ensures.value ∙ sym c.deref-2.ensures.value)))

pub take_nodes-requires-clause-each : goal.take_nodes-requires-clause-each
take_nodes-requires-clause-each c =
    let i = c.args.inputs.now in
    let p = parted i c.args.wishes.now c.in_ok-plans.field-0.plans.items c.in_ok-plans.field-0.candidates.items c.prepare_nodes.new.plans.items c.in_ok-plans.ensures c.in_ok-node_candidates.ensures.others in
    let v = c.args.self.now.search in
    let cs = c.in_ok-node_candidates.node_candidates.items in
    let back = c.split_at.ensures.back ∙ (ap (drop (length c.args.wishes.now)) c.deref-2.ensures.value ∙ p.back) in
    let search : c.consider_all.new.self.search ≡ v = c.consider_all.ensures.search ∙ ap (λ (t : StateTable). t.search) c.in_ok-reserve.ensures.same in
    subst (λ (x : SearchData). AreNodeCandidates i x.nodes c.split_at.result.1.now cs) (sym search) (subst (λ (l : List Plan). AreNodeCandidates i v.nodes l cs) (sym back) c.in_ok-node_candidates.ensures.each)

pub take_nodes-requires-clause-ready : goal.take_nodes-requires-clause-ready
take_nodes-requires-clause-ready c =
    c.consider_all.ensures.left (map need_of c.split_at.result.1.now)
    (all_ready_in (length c.args.wishes.now) c.deref-2.result.now c.split_at.result.0.now c.split_at.result.1.now c.reserve.new.self.machine.ready c.split_at.ensures.front c.split_at.ensures.back
    (c.in_ok-reserve.ensures.ready ∙ ap (λ (l : List Plan). map need_of l) (c.deref.ensures.value ∙ sym c.deref-2.ensures.value)))

pub take_nodes-requires-clause-few : goal.take_nodes-requires-clause-few
take_nodes-requires-clause-few c =
    let i = c.args.inputs.now in
    let t = c.args.self.now in
    let p = parted i c.args.wishes.now c.in_ok-plans.field-0.plans.items c.in_ok-plans.field-0.candidates.items c.prepare_nodes.new.plans.items c.in_ok-plans.ensures c.in_ok-node_candidates.ensures.others in
    let back = ap (λ (l : List Plan). length l) (c.split_at.ensures.back ∙ (ap (drop (length c.args.wishes.now)) c.deref-2.ensures.value ∙ p.back)) in
    let e = c.in_ok-node_candidates.ensures in
    let few = node_candidates_few i c.least_force-force.result t.observed t.search (drop (length c.in_ok-plans.field-0.plans.items) c.prepare_nodes.new.plans.items) c.in_ok-node_candidates.node_candidates.items e.each e.queue in
    omega (arith, back, few, ap (λ (x : StateTable). length x.pairs) c.in_ok-reserve.ensures.same, c.consider_all.ensures.few, c.requires.few)

pub take_nodes-requires-clause-costs : goal.take_nodes-requires-clause-costs
take_nodes-requires-clause-costs c =
    let pairs = ap (λ (t : StateTable). t.pairs) c.in_ok-reserve.ensures.same in
    more_costs c.args.inputs.now c.args.self.now.pairs c.consider_all.new.self.pairs c.requires.costs (subst (λ (l : List SampledPair). IsMore c.args.inputs.now l c.consider_all.new.self.pairs) pairs c.consider_all.ensures.pairs)

pub returns-clause-kept : goal.returns-clause-kept
returns-clause-kept c ws =
    let i = c.args.inputs.now in
    let t = c.args.self.now in
    let now = c.consider_all.new.self in
    let k = kept_of ws now in
    let wishes = c.args.wishes.now in
    let force = c.least_force-force.result in
    let queue = queue_of i t.observed t.search in
    let ms = numbers_in c.in_ok-node_candidates.node_candidates.items in
    let search : now.search ≡ t.search = c.consider_all.ensures.search ∙ ap (λ (x : StateTable). x.search) c.in_ok-reserve.ensures.same in
    let observed : now.observed ≡ t.observed = ap (λ (x : StateTable). x.observed) (c.consider_all.ensures.still).same ∙ ap (λ (x : StateTable). x.observed) c.in_ok-reserve.ensures.same in
    let kept : k ≡ with_all i wishes (kept_of ws t) = c.consider_all.ensures.kept ws ∙ ap (λ (x : StateTable). with_all i wishes (kept_of ws x)) c.in_ok-reserve.ensures.same in
    let least : force ≡ cond (list_all (λ (w : CheckedWish). w.show) wishes) (in_force i t.machine.state.placer (shown_in t.pairs)) 0 =
    c.least_force-force.ensures.least ∙ ap (λ n. cond (list_all (λ (w : CheckedWish). w.show) wishes) n 0) (force_is i t.machine.state.placer t.pairs c.requires.costs) in
    let below = subst (λ (x : SessionState). AreBelow x.machine.placer.count x.shown) kept (c.consider_all.ensures.live).below in
    let has = subst (HasForce i force) (sym kept) (least_force i wishes (kept_of ws t) force least (c.requires.live).below below) in
    let out = left_out i force t.search.nodes queue ms k c.in_ok-node_candidates.ensures.queue (behind_first i force t.search.nodes k has (ap (λ (v : SearchData). v.nodes) search)) in
    c.take_nodes.ensures.kept ws
    ∙ (sym out
    ∙ (ap (λ q. with_nodes i q k) (sym (ap₂ (λ o (v : SearchData). queue_of i o v) observed search))
    ∙ (sym (tests_are i k) ∙ ap (with_tests i) kept)))

pub returns-clause-few : goal.returns-clause-few
returns-clause-few c =
    let i = c.args.inputs.now in
    let t = c.args.self.now in
    let p = parted i c.args.wishes.now c.in_ok-plans.field-0.plans.items c.in_ok-plans.field-0.candidates.items c.prepare_nodes.new.plans.items c.in_ok-plans.ensures c.in_ok-node_candidates.ensures.others in
    let back = ap (λ (l : List Plan). length l) (c.split_at.ensures.back ∙ (ap (drop (length c.args.wishes.now)) c.deref-2.ensures.value ∙ p.back)) in
    let e = c.in_ok-node_candidates.ensures in
    let few = node_candidates_few i c.least_force-force.result t.observed t.search (drop (length c.in_ok-plans.field-0.plans.items) c.prepare_nodes.new.plans.items) c.in_ok-node_candidates.node_candidates.items e.each e.queue in
    omega (arith, back, few, ap (λ (x : StateTable). length x.pairs) c.in_ok-reserve.ensures.same, c.consider_all.ensures.few, c.take_nodes.ensures.few)
