use Rattle.std.proofs.Common.{◌≡◌, ◌+◌, ℕ, Option, Some, None, refl, sym, ap, ap₂, ◌∙◌, subst, arith}
use Rattle.std.specs.Prelude.{Bool, true, false, cond, is_some, not, slice_get}
use Rattle.std.specs.Option.{option_map_or}
use Rattle.std.proofs.lemmas.Bool.{true≢false}
use Rattle.mdl_ast.specs.declared.items.SearchDecl.{SearchDecl}
use Rattle.mdl_plan.specs.declared.fault.PlanFault.{PlanFault}
use Rattle.pn_types.specs.declared.plan.Plan.{Plan}
use Rattle.prim_code.specs.Counts.{predicted}
use Rattle.w3_search.specs.declared.node.Node.{Node}
use Rattle.w3_search.specs.declared.node.NodeState.TheVariants.{Active}
use Rattle.w3_search.specs.Nodes.{is_waiting}
use Rattle.w3_search.specs.Steps.{SearchData, with_state}
use Rattle.session_spec.specs.Inputs.{Inputs}
use Rattle.session_spec.specs.Searches.{rules_of}
use Rattle.session_spec.specs.Tests.{barred, in_force, must_wait, with_node}
use Rattle.session_pairs.proofs.Dropped.{shown_in}
use Rattle.session.specs.declared.candidate.Candidate.{Candidate}
use Rattle.session.specs.Candidates.{new_pair}
use Rattle.session.specs.NodeCandidates.{IsNodeCandidate, force_in, candidate_number, number_or_none}
use Rattle.session.specs.Outcomes.{IsFailed, IsInstrumented, bar_cause_of}
use Rattle.session.specs.Tables.{StateTable, kept_of}
use Rattle.session.proofs.Forces.{force_is, force_low, force_more, low_costs}
use Rattle.session.proofs.Waiting.{kept_same, must_stay, node_failed, node_tested, not_waiting, planned_by}
use Rattle.session.proofs.stored.StoredState.take_node.Goals.{else-is_none-via-then-is_none+else-must_wait, else-is_none-via-else-is_none}
use Rattle.session.proofs.stored.StoredState.take_node.Goals as goal

no_fault : (o : Option PlanFault) → is_some o ≡ false → o ≡ None
no_fault None e = refl
no_fault (Some fault) e = absurd (true≢false e)

-- whether the node_candidate's node waits
waits_as : (i : Inputs) (t : StateTable) (plan : Plan) (c : Candidate) (x : IsNodeCandidate i t.search.nodes plan c) (node : ℕ) (waits : Bool) → c.node ≡ Some node → waits ≡ option_map_or (λ (y : Node). is_waiting y.state) (slice_get t.search.nodes node) false → waits ≡ is_waiting (x.node).state
waits_as i t plan c x node waits e w =
    let same : node ≡ x.number = ap number_or_none (sym e ∙ (x.pair).node_is) in
    w ∙ (ap (λ n. option_map_or (λ (y : Node). is_waiting y.state) (slice_get t.search.nodes n) false) same ∙ ap (λ o. option_map_or (λ (y : Node). is_waiting y.state) o false) x.stands)

-- what the code compares is what the definitions do
waits_by : (i : Inputs) (t : StateTable) (plan : Plan) (limit words force : ℕ) (b : Bool) → limit ≡ (rules_of i).decl.cost → words ≡ predicted plan → force ≡ in_force i t.machine.state.placer (shown_in t.pairs) → must_wait limit words force ≡ b
    → must_wait (rules_of i).decl.cost (predicted plan) (in_force i t.machine.state.placer (shown_in t.pairs)) ≡ b
waits_by i t plan limit words force b l w f e = ap (λ n. must_wait n (predicted plan) (in_force i t.machine.state.placer (shown_in t.pairs))) (sym l) ∙ (ap₂ (λ x y. must_wait limit x y) (sym w) (sym f) ∙ e)

pub returns-then-not-waits-clause-kept : goal.returns-then-not-waits-clause-kept
returns-then-not-waits-clause-kept c ws =
    let i = c.args.inputs.now in
    let t = c.args.self.now in
    let k = kept_of ws t in
    let x = c.requires.node_candidate in
    let waits = waits_as i t c.args.plan.now c.args.candidate x c.in-Some.node c.waits.result c.in-Some.is c.waits.ensures in
    sym (subst (λ n. with_node i n k ≡ k) (sym (ap number_or_none (x.pair).node_is)) (not_waiting i x.number k x.node x.stands (sym waits ∙ c.if-not-waits.true)))

pub must_wait-requires : goal.must_wait-requires
must_wait-requires c =
    let t = c.args.self.now in
    let low = force_low t.machine.state.placer t.pairs (low_costs c.args.inputs.now t.pairs c.requires.costs) (omega (arith, c.requires.few)) in
    omega (arith, low, c.requires.force, c.predicted-words.ensures, ((c.requires.node_candidate).candidate).words)

pub returns-then-must_wait-clause-kept : goal.returns-then-must_wait-clause-kept
returns-then-must_wait-clause-kept c ws =
    let i = c.args.inputs.now in
    let t = c.args.self.now in
    let plan = c.args.plan.now in
    let k = kept_of ws t in
    let x = c.requires.node_candidate in
    let planned = planned_by i t plan c.args.candidate x None (no_fault c.args.candidate.fault c.if-is_none.ensures) in
    let limit = c.from-limit.ensures ∙ ap (λ (d : SearchDecl). d.cost) c.search_decl.ensures in
    let force = c.requires.force ∙ force_is i t.machine.state.placer t.pairs c.requires.costs in
    let waits = waits_by i t plan c.from-limit.result c.predicted-words.result c.args.force true limit c.predicted-words.ensures force (sym c.must_wait.ensures ∙ c.if-must_wait.true) in
    sym (subst (λ n. with_node i n k ≡ k) (sym (ap number_or_none (x.pair).node_is)) (must_stay i x.number k x.node x.stands plan planned.0 waits))

pub returns-in-Ok-clause-kept : goal.returns-in-Ok-clause-kept
returns-in-Ok-clause-kept c ws =
    let i = c.args.inputs.now in
    let t = c.args.self.now in
    let plan = c.args.plan.now in
    let k = kept_of ws t in
    let x = c.requires.node_candidate in
    let new = c.instrument.new.self in
    let v = c.admitted.new.self in
    let limit = c.from-limit.ensures ∙ ap (λ (d : SearchDecl). d.cost) c.search_decl.ensures in
    let force = c.requires.force ∙ force_is i t.machine.state.placer t.pairs c.requires.costs in
    let waits = waits_as i t plan c.args.candidate x c.in-Some.node c.waits.result c.in-Some.is c.waits.ensures in
    let needs : c.args.candidate.fault ≡ None → must_wait (rules_of i).decl.cost (predicted plan) (in_force i t.machine.state.placer (shown_in t.pairs)) ≡ false =
    λ none. elim c.else-is_none.branch [
      | else-is_none-via-then-is_none+else-must_wait w ↦ waits_by i t plan c.from-limit.result c.predicted-words.result c.args.force false limit c.predicted-words.ensures force (sym w.must_wait.ensures ∙ w.if-must_wait.false)
      | else-is_none-via-else-is_none w ↦ absurd (true≢false (sym (c.is_none.ensures ∙ ap (λ b. not b) w.if-is_none.false) ∙ ap (λ (o : Option PlanFault). is_some o) none))
    ] in
    let one = subst (λ n. IsInstrumented i plan c.args.candidate (Some n) t new c.in-Ok.field-0) limit c.in-Ok.ensures.ok in
    let search : v ≡ with_state x.number Active t.search =
    c.admitted.ensures ∙ (ap (λ n. with_state n Active c.self.inside.search) (ap number_or_none (sym c.in-Some.is ∙ (x.pair).node_is))
    ∙ ap (λ (s : SearchData). with_state x.number Active s) (ap (λ (y : StateTable). y.search) c.self.view_is ∙ ap (λ (y : StateTable). y.search) c.in-Ok.ensures.same)) in
    subst (λ (y : StateTable). kept_of ws (record y { search = v }) ≡ with_node i (candidate_number c.args.candidate) k) (sym c.self.view_is)
    (subst (λ n. kept_of ws (record new { search = v }) ≡ with_node i n k) (sym (ap number_or_none (x.pair).node_is))
    (node_tested i t plan c.args.candidate x ws (sym waits ∙ c.if-not-waits.false) needs new c.in-Ok.field-0 one c.in-Ok.ensures.same v search))

pub returns-in-Ok-clause-force : goal.returns-in-Ok-clause-force
returns-in-Ok-clause-force c =
    let t = c.args.self.now in
    let plan = c.args.plan.now in
    let p = t.machine.state.placer in
    let x = c.requires.node_candidate in
    let new = c.instrument.new.self in
    let one = c.in-Ok.ensures.ok in
    let k = new_pair c.args.inputs.now plan c.args.candidate c.in-Ok.field-0 in
    let cost : k.cost ≡ predicted plan = ap (λ (o : Option ℕ). cond (is_some o) (predicted plan) 0) (x.pair).node_is in
    let more = force_more p plan (Some c.from-limit.result) new.machine.state.placer t.pairs k (c.requires.live).roster (c.requires.live).below one.placed one.number_is in
    subst (λ (y : StateTable). c.args.force + c.predicted-words.result ≡ force_in y.machine.state.placer y.pairs) (sym c.self.view_is)
    (ap₂ (λ (a b : ℕ). a + b) c.requires.force (c.predicted-words.ensures ∙ sym cost) ∙ (sym more ∙ ap (force_in new.machine.state.placer) (sym one.pairs)))

pub returns-in-Err-clause-kept : goal.returns-in-Err-clause-kept
returns-in-Err-clause-kept c ws =
    let i = c.args.inputs.now in
    let t = c.args.self.now in
    let plan = c.args.plan.now in
    let k = kept_of ws t in
    let x = c.requires.node_candidate in
    let new = c.instrument.new.self in
    let limit = c.from-limit.ensures ∙ ap (λ (d : SearchDecl). d.cost) c.search_decl.ensures in
    let force = c.requires.force ∙ force_is i t.machine.state.placer t.pairs c.requires.costs in
    let waits = waits_as i t plan c.args.candidate x c.in-Some.node c.waits.result c.in-Some.is c.waits.ensures in
    let needs : c.args.candidate.fault ≡ None → must_wait (rules_of i).decl.cost (predicted plan) (in_force i t.machine.state.placer (shown_in t.pairs)) ≡ false =
    λ none. elim c.else-is_none.branch [
      | else-is_none-via-then-is_none+else-must_wait w ↦ waits_by i t plan c.from-limit.result c.predicted-words.result c.args.force false limit c.predicted-words.ensures force (sym w.must_wait.ensures ∙ w.if-must_wait.false)
      | else-is_none-via-else-is_none w ↦ absurd (true≢false (sym (c.is_none.ensures ∙ ap (λ b. not b) w.if-is_none.false) ∙ ap (λ (o : Option PlanFault). is_some o) none))
    ] in
    let failed = subst (λ n. IsFailed plan c.args.candidate.fault (Some n) t new c.in-Err.failure) limit c.in-Err.ensures.err in
    let same = kept_same ws t new c.in-Err.ensures.same failed.machine failed.pairs in
    let node : c.in-Some.node ≡ candidate_number c.args.candidate = ap number_or_none (sym c.in-Some.is) in
    let numbered : candidate_number c.args.candidate ≡ x.number = ap number_or_none (x.pair).node_is in
    c.bar.ensures.kept ws
    ∙ (ap (λ o. barred o c.in-Some.node (kept_of ws new)) c.bar_cause.ensures
    ∙ (ap (λ y. barred (bar_cause_of c.in-Err.failure) c.in-Some.node y) same
    ∙ (ap (λ n. barred (bar_cause_of c.in-Err.failure) n k) (node ∙ numbered)
    ∙ (sym (node_failed i t plan c.args.candidate x ws (sym waits ∙ c.if-not-waits.false) needs c.in-Err.failure failed.why)
    ∙ ap (λ n. with_node i n k) (sym numbered)))))
