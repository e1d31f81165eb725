use Rattle.std.proofs.Common.{rules, ◌≡◌, List, Result, Ok, Err, ap, sym, ◌∙◌, arith, subst, length}
use Rattle.pn_types.specs.declared.plan.Plan.{Plan}
use Rattle.mdl_plan.specs.Plans.{IsPlanOr}
use Rattle.mdl_plan.specs.declared.fault.PlanError.{PlanError}
use Rattle.mdl_plan.specs.declared.fault.PlanFault.{PlanFault}
use Rattle.session_spec.specs.Inputs.{Inputs, planned}
use Rattle.session.specs.Candidates.{IsShort}
use Rattle.session.specs.Given.{AreGiven}
use Rattle.session.specs.declared.inputs.Inputs.TheInside.{Inside}
use Rattle.mdl_ast.specs.declared.metric.Metric.{Metric}
use Rattle.session.proofs.Plans.{answers_planned, none_planned, short_started}
use Rattle.session.proofs.planning.planned.Goals as goal

abbrev of_index : Inside → Inputs
of_index s = record { image = s.image; checked = s.checked; tree = s.tree; procs = s.index.procs; points = s.index.points; settings = s.settings }

pub returns-clause-answer : goal.returns-clause-answer
returns-clause-answer c =
    let i = of_index c.inputs.inside in
    let metric = c.args.metric in
    let focus = c.args.focus.now in
    let high = c.if-metric-as_slice.false in
    let many = ap (λ (ms : List Metric). length ms) c.as_slice.ensures in
    let started : planned i metric focus ≡ Ok c.start_plan.result =
    answers_planned i metric focus (Ok c.in_ok-whole.whole) (omega arith) c.in_ok-whole.ensures.answer
    ∙ ap (λ (plan : Plan). let r : Result Plan PlanFault = Ok plan in r) (sym c.start_plan.ensures) in
    subst (λ (j : Inputs). planned j metric focus ≡ Ok c.start_plan.result) c.inputs.view_is started

pub returns-in_err-whole-clause-answer : goal.returns-in_err-whole-clause-answer
returns-in_err-whole-clause-answer c =
    let i = of_index c.inputs.inside in
    let metric = c.args.metric in
    let focus = c.args.focus.now in
    let high = c.if-metric-as_slice.false in
    let many = ap (λ (ms : List Metric). length ms) c.as_slice.ensures in
    let fault = c.in_err-whole.field-0.0 in
    let is : c.from_residual.result ≡ Err fault = search rules in
    let refused : IsPlanOr (Err fault) (planned i metric focus) = answers_planned i metric focus (Err fault) (omega arith) c.in_err-whole.ensures.answer in
    subst (λ (r : Result Plan PlanError). IsPlanOr r (planned c.args.inputs.now metric focus)) (sym is)
    (subst (λ (j : Inputs). IsPlanOr (Err fault) (planned j metric focus)) c.inputs.view_is refused)

pub returns-clause-short : goal.returns-clause-short
returns-clause-short c =
    let i = of_index c.inputs.inside in
    let g : AreGiven i = subst AreGiven (sym c.inputs.view_is) c.requires in
    let whole = c.in_ok-whole.whole in
    let e = c.in_ok-whole.ensures in
    subst (λ (j : Inputs). IsShort j c.start_plan.result) c.inputs.view_is
    (subst (IsShort i) (sym c.start_plan.ensures) (short_started i i.settings.start whole g e.within (e.cost g.checked) (e.measurable g.checked g.objects g.ascending)))

pub returns-then-metric-as_slice-clause-answer : goal.returns-then-metric-as_slice-clause-answer
returns-then-metric-as_slice-clause-answer c =
    let high = c.if-metric-as_slice.true in
    let all = ap (λ (i : Inputs). length i.checked.metrics) c.inputs.view_is in
    let many = ap (λ (ms : List Metric). length ms) c.as_slice.ensures in
    none_planned c.args.inputs.now c.args.metric c.args.focus.now (omega arith)
