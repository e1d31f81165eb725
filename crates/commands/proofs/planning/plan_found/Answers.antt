use Rattle.std.proofs.Common.{◌≡◌, ◌<◌, length, Ok, List, sym, ap, ap₂, subst, ◌∙◌}
use Rattle.std.specs.Prelude.{slice_get}
use Rattle.command_words.specs.Asked.{asked_plan}
use Rattle.mdl_ast.specs.declared.metric.Metric.{Metric}
use Rattle.refusals.proofs.Steps.{comes_then, handed_on}
use Rattle.refusals.specs.Refusals.{Step, Then}
use Rattle.commands.specs.Plans.{metric_named, or_unknown, IsSelected, IsPlanAt}
use Rattle.commands.specs.declared.texts.Texts.{Texts}
use Rattle.commands.proofs.PlanLemmas.{some_at}
use Rattle.commands.proofs.planning.plan_found.Goals as goal

pub returns-in_err-focus : goal.returns-in_err-focus
returns-in_err-focus c =
    let found = c.args.found in
    let p = asked_plan c.args.request.now in
    let metrics : List Metric = found.checked.metrics in
    let seen : c.as_slice-metrics.result.now ≡ metrics = c.as_slice-metrics.ensures in
    let number = c.in-Some.number in
    let there : slice_get metrics number ≡ metric_named metrics p.metric =
    sym (ap (λ (ms : List Metric). slice_get ms number) seen) ∙ c.in-Some.ensures.1 ∙ ap₂ metric_named seen c.as_bytes.ensures.value in
    let m = some_at metrics number (subst (λ (ms : List Metric). number < length ms) seen c.in-Some.ensures.0) in
    let first : Step Metric = λ r. r ≡ or_unknown (metric_named metrics p.metric) in
    let next : Metric → Step Texts = λ n. Then (IsSelected found.tree p.focus) (IsPlanAt p.metric found n) in
    let named : first (Ok m.0) = ap or_unknown (sym (sym there ∙ m.1)) in
    comes_then first next m.0 c.from_residual.result named
    (handed_on (IsSelected found.tree p.focus) (IsPlanAt p.metric found m.0) c.in_err-focus.field-0.0 c.from_residual.result c.from_residual.ensures c.in_err-focus.ensures)

pub returns : goal.returns
returns c =
    let found = c.args.found in
    let p = asked_plan c.args.request.now in
    let metrics : List Metric = found.checked.metrics in
    let seen : c.as_slice-metrics.result.now ≡ metrics = c.as_slice-metrics.ensures in
    let number = c.in-Some.number in
    let there : slice_get metrics number ≡ metric_named metrics p.metric =
    sym (ap (λ (ms : List Metric). slice_get ms number) seen) ∙ c.in-Some.ensures.1 ∙ ap₂ metric_named seen c.as_bytes.ensures.value in
    let m = some_at metrics number (subst (λ (ms : List Metric). number < length ms) seen c.in-Some.ensures.0) in
    let first : Step Metric = λ r. r ≡ or_unknown (metric_named metrics p.metric) in
    let next : Metric → Step Texts = λ n. Then (IsSelected found.tree p.focus) (IsPlanAt p.metric found n) in
    let named : first (Ok m.0) = ap or_unknown (sym (sym there ∙ m.1)) in
    comes_then first next m.0 c.plan_at.result named
    (comes_then (IsSelected found.tree p.focus) (IsPlanAt p.metric found m.0) c.in_ok-focus.focus c.plan_at.result c.in_ok-focus.ensures (c.plan_at.ensures m.0 m.1))
