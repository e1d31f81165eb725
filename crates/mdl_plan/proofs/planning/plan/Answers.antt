use Rattle.std.proofs.Common.{List, get_or, ap, ◌∙◌}
use Rattle.mdl_ast.specs.declared.metric.Metric.{Metric}
use Rattle.mdl_ast.specs.declared.metric.Constraint.{Constraint}
use Rattle.mdl_plan.specs.Active.{active_of}
use Rattle.mdl_plan.proofs.Limits.{answer_over}
use Rattle.mdl_plan.proofs.Measurable.{IsChecked, is_checked, answer_few, answer_cost, answer_measurable}
use Rattle.mdl_plan.proofs.planning.plan.Goals as goal

pub returns-clause-within : goal.returns-clause-within
returns-clause-within c =
    answer_over c.args.tree.now c.args.focus.now c.args.index.now.procs c.args.index.now.points c.index-as_slice-metric.result c.in_ok-active.active c.planned.result c.planned.ensures.answer

pub returns-clause-few_conds : goal.returns-clause-few_conds
returns-clause-few_conds c sound =
    let checked = c.args.checked.now in
    let m = c.index-as_slice-metric.result in
    let is : IsChecked m c.in_ok-active.active =
    is_checked checked.metrics checked.constraints c.args.focus.now c.args.metric m c.in_ok-active.active sound.metrics sound.constraints sound.replacements c.requires
    (c.index-as_slice-metric.is ∙ ap (λ (ms : List Metric). get_or ms c.args.metric m) c.as_slice.ensures)
    (c.in_ok-active.ensures ∙ ap (λ (cs : List Constraint). active_of cs m c.args.focus.now) c.as_slice-2.ensures) in
    answer_few c.args.tree.now c.args.focus.now c.args.index.now.procs c.args.index.now.points m c.in_ok-active.active is c.planned.result c.planned.ensures.answer

pub returns-clause-cost : goal.returns-clause-cost
returns-clause-cost c sound =
    let checked = c.args.checked.now in
    let m = c.index-as_slice-metric.result in
    let is : IsChecked m c.in_ok-active.active =
    is_checked checked.metrics checked.constraints c.args.focus.now c.args.metric m c.in_ok-active.active sound.metrics sound.constraints sound.replacements c.requires
    (c.index-as_slice-metric.is ∙ ap (λ (ms : List Metric). get_or ms c.args.metric m) c.as_slice.ensures)
    (c.in_ok-active.ensures ∙ ap (λ (cs : List Constraint). active_of cs m c.args.focus.now) c.as_slice-2.ensures) in
    answer_cost c.args.tree.now c.args.focus.now c.args.index.now.procs c.args.index.now.points m c.in_ok-active.active is c.planned.result c.planned.ensures.answer (returns-clause-within c)

pub returns-clause-measurable : goal.returns-clause-measurable
returns-clause-measurable c sound low rise =
    let checked = c.args.checked.now in
    let m = c.index-as_slice-metric.result in
    let is : IsChecked m c.in_ok-active.active =
    is_checked checked.metrics checked.constraints c.args.focus.now c.args.metric m c.in_ok-active.active sound.metrics sound.constraints sound.replacements c.requires
    (c.index-as_slice-metric.is ∙ ap (λ (ms : List Metric). get_or ms c.args.metric m) c.as_slice.ensures)
    (c.in_ok-active.ensures ∙ ap (λ (cs : List Constraint). active_of cs m c.args.focus.now) c.as_slice-2.ensures) in
    answer_measurable c.args.tree.now c.args.focus.now c.args.index.now.procs c.args.index.now.points m c.in_ok-active.active is c.planned.result c.planned.ensures.answer (returns-clause-within c) low rise c.planned.ensures.narrow
