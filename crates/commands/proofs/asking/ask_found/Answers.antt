use Rattle.std.proofs.Common.{◌≡◌, ◌∙◌, ℕ, Bool, true, false, cond, List, Ok, Err, Result, ap, sym, subst, map, arith}
use Rattle.std.specs.Prelude.{is_some}
use Rattle.std.specs.List.{list_all}
use Rattle.command_words.specs.Asked.{asked_ask}
use Rattle.mdl_ast.specs.declared.metric.Metric.{Metric}
use Rattle.refusals.proofs.Steps.{comes_then, handed_on}
use Rattle.refusals.specs.Refusals.{Comes, Step, Then}
use Rattle.commands.specs.Asking.{IsAskAt, known}
use Rattle.commands.specs.Plans.{IsSelected, metric_named}
use Rattle.commands.specs.declared.texts.Texts.{Texts}
use Rattle.commands.proofs.AskedNames.{all_known}
use Rattle.commands.proofs.asking.ask_found.Goals as goal

pub returns-in_err-focus : goal.returns-in_err-focus
returns-in_err-focus c =
    let q = asked_ask c.args.request.now in
    let metrics : List Metric = c.args.found.now.checked.metrics in
    let next : List (List ℕ) → Step Texts = λ names. Then (IsSelected c.args.found.now.tree q.under) (IsAskAt q c.args.image.now c.args.found.now.tree names) in
    let are = all_known metrics c.as_slice.result.now (map (λ name. name.now) c.deref.result.now) q.metrics c.are_metrics.result c.as_slice.ensures
    (ap (λ x. map (λ name. name.now) x) c.deref.ensures.value ∙ c.in_ok-names.ensures) c.are_metrics.ensures (let t = c.if-not-are_metrics.false in grind arith) in
    comes_then (λ names. names ≡ known metrics q.metrics) next q.metrics c.from_residual-in_err-focus.result are
    (handed_on (IsSelected c.args.found.now.tree q.under) (IsAskAt q c.args.image.now c.args.found.now.tree q.metrics) c.in_err-focus.field-0.0 c.from_residual-in_err-focus.result c.from_residual-in_err-focus.ensures c.in_err-focus.ensures)

pub returns : goal.returns
returns c =
    let q = asked_ask c.args.request.now in
    let metrics : List Metric = c.args.found.now.checked.metrics in
    let next : List (List ℕ) → Step Texts = λ names. Then (IsSelected c.args.found.now.tree q.under) (IsAskAt q c.args.image.now c.args.found.now.tree names) in
    let are = all_known metrics c.as_slice.result.now (map (λ name. name.now) c.deref.result.now) q.metrics c.are_metrics.result c.as_slice.ensures
    (ap (λ x. map (λ name. name.now) x) c.deref.ensures.value ∙ c.in_ok-names.ensures) c.are_metrics.ensures (let t = c.if-not-are_metrics.false in grind arith) in
    let same : map (λ name. name.now) c.deref-2.result.now ≡ q.metrics = ap (λ x. map (λ name. name.now) x) c.deref-2.ensures.value ∙ c.in_ok-names.ensures in
    comes_then (λ names. names ≡ known metrics q.metrics) next q.metrics c.ask_at.result are
    (comes_then (IsSelected c.args.found.now.tree q.under) (IsAskAt q c.args.image.now c.args.found.now.tree q.metrics) c.in_ok-focus.focus c.ask_at.result c.in_ok-focus.ensures
    (subst (λ (names : List (List ℕ)). Comes c.ask_at.result (IsAskAt q c.args.image.now c.args.found.now.tree names c.in_ok-focus.focus)) same c.ask_at.ensures))
