-- Names that are those of metrics.
use Rattle.std.proofs.Common.{◌≡◌, ◌∙◌, ℕ, Bool, true, false, cond, List, Ok, Err, Result, ap, sym}
use Rattle.std.specs.Prelude.{is_some}
use Rattle.std.specs.List.{list_all}
use Rattle.mdl_ast.specs.declared.metric.Metric.{Metric}
use Rattle.refusals.specs.Kinds.{fault_at}
use Rattle.refusals.specs.declared.configuration.ConfKind.TheVariants.{UnknownName}
use Rattle.refusals.specs.declared.fault.Fault.{Fault}
use Rattle.refusals.specs.declared.fault.Fault.TheVariants.{BadConf}
use Rattle.commands.specs.Asking.{known}
use Rattle.commands.specs.Plans.{metric_named}

abbrev are : List Metric → List (List ℕ) → Bool
are metrics names = list_all (λ name. is_some (metric_named metrics name)) names

pub all_known : (metrics seen : List Metric) (names wanted : List (List ℕ)) (test : Bool) → seen ≡ metrics → names ≡ wanted → test ≡ are seen names → test ≡ true
    → Ok wanted ≡ known metrics wanted
all_known metrics seen names wanted test e f g h =
    let yes : are metrics wanted ≡ true = ap (λ (ms : List Metric). are ms wanted) (sym e) ∙ ap (are seen) (sym f) ∙ sym g ∙ h in
    ap (λ (b : Bool). cond b (Ok wanted) (Err (BadConf (fault_at 0 0 UnknownName)))) (sym yes)
