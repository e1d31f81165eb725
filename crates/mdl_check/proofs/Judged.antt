-- What a result for the items says of the configuration.
use Rattle.std.proofs.Common.{◌<◌, ◌^◌, List, Result, Ok, Err, length, sym, ap, subst, arith}
use Rattle.std.specs.Prelude.{IfOk, IfErr}
use Rattle.std.specs.List.{AllByRecursion}
use Rattle.mdl_ast.specs.Small.{HasSmall}
use Rattle.mdl_ast.specs.declared.items.Item.{Item}
use Rattle.resource_tree.specs.Resources.{Resources}
use Rattle.mdl_check.specs.Placed.{Entry, placed_items}
use Rattle.mdl_check.specs.Checking.{AreEntries, IsAnswer, CheckRefuses}
use Rattle.mdl_check.specs.Judged.{IsJudged}
use Rattle.mdl_check.specs.Sound.{IsSoundCheck}
use Rattle.mdl_check.specs.declared.checked.Checked.{Checked}
use Rattle.mdl_check.specs.declared.fault.CheckError.{CheckError}
use Rattle.mdl_check.specs.declared.fault.CheckError.TheVariants.{NoMemory, Fault}
use Rattle.mdl_check.proofs.Entries.{few_metrics}
use Rattle.mdl_check.proofs.Sounding.{sound}

pub answered : (t : Resources) (shipped items : List Item) (es : List Entry) (r : Result Checked CheckError) → AreEntries t (placed_items shipped items) es → IsJudged es r
    → IfOk r (λ checked. IsAnswer t shipped items (Ok checked))
answered t shipped items es (Ok checked) are h = (es, are, h.0, h.1)
answered t shipped items es (Err e) are h = tt

pub refused : (t : Resources) (shipped items : List Item) (es : List Entry) (r : Result Checked CheckError) → AreEntries t (placed_items shipped items) es → IsJudged es r
    → IfErr r (λ e. CheckRefuses e (λ fault. IsAnswer t shipped items (Err fault)))
refused t shipped items es (Ok checked) are h = tt
refused t shipped items es (Err NoMemory) are h = tt
refused t shipped items es (Err (Fault fault)) are h = (es, are, h)

pub metrics_few : (es : List Entry) (r : Result Checked CheckError) → length es < 2 ^ 32 → IsJudged es r → IfOk r (λ checked. length checked.metrics < 2 ^ 32)
metrics_few es (Ok checked) few h = omega (arith, ap (λ (k : Checked). length k.metrics) h.1, few_metrics es, few)
metrics_few es (Err fault) few h = tt

pub judged_sound : (t : Resources) (shipped items : List Item) (es : List Entry) (r : Result Checked CheckError) → AreEntries t (placed_items shipped items) es → IsJudged es r
    → AllByRecursion HasSmall shipped → AllByRecursion HasSmall items → IfOk r IsSoundCheck
judged_sound t shipped items es (Ok checked) are h small own = subst IsSoundCheck (sym h.1) (sound t shipped items es are h.0 small own)
judged_sound t shipped items es (Err fault) are h small own = tt
