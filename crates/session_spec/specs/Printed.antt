-- What is recorded where all wishes are for the opening.
use Rattle.std.specs.Prelude.{◌≡◌, ℕ, None, Some, Ok, true, List, length, slice_get}
use Rattle.fold_hist.specs.Bins.{hist_of}
use Rattle.fold_hist.specs.declared.bin.Bin.{Bin}
use Rattle.pn_types.specs.declared.plan.Plan.{Plan}
use Rattle.machine.specs.Cores.{In}
use Rattle.mdl_check.specs.declared.checked.CheckedWish.{CheckedWish}
use Rattle.session_spec.specs.declared.data.MetricFocusPair.{MetricFocusPair}
use Rattle.session_spec.specs.Inputs.{Inputs, planned}
use Rattle.session_spec.specs.States.{State}
use Rattle.session_spec.specs.Bins.{AreMeasured}

-- all wishes are for the opening, and none is to drop a pair
abbrev pub AreForOpening : Inputs → Type 0
AreForOpening i = (w : CheckedWish) → In w i.checked.wishes → (w.at ≡ 0) × (w.show ≡ true)

-- A pair was armed at time 0, and its samples follow one another through the whole run of the program alone, and so do the bins of
-- their histogram. Each is what its metric's plan measures over it.
pub record IsWholeRun (i : Inputs) (owns : List ℕ) (x : MetricFocusPair) (r : List Bin) : Type 0 where
  pub plan : Plan
  pub planned : planned i x.metric x.focus ≡ Ok plan
  pub armed : x.armed ≡ Some 0
  pub to : x.from ≡ length owns
  pub samples : AreMeasured i owns plan x.focus 0 0 r (length owns)
  pub bins : AreMeasured i owns plan x.focus 0 0 (hist_of i.settings.bins r).bins (length owns)

-- this holds for each pair that was wished
abbrev pub AreWholeRuns : Inputs → State → Type 0
AreWholeRuns i s =
    (n : ℕ) (x : MetricFocusPair) (samples : List Bin)
    → slice_get s.kept.shown n ≡ Some x → slice_get s.recorded n ≡ Some samples → x.node ≡ None → IsWholeRun i s.owns x samples
