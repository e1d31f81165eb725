-- Wishes are looked at: a metric is shown at a focus from now on, or no longer. Then the search takes nodes.
use Rattle.std.specs.Prelude.{ℕ, ◌&&◌, ◌==◌, not, nat_le, if◌then◌else◌, Bool, false, is_none, Option, Some, None, Result, Ok, Err, List, [], ◌∷◌, ◌++◌, find}
use Rattle.pn_types.specs.declared.pick.PickCause.{PickCause}
use Rattle.pn_types.specs.declared.pick.PickCause.TheVariants.{AlreadyShown, NotShown}
use Rattle.pn_types.specs.declared.plan.Plan.{Plan}
use Rattle.mdl_check.specs.Rules.{is_same_focus}
use Rattle.mdl_check.specs.declared.checked.CheckedWish.{CheckedWish}
use Rattle.mdl_plan.specs.declared.fault.PlanFault.{PlanFault}
use Rattle.instrument.specs.Placements.{Placements, admission, is_leaving, state_of}
use Rattle.instrument.specs.Scenes.{Admits, Drops}
use Rattle.instrument.specs.declared.number.Refused.{Refused}
use Rattle.instrumented.specs.Instrumented.{after_act}
use Rattle.session_spec.specs.declared.data.RefusedWish.{RefusedWish}
use Rattle.session_spec.specs.declared.data.MetricFocusPair.{MetricFocusPair}
use Rattle.session_spec.specs.Inputs.{Inputs, cause_of_plan, cause_of_refusal, planned}
use Rattle.session_spec.specs.States.{SessionState}
use Rattle.session_spec.specs.Tests.{with_tests}

-- ---- what is shown

-- An instrument that was wished shows the pair of a wish from its admission to its dropping.
abbrev pub shows : Placements → CheckedWish → MetricFocusPair → Bool
shows p w s = is_none s.node
    && ((s.metric == w.metric) && (is_same_focus (Some s.focus) (Some w.focus) && not (is_leaving (state_of p s.instrument.n))))

abbrev pub shown_now : SessionState → CheckedWish → Option MetricFocusPair
shown_now k w = find (shows k.machine.placer w) k.shown

-- ---- a wish is refused

abbrev pub refused_wish : CheckedWish → ℕ → PickCause → RefusedWish
refused_wish w at cause = record { show = w.show; metric = w.metric; focus = w.focus; at = at; cause = cause }

abbrev pub with_refused : Option PickCause → CheckedWish → SessionState → SessionState
with_refused None w k = k
with_refused (Some cause) w k = record k { refused = k.refused ++ refused_wish w k.time cause ∷ [] }

-- ---- a pair is to be shown

abbrev pub with_admitted : Plan → SessionState → SessionState
with_admitted plan k = record k { machine = after_act (Admits plan None) k.machine }

-- the instrument of the next number shows the pair
abbrev pub shown_next : CheckedWish → SessionState → MetricFocusPair
shown_next w k = record {
  instrument = record { n = k.machine.placer.count };
  node = None;
  metric = w.metric;
  focus = w.focus;
  armed = None;
  from = 0;
}

abbrev pub with_answer : Result Placements Refused → CheckedWish → Plan → SessionState → SessionState
with_answer (Err refused) w plan k = with_refused (cause_of_refusal refused) w k
with_answer (Ok placer) w plan k = record (with_admitted plan k) { shown = k.shown ++ shown_next w k ∷ [] }

abbrev pub with_plan : Result Plan PlanFault → CheckedWish → SessionState → SessionState
with_plan (Err fault) w k = with_refused (Some (cause_of_plan fault)) w k
with_plan (Ok plan) w k = with_answer (admission k.machine.placer plan None) w plan k

abbrev pub with_show : Option MetricFocusPair → Inputs → CheckedWish → SessionState → SessionState
with_show (Some s) i w k = with_refused (Some AlreadyShown) w k
with_show None i w k = with_plan (planned i w.metric w.focus) w k

-- ---- a pair is to be dropped

abbrev pub with_drop : Option MetricFocusPair → CheckedWish → SessionState → SessionState
with_drop None w k = with_refused (Some NotShown) w k
with_drop (Some s) w k = record k { machine = after_act (Drops s.instrument.n) k.machine }

-- ---- wishes

-- one wish
unfoldable pub with_wish : Inputs → CheckedWish → SessionState → SessionState
with_wish i w k = if w.show then with_show (shown_now k w) i w k else with_drop (shown_now k w) w k

-- the first of these wishes whose ticks aren't above the time; the others are still to come
abbrev pub with_wishes : Inputs → List CheckedWish → SessionState → SessionState
with_wishes i [] k = k
with_wishes i (w ∷ ws) k = if nat_le w.at k.time then with_wishes i ws (with_wish i w (record k { wishes = ws })) else k

-- One admission, where work was done since the last.
unfoldable pub with_admission : Inputs → SessionState → SessionState
with_admission i k = if k.worked then record (with_tests i (with_wishes i k.wishes k)) { worked = false } else k
