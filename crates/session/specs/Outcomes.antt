-- For proofs alone: what comes of the admission of a pair.
use Rattle.std.specs.Prelude.{◌≡◌, ℕ, ◌+◌, ◌≤◌, ◌⊎◌, Option, Ok, Err, Some, None, [], ◌∷◌, ◌++◌, length}
use Rattle.pn_types.specs.declared.pick.BarCause.{BarCause}
use Rattle.pn_types.specs.declared.pick.PickCause.{PickCause}
use Rattle.pn_types.specs.declared.plan.Plan.{Plan}
use Rattle.mdl_plan.specs.declared.fault.PlanFault.{PlanFault}
use Rattle.instrument.specs.Needs.{need_of, without}
use Rattle.instrument.specs.Placements.{Placements, admission}
use Rattle.instrument.specs.Scenes.{Admits}
use Rattle.instrument.specs.declared.number.InstrumentNo.{InstrumentNo}
use Rattle.instrumented.specs.Instrumented.{after_act}
use Rattle.session_spec.specs.Inputs.{Inputs, cause_of_plan, cause_of_refusal}
use Rattle.session_spec.specs.Searches.{bar_of_plan, bar_of_refusal}
use Rattle.session_pairs.specs.SampledPairs.{AreLive}
use Rattle.session.specs.Candidates.{new_pair}
use Rattle.session.specs.Tables.{IsMore, IsStill, StateTable}
use Rattle.session.specs.declared.candidate.Candidate.{Candidate}
use Rattle.session.specs.declared.failure.Failure.{Failure}
use Rattle.session.specs.declared.failure.Failure.TheVariants.{NoPlan, Refused}

-- ---- causes

abbrev pub pick_cause_of : Failure → Option PickCause
pick_cause_of (NoPlan fault) = Some (cause_of_plan fault)
pick_cause_of (Refused refused) = cause_of_refusal refused

abbrev pub bar_cause_of : Failure → Option BarCause
bar_cause_of (NoPlan fault) = Some (bar_of_plan fault)
bar_cause_of (Refused refused) = bar_of_refusal refused

-- ---- one pair

-- it has an instrument from now on
pub record IsInstrumented
    (i : Inputs) (plan : Plan) (c : Candidate) (limit : Option ℕ) (old new : StateTable) (number : InstrumentNo) : Type 0 where
  pub planned : c.fault ≡ None
  pub placed : admission old.machine.state.placer plan limit ≡ Ok new.machine.state.placer
  pub number_is : number.n ≡ old.machine.state.placer.count
  pub machine : new.machine.state ≡ after_act (Admits plan limit) old.machine.state
  pub pairs : new.pairs ≡ old.pairs ++ new_pair i plan c number ∷ []

-- why it has none
abbrev pub IsFailure : Placements → Plan → Option PlanFault → Option ℕ → Failure → Type 0
IsFailure p plan fault limit (NoPlan f) = fault ≡ Some f
IsFailure p plan fault limit (Refused refused) = (fault ≡ None) × (admission p plan limit ≡ Err refused)

-- it has none, and the room is still there
pub record IsFailed (plan : Plan) (fault : Option PlanFault) (limit : Option ℕ) (old new : StateTable) (failure : Failure) : Type 0 where
  pub why : IsFailure old.machine.state.placer plan fault limit failure
  pub machine : new.machine.state ≡ old.machine.state
  pub pairs : new.pairs ≡ old.pairs
  pub room : new.room ≡ old.room

-- What one step of an admission changes, for which this plan is ready: there is at most one more pair, and no other pair is
-- different.
pub record IsAdmissionStep (i : Inputs) (plan : Plan) (old new : StateTable) : Type 0 where
  pub pairs : IsMore i old.pairs new.pairs
  pub few : length new.pairs ≤ length old.pairs + 1
  pub room : old.room ≤ new.room + 1
  pub ready : (new.machine.ready ≡ old.machine.ready) ⊎ (new.machine.ready ≡ without (need_of plan) old.machine.ready)
  pub live : AreLive new.machine.state.placer new.pairs new.live
  pub still : IsStill old new
