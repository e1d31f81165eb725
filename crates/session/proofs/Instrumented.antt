-- A pair gets an instrument, or none.
use Rattle.std.proofs.Common.{◌≡◌, ℕ, ◌+◌, ◌<◌, ◌≤◌, ◌^◌, List, [], ◌∷◌, ◌++◌, Option, None, Ok, Err, refl, sym, ap, ◌∙◌, subst, arith, length, inr}
use Rattle.std.specs.Prelude.{cond, is_some, ◌⊎◌}
use Rattle.std.proofs.lemmas.Bool.{cond_both}
use Rattle.std.proofs.lemmas.List.{length-append}
use Rattle.pn_types.specs.declared.plan.Plan.{Plan}
use Rattle.prim_code.specs.Counts.{predicted}
use Rattle.instrument.specs.Needs.{need_of, without}
use Rattle.instrument.specs.Placements.{admission}
use Rattle.instrument.specs.Scenes.{Admits, admits}
use Rattle.instrument.specs.declared.number.InstrumentNo.{InstrumentNo}
use Rattle.instrument.specs.declared.number.Refused.{Refused}
use Rattle.instrument.proofs.Numbers.{admits as admits_one}
use Rattle.instrumented.specs.Instrumented.{Instrumented, after_act, in_scene, scene_of}
use Rattle.instrumented.proofs.Acts.{done_is}
use Rattle.session_spec.specs.Inputs.{Inputs, planned}
use Rattle.session_spec.specs.Tests.{words_by, words_of}
use Rattle.session_pairs.specs.declared.pair.SampledPair.{SampledPair}
use Rattle.session_pairs.specs.SampledPairs.{AreLive}
use Rattle.session_pairs.proofs.Live.{live_done, live_put}
use Rattle.session.specs.declared.candidate.Candidate.{Candidate}
use Rattle.session.specs.Candidates.{IsCandidate, IsPlanOrFault, IsShort, new_pair}
use Rattle.session.specs.Outcomes.{IsAdmissionStep}
use Rattle.session.specs.Tables.{IsMore, IsNew, IsStill, StateTable}
use Rattle.session.proofs.Steps.{none_more, one_more}

-- ---- its pair

pub pair_new : (i : Inputs) (plan : Plan) (c : Candidate) (number : InstrumentNo) → IsCandidate i plan c → c.fault ≡ None → IsNew i (new_pair i plan c number)
unfolding words_of
pair_new i plan c number k none =
    let p : (planned i c.metric c.focus ≡ Ok plan) × IsShort i plan = subst (λ o. IsPlanOrFault i c.metric c.focus o plan) none k.planned in
    record {
      last = refl;
      hist = k.hist;
      harts = refl;
      within = k.within;
      cost = ap (λ n. cond (is_some c.node) n 0) (sym (ap words_by p.0));
      low = cond_both (is_some c.node) (predicted plan) 0 (λ n. n < 2 ^ 32) (λ _. k.words) (λ _. omega arith);
    }

-- a refused admission changes nothing
pub refused_same : (m : Instrumented) (plan : Plan) (limit : Option ℕ) (refused : Refused) → admission m.placer plan limit ≡ Err refused → after_act (Admits plan limit) m ≡ m
refused_same m plan limit refused e = done_is (Admits plan limit) m ∙ ap (λ r. in_scene (admits plan r (scene_of m)).scene) e

-- with an instrument more
pub live_more : (m new : Instrumented) (plan : Plan) (limit : Option ℕ) (pairs : List SampledPair) (live : List ℕ) (k : SampledPair) → AreLive m.placer pairs live → admission m.placer plan limit ≡ Ok new.placer → k.shown.instrument.n ≡ m.placer.count
    → new ≡ after_act (Admits plan limit) m → AreLive new.placer (pairs ++ k ∷ []) (live ++ length pairs ∷ [])
live_more m new plan limit pairs live k a e n is =
    let later : AreLive new.placer pairs live = subst (λ (x : Instrumented). AreLive x.placer pairs live) (sym is) (live_done m pairs live a (Admits plan limit) tt) in
    live_put new.placer pairs live k later (omega (arith, n, ((admits_one m.placer plan limit new.placer e).0).count))

-- ---- a step

-- what the step leaves of the table
still_of : (old new : StateTable) → new ≡ record old { machine = new.machine; pairs = new.pairs; live = new.live; room = new.room } → new.machine.state.core ≡ old.machine.state.core → IsStill old new
still_of old new e core =
    let g : StateTable → StateTable = λ x. record old { machine = new.machine; refused = x.refused; pairs = new.pairs; live = new.live; search = x.search; room = new.room; worked = x.worked } in
    record { same = e ∙ ap g (sym e); core = core; rules = ap (λ (x : StateTable). x.search.rules) e }

-- there is one pair more
pub step_more : (i : Inputs) (plan : Plan) (k : SampledPair) (view old new : StateTable) → view ≡ old → IsNew i k → new.pairs ≡ view.pairs ++ k ∷ [] → view.room ≤ new.room + 1 → new.machine.ready ≡ without (need_of plan) view.machine.ready
    → AreLive new.machine.state.placer new.pairs new.live → new ≡ record view { machine = new.machine; pairs = new.pairs; live = new.live; room = new.room } → new.machine.state.core ≡ view.machine.state.core → IsAdmissionStep i plan old new
step_more i plan k view old new is n pairs room ready live e core =
    subst (λ (x : StateTable). IsAdmissionStep i plan x new) is
    (record {
      pairs = subst (IsMore i view.pairs) (sym pairs) (one_more i view.pairs k n);
      few = omega (arith, ap (λ (l : List SampledPair). length l) pairs, length-append view.pairs (k ∷ []));
      room = room;
      ready = inr ready;
      live = live;
      still = still_of view new e core;
    })

-- there are the same pairs
pub step_same : (i : Inputs) (plan : Plan) (view old new : StateTable) → view ≡ old → (new.machine.ready ≡ view.machine.ready) ⊎ (new.machine.ready ≡ without (need_of plan) view.machine.ready) → AreLive new.machine.state.placer view.pairs view.live
    → new ≡ record view { machine = new.machine } → new.machine.state.core ≡ view.machine.state.core → IsAdmissionStep i plan old new
step_same i plan view old new is ready live e core =
    subst (λ (x : StateTable). IsAdmissionStep i plan x new) is
    (subst (IsAdmissionStep i plan view) (sym e)
    (record {
      pairs = none_more i view.pairs;
      few = omega arith;
      room = omega arith;
      ready = ready;
      live = live;
      still = record { same = refl; core = core; rules = refl };
    }))
