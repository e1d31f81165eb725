-- Instruments to which acts led have numbers of their own. So where the costs are within the limit in a state that is tied to acts,
-- they stay so through each single step.
use Rattle.std.proofs.Common.{ℕ, List, [], ◌∷◌, Option, Some, None, subst}
use Rattle.instrument.specs.Placements.{instrument_at}
use Rattle.instrument.specs.Scenes.{Act, Happens, Admits, Arms, Drops, Hands, Sweeps, InstrumentScene, arms, does, scene_after}
use Rattle.instrument.specs.declared.instrument.Instrument.{Instrument}
use Rattle.instrument.proofs.Numbers as numbers
use Rattle.instrumented.specs.Readings.{scene_at}
use Rattle.session_spec.specs.declared.data.MetricFocusPair.{MetricFocusPair}
use Rattle.session_spec.specs.Inputs.{Inputs}
use Rattle.session_spec.specs.States.{SessionState}
use Rattle.session_spec.specs.Ties.{AreShown, IsTied, opening_of}
use Rattle.session_spec.specs.Rosters.{AreBelow, AreNumbered}
use Rattle.session_spec.specs.Costs.{IsWithinLimit}
use Rattle.session_spec.proofs.Standing.{arming}
use Rattle.session_spec.proofs.Acting.{act_since}
use Rattle.session_spec.proofs.TestCosts.{IsCounted}

roster_arms : (s : InstrumentScene) (o : Option Instrument) → AreNumbered s.placer → AreNumbered (arms o s).scene.placer
roster_arms s None r = r
roster_arms s (Some x) r = (arming x.no s.placer r).roster

roster_act : (a : Act) (s : InstrumentScene) → AreNumbered s.placer → AreNumbered (does a s).scene.placer
roster_act (Arms n) s r = roster_arms s (instrument_at s.placer n) r
roster_act (Happens e) s r = r
roster_act (Admits plan cost) s r = (act_since s r (Admits plan cost) tt).roster
roster_act (Drops n) s r = (act_since s r (Drops n) tt).roster
roster_act Hands s r = (act_since s r Hands tt).roster
roster_act Sweeps s r = (act_since s r Sweeps tt).roster

roster_after : (acts : List Act) (s : InstrumentScene) → AreNumbered s.placer → AreNumbered (scene_after acts s).placer
roster_after [] s r = r
roster_after (a ∷ acts) s r = roster_after acts (does a s).scene (roster_act a s r)

below_shown : (i : Inputs) (acts : List Act) (ss : List MetricFocusPair) (lasts : List ℕ) → AreShown i acts ss lasts → AreBelow (scene_at (opening_of i) acts).placer.count ss
below_shown i acts [] lasts h = tt
below_shown i acts (s ∷ ss) [] h = absurd h
below_shown i acts (s ∷ ss) (last ∷ lasts) h = (h.0.number, below_shown i acts ss lasts h.1)

pub counted_tied : (i : Inputs) (k : SessionState) (own lasts : List ℕ) → IsTied i k.machine own k.shown lasts → IsWithinLimit i k → IsCounted i k
counted_tied i k own lasts t within = record {
  roster = subst (λ (s : InstrumentScene). AreNumbered s.placer) (t.leads).scene
      (roster_after t.acts _ (record { numbered = (numbers.states_stay).first i.image i.settings.instruments; single = λ x y h j e. absurd h }));
  below = subst (λ (s : InstrumentScene). AreBelow s.placer.count k.shown) (t.leads).scene (below_shown i t.acts k.shown lasts t.shown);
  within = within;
}
