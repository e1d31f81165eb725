-- The arming of a pair.
use Rattle.std.proofs.Common.{◌≡◌, ℕ, ◌∙◌, refl, sym, ap, ap₂, Some}
use Rattle.std.specs.Prelude.{Bool, true, false, cond, ◌&&◌}
use Rattle.std.proofs.lemmas.Bool.{true≢false, cond-true, cond-false}
use Rattle.instrument.specs.Placements.{Placements, state_of}
use Rattle.instrument.specs.Scenes.{Arms}
use Rattle.instrument.specs.declared.number.State.{State}
use Rattle.instrument.specs.declared.number.State.TheVariants.{Placing, Armed, Leaving, Gone}
use Rattle.instrumented.specs.Data.{InstrumentedData}
use Rattle.instrumented.specs.Instrumented.{Instrumented, after_act, is_linked}
use Rattle.session_spec.specs.declared.data.MetricFocusPair.{MetricFocusPair}
use Rattle.session_spec.specs.Due.{is_armed, is_armed_state, is_placing, is_ready, machine_armed}
use Rattle.session_pairs.specs.declared.pair.SampledPair.{SampledPair}
use Rattle.session_pairs.specs.SampledPairs.{pair_armed, pair_reading}

pub placing : (q : State) → is_placing q ≡ true → q ≡ Placing
placing Placing e = refl
placing Armed e = absurd (true≢false (sym e))
placing Leaving e = absurd (true≢false (sym e))
placing Gone e = absurd (true≢false (sym e))

-- one that is armed isn't gone
here : (q : State) → is_armed_state q ≡ true → q ≡ Gone → ⊥
here Armed e g = absurd cc
here Placing e g = true≢false (sym e)
here Leaving e g = true≢false (sym e)
here Gone e g = true≢false (sym e)

pub armed_here : (p : Placements) (s : MetricFocusPair) → is_armed p s ≡ true → state_of p s.instrument.n ≡ Gone → ⊥
armed_here p s e g = here (state_of p s.instrument.n) e g

pub armed_there : (p : Placements) (n : ℕ) → state_of p n ≡ Armed → state_of p n ≡ Gone → ⊥
armed_there p n e g = let no : Armed ≡ Gone = sym e ∙ g in cc

module _ (m : Instrumented) (k : SampledPair) where
  abbrev n : ℕ
  n = k.shown.instrument.n

  pub unready : is_placing (state_of m.placer n) ≡ false → is_ready m k.shown ≡ false
  unready e = ap (λ b. b && is_linked m n) e

  pub unlinked : is_placing (state_of m.placer n) ≡ true → is_linked m n ≡ false → is_ready m k.shown ≡ false
  unlinked e l = ap₂ (λ a b. a && b) e l

  pub ready : is_placing (state_of m.placer n) ≡ true → is_linked m n ≡ true → is_ready m k.shown ≡ true
  ready e l = ap₂ (λ a b. a && b) e l

  pub same : is_ready m k.shown ≡ false → m ≡ machine_armed m k.shown
  same e = sym (cond-false (is_ready m k.shown) (after_act (Arms n) m) m e)

  pub same_pair : (time : ℕ) → is_ready m k.shown ≡ false → k ≡ pair_armed time m k
  unfolding pair_armed
  same_pair time e = sym (cond-false (is_ready m k.shown) _ k e)

  pub armed_is : is_ready m k.shown ≡ true → machine_armed m k.shown ≡ after_act (Arms n) m
  armed_is e = cond-true (is_ready m k.shown) (after_act (Arms n) m) m e

  pub armed_pair : (time : ℕ) → is_ready m k.shown ≡ true → pair_armed time m k ≡ record k { shown = record k.shown { armed = Some time; from = time }; last = pair_reading (machine_armed m k.shown) k }
  unfolding pair_armed
  armed_pair time e = cond-true (is_ready m k.shown) _ k e

-- what the code makes of one that is ready
module _ (d : InstrumentedData) (k : SampledPair) (new : InstrumentedData) (b : Bool) (on : is_ready d.state k.shown ≡ true)
    (state : new ≡ record d { state = cond b (after_act (Arms k.shown.instrument.n) d.state) d.state }) (yes_is : b ≡ true) where
  pub armed_machine : new ≡ record d { state = machine_armed d.state k.shown }
  armed_machine =
      state ∙ (ap (λ x. record d { state = cond x (after_act (Arms k.shown.instrument.n) d.state) d.state }) yes_is ∙ ap (λ (x : Instrumented). record d { state = x }) (sym (armed_is d.state k on)))

  pub armed_now : (time reading : ℕ) → reading ≡ pair_reading new.state k → record k { shown = record k.shown { armed = Some time; from = time }; last = reading } ≡ pair_armed time d.state k
  armed_now time reading r =
      ap (λ (x : ℕ). record k { shown = record k.shown { armed = Some time; from = time }; last = x }) (r ∙ ap (λ (x : InstrumentedData). pair_reading x.state k) armed_machine)
      ∙ sym (armed_pair d.state k time on)
