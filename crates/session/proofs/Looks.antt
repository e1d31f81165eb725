-- A wish that is looked at: what the code makes is what the definitions say.
use Rattle.std.proofs.Common.{◌≡◌, List, Option, Some, None, refl, sym, ap, ◌∙◌, subst}
use Rattle.std.specs.Prelude.{true, false, cond, find, ◌⊎◌}
use Rattle.std.specs.Option.{option_map}
use Rattle.mdl_check.specs.declared.checked.CheckedWish.{CheckedWish}
use Rattle.machine.proofs.BlockLists.{find_map}
use Rattle.machine.proofs.Lists.{find_gives}
use Rattle.instrument.specs.Placements.{state_of}
use Rattle.instrument.specs.Scenes.{Drops}
use Rattle.instrument.specs.declared.number.InstrumentNo.{InstrumentNo}
use Rattle.instrument.specs.declared.number.State.TheVariants.{Placing, Armed}
use Rattle.instrumented.specs.Instrumented.{Instrumented, after_act}
use Rattle.session_spec.specs.Admission.{shown_now, shows, with_drop, with_show, with_wish}
use Rattle.session_spec.specs.declared.data.MetricFocusPair.{MetricFocusPair}
use Rattle.session_spec.proofs.Wishing.{stands_now}
use Rattle.session_spec.specs.Inputs.{Inputs}
use Rattle.session_spec.specs.States.{SessionState}
use Rattle.session_pairs.specs.declared.pair.SampledPair.{SampledPair}
use Rattle.session.specs.Tables.{StateTable, kept_of}

-- ---- whether a pair is shown

-- the pair that is found among those of the code
pub record IsFound (k : SessionState) (w : CheckedWish) (number : InstrumentNo) : Type 0 where
  pub s : MetricFocusPair
  pub is : shown_now k w ≡ Some s
  pub number_is : s.instrument ≡ number

module _ (w : CheckedWish) (ws : List CheckedWish) (t : StateTable) where
  abbrev k : SessionState
  k = kept_of ws t

  abbrev found : Option SampledPair
  found = find (λ (x : SampledPair). shows t.machine.state.placer w x.shown) t.pairs

  now_is : shown_now k w ≡ option_map (λ (x : SampledPair). x.shown) found
  now_is = sym (find_map (λ (x : SampledPair). x.shown) (shows t.machine.state.placer w) t.pairs)

  pub none_found : None ≡ option_map (λ (x : SampledPair). x.shown.instrument) found → shown_now k w ≡ None
  none_found r = now_is ∙ by found r
    where
      by : (o : Option SampledPair) → None ≡ option_map (λ (x : SampledPair). x.shown.instrument) o → option_map (λ (x : SampledPair). x.shown) o ≡ None
      by None r = refl
      by (Some x) r = absurd cc

  pub one_found : (number : InstrumentNo) → Some number ≡ option_map (λ (x : SampledPair). x.shown.instrument) found → IsFound k w number
  one_found number r = by found refl r
    where
      by : (o : Option SampledPair) → found ≡ o → Some number ≡ option_map (λ (x : SampledPair). x.shown.instrument) o → IsFound k w number
      by None q r = absurd cc
      by (Some x) q r = let same : number ≡ x.shown.instrument = cc in record { s = x.shown; is = now_is ∙ ap (option_map (λ (y : SampledPair). y.shown)) q; number_is = sym same }

  -- one that is found is being placed, or armed
  pub found_stands : (number : InstrumentNo) → Some number ≡ option_map (λ (x : SampledPair). x.shown.instrument) found → (state_of t.machine.state.placer number.n ≡ Placing) ⊎ (state_of t.machine.state.placer number.n ≡ Armed)
  found_stands number r = by found refl r
    where
      by : (o : Option SampledPair) → found ≡ o → Some number ≡ option_map (λ (x : SampledPair). x.shown.instrument) o → (state_of t.machine.state.placer number.n ≡ Placing) ⊎ (state_of t.machine.state.placer number.n ≡ Armed)
      by None q r = absurd cc
      by (Some x) q r =
          let same : number ≡ x.shown.instrument = cc in
          subst (λ (y : InstrumentNo). (state_of t.machine.state.placer y.n ≡ Placing) ⊎ (state_of t.machine.state.placer y.n ≡ Armed)) (sym same)
          (stands_now t.machine.state.placer w x.shown (find_gives (λ (y : SampledPair). shows t.machine.state.placer w y.shown) t.pairs x q).1)

-- ---- a wish

pub wish_shows : (i : Inputs) (w : CheckedWish) (k : SessionState) (o : Option MetricFocusPair) → w.show ≡ true → shown_now k w ≡ o → with_wish i w k ≡ with_show o i w k
unfolding with_wish
wish_shows i w k o e f = ap (λ b. cond b (with_show (shown_now k w) i w k) (with_drop (shown_now k w) w k)) e ∙ ap (λ x. with_show x i w k) f

pub wish_drops : (i : Inputs) (w : CheckedWish) (k : SessionState) (o : Option MetricFocusPair) → w.show ≡ false → shown_now k w ≡ o → with_wish i w k ≡ with_drop o w k
unfolding with_wish
wish_drops i w k o e f = ap (λ b. cond b (with_show (shown_now k w) i w k) (with_drop (shown_now k w) w k)) e ∙ ap (λ x. with_drop x w k) f

pub dropped_at : (w : CheckedWish) (k : SessionState) (s : MetricFocusPair) (number : InstrumentNo) (new : Instrumented) → s.instrument ≡ number → new ≡ after_act (Drops number.n) k.machine → record k { machine = new } ≡ with_drop (Some s) w k
dropped_at w k s number new n d = ap (λ x. record k { machine = x }) d ∙ ap (λ (x : InstrumentNo). record k { machine = after_act (Drops x.n) k.machine }) (sym n)
