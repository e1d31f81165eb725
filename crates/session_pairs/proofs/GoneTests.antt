-- A test that is gone isn't armed any more, gives no sample, and tests no node.
use Rattle.std.proofs.Common.{◌≡◌, ℕ, Option, Some, None, List, [], refl, ap, ap₂, ◌∙◌}
use Rattle.std.specs.Prelude.{◌&&◌, true, false, is_none, is_some, not}
use Rattle.std.proofs.lemmas.Bool.{and_parts, cond-false}
use Rattle.std.proofs.Math.Bool.{and-false}
use Rattle.instrument.specs.Placements.{Placements, is_leaving, state_of}
use Rattle.instrument.specs.declared.number.State.{State}
use Rattle.instrument.specs.declared.number.State.TheVariants.{Placing, Armed, Leaving, Gone}
use Rattle.instrumented.specs.Instrumented.{Instrumented}
use Rattle.w3_search.specs.Nodes.{is_same_number}
use Rattle.session_spec.specs.Due.{is_armed, is_armed_state, is_placing, is_ready, place_behind}
use Rattle.session_spec.specs.Tests.{is_gone}
use Rattle.session_spec.specs.Verdicts.{tests}
use Rattle.session_pairs.specs.declared.pair.SampledPair.{SampledPair}
use Rattle.session_pairs.specs.SampledPairs.{is_gone_test, pair_latest, pair_sampled, pair_test, pair_test_by}
use Rattle.session_pairs.proofs.Arms.{unready}
use Rattle.session_pairs.proofs.Sampled.{pair_off}

gone : (q : State) → is_gone q ≡ true → q ≡ Gone
gone Gone e = refl
gone Placing e = cc
gone Armed e = cc
gone Leaving e = cc

module _ (p : Placements) (k : SampledPair) (g : is_gone_test p k ≡ true) where
  abbrev n : ℕ
  n = k.shown.instrument.n

  pub is_test : is_some k.shown.node ≡ true
  is_test = (and_parts (is_some k.shown.node) (is_gone (state_of p n)) g).0

  pub state_gone : state_of p n ≡ Gone
  state_gone = gone (state_of p n) (and_parts (is_some k.shown.node) (is_gone (state_of p n)) g).1

  pub gone_unarmed : is_armed p k.shown ≡ false
  gone_unarmed = ap is_armed_state state_gone

  pub gone_tests : (node : ℕ) → tests p node k.shown ≡ false
  gone_tests node = ap (λ q. is_same_number k.shown.node (Some node) && not (is_leaving q)) state_gone ∙ and-false (is_same_number k.shown.node (Some node))

  -- it has no place among those that were wished
  pub gone_place : (place : ℕ) → place_behind k.shown.node place ≡ place
  gone_place place = by k.shown.node is_test
    where
      by : (o : Option ℕ) → is_some o ≡ true → place_behind o place ≡ place
      by (Some x) e = refl
      by None e = cc

-- another state of the instruments in which it is gone
pub gone_test : (p q : Placements) (k : SampledPair) → is_gone_test p k ≡ true → state_of q k.shown.instrument.n ≡ Gone → is_gone_test q k ≡ true
gone_test p q k g e = ap₂ (λ a b. a && b) (is_test p k g) (ap is_gone e)

-- ---- on a machine

module _ (m : Instrumented) (k : SampledPair) (g : is_gone_test m.placer k ≡ true) where
  pub gone_unready : is_ready m k.shown ≡ false
  gone_unready = unready m k (ap is_placing (state_gone m.placer k g))

  pub gone_sampled : (time : ℕ) → pair_sampled m time k ≡ k
  gone_sampled time = pair_off m time k (gone_unarmed m.placer k g)

  pub gone_latest : (time place : ℕ) → pair_latest m time place k ≡ []
  unfolding pair_latest
  gone_latest time place =
      cond-false (is_none k.shown.node && is_armed m.placer k.shown) _ []
      (ap (λ b. is_none k.shown.node && b) (gone_unarmed m.placer k g) ∙ and-false (is_none k.shown.node))

  pub gone_samples : (marks : List ℕ) → pair_test m marks k ≡ []
  unfolding pair_test
  gone_samples marks = by k.shown.node
    where
      by : (o : Option ℕ) → pair_test_by o m marks k ≡ []
      by None = refl
      by (Some x) = cond-false (is_armed m.placer k.shown) _ [] (gone_unarmed m.placer k g)
