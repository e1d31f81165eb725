-- The instrument that tests a node is sought at live places.
use Rattle.std.proofs.Common.{◌≡◌, ℕ, Option, Some, None, List, [], ◌∷◌, ◌++◌, sym, ap, ◌∙◌}
use Rattle.std.specs.Prelude.{Bool, true, false, find}
use Rattle.std.specs.Option.{option_map}
use Rattle.std.proofs.lemmas.Bool.{cond-false, cond-true}
use Rattle.instrument.specs.Placements.{Placements}
use Rattle.instrument.specs.declared.number.InstrumentNo.{InstrumentNo}
use Rattle.session_spec.specs.Verdicts.{tests}
use Rattle.session_pairs.specs.declared.pair.SampledPair.{SampledPair}
use Rattle.session_pairs.specs.SampledPairs.{is_gone_test}
use Rattle.session_pairs.proofs.GoneTests.{gone_tests}

module _ (p : Placements) (node : ℕ) (old : List SampledPair) where
  abbrev is_tester : SampledPair → Bool
  is_tester k = tests p node k.shown

  -- the first among the pairs that are left is that among all
  abbrev pub IsSought : List SampledPair → List SampledPair → Type 0
  IsSought front left = find is_tester left ≡ find is_tester old

  -- as one that isn't
  pub sought_more : (front : List SampledPair) (k : SampledPair) (left : List SampledPair) → is_tester k ≡ false → IsSought front (k ∷ left) → IsSought (front ++ k ∷ []) left
  sought_more front k left e h = sym (cond-false (is_tester k) (Some k) (find is_tester left) e) ∙ h

  pub sought_pass : (front : List SampledPair) (k : SampledPair) (left : List SampledPair) → is_gone_test p k ≡ true → IsSought front (k ∷ left) → IsSought (front ++ k ∷ []) left
  sought_pass front k left g h = sought_more front k left (gone_tests p k g node) h

  abbrev number_of : Option SampledPair → Option InstrumentNo
  number_of o = option_map (λ (k : SampledPair). k.shown.instrument) o

  pub sought_here : (front : List SampledPair) (k : SampledPair) (left : List SampledPair) → is_tester k ≡ true → IsSought front (k ∷ left) → Some k.shown.instrument ≡ number_of (find is_tester old)
  sought_here front k left e h = ap number_of (sym (cond-true (is_tester k) (Some k) (find is_tester left) e) ∙ h)

  pub sought_end : (front : List SampledPair) → IsSought front [] → None ≡ number_of (find is_tester old)
  sought_end front h = ap number_of h
