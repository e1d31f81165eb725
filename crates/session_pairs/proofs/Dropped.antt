-- Tests that are dropped: what the code makes is what the definitions say.
use Rattle.std.proofs.Common.{◌≡◌, ℕ, List, [], ◌∷◌, Option, Some, None, refl, sym, ap, subst, ◌∙◌, inl, inr, ◌⊎◌}
use Rattle.std.specs.Prelude.{true, find, map, not}
use Rattle.std.specs.Option.{option_map}
use Rattle.std.proofs.lemmas.Bool.{and_parts, true≢false}
use Rattle.machine.proofs.BlockLists.{find_map}
use Rattle.machine.proofs.Lists.{find_gives}
use Rattle.instrument.specs.Placements.{is_leaving, state_of}
use Rattle.instrument.specs.Scenes.{Drops}
use Rattle.instrument.specs.declared.number.InstrumentNo.{InstrumentNo}
use Rattle.instrument.specs.declared.number.State.{State}
use Rattle.instrument.specs.declared.number.State.TheVariants.{Placing, Armed, Leaving, Gone}
use Rattle.instrumented.specs.Instrumented.{Instrumented, after_act}
use Rattle.w3_search.specs.Nodes.{is_same_number}
use Rattle.session_spec.specs.declared.data.MetricFocusPair.{MetricFocusPair}
use Rattle.session_spec.specs.States.{SessionState}
use Rattle.session_spec.specs.Verdicts.{tester_of, tests, without_tester, without_tests}
use Rattle.session_pairs.specs.declared.pair.SampledPair.{SampledPair}
use Rattle.session_pairs.specs.SampledPairs.{dropped_by, dropped_tests}

-- ---- the tester of a node

abbrev pub shown_in : List SampledPair → List MetricFocusPair
shown_in pairs = map (λ (k : SampledPair). k.shown) pairs

module _ (m : Instrumented) (n : ℕ) (pairs : List SampledPair) where
  abbrev found : Option SampledPair
  found = find (λ (k : SampledPair). tests m.placer n k.shown) pairs

  abbrev pub dropped_no : Option InstrumentNo → Instrumented
  dropped_no None = m
  dropped_no (Some number) = after_act (Drops number.n) m

  same_drop : (o : Option SampledPair) → dropped_by (option_map (λ (k : SampledPair). k.shown) o) m ≡ dropped_no (option_map (λ (k : SampledPair). k.shown.instrument) o)
  same_drop None = refl
  same_drop (Some k) = refl

  pub dropped_as : (o : Option InstrumentNo) → o ≡ option_map (λ (k : SampledPair). k.shown.instrument) found → dropped_no o ≡ dropped_by (tester_of m.placer n (shown_in pairs)) m
  dropped_as o e = ap dropped_no e ∙ sym (same_drop found) ∙ ap (λ (s : Option MetricFocusPair). dropped_by s m) (find_map (λ (k : SampledPair). k.shown) (tests m.placer n) pairs)

  stands : (q : State) → not (is_leaving q) ≡ true → (q ≡ Placing) ⊎ (q ≡ Armed)
  stands Placing e = inl refl
  stands Armed e = inr refl
  stands Leaving e = absurd (true≢false (sym e))
  stands Gone e = absurd (true≢false (sym e))

  -- it is being placed, or armed
  pub tester_stands : (number : InstrumentNo) → Some number ≡ option_map (λ (k : SampledPair). k.shown.instrument) found
      → (state_of m.placer number.n ≡ Placing) ⊎ (state_of m.placer number.n ≡ Armed)
  tester_stands number e = by found refl e
    where
      by : (o : Option SampledPair) → found ≡ o → Some number ≡ option_map (λ (k : SampledPair). k.shown.instrument) o
          → (state_of m.placer number.n ≡ Placing) ⊎ (state_of m.placer number.n ≡ Armed)
      by None q e = absurd cc
      by (Some k) q e =
          let same : number ≡ k.shown.instrument = cc in
          let tests_it = (find_gives (λ (x : SampledPair). tests m.placer n x.shown) pairs k q).1 in
          subst (λ (x : InstrumentNo). (state_of m.placer x.n ≡ Placing) ⊎ (state_of m.placer x.n ≡ Armed)) (sym same)
          (stands (state_of m.placer k.shown.instrument.n) (and_parts (is_same_number k.shown.node (Some n)) (not (is_leaving (state_of m.placer k.shown.instrument.n))) tests_it).1)

-- ---- what the drops change

one_dropped : (o : Option MetricFocusPair) (k : SessionState) → without_tester o k ≡ record k { machine = dropped_by o k.machine }
one_dropped None k = refl
one_dropped (Some s) k = refl

-- the machine alone
pub without_tests_are : (ns : List ℕ) (k : SessionState) → without_tests ns k ≡ record k { machine = dropped_tests ns k.shown k.machine }
without_tests_are [] k = refl
without_tests_are (n ∷ ns) k =
    let o = tester_of k.machine.placer n k.shown in
    without_tests_are ns (without_tester o k) ∙ ap (λ (x : SessionState). record x { machine = dropped_tests ns x.shown x.machine }) (one_dropped o k)
