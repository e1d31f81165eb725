-- The places of those pairs that may still be sampled go on being such places, whatever a session does.
use Rattle.std.proofs.Common.{◌≡◌, ℕ, ◌+◌, ◌<◌, Option, Some, None, List, [], ◌∷◌, ◌++◌, map, length, refl, sym, ap, ap₂, ◌∙◌, subst, inl, inr, arith, append_assoc}
use Rattle.std.specs.Prelude.{◌&&◌, Bool, true, false, cond, is_some, not, slice_get}
use Rattle.std.specs.Option.{option_map_or}
use Rattle.std.proofs.lemmas.Bool.{cond_both}
use Rattle.std.proofs.lemmas.List.{length_push, map_push}
use Rattle.machine.specs.Events.{Event}
use Rattle.instrument.specs.Placements.{Placements, state_of}
use Rattle.instrument.specs.Scenes.{Act, Drops}
use Rattle.instrument.specs.declared.number.InstrumentNo.{InstrumentNo}
use Rattle.instrumented.specs.Instrumented.{Instrumented, after_act, repeated, after_turns}
use Rattle.session_spec.specs.declared.data.MetricFocusPair.{MetricFocusPair}
use Rattle.session_spec.specs.Due.{arm_all, is_armed, is_ready, machine_armed}
use Rattle.session_spec.specs.Tests.{is_gone}
use Rattle.session_spec.specs.Verdicts.{tester_of}
use Rattle.session_spec.specs.Rosters.{AreBelow, AreNumbered}
use Rattle.session_spec.proofs.Acting.{IsNoArming, done_since, repeated_since, taken_placer}
use Rattle.session_spec.proofs.TestCosts.{Later, later_since}
use Rattle.session_spec.proofs.Likes.{below_more, below_push}
use Rattle.session_spec.proofs.Spending.{later_arms}
use Rattle.session_pairs.specs.declared.pair.SampledPair.{SampledPair}
use Rattle.session_pairs.specs.SampledPairs.{AreLive, AreLiveFrom, dropped_by, dropped_tests, is_gone_test, pair_armed, pair_sampled, pairs_armed, live_of, machine_of_armed}
use Rattle.session_pairs.proofs.Dropped.{shown_in}
use Rattle.session_pairs.proofs.GoneTests.{gone_test, state_gone}
use Rattle.session_pairs.proofs.Places.{first_live, get_at}

-- ---- later instruments

pub places_later : (n : ℕ) (p q : Placements) (ks : List SampledPair) (live : List ℕ) → Later p q → AreBelow p.count (shown_in ks) → AreLiveFrom n p ks live → AreLiveFrom n q ks live
places_later n p q [] [] l b a = tt
places_later n p q [] (at ∷ live) l b a = absurd a
places_later n p q (k ∷ ks) [] l b a = (gone_test p q k a.0 (l.gone k.shown.instrument.n b.0 (state_gone p k a.0)), places_later (n + 1) p q ks [] l b.1 a.1)
places_later n p q (k ∷ ks) (at ∷ live) l b (inl a) = inl (a.0, places_later (n + 1) p q ks live l b.1 a.1)
places_later n p q (k ∷ ks) (at ∷ live) l b (inr a) =
    inr (a.0, gone_test p q k a.1 (l.gone k.shown.instrument.n b.0 (state_gone p k a.1)), places_later (n + 1) p q ks (at ∷ live) l b.1 a.2)

-- what is gone stays gone
pub live_later : (p q : Placements) (pairs : List SampledPair) (live : List ℕ) → Later p q → AreLive p pairs live → AreLive q pairs live
live_later p q pairs live l a = record {
  roster = l.roster;
  below = below_more p.count q.count (shown_in pairs) l.count a.below;
  places = places_later 0 p q pairs live l a.below a.places;
}

module _ (m : Instrumented) (pairs : List SampledPair) (live : List ℕ) (a : AreLive m.placer pairs live) where
  pub live_done : (act : Act) → IsNoArming act → AreLive (after_act act m).placer pairs live
  live_done act o = live_later m.placer (after_act act m).placer pairs live (later_since m.placer (after_act act m).placer (done_since act o m a.roster)) a

  pub live_repeated : (n : ℕ) (act : Act) → IsNoArming act → AreLive (repeated n act m).placer pairs live
  live_repeated n act o = live_later m.placer (repeated n act m).placer pairs live (later_since m.placer (repeated n act m).placer (repeated_since n act o m a.roster)) a

  -- turns don't touch the instruments
  pub live_taken : (turns : List Event) → AreLive (after_turns turns m).placer pairs live
  live_taken turns = subst (λ (p : Placements). AreLive p pairs live) (sym (taken_placer turns m)) a

  pub live_dropped : (o : Option MetricFocusPair) → AreLive (dropped_by o m).placer pairs live
  live_dropped None = a
  live_dropped (Some s) = live_done (Drops s.instrument.n) tt

pub live_drops : (ns : List ℕ) (ss : List MetricFocusPair) (m : Instrumented) (pairs : List SampledPair) (live : List ℕ) → AreLive m.placer pairs live → AreLive (dropped_tests ns ss m).placer pairs live
live_drops [] ss m pairs live a = a
live_drops (n ∷ ns) ss m pairs live a =
    live_drops ns ss (dropped_by (tester_of m.placer n ss) m) pairs live (live_dropped m pairs live a (tester_of m.placer n ss))

-- ---- like pairs

-- of one node and instrument
abbrev pub IsAlike : SampledPair → SampledPair → Type 0
IsAlike k j = (j.shown.node ≡ k.shown.node) × (j.shown.instrument ≡ k.shown.instrument)

abbrev pub AreAlike : List SampledPair → List SampledPair → Type 0
AreAlike [] [] = Unit {0}
AreAlike [] (j ∷ js) = ⊥
AreAlike (k ∷ ks) [] = ⊥
AreAlike (k ∷ ks) (j ∷ js) = IsAlike k j × AreAlike ks js

gone_like : (p : Placements) (k j : SampledPair) → IsAlike k j → is_gone_test p k ≡ true → is_gone_test p j ≡ true
gone_like p k j s g = ap₂ (λ (o : Option ℕ) (i : InstrumentNo). is_some o && is_gone (state_of p i.n)) s.0 s.1 ∙ g

below_alike : (n : ℕ) (ks js : List SampledPair) → AreAlike ks js → AreBelow n (shown_in ks) → AreBelow n (shown_in js)
below_alike n [] [] s b = tt
below_alike n [] (j ∷ js) s b = absurd s
below_alike n (k ∷ ks) [] s b = absurd s
below_alike n (k ∷ ks) (j ∷ js) s b = (omega (arith, b.0, ap (λ (i : InstrumentNo). i.n) s.0.1), below_alike n ks js s.1 b.1)

places_like : (n : ℕ) (p : Placements) (ks js : List SampledPair) (live : List ℕ) → AreAlike ks js → AreLiveFrom n p ks live → AreLiveFrom n p js live
places_like n p [] [] live s a = a
places_like n p [] (j ∷ js) live s a = absurd s
places_like n p (k ∷ ks) [] live s a = absurd s
places_like n p (k ∷ ks) (j ∷ js) [] s a = (gone_like p k j s.0 a.0, places_like (n + 1) p ks js [] s.1 a.1)
places_like n p (k ∷ ks) (j ∷ js) (at ∷ live) s (inl a) = inl (a.0, places_like (n + 1) p ks js live s.1 a.1)
places_like n p (k ∷ ks) (j ∷ js) (at ∷ live) s (inr a) = inr (a.0, gone_like p k j s.0 a.1, places_like (n + 1) p ks js (at ∷ live) s.1 a.2)

pub live_like : (p : Placements) (pairs others : List SampledPair) (live : List ℕ) → AreAlike pairs others → AreLive p pairs live → AreLive p others live
live_like p pairs others live s a = record { roster = a.roster; below = below_alike p.count pairs others s a.below; places = places_like 0 p pairs others live s a.places }

-- those that were sampled
alike_sampled : (m : Instrumented) (time : ℕ) (pairs : List SampledPair) → AreAlike pairs (map (pair_sampled m time) pairs)
unfolding pair_sampled
alike_sampled m time [] = tt
alike_sampled m time (k ∷ ks) = (cond_both (is_armed m.placer k.shown) _ k (IsAlike k) (λ _. (refl, refl)) (λ _. (refl, refl)), alike_sampled m time ks)

pub live_sampled : (m : Instrumented) (time : ℕ) (p : Placements) (pairs : List SampledPair) (live : List ℕ) → AreLive p pairs live → AreLive p (map (pair_sampled m time) pairs) live
live_sampled m time p pairs live a = live_like p pairs (map (pair_sampled m time) pairs) live (alike_sampled m time pairs) a

-- and those that were armed
alike_armed : (time : ℕ) (m : Instrumented) (pairs : List SampledPair) → AreAlike pairs (pairs_armed time m pairs)
unfolding pair_armed
alike_armed time m [] = tt
alike_armed time m (k ∷ ks) = (cond_both (is_ready m k.shown) _ k (IsAlike k) (λ _. (refl, refl)) (λ _. (refl, refl)), alike_armed time (machine_armed m k.shown) ks)

pub live_armed : (time : ℕ) (m : Instrumented) (p : Placements) (pairs : List SampledPair) (live : List ℕ) → AreLive p pairs live → AreLive p (pairs_armed time m pairs) live
live_armed time m p pairs live a = live_like p pairs (pairs_armed time m pairs) live (alike_armed time m pairs) a

-- on the machine that armed them
pub arms_are : (m : Instrumented) (pairs : List SampledPair) → machine_of_armed m pairs ≡ arm_all m (shown_in pairs)
arms_are m [] = refl
arms_are m (k ∷ ks) = arms_are (machine_armed m k.shown) ks

pub live_arms : (time : ℕ) (m : Instrumented) (pairs : List SampledPair) (live : List ℕ) → AreLive m.placer pairs live → AreLive (machine_of_armed m pairs).placer (pairs_armed time m pairs) live
live_arms time m pairs live a =
    let later = subst (λ (x : Instrumented). Later m.placer x.placer) (sym (arms_are m pairs)) (later_arms m (shown_in pairs) a.roster) in
    live_armed time m (machine_of_armed m pairs).placer pairs live (live_later m.placer (machine_of_armed m pairs).placer pairs live later a)

-- ---- fewer places, and more

-- before each live place may be a test that is gone
gone_before : (n : ℕ) (p : Placements) (k : SampledPair) (ks : List SampledPair) (live : List ℕ) → is_gone_test p k ≡ true → AreLiveFrom (n + 1) p ks live → AreLiveFrom n p (k ∷ ks) live
gone_before n p k ks [] g a = (g, a)
gone_before n p k ks (at ∷ live) g a = inr (omega (arith, first_live (n + 1) p ks at live a), g, a)

module _ (p : Placements) (front : List SampledPair) (k : SampledPair) (ks : List SampledPair) where
  abbrev all : List SampledPair
  all = front ++ k ∷ ks

  abbrev Behind : List ℕ → Type 0
  Behind live = AreLiveFrom (length front + 1) p ks live

  abbrev From : List ℕ → Type 0
  From live = AreLiveFrom (length front) p (k ∷ ks) live

  forgotten_behind : ((live : List ℕ) → AreLiveFrom (length (front ++ k ∷ [])) p ks live → AreLiveFrom (length (front ++ k ∷ [])) p ks (live_of p ((front ++ k ∷ []) ++ ks) live))
      → (live : List ℕ) → Behind live → Behind (live_of p all live)
  forgotten_behind f live b =
      let e = length_push front k in
      subst (λ (xs : List SampledPair). Behind (live_of p xs live)) (append_assoc front (k ∷ []) ks)
      (subst (λ n. AreLiveFrom n p ks (live_of p ((front ++ k ∷ []) ++ ks) live)) e (f live (subst (λ n. AreLiveFrom n p ks live) (sym e) b)))

  forgotten_here : (b : Bool) → is_gone_test p k ≡ b → (at : ℕ) (live : List ℕ) → at ≡ length front → Behind live → From (cond (not b) (at ∷ live) live)
  forgotten_here true g at live e b = gone_before (length front) p k ks live g b
  forgotten_here false g at live e b = inl (e, b)

  forgotten_next : ((live : List ℕ) → Behind live → Behind (live_of p all live)) → (at : ℕ) (live : List ℕ) → From (at ∷ live) → From (live_of p all (at ∷ live))
  forgotten_next f at live (inl a) =
      let e : option_map_or (is_gone_test p) (slice_get all at) false ≡ is_gone_test p k =
      ap (λ n. option_map_or (is_gone_test p) (slice_get all n) false) a.0 ∙ ap (λ o. option_map_or (is_gone_test p) o false) (get_at front k ks) in
      subst (λ (b : Bool). From (cond (not b) (at ∷ live_of p all live) (live_of p all live))) (sym e)
      (forgotten_here (is_gone_test p k) refl at (live_of p all live) a.0 (f live a.1))
  forgotten_next f at live (inr a) = gone_before (length front) p k ks (live_of p all (at ∷ live)) a.1 (f (at ∷ live) a.2)

forgotten_from : (p : Placements) (front left : List SampledPair) (live : List ℕ) → AreLiveFrom (length front) p left live → AreLiveFrom (length front) p left (live_of p (front ++ left) live)
forgotten_from p front [] [] a = tt
forgotten_from p front [] (at ∷ live) a = absurd a
forgotten_from p front (k ∷ ks) [] a = a
forgotten_from p front (k ∷ ks) (at ∷ live) a =
    forgotten_next p front k ks (forgotten_behind p front k ks (λ rest b. forgotten_from p (front ++ k ∷ []) ks rest b)) at live a

-- tests that are gone may be forgotten
pub live_forgotten : (p : Placements) (pairs : List SampledPair) (live : List ℕ) → AreLive p pairs live → AreLive p pairs (live_of p pairs live)
live_forgotten p pairs live a = record { roster = a.roster; below = a.below; places = forgotten_from p [] pairs live a.places }

put_from : (n : ℕ) (p : Placements) (ks : List SampledPair) (live : List ℕ) (k : SampledPair) → AreLiveFrom n p ks live → AreLiveFrom n p (ks ++ k ∷ []) (live ++ (n + length ks) ∷ [])
put_from n p [] [] k a = inl (omega arith, tt)
put_from n p [] (at ∷ live) k a = absurd a
put_from n p (j ∷ ks) [] k a =
    let e : n + 1 + length ks ≡ n + length (j ∷ ks) = omega arith in
    inr (omega arith, a.0, subst (λ (x : ℕ). AreLiveFrom (n + 1) p (ks ++ k ∷ []) (x ∷ [])) e (put_from (n + 1) p ks [] k a.1))
put_from n p (j ∷ ks) (at ∷ live) k (inl a) =
    let e : n + 1 + length ks ≡ n + length (j ∷ ks) = omega arith in
    inl (a.0, subst (λ (x : ℕ). AreLiveFrom (n + 1) p (ks ++ k ∷ []) (live ++ x ∷ [])) e (put_from (n + 1) p ks live k a.1))
put_from n p (j ∷ ks) (at ∷ live) k (inr a) =
    let e : n + 1 + length ks ≡ n + length (j ∷ ks) = omega arith in
    inr (a.0, a.1, subst (λ (x : ℕ). AreLiveFrom (n + 1) p (ks ++ k ∷ []) (at ∷ (live ++ x ∷ []))) e (put_from (n + 1) p ks (at ∷ live) k a.2))

-- a pair more
pub live_put : (p : Placements) (pairs : List SampledPair) (live : List ℕ) (k : SampledPair) → AreLive p pairs live → k.shown.instrument.n < p.count → AreLive p (pairs ++ k ∷ []) (live ++ length pairs ∷ [])
live_put p pairs live k a l =
    let e : 0 + length pairs ≡ length pairs = omega arith in
    record {
      roster = a.roster;
      below = subst (AreBelow p.count) (sym (map_push (λ (x : SampledPair). x.shown) pairs k)) (below_push p.count (shown_in pairs) k.shown a.below l);
      places = subst (λ (x : ℕ). AreLiveFrom 0 p (pairs ++ k ∷ []) (live ++ x ∷ [])) e (put_from 0 p pairs live k a.places);
    }

-- no pairs
pub live_none : (p : Placements) → AreNumbered p → AreLive p [] []
live_none p r = record { roster = r; below = tt; places = tt }
