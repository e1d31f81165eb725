-- The list of pairs, where those at live places are armed one after another.
use Rattle.std.proofs.Common.{◌≡◌, ℕ, List, [], ◌∷◌, ◌++◌, refl, sym, ap, ap₂, subst, ◌∙◌, append_assoc, append-nil}
use Rattle.std.specs.Prelude.{true}
use Rattle.std.specs.List.{AllByRecursion}
use Rattle.instrumented.specs.Instrumented.{Instrumented}
use Rattle.session_spec.specs.Due.{is_ready, machine_armed}
use Rattle.session_spec.specs.Rosters.{AreBelow, AreNumbered}
use Rattle.session_spec.proofs.Likes.{below_more}
use Rattle.session_spec.proofs.Spending.{later_ready}
use Rattle.session_pairs.specs.declared.pair.SampledPair.{SampledPair}
use Rattle.session_pairs.specs.SampledPairs.{AreLiveFrom, HasHarts, is_gone_test, pair_armed, pairs_armed, machine_of_armed}
use Rattle.session_pairs.proofs.Arms.{same, same_pair}
use Rattle.session_pairs.proofs.Dropped.{shown_in}
use Rattle.session_pairs.proofs.GoneTests.{gone_unready}
use Rattle.session_pairs.proofs.Live.{places_later}

-- The pairs before a place were armed, of the old ones, which made this machine of the first, and those from it on weren't yet.
pub record AreArmed (time : ℕ) (first : Instrumented) (old : List SampledPair) (h : ℕ) (m : Instrumented) (front left : List SampledPair) : Type 0 where
  pub machine : machine_of_armed m left ≡ machine_of_armed first old
  pub done : front ++ pairs_armed time m left ≡ pairs_armed time first old
  pub roster : AreNumbered m.placer
  pub below : AreBelow m.placer.count (shown_in left)
  pub harts : AllByRecursion (HasHarts h) left

module _ (time : ℕ) (first : Instrumented) (old : List SampledPair) (harts : ℕ) where
  -- a test that is gone stays what it is
  pub armed_pass : (m : Instrumented) (front : List SampledPair) (k : SampledPair) (left : List SampledPair) → is_gone_test m.placer k ≡ true
      → AreArmed time first old harts m front (k ∷ left) → AreArmed time first old harts m (front ++ k ∷ []) left
  armed_pass m front k left g h =
      let off = gone_unready m k g in
      record {
        machine = ap (λ (x : Instrumented). machine_of_armed x left) (same m k off) ∙ h.machine;
        done = append_assoc front (k ∷ []) (pairs_armed time m left)
            ∙ (ap₂ (λ (x : SampledPair) (y : Instrumented). front ++ x ∷ pairs_armed time y left) (same_pair m k time off) (same m k off) ∙ h.done);
        roster = h.roster;
        below = (h.below).1;
        harts = (h.harts).1;
      }

  -- a pair is armed, if it is ready
  pub armed_more : (m : Instrumented) (front : List SampledPair) (k : SampledPair) (left : List SampledPair) → AreArmed time first old harts m front (k ∷ left)
      → (new : SampledPair) (now : Instrumented) → new ≡ pair_armed time m k → now ≡ machine_armed m k.shown → AreArmed time first old harts now (front ++ new ∷ []) left
  armed_more m front k left h new now is to =
      let l = later_ready (is_ready m k.shown) m k.shown refl h.roster in
      subst (λ (x : Instrumented). AreArmed time first old harts x (front ++ new ∷ []) left) (sym to)
      (record {
        machine = h.machine;
        done = append_assoc front (new ∷ []) (pairs_armed time (machine_armed m k.shown) left)
            ∙ (ap (λ (x : SampledPair). front ++ x ∷ pairs_armed time (machine_armed m k.shown) left) is ∙ h.done);
        roster = l.roster;
        below = below_more m.placer.count (machine_armed m k.shown).placer.count (shown_in left) l.count (h.below).1;
        harts = (h.harts).1;
      })

  -- the live places after it stay so
  pub armed_places : (m : Instrumented) (front : List SampledPair) (k : SampledPair) (left : List SampledPair) → AreArmed time first old harts m front (k ∷ left)
      → (n : ℕ) (live : List ℕ) → AreLiveFrom n m.placer left live → (now : Instrumented) → now ≡ machine_armed m k.shown → AreLiveFrom n now.placer left live
  armed_places m front k left h n live a now to =
      let l = later_ready (is_ready m k.shown) m k.shown refl h.roster in
      subst (λ (x : Instrumented). AreLiveFrom n x.placer left live) (sym to) (places_later n m.placer (machine_armed m k.shown).placer left live l (h.below).1 a)

  -- all were
  pub all_armed : (m : Instrumented) (now : List SampledPair) → AreArmed time first old harts m now [] → (now ≡ pairs_armed time first old) × (m ≡ machine_of_armed first old)
  all_armed m now h = (sym (append-nil now) ∙ h.done, h.machine)
