-- A walk over the places of those pairs that may still be sampled: between two of them all pairs are tests that are gone.
use Rattle.std.proofs.Common.{◌≡◌, ℕ, ◌+◌, ◌<◌, ◌≤◌, Some, List, [], ◌∷◌, ◌++◌, drop, get_or, set, length, refl, sym, ap, ◌∙◌, subst, inl, inr, arith, append_assoc, append-nil, length-append}
use Rattle.std.specs.Prelude.{true, slice_get}
use Rattle.std.specs.List.{AllByRecursion}
use Rattle.std.proofs.lemmas.List.{drop_all, drop_more, get_or_at, length_push, set_at}
use Rattle.instrument.specs.Placements.{Placements}
use Rattle.session_pairs.specs.declared.pair.SampledPair.{SampledPair}
use Rattle.session_pairs.specs.SampledPairs.{AreLiveFrom, is_gone_test}

-- what holds of the pairs before a place and of those from it on still holds once a test that is gone was passed
abbrev pub Passes : (List SampledPair → List SampledPair → Type 0) → Placements → Type 0
Passes I p = (front : List SampledPair) (k : SampledPair) (left : List SampledPair) → is_gone_test p k ≡ true → I front (k ∷ left) → I (front ++ k ∷ []) left

-- The walk came so far: I holds of the pairs before a place and of those from it on, and these live places are to come.
pub record Walk (I : List SampledPair → List SampledPair → Type 0) (p : Placements) (now : List SampledPair) (live : List ℕ) : Type 0 where
  pub front : List SampledPair
  pub left : List SampledPair
  pub all : now ≡ front ++ left
  pub places : AreLiveFrom (length front) p left live
  pub holds : I front left

-- it is at the next live place, that of pair k
pub record Here (I : List SampledPair → List SampledPair → Type 0) (p : Placements) (now : List SampledPair) (at : ℕ) (k : SampledPair) (live : List ℕ) : Type 0 where
  pub front : List SampledPair
  pub behind : List SampledPair
  pub all : now ≡ front ++ k ∷ behind
  pub place : at ≡ length front
  pub places : AreLiveFrom (length front + 1) p behind live
  pub holds : I front (k ∷ behind)

pub walk_start : (I : List SampledPair → List SampledPair → Type 0) (p : Placements) (now : List SampledPair) (live : List ℕ) → AreLiveFrom 0 p now live → I [] now → Walk I p now live
walk_start I p now live a h = record { front = []; left = now; all = refl; places = a; holds = h }

module _ (I : List SampledPair → List SampledPair → Type 0) (p : Placements) (pass : Passes I p) where
  -- the next live place is that of some pair
  from : (front left : List SampledPair) (at : ℕ) (live : List ℕ) → AreLiveFrom (length front) p left (at ∷ live) → I front left → (k : SampledPair) × Here I p (front ++ left) at k live
  from front [] at live a h = absurd a
  from front (k ∷ left) at live (inl a) h = (k, record { front = front; behind = left; all = refl; place = a.0; places = a.1; holds = h })
  from front (k ∷ left) at live (inr a) h =
      let r = from (front ++ k ∷ []) left at live (subst (λ n. AreLiveFrom n p left (at ∷ live)) (sym (length_push front k)) a.2) (pass front k left a.1 h) in
      (r.0, subst (λ xs. Here I p xs at r.0 live) (append_assoc front (k ∷ []) left) r.1)

  -- no live place is left
  last : (front left : List SampledPair) → AreLiveFrom (length front) p left [] → I front left → I (front ++ left) []
  last front [] a h = subst (λ xs. I xs []) (sym (append-nil front)) h
  last front (k ∷ left) a h =
      subst (λ xs. I xs []) (append_assoc front (k ∷ []) left)
      (last (front ++ k ∷ []) left (subst (λ n. AreLiveFrom n p left []) (sym (length_push front k)) a.1) (pass front k left a.0 h))

module _ {I : List SampledPair → List SampledPair → Type 0} {p : Placements} {now : List SampledPair} (pass : Passes I p) where
  next : {at : ℕ} {live : List ℕ} → Walk I p now (at ∷ live) → (k : SampledPair) × Here I p now at k live
  next {at} {live} w =
      let r = from I p pass w.front w.left at live w.places w.holds in
      (r.0, subst (λ xs. Here I p xs at r.0 live) (sym w.all) r.1)

  -- the next live place is that of the pair that was read there
  pub walk_at : {at : ℕ} {live : List ℕ} → Walk I p now (at ∷ live) → (k : SampledPair) → k ≡ get_or now at k → Here I p now at k live
  walk_at {at} {live} w k e =
      let r = next w in
      let h = r.1 in
      let same : k ≡ r.0 = e ∙ (ap (λ xs. get_or xs at k) h.all ∙ get_or_at h.front r.0 h.behind k at (sym h.place)) in
      subst (λ x. Here I p now at x live) (sym same) h

  pub walk_within : {at : ℕ} {live : List ℕ} → Walk I p now (at ∷ live) → at < length now
  walk_within w =
      let r = next w in
      let h = r.1 in
      omega (arith, h.place, ap length h.all, length-append h.front (r.0 ∷ h.behind))

  pub walk_end : Walk I p now [] → I now []
  walk_end w = subst (λ xs. I xs []) (sym w.all) (last I p pass w.front w.left w.places w.holds)

-- It goes on after the pair, of which then J holds.
module _ {I : List SampledPair → List SampledPair → Type 0} {p : Placements} {now : List SampledPair} {at : ℕ} {k : SampledPair} {live : List ℕ} (h : Here I p now at k live) (J : List SampledPair → List SampledPair → Type 0) (q : Placements)
    (a : AreLiveFrom (length h.front + 1) q h.behind live) where
  -- which became another
  pub walk_on : (new : SampledPair) → J (h.front ++ new ∷ []) h.behind → Walk J q (set now at new) live
  walk_on new j = record {
    front = h.front ++ new ∷ [];
    left = h.behind;
    all = ap (λ xs. set xs at new) h.all ∙ (set_at h.front k h.behind new at (sym h.place) ∙ sym (append_assoc h.front (new ∷ []) h.behind));
    places = subst (λ n. AreLiveFrom n q h.behind live) (sym (length_push h.front new)) a;
    holds = j;
  }

  -- or stayed what it was
  pub walk_past : J (h.front ++ k ∷ []) h.behind → Walk J q now live
  walk_past j = record {
    front = h.front ++ k ∷ [];
    left = h.behind;
    all = h.all ∙ sym (append_assoc h.front (k ∷ []) h.behind);
    places = subst (λ n. AreLiveFrom n q h.behind live) (sym (length_push h.front k)) a;
    holds = j;
  }

-- ---- in a turn of a loop

-- the live place that is read, and those after it
pub live_turn : (live : List ℕ) (turn at d : ℕ) → turn < length live → at ≡ get_or live turn d → drop turn live ≡ at ∷ drop (turn + 1) live
live_turn live turn at d l e = drop_more live turn d l ∙ ap (λ n. n ∷ drop (turn + 1) live) (sym e)

-- it is next
pub turn_next : {I : List SampledPair → List SampledPair → Type 0} {p : Placements} {now : List SampledPair} (live : List ℕ) (turn at d : ℕ) → turn < length live → at ≡ get_or live turn d
    → Walk I p now (drop turn live) → Walk I p now (at ∷ drop (turn + 1) live)
turn_next {I} {p} {now} live turn at d l e w = subst (Walk I p now) (live_turn live turn at d l e) w

-- none is left
pub turn_last : {I : List SampledPair → List SampledPair → Type 0} {p : Placements} {now : List SampledPair} (live : List ℕ) (turn : ℕ) → length live ≤ turn → Walk I p now (drop turn live) → Walk I p now []
turn_last {I} {p} {now} live turn l w = subst (Walk I p now) (drop_all turn live l) w

-- ---- live places

-- each is below the number of pairs
pub live_within : (n : ℕ) (p : Placements) (ks : List SampledPair) (live : List ℕ) → AreLiveFrom n p ks live → AllByRecursion (λ at. at < n + length ks) live
live_within n p [] [] a = tt
live_within n p [] (at ∷ live) a = absurd a
live_within n p (k ∷ ks) [] a = tt
live_within n p (k ∷ ks) (at ∷ live) (inl a) =
    let e : n + 1 + length ks ≡ n + length (k ∷ ks) = omega arith in
    (omega (arith, a.0), subst (λ m. AllByRecursion (λ at. at < m) live) e (live_within (n + 1) p ks live a.1))
live_within n p (k ∷ ks) (at ∷ live) (inr a) =
    let e : n + 1 + length ks ≡ n + length (k ∷ ks) = omega arith in
    subst (λ m. AllByRecursion (λ at. at < m) (at ∷ live)) e (live_within (n + 1) p ks (at ∷ live) a.2)

-- no more than pairs
pub few_live : (n : ℕ) (p : Placements) (ks : List SampledPair) (live : List ℕ) → AreLiveFrom n p ks live → length live ≤ length ks
few_live n p [] [] a = omega arith
few_live n p [] (at ∷ live) a = absurd a
few_live n p (k ∷ ks) [] a = omega arith
few_live n p (k ∷ ks) (at ∷ live) (inl a) = omega (arith, few_live (n + 1) p ks live a.1)
few_live n p (k ∷ ks) (at ∷ live) (inr a) = omega (arith, few_live (n + 1) p ks (at ∷ live) a.2)

-- none is before the first place or after it
pub first_live : (n : ℕ) (p : Placements) (ks : List SampledPair) (at : ℕ) (live : List ℕ) → AreLiveFrom n p ks (at ∷ live) → n ≤ at
first_live n p [] at live a = absurd a
first_live n p (k ∷ ks) at live (inl a) = omega (arith, a.0)
first_live n p (k ∷ ks) at live (inr a) = omega (arith, a.0)

-- a pair after others is at the place after theirs
pub get_at : (front : List SampledPair) (k : SampledPair) (ks : List SampledPair) → slice_get (front ++ k ∷ ks) (length front) ≡ Some k
get_at [] k ks = refl
get_at (x ∷ front) k ks = get_at front k ks
