-- An entry is taken out of its bucket.
use Rattle.std.proofs.Common.{◌≡◌, ℕ, ◌+◌, ◌<◌, ◌≤◌, Option, Some, None, List, length, set, get_or, inl, inr, ◌⊎◌, sym, ap, ◌∙◌, subst, arith}
use Rattle.std.proofs.lemmas.Bool.{cases_lt}
use Rattle.std.proofs.lemmas.List.{get_or-set_same, get_or-set_other, length-set}
use Rattle.std.proofs.lemmas.Option.{same_Some}
use Rattle.bucket_chains.specs.Entries.{bucket_at, IsFirst, HasNone, HasNoMore}
use Rattle.bucket_chains.specs.Chained.{IsNextBelow, IsChained, IsLast}
use Rattle.bucket_chains.specs.declared.chains.TheConstants.{BUCKETS}
use Rattle.bucket_chains.proofs.Places.{within, kept, was, same_or_other}

-- the two halves of the chains after a removal: the ways forward and back
pub record Forward (buckets nexts firsts : List (Option ℕ)) : Type 0 where
  pub next_places : length nexts ≡ length buckets
  pub below : (i b : ℕ) → bucket_at buckets i ≡ Some b → b < BUCKETS
  pub next : (i b : ℕ) → bucket_at buckets i ≡ Some b → IsFirst b (i + 1) buckets (get_or nexts i None)
  pub first : (b : ℕ) → b < BUCKETS → IsFirst b 0 buckets (get_or firsts b None)

pub record Backward (buckets previous lasts : List (Option ℕ)) : Type 0 where
  pub previous_places : length previous ≡ length buckets
  pub before : (i b : ℕ) → bucket_at buckets i ≡ Some b → IsNextBelow b (get_or previous i None) i buckets
  pub last : (b : ℕ) → b < BUCKETS → IsLast b buckets (get_or lasts b None)

pub both : {buckets nexts previous firsts lasts : List (Option ℕ)} → Forward buckets nexts firsts → Backward buckets previous lasts → IsChained buckets nexts previous firsts lasts
both f k =
    record {
      next_places = f.next_places;
      previous_places = k.previous_places;
      below = f.below;
      next = f.next;
      before = k.before;
      first = f.first;
      last = k.last;
    }

module _ (es : List (Option ℕ)) (b place : ℕ) (there : bucket_at es place ≡ Some b) where
  abbrev pub less : List (Option ℕ)
  less = set es place None

  none_left : (c from to : ℕ) → HasNone c from to es → HasNone c from to less
  none_left c from to h i ge lt at = h i ge lt (was es place i c at).0

  no_more_left : (c from : ℕ) → HasNoMore c from es → HasNoMore c from less
  no_more_left c from h i ge at = h i ge (was es place i c at).0

  first_stays : (c from : ℕ) (r : Option ℕ) → (r ≡ Some place → ⊥) → IsFirst c from es r → IsFirst c from less r
  first_stays c from None apart h = no_more_left c from h
  first_stays c from (Some p) apart h = (h.0, kept es place p c (λ e. apart (ap Some e)) h.1, none_left c from p h.2)

  last_stays : (c : ℕ) (r : Option ℕ) → (r ≡ Some place → ⊥) → IsLast c es r → IsLast c less r
  last_stays c None apart h = no_more_left c 0 h
  last_stays c (Some p) apart h = (kept es place p c (λ e. apart (ap Some e)) h.0, no_more_left c (p + 1) h.1)

  -- the next entry becomes the first
  first_passes : (from : ℕ) (next : Option ℕ) → IsFirst b from es (Some place) → IsFirst b (place + 1) es next → IsFirst b from less next
  first_passes from None h n = none
    where
      none : HasNoMore b from less
      none i ge at = by (was es place i b at) (cases_lt i place)
        where
          by : (bucket_at es i ≡ Some b) × (i ≡ place → ⊥) → (i < place) ⊎ (place ≤ i) → ⊥
          by w (inl lt) = h.2 i ge lt w.0
          by w (inr le) = n i (omega (arith, le, w.1)) w.0
  first_passes from (Some j) h n =
      (omega (arith, h.0, n.0), kept es place j b (λ e. absurd (omega (arith, e, n.0))) n.1, none)
    where
      none : HasNone b from j less
      none i ge lt at = by (was es place i b at) (cases_lt i place)
        where
          by : (bucket_at es i ≡ Some b) × (i ≡ place → ⊥) → (i < place) ⊎ (place ≤ i) → ⊥
          by w (inl below) = h.2 i ge below w.0
          by w (inr le) = n.2 i (omega (arith, le, w.1)) lt w.0

  same_bucket : (c : ℕ) → bucket_at es place ≡ Some c → c ≡ b
  same_bucket c at = same_Some c b (sym at ∙ there)

  -- where the place is no first one, it is none after the removal
  first_left : (c from : ℕ) (r : Option ℕ) → IsFirst c from es r → (IsFirst b from es (Some place) → c ≡ b → ⊥) → IsFirst c from less r
  first_left c from r h apart = first_stays c from r by h
    where
      by : r ≡ Some place → ⊥
      by e =
          let at : IsFirst c from es (Some place) = subst (IsFirst c from es) e h in
          let same : c ≡ b = same_bucket c at.1 in
          apart (subst (λ k. IsFirst k from es (Some place)) same at) same

  module _ (ns ps fs ls : List (Option ℕ)) (chained : IsChained es ns ps fs ls) where
    lt : b < BUCKETS
    lt = chained.below place b there

    follows : IsFirst b (place + 1) es (get_or ns place None)
    follows = chained.next place b there

    belows : (i c : ℕ) → bucket_at less i ≡ Some c → c < BUCKETS
    belows i c at = chained.below i c (was es place i c at).0

    -- the first entry of its bucket leaves
    pub first_leaves : length fs ≡ BUCKETS → HasNone b 0 place es → Forward less ns (set fs b (get_or ns place None))
    first_leaves long none =
        record {
          next_places = chained.next_places ∙ sym (length-set es place None);
          below = belows;
          next = next;
          first = first;
        }
      where
        next : (i c : ℕ) → bucket_at less i ≡ Some c → IsFirst c (i + 1) less (get_or ns i None)
        next i c at =
            let before : bucket_at es i ≡ Some c = (was es place i c at).0 in
            first_left c (i + 1) (get_or ns i None) (chained.next i c before) (λ h e. none i (omega arith) (omega (arith, h.0)) (before ∙ ap Some e))

        first : (c : ℕ) → c < BUCKETS → IsFirst c 0 less (get_or (set fs b (get_or ns place None)) c None)
        first c below = by (same_or_other c b)
          where
            by : (c ≡ b) ⊎ (c ≡ b → ⊥) → IsFirst c 0 less (get_or (set fs b (get_or ns place None)) c None)
            by (inl e) =
                subst (λ k. IsFirst k 0 less (get_or (set fs b (get_or ns place None)) k None)) (sym e)
                (subst (IsFirst b 0 less) (sym (get_or-set_same fs b (get_or ns place None) None (omega (arith, lt, long))))
                (first_passes 0 (get_or ns place None) (omega arith, there, none) follows))
            by (inr other) =
                subst (IsFirst c 0 less) (sym (get_or-set_other fs b c (get_or ns place None) None other))
                (first_left c 0 (get_or fs c None) (chained.first c below) (λ h e. other e))

    -- one entry leads to none, and comes after another
    pub later_leaves : (q : ℕ) → IsNextBelow b (Some q) place es → Forward less (set ns q (get_or ns place None)) fs
    later_leaves q behind =
        record {
          next_places = length-set ns q (get_or ns place None) ∙ chained.next_places ∙ sym (length-set es place None);
          below = belows;
          next = next;
          first = λ c below. first_left c 0 (get_or fs c None) (chained.first c below) (λ h e. h.2 q (omega arith) behind.0 behind.1);
        }
      where
        next : (i c : ℕ) → bucket_at less i ≡ Some c → IsFirst c (i + 1) less (get_or (set ns q (get_or ns place None)) i None)
        next i c at = by (was es place i c at).0 (same_or_other i q)
          where
            by : bucket_at es i ≡ Some c → (i ≡ q) ⊎ (i ≡ q → ⊥) → IsFirst c (i + 1) less (get_or (set ns q (get_or ns place None)) i None)
            by before (inl e) =
                let same : c ≡ b = same_Some c b (sym before ∙ ap (bucket_at es) e ∙ behind.1) in
                subst (λ k. IsFirst k (i + 1) less (get_or (set ns q (get_or ns place None)) i None)) (sym same)
                (subst (λ k. IsFirst b (k + 1) less (get_or (set ns q (get_or ns place None)) k None)) (sym e)
                (subst (IsFirst b (q + 1) less) (sym (get_or-set_same ns q (get_or ns place None) None (omega (arith, within es q b behind.1, chained.next_places))))
                (first_passes (q + 1) (get_or ns place None) (omega (arith, behind.0), there, behind.2) follows)))
            by before (inr apart) =
                subst (IsFirst c (i + 1) less) (sym (get_or-set_other ns q i (get_or ns place None) None apart))
                (first_left c (i + 1) (get_or ns i None) (chained.next i c before) between)
              where
                between : IsFirst b (i + 1) es (Some place) → c ≡ b → ⊥
                between h e = side (cases_lt i q)
                  where
                    side : (i < q) ⊎ (q ≤ i) → ⊥
                    side (inl small) = h.2 q (omega (arith, small)) behind.0 behind.1
                    side (inr le) = behind.2 i (omega (arith, le, apart)) (omega (arith, h.0)) (before ∙ ap Some e)

    -- the one before the entry
    behind : IsNextBelow b (get_or ps place None) place es
    behind = chained.before place b there

    behind_stays : (c i : ℕ) (r : Option ℕ) → (r ≡ Some place → ⊥) → IsNextBelow c r i es → IsNextBelow c r i less
    behind_stays c i None apart h = none_left c 0 i h
    behind_stays c i (Some q) apart h = (h.0, kept es place q c (λ e. apart (ap Some e)) h.1, none_left c (q + 1) i h.2)

    -- the last entry of its bucket leaves
    pub last_leaves : length ls ≡ BUCKETS → HasNoMore b (place + 1) es → Backward less ps (set ls b (get_or ps place None))
    last_leaves long none =
        record {
          previous_places = chained.previous_places ∙ sym (length-set es place None);
          before = before;
          last = last;
        }
      where
        before : (i c : ℕ) → bucket_at less i ≡ Some c → IsNextBelow c (get_or ps i None) i less
        before i c at =
            let at_first : bucket_at es i ≡ Some c = (was es place i c at).0 in
            behind_stays c i (get_or ps i None) (apart at_first) (chained.before i c at_first)
          where
            apart : bucket_at es i ≡ Some c → get_or ps i None ≡ Some place → ⊥
            apart here e =
                let h : IsNextBelow c (Some place) i es = subst (λ r. IsNextBelow c r i es) e (chained.before i c here) in
                none i (omega (arith, h.0)) (here ∙ ap Some (same_bucket c h.1))

        own : (r : Option ℕ) → IsNextBelow b r place es → IsLast b less r
        own None h = first_passes 0 None (omega arith, there, h) none
        own (Some q) h = (kept es place q b (λ e. absurd (omega (arith, e, h.0))) h.1, first_passes (q + 1) None (omega (arith, h.0), there, h.2) none)

        last : (c : ℕ) → c < BUCKETS → IsLast c less (get_or (set ls b (get_or ps place None)) c None)
        last c below = by (same_or_other c b)
          where
            by : (c ≡ b) ⊎ (c ≡ b → ⊥) → IsLast c less (get_or (set ls b (get_or ps place None)) c None)
            by (inl e) =
                subst (λ k. IsLast k less (get_or (set ls b (get_or ps place None)) k None)) (sym e)
                (subst (IsLast b less) (sym (get_or-set_same ls b (get_or ps place None) None (omega (arith, lt, long)))) (own (get_or ps place None) behind))
            by (inr other) =
                subst (IsLast c less) (sym (get_or-set_other ls b c (get_or ps place None) None other))
                (last_stays c (get_or ls c None) (λ e. other (same_bucket c (subst (IsLast c es) e (chained.last c below)).0)) (chained.last c below))

    -- one leaves before another
    pub earlier_leaves : (j : ℕ) → IsFirst b (place + 1) es (Some j) → Backward less (set ps j (get_or ps place None)) ls
    earlier_leaves j another =
        record {
          previous_places = length-set ps j (get_or ps place None) ∙ chained.previous_places ∙ sym (length-set es place None);
          before = before;
          last = last;
        }
      where
        -- the other comes after the one before
        passes : (r : Option ℕ) → IsNextBelow b r place es → IsNextBelow b r j less
        passes None h = none
          where
            none : HasNone b 0 j less
            none i ge below at = by (was es place i b at) (cases_lt i place)
              where
                by : (bucket_at es i ≡ Some b) × (i ≡ place → ⊥) → (i < place) ⊎ (place ≤ i) → ⊥
                by w (inl small) = h i ge small w.0
                by w (inr le) = another.2 i (omega (arith, le, w.1)) below w.0
        passes (Some q) h = (omega (arith, h.0, another.0), kept es place q b (λ e. absurd (omega (arith, e, h.0))) h.1, none)
          where
            none : HasNone b (q + 1) j less
            none i ge below at = by (was es place i b at) (cases_lt i place)
              where
                by : (bucket_at es i ≡ Some b) × (i ≡ place → ⊥) → (i < place) ⊎ (place ≤ i) → ⊥
                by w (inl small) = h.2 i ge small w.0
                by w (inr le) = another.2 i (omega (arith, le, w.1)) below w.0

        before : (i c : ℕ) → bucket_at less i ≡ Some c → IsNextBelow c (get_or (set ps j (get_or ps place None)) i None) i less
        before i c at = by (was es place i c at) (same_or_other i j)
          where
            by : (bucket_at es i ≡ Some c) × (i ≡ place → ⊥) → (i ≡ j) ⊎ (i ≡ j → ⊥) → IsNextBelow c (get_or (set ps j (get_or ps place None)) i None) i less
            by w (inl e) =
                let same : c ≡ b = same_Some c b (sym w.0 ∙ ap (bucket_at es) e ∙ another.1) in
                subst (λ k. IsNextBelow k (get_or (set ps j (get_or ps place None)) i None) i less) (sym same)
                (subst (λ k. IsNextBelow b (get_or (set ps j (get_or ps place None)) k None) k less) (sym e)
                (subst (λ r. IsNextBelow b r j less) (sym (get_or-set_same ps j (get_or ps place None) None (omega (arith, within es j b another.1, chained.previous_places))))
                (passes (get_or ps place None) behind)))
            by w (inr other) =
                subst (λ r. IsNextBelow c r i less) (sym (get_or-set_other ps j i (get_or ps place None) None other))
                (behind_stays c i (get_or ps i None) apart (chained.before i c w.0))
              where
                apart : get_or ps i None ≡ Some place → ⊥
                apart e = side (cases_lt i j)
                  where
                    h : IsNextBelow c (Some place) i es
                    h = subst (λ r. IsNextBelow c r i es) e (chained.before i c w.0)

                    same : c ≡ b
                    same = same_bucket c h.1

                    side : (i < j) ⊎ (j ≤ i) → ⊥
                    side (inl small) = another.2 i (omega (arith, h.0)) small (w.0 ∙ ap Some same)
                    side (inr le) = h.2 j (omega (arith, another.0)) (omega (arith, le, other)) (another.1 ∙ ap Some (sym same))

        last : (c : ℕ) → c < BUCKETS → IsLast c less (get_or ls c None)
        last c below = last_stays c (get_or ls c None) apart (chained.last c below)
          where
            apart : get_or ls c None ≡ Some place → ⊥
            apart e =
                let at : IsLast c es (Some place) = subst (IsLast c es) e (chained.last c below) in
                at.1 j another.0 (another.1 ∙ ap Some (sym (same_bucket c at.0)))
