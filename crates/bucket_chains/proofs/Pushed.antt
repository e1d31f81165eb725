-- One entry more, after the others.
use Rattle.std.proofs.Common.{◌≡◌, ℕ, ◌+◌, ◌<◌, ◌≤◌, Option, Some, None, List, [], ◌∷◌, ◌++◌, length, set, get_or, inl, inr, ◌⊎◌, sym, ap, ◌∙◌, subst, arith}
use Rattle.std.proofs.lemmas.List.{get_or_append_left, get_or-set_same, get_or-set_other, length-set, length-append}
use Rattle.std.proofs.lemmas.Bool.{cases_lt}
use Rattle.std.proofs.lemmas.Option.{none-some, same_Some}
use Rattle.bucket_chains.specs.Entries.{bucket_at, IsFirst, HasNone, HasNoMore}
use Rattle.bucket_chains.specs.Chained.{IsNextBelow, IsChained, IsLast}
use Rattle.bucket_chains.specs.declared.chains.TheConstants.{BUCKETS}
use Rattle.bucket_chains.proofs.Places.{within, still, behind, came, same_or_other}

module _ (es : List (Option ℕ)) (b : ℕ) where
  abbrev pub more : List (Option ℕ)
  more = es ++ Some b ∷ []

  none_between : (c from to : ℕ) → to ≤ length es → HasNone c from to es → HasNone c from to more
  none_between c from to le h i ge lt at = by (came es (Some b) i c at)
    where
      by : (bucket_at es i ≡ Some c) ⊎ ((i ≡ length es) × (Some b ≡ Some c)) → ⊥
      by (inl was) = h i ge lt was
      by (inr new) = absurd (omega (arith, new.0))

  -- the first one of a bucket stays the first
  pub first_stays : (c from place : ℕ) → IsFirst c from es (Some place) → IsFirst c from more (Some place)
  first_stays c from place h =
      let lt : place < length es = within es place c h.1 in
      (h.0, still es (Some b) place c h.1, none_between c from place (omega (arith, lt)) h.2)

  pub none_more : (c from : ℕ) → (c ≡ b → ⊥) → HasNoMore c from es → HasNoMore c from more
  none_more c from other h i ge at = by (came es (Some b) i c at)
    where
      by : (bucket_at es i ≡ Some c) ⊎ ((i ≡ length es) × (Some b ≡ Some c)) → ⊥
      by (inl was) = h i ge was
      by (inr new) = other (sym (same_Some b c new.1))

  pub first_comes : (from : ℕ) → from ≤ length es → HasNoMore b from es → IsFirst b from more (Some (length es))
  first_comes from le h = (le, behind es (Some b), none)
    where
      none : HasNone b from (length es) more
      none i ge lt at = by (came es (Some b) i b at)
        where
          by : (bucket_at es i ≡ Some b) ⊎ ((i ≡ length es) × (Some b ≡ Some b)) → ⊥
          by (inl was) = h i ge was
          by (inr new) = absurd (omega (arith, new.0, lt))

  -- where bucket b has an entry from there on, the new one is no bucket's first
  pub first_kept : (c from : ℕ) (r : Option ℕ) → (c ≡ b → (j : ℕ) × (from ≤ j) × (bucket_at es j ≡ Some b)) → IsFirst c from es r → IsFirst c from more r
  first_kept c from None there h = none_more c from (λ e. h (there e).0 (there e).1 ((there e).2 ∙ ap Some (sym e))) h
  first_kept c from (Some place) there h = first_stays c from place h

  no_more : HasNoMore b (length es + 1) more
  no_more i ge at = by (came es (Some b) i b at)
    where
      by : (bucket_at es i ≡ Some b) ⊎ ((i ≡ length es) × (Some b ≡ Some b)) → ⊥
      by (inl was) = absurd (omega (arith, ge, within es i b was))
      by (inr new) = absurd (omega (arith, ge, new.0))

  -- the last of each bucket
  last_kept : (c : ℕ) (r : Option ℕ) → (c ≡ b → ⊥) → IsLast c es r → IsLast c more r
  last_kept c None other h = none_more c 0 other h
  last_kept c (Some place) other h = (still es (Some b) place c h.0, none_more c (place + 1) other h.1)

  -- the one before each entry
  behind_kept : (c place : ℕ) (r : Option ℕ) → place ≤ length es → IsNextBelow c r place es → IsNextBelow c r place more
  behind_kept c place None le h = none_between c 0 place le h
  behind_kept c place (Some q) le h = (h.0, still es (Some b) q c h.1, none_between c (q + 1) place le h.2)

  behind_last : (r : Option ℕ) → IsLast b es r → IsNextBelow b r (length es) more
  behind_last None h = none_between b 0 (length es) (omega arith) (λ i ge lt at. h i ge at)
  behind_last (Some q) h = (within es q b h.0, still es (Some b) q b h.0, none_between b (q + 1) (length es) (omega arith) (λ i ge lt at. h.1 i ge at))

  module _ (ns ps fs ls : List (Option ℕ)) (chained : IsChained es ns ps fs ls) (lt : b < BUCKETS) (long : length ls ≡ BUCKETS) where
    lasts : (c : ℕ) → c < BUCKETS → IsLast c more (get_or (set ls b (Some (length es))) c None)
    lasts c below = by (same_or_other c b)
      where
        by : (c ≡ b) ⊎ (c ≡ b → ⊥) → IsLast c more (get_or (set ls b (Some (length es))) c None)
        by (inl e) =
            subst (λ k. IsLast k more (get_or (set ls b (Some (length es))) k None)) (sym e)
            (subst (IsLast b more) (sym (get_or-set_same ls b (Some (length es)) None (omega (arith, lt, long))))
            (behind es (Some b), no_more))
        by (inr other) = subst (IsLast c more) (sym (get_or-set_other ls b c (Some (length es)) None other)) (last_kept c (get_or ls c None) other (chained.last c below))

    -- the next after an entry of the list before
    next_was : (i c : ℕ) → bucket_at es i ≡ Some c → get_or (ns ++ None ∷ []) i None ≡ get_or ns i None
    next_was i c at = get_or_append_left ns (None ∷ []) None i (omega (arith, within es i c at, chained.next_places))

    next_new : get_or (ns ++ None ∷ []) (length es) None ≡ None
    next_new = ap (λ k. get_or (ns ++ None ∷ []) k None) (sym chained.next_places) ∙ behind ns None

    abbrev ps_more : List (Option ℕ)
    ps_more = ps ++ get_or ls b None ∷ []

    befores : (i c : ℕ) → bucket_at more i ≡ Some c → IsNextBelow c (get_or ps_more i None) i more
    befores i c at = by (came es (Some b) i c at)
      where
        by : (bucket_at es i ≡ Some c) ⊎ ((i ≡ length es) × (Some b ≡ Some c)) → IsNextBelow c (get_or ps_more i None) i more
        by (inl was) =
            let lt : i < length es = within es i c was in
            subst (λ r. IsNextBelow c r i more) (sym (get_or_append_left ps (get_or ls b None ∷ []) None i (omega (arith, lt, chained.previous_places))))
            (behind_kept c i (get_or ps i None) (omega (arith, lt)) (chained.before i c was))
        by (inr new) =
            let at_end : i ≡ length ps = new.0 ∙ sym chained.previous_places in
            subst (λ k. IsNextBelow k (get_or ps_more i None) i more) (same_Some b c new.1)
            (subst (λ r. IsNextBelow b r i more) (sym (ap (λ k. get_or ps_more k None) at_end ∙ behind ps (get_or ls b None)))
            (subst (λ k. IsNextBelow b (get_or ls b None) k more) (sym new.0) (behind_last (get_or ls b None) (chained.last b lt))))

    belows : (i c : ℕ) → bucket_at more i ≡ Some c → c < BUCKETS
    belows i c at = by (came es (Some b) i c at)
      where
        by : (bucket_at es i ≡ Some c) ⊎ ((i ≡ length es) × (Some b ≡ Some c)) → c < BUCKETS
        by (inl was) = chained.below i c was
        by (inr new) = subst (λ k. k < BUCKETS) (same_Some b c new.1) lt

    -- the first entry of its bucket
    pub pushed_first : length fs ≡ BUCKETS → get_or ls b None ≡ None → IsChained more (ns ++ None ∷ []) ps_more (set fs b (Some (length es))) (set ls b (Some (length es)))
    pushed_first firsts none =
        record {
          next_places = omega (arith, chained.next_places, length-append ns (None ∷ []), length-append es (Some b ∷ []));
          previous_places = omega (arith, chained.previous_places, length-append ps (get_or ls b None ∷ []), length-append es (Some b ∷ []));
          below = belows;
          before = befores;
          next = next;
          first = first;
          last = lasts;
        }
      where
        empty : HasNoMore b 0 es
        empty = subst (IsLast b es) none (chained.last b lt)

        next : (i c : ℕ) → bucket_at more i ≡ Some c → IsFirst c (i + 1) more (get_or (ns ++ None ∷ []) i None)
        next i c at = by (came es (Some b) i c at)
          where
            by : (bucket_at es i ≡ Some c) ⊎ ((i ≡ length es) × (Some b ≡ Some c)) → IsFirst c (i + 1) more (get_or (ns ++ None ∷ []) i None)
            by (inl was) =
                subst (IsFirst c (i + 1) more) (sym (next_was i c was))
                (first_kept c (i + 1) (get_or ns i None) (λ e. absurd (empty i (omega arith) (was ∙ ap Some e))) (chained.next i c was))
            by (inr new) =
                let same : c ≡ b = sym (same_Some b c new.1) in
                subst (IsFirst c (i + 1) more) (sym (ap (λ k. get_or (ns ++ None ∷ []) k None) new.0 ∙ next_new))
                (λ k ge found. no_more k (omega (arith, ge, new.0)) (found ∙ ap Some same))

        first : (c : ℕ) → c < BUCKETS → IsFirst c 0 more (get_or (set fs b (Some (length es))) c None)
        first c below = by (same_or_other c b)
          where
            by : (c ≡ b) ⊎ (c ≡ b → ⊥) → IsFirst c 0 more (get_or (set fs b (Some (length es))) c None)
            by (inl e) =
                subst (λ k. IsFirst k 0 more (get_or (set fs b (Some (length es))) k None)) (sym e)
                (subst (IsFirst b 0 more) (sym (get_or-set_same fs b (Some (length es)) None (omega (arith, lt, firsts))))
                (first_comes 0 (omega arith) empty))
            by (inr other) =
                subst (IsFirst c 0 more) (sym (get_or-set_other fs b c (Some (length es)) None other))
                (first_kept c 0 (get_or fs c None) (λ e. absurd (other e)) (chained.first c below))

    -- one after the last entry of its bucket
    pub pushed_behind : (l : ℕ) → get_or ls b None ≡ Some l → IsChained more (set (ns ++ None ∷ []) l (Some (length es))) ps_more fs (set ls b (Some (length es)))
    pushed_behind l some =
        record {
          next_places = length-set (ns ++ None ∷ []) l (Some (length es)) ∙ omega (arith, chained.next_places, length-append ns (None ∷ []), length-append es (Some b ∷ []));
          previous_places = omega (arith, chained.previous_places, length-append ps (get_or ls b None ∷ []), length-append es (Some b ∷ []));
          below = belows;
          before = befores;
          next = next;
          first = λ c below. first_kept c 0 (get_or fs c None) (λ e. (l, omega arith, is_last.0)) (chained.first c below);
          last = lasts;
        }
      where
        is_last : IsLast b es (Some l)
        is_last = subst (IsLast b es) some (chained.last b lt)

        l_within : l < length es
        l_within = within es l b is_last.0

        next : (i c : ℕ) → bucket_at more i ≡ Some c → IsFirst c (i + 1) more (get_or (set (ns ++ None ∷ []) l (Some (length es))) i None)
        next i c at = by (came es (Some b) i c at) (same_or_other i l)
          where
            by : (bucket_at es i ≡ Some c) ⊎ ((i ≡ length es) × (Some b ≡ Some c)) → (i ≡ l) ⊎ (i ≡ l → ⊥) → IsFirst c (i + 1) more (get_or (set (ns ++ None ∷ []) l (Some (length es))) i None)
            by (inl was) (inl e) =
                let same : c ≡ b = same_Some c b (sym was ∙ ap (bucket_at es) e ∙ is_last.0) in
                subst (λ k. IsFirst k (i + 1) more (get_or (set (ns ++ None ∷ []) l (Some (length es))) i None)) (sym same)
                (subst (λ k. IsFirst b (k + 1) more (get_or (set (ns ++ None ∷ []) l (Some (length es))) k None)) (sym e)
                (subst (IsFirst b (l + 1) more) (sym (get_or-set_same (ns ++ None ∷ []) l (Some (length es)) None (omega (arith, l_within, chained.next_places, length-append ns (None ∷ [])))))
                (first_comes (l + 1) (omega (arith, l_within)) is_last.1)))
            by (inl was) (inr apart) =
                subst (IsFirst c (i + 1) more) (sym (get_or-set_other (ns ++ None ∷ []) l i (Some (length es)) None apart ∙ next_was i c was))
                (first_kept c (i + 1) (get_or ns i None) (λ e. (l, below e, is_last.0)) (chained.next i c was))
              where
                below : c ≡ b → i + 1 ≤ l
                below e = at_most (cases_lt l i)
                  where
                    at_most : (l < i) ⊎ (i ≤ l) → i + 1 ≤ l
                    at_most (inl lt) = absurd (is_last.1 i (omega (arith, lt)) (was ∙ ap Some e))
                    at_most (inr le) = omega (arith, le, apart)
            by (inr new) e =
                let same : c ≡ b = sym (same_Some b c new.1) in
                subst (IsFirst c (i + 1) more)
                (sym (get_or-set_other (ns ++ None ∷ []) l i (Some (length es)) None (λ q. absurd (omega (arith, q, new.0, l_within))) ∙ ap (λ k. get_or (ns ++ None ∷ []) k None) new.0 ∙ next_new))
                (λ k ge found. no_more k (omega (arith, ge, new.0)) (found ∙ ap Some same))

-- one entry more that is in no bucket
module _ (es : List (Option ℕ)) where
  abbrev wider : List (Option ℕ)
  wider = es ++ None ∷ []

  was_there : (i c : ℕ) → bucket_at wider i ≡ Some c → bucket_at es i ≡ Some c
  was_there i c at = by (came es None i c at)
    where
      by : (bucket_at es i ≡ Some c) ⊎ ((i ≡ length es) × (None ≡ Some c)) → bucket_at es i ≡ Some c
      by (inl was) = was
      by (inr new) = absurd (none-some c new.1)

  first_same : (c from : ℕ) (r : Option ℕ) → IsFirst c from es r → IsFirst c from wider r
  first_same c from None h = λ i ge at. h i ge (was_there i c at)
  first_same c from (Some place) h = (h.0, still es None place c h.1, λ i ge lt at. h.2 i ge lt (was_there i c at))

  behind_same : (c place : ℕ) (r : Option ℕ) → IsNextBelow c r place es → IsNextBelow c r place wider
  behind_same c place None h = λ i ge lt at. h i ge lt (was_there i c at)
  behind_same c place (Some q) h = (h.0, still es None q c h.1, λ i ge lt at. h.2 i ge lt (was_there i c at))

  last_same : (c : ℕ) (r : Option ℕ) → IsLast c es r → IsLast c wider r
  last_same c None h = λ i ge at. h i ge (was_there i c at)
  last_same c (Some place) h = (still es None place c h.0, λ i ge at. h.1 i ge (was_there i c at))

  pub skipped : {ns ps fs ls : List (Option ℕ)} → IsChained es ns ps fs ls → IsChained wider (ns ++ None ∷ []) (ps ++ None ∷ []) fs ls
  skipped {ns} {ps} {fs} {ls} chained =
      record {
        next_places = omega (arith, chained.next_places, length-append ns (None ∷ []), length-append es (None ∷ []));
        previous_places = omega (arith, chained.previous_places, length-append ps (None ∷ []), length-append es (None ∷ []));
        below = λ i c at. chained.below i c (was_there i c at);
        next = λ i c at.
            subst (IsFirst c (i + 1) wider) (sym (get_or_append_left ns (None ∷ []) None i (omega (arith, within es i c (was_there i c at), chained.next_places))))
            (first_same c (i + 1) (get_or ns i None) (chained.next i c (was_there i c at)));
        before = λ i c at.
            subst (λ r. IsNextBelow c r i wider) (sym (get_or_append_left ps (None ∷ []) None i (omega (arith, within es i c (was_there i c at), chained.previous_places))))
            (behind_same c i (get_or ps i None) (chained.before i c (was_there i c at)));
        first = λ c lt. first_same c 0 (get_or fs c None) (chained.first c lt);
        last = λ c lt. last_same c (get_or ls c None) (chained.last c lt);
      }
