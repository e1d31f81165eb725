-- The entries after a push and after a removal, by place.
use Rattle.std.proofs.Common.{◌≡◌, ◌≢◌, ℕ, ◌<◌, ◌≤◌, Option, Some, None, List, [], ◌∷◌, ◌++◌, length, set, get_or, inl, inr, ◌⊎◌, refl, sym, ap, ◌∙◌, subst, arith, zero, suc, true, false, true≢false, nat_eq}
use Rattle.std.proofs.lemmas.List.{get_or_append_left, get_or-set_other, get_or_past}
use Rattle.std.proofs.lemmas.Bool.{cases_lt, cases_Bool, eqb-true, eqb-false}
use Rattle.std.proofs.lemmas.Option.{none-some}
use Rattle.std.specs.Option.{is_some}
use Rattle.bucket_chains.specs.Entries.{bucket_at, IsFirst}
use Rattle.bucket_chains.specs.Chained.{IsChained, IsLast}
use Rattle.bucket_chains.specs.declared.chains.TheConstants.{BUCKETS}

-- an entry in a bucket stands within the list
pub within : (es : List (Option ℕ)) (i b : ℕ) → bucket_at es i ≡ Some b → i < length es
within [] i b h = absurd (none-some b h)
within (e ∷ es) zero b h = omega arith
within (e ∷ es) (suc i) b h = omega (arith, within es i b h)

pub still : (es : List (Option ℕ)) (x : Option ℕ) (i b : ℕ) → bucket_at es i ≡ Some b → bucket_at (es ++ x ∷ []) i ≡ Some b
still es x i b h = get_or_append_left es (x ∷ []) None i (within es i b h) ∙ h

pub behind : (es : List (Option ℕ)) (x : Option ℕ) → bucket_at (es ++ x ∷ []) (length es) ≡ x
behind [] x = refl
behind (e ∷ es) x = behind es x

-- each entry after a push was there or is the new one
pub came : (es : List (Option ℕ)) (x : Option ℕ) (i b : ℕ) → bucket_at (es ++ x ∷ []) i ≡ Some b → (bucket_at es i ≡ Some b) ⊎ ((i ≡ length es) × (x ≡ Some b))
came [] x zero b h = inr (refl, h)
came [] x (suc i) b h = absurd (none-some b h)
came (e ∷ es) x zero b h = inl h
came (e ∷ es) x (suc i) b h = by (came es x i b h)
  where
    by : (bucket_at es i ≡ Some b) ⊎ ((i ≡ length es) × (x ≡ Some b)) → (bucket_at es i ≡ Some b) ⊎ ((suc i ≡ suc (length es)) × (x ≡ Some b))
    by (inl g) = inl g
    by (inr g) = inr (ap suc g.0, g.1)

pub kept : (es : List (Option ℕ)) (place i b : ℕ) → i ≢ place → bucket_at es i ≡ Some b → bucket_at (set es place None) i ≡ Some b
kept es place i b n h = get_or-set_other es place i None None n ∙ h

-- each entry after a removal was there, and at another place
pub was : (es : List (Option ℕ)) (place i b : ℕ) → bucket_at (set es place None) i ≡ Some b → (bucket_at es i ≡ Some b) × (i ≢ place)
was [] place i b h = absurd (none-some b h)
was (e ∷ es) zero zero b h = absurd (none-some b h)
was (e ∷ es) zero (suc i) b h = (h, λ q. absurd (omega (arith, q)))
was (e ∷ es) (suc place) zero b h = (h, λ q. absurd (omega (arith, q)))
was (e ∷ es) (suc place) (suc i) b h =
    let before : (bucket_at es i ≡ Some b) × (i ≢ place) = was es place i b h in
    (before.0, λ q. before.1 (omega (arith, q)))

pub same_or_other : (a b : ℕ) → (a ≡ b) ⊎ (a ≡ b → ⊥)
same_or_other a b = by (cases_Bool (nat_eq a b))
  where
    by : (nat_eq a b ≡ true) ⊎ (nat_eq a b ≡ false) → (a ≡ b) ⊎ (a ≡ b → ⊥)
    by (inl e) = inl (eqb-true a b e)
    by (inr e) = inr (eqb-false a b e)

pub none_of : (r : Option ℕ) → is_some r ≡ false → r ≡ None
none_of None h = refl
none_of (Some j) h = absurd (true≢false h)

pub some_of : (r : Option ℕ) → is_some r ≡ true → (j : ℕ) × (r ≡ Some j)
some_of None h = absurd (true≢false (sym h))
some_of (Some j) h = (j, refl)

-- where there is no entry, no bucket has one
pub blank : {buckets nexts previous firsts lasts : List (Option ℕ)} → buckets ≡ [] → nexts ≡ [] → previous ≡ [] → firsts ≡ [] → lasts ≡ []
    → IsChained buckets nexts previous firsts lasts
blank {buckets} {nexts} {previous} {firsts} {lasts} es ns ps fs ls =
    record {
      next_places = ap length ns ∙ sym (ap length es);
      previous_places = ap length ps ∙ sym (ap length es);
      below = λ i b at. absurd (no_entry i b at);
      next = λ i b at. absurd (no_entry i b at);
      before = λ i b at. absurd (no_entry i b at);
      first = λ b lt. subst (IsFirst b 0 buckets) (sym (ap (λ l. get_or l b None) fs)) (λ i ge at. no_entry i b at);
      last = λ b lt. subst (IsLast b buckets) (sym (ap (λ l. get_or l b None) ls)) (λ i ge at. no_entry i b at);
    }
  where
    no_entry : (i b : ℕ) → bucket_at buckets i ≡ Some b → ⊥
    no_entry i b at = none-some b (sym (ap (λ l. bucket_at l i) es) ∙ at)

-- other lists of the buckets' ends say the same
pub same_ends : {buckets nexts previous firsts lasts : List (Option ℕ)} (fs ls : List (Option ℕ)) → ((b : ℕ) → b < BUCKETS → get_or fs b None ≡ get_or firsts b None) → ((b : ℕ) → b < BUCKETS → get_or ls b None ≡ get_or lasts b None)
    → IsChained buckets nexts previous firsts lasts → IsChained buckets nexts previous fs ls
same_ends {buckets} {nexts} {previous} {firsts} {lasts} fs ls f l chained =
    record {
      next_places = chained.next_places;
      previous_places = chained.previous_places;
      below = chained.below;
      next = chained.next;
      before = chained.before;
      first = λ b lt. subst (IsFirst b 0 buckets) (sym (f b lt)) (chained.first b lt);
      last = λ b lt. subst (IsLast b buckets) (sym (l b lt)) (chained.last b lt);
    }

-- ends that are filled up by none say the same
pub filled_ends : (old new : List (Option ℕ)) → ((i : ℕ) (d : Option ℕ) → i < BUCKETS → i < length old → get_or new i d ≡ get_or old i d) → ((i : ℕ) (d : Option ℕ) → length old ≤ i → i < BUCKETS → get_or new i d ≡ None)
    → (b : ℕ) → b < BUCKETS → get_or new b None ≡ get_or old b None
filled_ends old new kept more b lt = by (cases_lt b (length old))
  where
    by : (b < length old) ⊎ (length old ≤ b) → get_or new b None ≡ get_or old b None
    by (inl below) = kept b None lt below
    by (inr past) = more b None past lt ∙ sym (get_or_past old b None past)
