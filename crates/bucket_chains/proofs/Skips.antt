-- Walks that look for the entries that pass a test, whatever is made of them.
use Rattle.std.proofs.Common.{◌≡◌, ℕ, zero, suc, ◌+◌, ◌<◌, ◌≤◌, Bool, true, false, Option, Some, None, List, [], ◌∷◌, length, drop, add-one, get_or, refl, sym, ap, subst, ◌∙◌, arith}
use Rattle.std.proofs.lemmas.List.{drop_all}
use Rattle.std.proofs.lemmas.Option.{none-some}
use Rattle.std.specs.Option.{option_map}
use Rattle.bucket_chains.specs.Entries.{bucket_at, bucket_of, IsFirst, HasNone}
use Rattle.bucket_chains.specs.Left.{present_entries, buckets_of}
use Rattle.bucket_chains.proofs.Nexts.{IsNext, buckets_len, entry_there, fewer_places, from_next, is_next, next_within, places_from, read_entry}

module _ {A R : Type 0} (key : A → ℕ) (b : ℕ) (p : A → Bool) (own : (x : A) → p x ≡ true → bucket_of (key x) ≡ b)
    (F : List A → R) (skip : (x : A) (xs : List A) → p x ≡ false → F (x ∷ xs) ≡ F xs) where
  fails : (x : A) → (bucket_of (key x) ≡ b → ⊥) → p x ≡ false
  fails x other = by (p x) refl
    where
      by : (c : Bool) → p x ≡ c → p x ≡ false
      by true e = absurd (other (own x e))
      by false e = e

  skipped_one : (o : Option A) (es : List (Option A)) → (option_map (λ x. bucket_of (key x)) o ≡ Some b → ⊥) → F (present_entries (o ∷ es)) ≡ F (present_entries es)
  skipped_one None es h = refl
  skipped_one (Some x) es h = skip x (present_entries es) (fails x (λ e. h (ap Some e)))

  -- entries of other buckets are passed
  skips_on : (es : List (Option A)) (from to : ℕ) → from ≤ to → HasNone b from to (buckets_of key es) → F (present_entries (drop from es)) ≡ F (present_entries (drop to es))
  skips_on es zero zero le none = refl
  skips_on es (suc from) zero le none = absurd (omega (arith, le))
  skips_on [] zero (suc to) le none = refl
  skips_on [] (suc from) (suc to) le none = refl
  skips_on (o ∷ es) zero (suc to) le none =
      skipped_one o es (λ e. none 0 (omega arith) (omega arith) e)
      ∙ skips_on es zero to (omega arith) (λ i ge lt at. none (suc i) (omega arith) (omega (arith, lt)) at)
  skips_on (o ∷ es) (suc from) (suc to) le none = skips_on es from to (omega (arith, le)) (λ i ge lt at. none (suc i) (omega (arith, ge)) (omega (arith, lt)) at)

  -- what is made of the entries from one on is made of those from the next one of the bucket on
  pub skips_to : (es : List (Option A)) (from : ℕ) (r : Option ℕ) → IsFirst b from (buckets_of key es) r → F (present_entries (from_next r es)) ≡ F (present_entries (drop from es))
  skips_to es from (Some place) h = sym (skips_on es from place h.0 h.2)
  skips_to es from None h =
      ap (λ l. F (present_entries l)) (sym (drop_all (from + length es) es (omega arith)))
      ∙ sym (skips_on es from (from + length es) (omega arith) (λ i ge lt at. h i ge at))

-- the entry at a place is the first of those from there on
pub entry_first : {A : Type 0} (es : List (Option A)) (place : ℕ) (x : A) → get_or es place None ≡ Some x → present_entries (drop place es) ≡ x ∷ present_entries (drop (place + 1) es)
entry_first {A} es place x h = by es place h ∙ ap (λ k. x ∷ present_entries (drop k es)) (sym (add-one place))
  where
    by : (es : List (Option A)) (place : ℕ) → get_or es place None ≡ Some x → present_entries (drop place es) ≡ x ∷ present_entries (drop (suc place) es)
    by [] place h = absurd (none-some x h)
    by (o ∷ es) zero h = ap (λ o. present_entries (o ∷ es)) h
    by (o ∷ es) (suc place) h = by es place h

-- what the buckets say of the next place
abbrev pub Follows : List (Option ℕ) → ℕ → Option ℕ → Type 0
Follows buckets place r = (b : ℕ) → bucket_at buckets place ≡ Some b → IsFirst b (place + 1) buckets r

-- ---- the place of a walk

module _ {A : Type 0} (key : A → ℕ) (b : ℕ) (es : List (Option A)) (buckets : List (Option ℕ)) (fit : buckets ≡ buckets_of key es) where
  module _ (next : Option ℕ) (place : ℕ) (is : next ≡ Some place) (at : IsNext b (buckets_of key es) next) where
    pub at_place : bucket_at (buckets_of key es) place ≡ Some b
    at_place = subst (IsNext b (buckets_of key es)) is at

    pub place_within : place < length es
    place_within = next_within key b place es at_place

    pub place_among : place < length buckets
    place_among = omega (arith, place_within, ap length fit, buckets_len key es)

    pub follows_here : (r : Option ℕ) → Follows buckets place r → IsFirst b (place + 1) (buckets_of key es) r
    follows_here r h = subst (λ bs. IsFirst b (place + 1) bs r) fit (h b (subst (λ bs. bucket_at bs place ≡ Some b) (sym fit) at_place))

    pub place_nearer : (r : Option ℕ) → Follows buckets place r → places_from (length es) r < places_from (length es) next
    place_nearer r h =
        subst (λ n. places_from (length es) r < places_from (length es) n) (sym is)
        (fewer_places b place (length es) (buckets_of key es) r place_within (buckets_len key es) (follows_here r h))

    -- the place isn't empty
    pub place_filled : (o : Option A) → o ≡ get_or es place o → o ≡ None → ⊥
    place_filled o read none = entry_there key b place es at_place (read_entry es place o place_within read ∙ none)

    pub place_has : (o : Option A) (x : A) → o ≡ get_or es place o → o ≡ Some x → get_or es place None ≡ Some x
    place_has o x read some = read_entry es place o place_within read ∙ some

-- ---- a walk that makes something of the entries that pass a test

-- what is made of the entries from the next place on
pub record Seeks {A R : Type 0} (key : A → ℕ) (b : ℕ) (F : List A → R) (es : List (Option A)) (next : Option ℕ) (total : R) : Type 0 where
  pub at : IsNext b (buckets_of key es) next
  pub rest : F (present_entries (from_next next es)) ≡ total

module _ {A R : Type 0} (key : A → ℕ) (b : ℕ) (p : A → Bool) (own : (x : A) → p x ≡ true → bucket_of (key x) ≡ b)
    (F : List A → R) (skip : (x : A) (xs : List A) → p x ≡ false → F (x ∷ xs) ≡ F xs)
    (es : List (Option A)) (buckets : List (Option ℕ)) (fit : buckets ≡ buckets_of key es) where
  pub seek_begun : (r : Option ℕ) → IsFirst b 0 buckets r → Seeks key b F es r (F (present_entries es))
  seek_begun r h =
      let first : IsFirst b 0 (buckets_of key es) r = subst (λ bs. IsFirst b 0 bs r) fit h in
      record { at = is_next b 0 (buckets_of key es) r first; rest = skips_to key b p own F skip es 0 r first }

  module _ (next : Option ℕ) (total : R) (place : ℕ) (is : next ≡ Some place) (seeks : Seeks key b F es next total) (o : Option A) (x : A) (read : o ≡ get_or es place o) (some : o ≡ Some x) where
    pub seek_here : F (x ∷ present_entries (drop (place + 1) es)) ≡ total
    seek_here =
        ap F (sym (entry_first es place x (place_has key b es buckets fit next place is seeks.at o x read some)))
        ∙ ap (λ n. F (present_entries (from_next n es))) (sym is) ∙ seeks.rest

    pub seek_on : (r : Option ℕ) → Follows buckets place r → p x ≡ false → Seeks key b F es r total
    seek_on r h fails =
        let first : IsFirst b (place + 1) (buckets_of key es) r = follows_here key b es buckets fit next place is seeks.at r h in
        record {
          at = is_next b (place + 1) (buckets_of key es) r first;
          rest = skips_to key b p own F skip es (place + 1) r first ∙ sym (skip x (present_entries (drop (place + 1) es)) fails) ∙ seek_here;
        }

    -- the walk goes on after the entry
    pub seek_next : (r : Option ℕ) → Follows buckets place r → Seeks key b F es r (F (present_entries (drop (place + 1) es)))
    seek_next r h =
        let first : IsFirst b (place + 1) (buckets_of key es) r = follows_here key b es buckets fit next place is seeks.at r h in
        record { at = is_next b (place + 1) (buckets_of key es) r first; rest = skips_to key b p own F skip es (place + 1) r first }

  pub seek_over : (next : Option ℕ) (total : R) → next ≡ None → Seeks key b F es next total → F [] ≡ total
  seek_over next total is seeks = ap (λ n. F (present_entries (from_next n es))) (sym is) ∙ seeks.rest
