-- Walks from entry to entry of a bucket, over a list whose entries have keys.
use Rattle.std.proofs.Common.{◌≡◌, ℕ, zero, suc, ◌+◌, ◌<◌, ◌≤◌, Bool, true, false, cond, Option, Some, None, List, [], ◌∷◌, length, map, drop, add-one, find, filter, set, get_or, inl, inr, ◌⊎◌, refl, sym, ap, subst, ◌∙◌, arith}
use Rattle.std.proofs.Math.ListN.{get_or-map}
use Rattle.std.proofs.lemmas.Bool.{cases_lt}
use Rattle.std.proofs.lemmas.List.{same_lists, get_or_default, get_or-set_same, get_or-set_other, length-set, length-map, drop_all}
use Rattle.std.specs.Option.{option_map}
use Rattle.bucket_chains.specs.Entries.{bucket_at, bucket_of, HasNone, HasNoMore}
use Rattle.bucket_chains.specs.Left.{present_entries, buckets_of}
use Rattle.std.proofs.lemmas.Option.{none-some}
use Rattle.bucket_chains.proofs.Places.{same_or_other}

-- one change of each entry left
pub left_map : {A : Type 0} (f : A → A) (es : List (Option A)) → present_entries (map (option_map f) es) ≡ map f (present_entries es)
left_map f [] = refl
left_map f (None ∷ es) = left_map f es
left_map f (Some x ∷ es) = ap (λ l. f x ∷ l) (left_map f es)

-- an entry that is kept or taken out
abbrev pub kept_if : {A : Type 0} → (A → Bool) → Option A → Option A
kept_if p None = None
kept_if p (Some x) = cond (p x) (Some x) None

pub left_filter : {A : Type 0} (p : A → Bool) (es : List (Option A)) → present_entries (map (kept_if p) es) ≡ filter p (present_entries es)
left_filter p [] = refl
left_filter p (None ∷ es) = left_filter p es
left_filter p (Some x ∷ es) = by (p x) (left_filter p es)
  where
    by : (b : Bool) → present_entries (map (kept_if p) es) ≡ filter p (present_entries es) → present_entries (cond b (Some x) None ∷ map (kept_if p) es) ≡ cond b (x ∷ filter p (present_entries es)) (filter p (present_entries es))
    by true rest = ap (λ l. x ∷ l) rest
    by false rest = rest

module _ {A : Type 0} (key : A → ℕ) where
  pub at_entry : (es : List (Option A)) (i : ℕ) → bucket_at (buckets_of key es) i ≡ option_map (λ x. bucket_of (key x)) (get_or es i None)
  at_entry es i = get_or-map (option_map (λ x. bucket_of (key x))) es i None

  -- a change that only entries of bucket b notice
  pub record IsChange (b : ℕ) (g : Option A → Option A) : Type 0 where
    pub none : g None ≡ None
    pub other : (x : A) → (bucket_of (key x) ≡ b → ⊥) → g (Some x) ≡ Some x

  -- the change was made at the places below `from`
  pub record IsWalked (g : Option A → Option A) (old now : List (Option A)) (from : ℕ) : Type 0 where
    pub len : length now ≡ length old
    pub done : (i : ℕ) → i < from → get_or now i None ≡ g (get_or old i None)
    pub rest : (i : ℕ) → from ≤ i → get_or now i None ≡ get_or old i None

  pub begun : (g : Option A → Option A) (old : List (Option A)) → IsWalked g old old 0
  begun g old = record { len = refl; done = λ i lt. absurd (omega (arith, lt)); rest = λ i ge. refl }

  unchanged : (b : ℕ) (g : Option A → Option A) → IsChange b g → (o : Option A) → (option_map (λ x. bucket_of (key x)) o ≡ Some b → ⊥) → g o ≡ o
  unchanged b g change None h = change.none
  unchanged b g change (Some x) h = change.other x (λ e. h (ap Some e))

  -- places without an entry of the bucket are passed
  pub passes : {b : ℕ} {g : Option A → Option A} {old now : List (Option A)} {from : ℕ} (to : ℕ) → from ≤ to → IsChange b g → HasNone b from to (buckets_of key now) → IsWalked g old now from → IsWalked g old now to
  passes {b} {g} {old} {now} {from} to le change none walked = record { len = walked.len; done = done; rest = rest }
    where
      done : (i : ℕ) → i < to → get_or now i None ≡ g (get_or old i None)
      done i lt = by (cases_lt i from)
        where
          by : (i < from) ⊎ (from ≤ i) → get_or now i None ≡ g (get_or old i None)
          by (inl below) = walked.done i below
          by (inr ge) =
              walked.rest i ge
              ∙ sym (unchanged b g change (get_or old i None) (λ e. none i ge lt (at_entry now i ∙ ap (option_map (λ x. bucket_of (key x))) (walked.rest i ge) ∙ e)))

      rest : (i : ℕ) → to ≤ i → get_or now i None ≡ get_or old i None
      rest i ge = by (cases_lt i from)
        where
          by : (i < from) ⊎ (from ≤ i) → get_or now i None ≡ get_or old i None
          by (inl below) = absurd (omega (arith, below, le, ge))
          by (inr more) = walked.rest i more

  -- an entry is changed, or the change leaves it
  pub changed : {g : Option A → Option A} {old now : List (Option A)} (place : ℕ) (e : Option A) → place < length now → e ≡ g (get_or old place None) → IsWalked g old now place
      → IsWalked g old (set now place e) (place + 1)
  changed {g} {old} {now} place e lt is walked = record { len = length-set now place e ∙ walked.len; done = done; rest = rest }
    where
      done : (i : ℕ) → i < place + 1 → get_or (set now place e) i None ≡ g (get_or old i None)
      done i below = by (same_or_other i place)
        where
          by : (i ≡ place) ⊎ (i ≡ place → ⊥) → get_or (set now place e) i None ≡ g (get_or old i None)
          by (inl here) = subst (λ k. get_or (set now place e) k None ≡ g (get_or old k None)) (sym here) (get_or-set_same now place e None lt ∙ is)
          by (inr other) = get_or-set_other now place i e None other ∙ walked.done i (omega (arith, below, other))

      rest : (i : ℕ) → place + 1 ≤ i → get_or (set now place e) i None ≡ get_or old i None
      rest i ge = get_or-set_other now place i e None (λ e. absurd (omega (arith, e, ge))) ∙ walked.rest i (omega (arith, ge))

  pub stayed : {g : Option A → Option A} {old now : List (Option A)} (place : ℕ) → g (get_or now place None) ≡ get_or now place None → IsWalked g old now place → IsWalked g old now (place + 1)
  stayed {g} {old} {now} place same walked = record { len = walked.len; done = done; rest = λ i ge. walked.rest i (omega (arith, ge)) }
    where
      here : get_or now place None ≡ g (get_or old place None)
      here = sym same ∙ ap g (walked.rest place (omega arith))

      done : (i : ℕ) → i < place + 1 → get_or now i None ≡ g (get_or old i None)
      done i below = by (same_or_other i place)
        where
          by : (i ≡ place) ⊎ (i ≡ place → ⊥) → get_or now i None ≡ g (get_or old i None)
          by (inl at) = subst (λ k. get_or now k None ≡ g (get_or old k None)) (sym at) here
          by (inr other) = walked.done i (omega (arith, below, other))

  -- after the last entry of the bucket the whole list is changed
  pub whole : {b : ℕ} {g : Option A → Option A} {old now : List (Option A)} {from : ℕ} → IsChange b g → HasNoMore b from (buckets_of key now) → IsWalked g old now from → now ≡ map g old
  whole {b} {g} {old} {now} {from} change none walked = same_lists now (map g old) (walked.len ∙ sym (length-map old g)) each
    where
      at_none : (i : ℕ) → get_or now i None ≡ get_or (map g old) i None
      at_none i = by (cases_lt i from)
        where
          goal : get_or now i None ≡ g (get_or old i None) → get_or now i None ≡ get_or (map g old) i None
          goal e = e ∙ sym (get_or-map g old i None) ∙ ap (λ d. get_or (map g old) i d) change.none

          by : (i < from) ⊎ (from ≤ i) → get_or now i None ≡ get_or (map g old) i None
          by (inl below) = goal (walked.done i below)
          by (inr ge) =
              goal (walked.rest i ge
              ∙ sym (unchanged b g change (get_or old i None) (λ e. none i ge (at_entry now i ∙ ap (option_map (λ x. bucket_of (key x))) (walked.rest i ge) ∙ e))))

      each : (i : ℕ) (d : Option A) → i < length now → get_or now i d ≡ get_or (map g old) i d
      each i d lt = get_or_default now i d None lt ∙ at_none i ∙ get_or_default (map g old) i None d (omega (arith, lt, walked.len, length-map old g))

  -- ---- the first entry left that passes a test

  module _ (b : ℕ) (p : A → Bool) (own : (x : A) → p x ≡ true → bucket_of (key x) ≡ b) where
    fails : (x : A) → (bucket_of (key x) ≡ b → ⊥) → p x ≡ false
    fails x other = by (p x) refl
      where
        by : (c : Bool) → p x ≡ c → p x ≡ false
        by true e = absurd (other (own x e))
        by false e = e

    passed_one : (o : Option A) (es : List (Option A)) → (option_map (λ x. bucket_of (key x)) o ≡ Some b → ⊥) → find p (present_entries (o ∷ es)) ≡ find p (present_entries es)
    passed_one None es h = refl
    passed_one (Some x) es h = ap (λ c. cond c (Some x) (find p (present_entries es))) (fails x (λ e. h (ap Some e)))

    -- entries of other buckets are passed
    pub finds_on : (es : List (Option A)) (from to : ℕ) → from ≤ to → HasNone b from to (buckets_of key es) → find p (present_entries (drop from es)) ≡ find p (present_entries (drop to es))
    finds_on es zero zero le none = refl
    finds_on es (suc from) zero le none = absurd (omega (arith, le))
    finds_on [] zero (suc to) le none = refl
    finds_on [] (suc from) (suc to) le none = refl
    finds_on (o ∷ es) zero (suc to) le none =
        passed_one o es (λ e. none 0 (omega arith) (omega arith) e)
        ∙ finds_on es zero to (omega arith) (λ i ge lt at. none (suc i) (omega arith) (omega (arith, lt)) at)
    finds_on (o ∷ es) (suc from) (suc to) le none = finds_on es from to (omega (arith, le)) (λ i ge lt at. none (suc i) (omega (arith, ge)) (omega (arith, lt)) at)

    -- where no more entry of the bucket stands, none passes
    pub finds_none : (es : List (Option A)) (from : ℕ) → HasNoMore b from (buckets_of key es) → find p (present_entries (drop from es)) ≡ None
    finds_none es from none = finds_on es from (from + length es) (omega arith) (λ i ge lt at. none i ge at) ∙ ap (λ l. find p (present_entries l)) (drop_all (from + length es) es (omega arith))

    -- the entry at a place passes, or the search goes on after it
    goes_on : (es : List (Option A)) (place : ℕ) (x : A) → get_or es place None ≡ Some x → find p (present_entries (drop place es)) ≡ cond (p x) (Some x) (find p (present_entries (drop (suc place) es)))
    goes_on [] place x h = absurd (none-some x h)
    goes_on (o ∷ es) zero x h = ap (λ o. find p (present_entries (o ∷ es))) h
    goes_on (o ∷ es) (suc place) x h = goes_on es place x h

    pub finds_here : (es : List (Option A)) (place : ℕ) (x : A) → get_or es place None ≡ Some x → find p (present_entries (drop place es)) ≡ cond (p x) (Some x) (find p (present_entries (drop (place + 1) es)))
    finds_here es place x h = goes_on es place x h ∙ ap (λ k. cond (p x) (Some x) (find p (present_entries (drop k es)))) (sym (add-one place))
