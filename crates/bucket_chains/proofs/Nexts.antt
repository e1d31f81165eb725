-- Walks whose state is the place that comes next.
use Rattle.std.proofs.Common.{◌≡◌, ℕ, ◌+◌, ◌-◌, ◌<◌, Bool, true, false, cond, Option, Some, None, List, [], ◌∷◌, ◌++◌, length, map, drop, find, set, get_or, refl, sym, ap, ◌∙◌, arith}
use Rattle.std.proofs.Math.Seq.{map-set_same}
use Rattle.std.proofs.lemmas.List.{drop-set-lt, get_or_default, length-map, map-set}
use Rattle.std.proofs.lemmas.Option.{none-some}
use Rattle.std.specs.Option.{option_map}
use Rattle.bucket_chains.specs.Entries.{bucket_at, bucket_of, IsFirst}
use Rattle.bucket_chains.specs.Left.{present_entries, buckets_of}
use Rattle.bucket_chains.proofs.Places.{kept, was, within}
use Rattle.bucket_chains.proofs.Walks.{at_entry, finds_here, finds_none, finds_on, IsChange, IsWalked, begun, passes, whole}

-- the entries from the next place on
abbrev pub from_next : {A : Type 0} → Option ℕ → List (Option A) → List (Option A)
from_next None es = []
from_next (Some place) es = drop place es

-- the next place has an entry of bucket b
abbrev pub IsNext : ℕ → List (Option ℕ) → Option ℕ → Type 0
IsNext b buckets None = Unit {0}
IsNext b buckets (Some place) = bucket_at buckets place ≡ Some b

-- how many of n places there are from the next one on
abbrev pub places_from : ℕ → Option ℕ → ℕ
places_from n None = 0
places_from n (Some place) = n - place

pub is_next : (b from : ℕ) (buckets : List (Option ℕ)) (r : Option ℕ) → IsFirst b from buckets r → IsNext b buckets r
is_next b from buckets None h = tt
is_next b from buckets (Some place) h = h.1

pub fewer_places : (b place n : ℕ) (buckets : List (Option ℕ)) (r : Option ℕ) → place < n → length buckets ≡ n → IsFirst b (place + 1) buckets r → places_from n r < places_from n (Some place)
fewer_places b place n buckets None lt len h = omega (arith, lt)
fewer_places b place n buckets (Some j) lt len h = omega (arith, lt, h.0)

-- what comes next stands after an entry that is taken out
pub next_left : (b place : ℕ) (buckets : List (Option ℕ)) (r : Option ℕ) → IsFirst b (place + 1) buckets r → IsFirst b (place + 1) (set buckets place None) r
next_left b place buckets None h = λ i ge at. h i ge (was buckets place i b at).0
next_left b place buckets (Some j) h = (h.0, kept buckets place j b (λ e. absurd (omega (arith, e, h.0))) h.1, λ i ge lt at. h.2 i ge lt (was buckets place i b at).0)

-- and so do all entries from there on
pub rest_left : {A : Type 0} (b place : ℕ) (buckets : List (Option ℕ)) (es : List (Option A)) (r : Option ℕ) → IsFirst b (place + 1) buckets r → from_next r (set es place None) ≡ from_next r es
rest_left b place buckets es None h = refl
rest_left b place buckets es (Some j) h = drop-set-lt j es place None (omega (arith, h.0))

-- ---- what an index reads

pub read_entry : {A : Type 0} (es : List (Option A)) (place : ℕ) (o : Option A) → place < length es → o ≡ get_or es place o → get_or es place None ≡ o
read_entry es place o lt is = get_or_default es place None o lt ∙ sym is

-- ---- an entry more

pub left_push : {A : Type 0} (es : List (Option A)) (x : A) → present_entries (es ++ Some x ∷ []) ≡ present_entries es ++ x ∷ []
left_push [] x = refl
left_push (None ∷ es) x = left_push es x
left_push (Some y ∷ es) x = ap (λ l. y ∷ l) (left_push es x)

module _ {A : Type 0} (key : A → ℕ) where
  -- another entry of the same bucket stands at a place
  pub same_buckets : (es : List (Option A)) (place : ℕ) (x y : A) → get_or es place None ≡ Some x → bucket_of (key y) ≡ bucket_of (key x) → buckets_of key (set es place (Some y)) ≡ buckets_of key es
  same_buckets es place x y at same = map-set_same (option_map (λ x. bucket_of (key x))) es place (Some y) None (ap Some same ∙ sym (ap (option_map (λ x. bucket_of (key x))) at))

  -- no entry stands at a place any more
  pub less_buckets : (es : List (Option A)) (place : ℕ) → buckets_of key (set es place None) ≡ set (buckets_of key es) place None
  less_buckets es place = map-set (option_map (λ x. bucket_of (key x))) es place None

  pub buckets_len : (es : List (Option A)) → length (buckets_of key es) ≡ length es
  buckets_len es = length-map es (option_map (λ x. bucket_of (key x)))

  pub next_within : (b place : ℕ) (es : List (Option A)) → bucket_at (buckets_of key es) place ≡ Some b → place < length es
  next_within b place es at = omega (arith, within (buckets_of key es) place b at, buckets_len es)

  -- a place of the bucket has an entry
  pub entry_there : (b place : ℕ) (es : List (Option A)) → bucket_at (buckets_of key es) place ≡ Some b → get_or es place None ≡ None → ⊥
  entry_there b place es at none = none-some b (sym (ap (option_map (λ x. bucket_of (key x))) none) ∙ (sym (at_entry key es place) ∙ at))

  -- ---- a search

  pub record Searches (b : ℕ) (p : A → Bool) (es : List (Option A)) (next : Option ℕ) : Type 0 where
    pub place : IsNext b (buckets_of key es) next
    pub rest : find p (present_entries (from_next next es)) ≡ find p (present_entries es)

  module _ (b : ℕ) (p : A → Bool) (own : (x : A) → p x ≡ true → bucket_of (key x) ≡ b) (es : List (Option A)) where
    found_from : (from : ℕ) (r : Option ℕ) → IsFirst b from (buckets_of key es) r → find p (present_entries (from_next r es)) ≡ find p (present_entries (drop from es))
    found_from from None h = sym (finds_none key b p own es from h)
    found_from from (Some place) h = sym (finds_on key b p own es from place h.0 h.2)

    pub search_begun : (r : Option ℕ) → IsFirst b 0 (buckets_of key es) r → Searches b p es r
    search_begun r h = record { place = is_next b 0 (buckets_of key es) r h; rest = found_from 0 r h }

    pub search_on : (place : ℕ) (x : A) (r : Option ℕ) → Searches b p es (Some place) → get_or es place None ≡ Some x → p x ≡ false → IsFirst b (place + 1) (buckets_of key es) r → Searches b p es r
    search_on place x r s at fails h =
        record {
          place = is_next b (place + 1) (buckets_of key es) r h;
          rest = found_from (place + 1) r h ∙ sym (finds_here key b p own es place x at ∙ ap (λ c. cond c (Some x) (find p (present_entries (drop (place + 1) es)))) fails) ∙ s.rest;
        }

    pub search_found : (place : ℕ) (x : A) → Searches b p es (Some place) → get_or es place None ≡ Some x → p x ≡ true → Some x ≡ find p (present_entries es)
    search_found place x s at passes = sym (ap (λ c. cond c (Some x) (find p (present_entries (drop (place + 1) es)))) passes) ∙ sym (finds_here key b p own es place x at) ∙ s.rest

  -- ---- a change

  -- the change was made at the places before the next one
  abbrev pub WalkedTo : (Option A → Option A) → List (Option A) → List (Option A) → Option ℕ → Type 0
  WalkedTo g old now None = now ≡ map g old
  WalkedTo g old now (Some place) = IsWalked key g old now place

  pub walked_on : (b : ℕ) (g : Option A → Option A) (old now : List (Option A)) (from : ℕ) (r : Option ℕ) → IsChange key b g → IsFirst b from (buckets_of key now) r → IsWalked key g old now from → WalkedTo g old now r
  walked_on b g old now from None change h walked = whole key change h walked
  walked_on b g old now from (Some place) change h walked = passes key place h.0 change h.2 walked

  pub walk_begun : (b : ℕ) (g : Option A → Option A) (old : List (Option A)) (r : Option ℕ) → IsChange key b g → IsFirst b 0 (buckets_of key old) r → WalkedTo g old old r
  walk_begun b g old r change h = walked_on b g old old 0 r change h (begun key g old)
