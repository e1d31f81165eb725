-- The lowest place of the definitions is the room that a space gives.
use Rattle.std.proofs.Common.{◌≡◌, ℕ, zero, suc, ◌+◌, ◌<◌, ◌≤◌, List, [], ◌∷◌, ◌++◌, Some, None, refl, sym, ap, ◌∙◌, subst, arith, ⊎_elim, inl, inr}
use Rattle.std.specs.Prelude.{Bool, true, false, cond, find, filter, not, nat_le, nat_lt, ◌&&◌, ◌||◌, ◌==◌, ◌⊎◌}
use Rattle.std.specs.List.{range_with_len}
use Rattle.std.proofs.lemmas.Bool.{true≢false, cases_Bool, cases_lt, and_parts, and_from, and_left, and_right, cond-true, cond-false, eqb-true, le-leb, lt-ltb, ltb-true, le-ltb, leb-true}
use Rattle.std.proofs.lemmas.Grind.{common_steps}
use Rattle.tool_space.proofs.Ranges.{in_range, below_range, above_range}
use Rattle.tool_space.specs.Rooms.{Rooms, is_within, is_one_of, is_free, IsRoom, IsLowestRoom, IsTaken, after_take, after_give}
use Rattle.instrument.specs.Fits.{are_free, lowest}

-- the free units of a space are these
abbrev pub Tied : Rooms → (ℕ → Bool) → Type 0
Tied space free = (unit : ℕ) → is_free space unit ≡ free unit

all_free : (free : ℕ → Bool) (len at : ℕ) → ((unit : ℕ) → at ≤ unit → unit < at + len → free unit ≡ true) → are_free free len at ≡ true
all_free free zero at f = refl
all_free free (suc len) at f = and_from _ _ (f at (omega arith) (omega arith)) (all_free free len (at + 1) (λ unit lo hi. f unit (omega arith) (omega arith)))

free_all : (free : ℕ → Bool) (len at : ℕ) → are_free free len at ≡ true → (unit : ℕ) → at ≤ unit → unit < at + len → free unit ≡ true
free_all free zero at e unit lo hi = absurd (omega arith)
free_all free (suc len) at e unit lo hi =
    let p = and_parts (free at) (are_free free len (at + 1)) e in
    ⊎_elim (λ (l : at < unit). free_all free len (at + 1) p.1 unit (omega arith) (omega arith))
    (λ (l : unit ≤ at). let z : at ≡ unit = omega arith in subst (λ k. free k ≡ true) z p.0) (cases_lt at unit)

room_free : (space : Rooms) (free : ℕ → Bool) → Tied space free → (at len : ℕ) → IsRoom space at len → are_free free len at ≡ true
room_free space free t at len r = all_free free len at (λ unit lo hi. sym (t unit) ∙ r unit lo hi)

free_room : (space : Rooms) (free : ℕ → Bool) → Tied space free → (at len : ℕ) → are_free free len at ≡ true → IsRoom space at len
free_room space free t at len e unit lo hi = t unit ∙ free_all free len at e unit lo hi

find_least : (p : ℕ → Bool) (from n x : ℕ) → from ≤ x → x < from + n → p x ≡ true → ((y : ℕ) → y < x → p y ≡ true → ⊥) → find p (range_with_len from n) ≡ Some x
find_least p from zero x lo hi e f = absurd (omega arith)
find_least p from (suc n) x lo hi e f =
    ⊎_elim
    (λ (l : from < x).
    let no : p from ≡ false = ⊎_elim (λ k. absurd (f from l k)) (λ k. k) (cases_Bool (p from)) in
    cond-false (p from) (Some from) (find p (range_with_len (from + 1) n)) no ∙ find_least p (from + 1) n x (omega arith) (omega arith) e f)
    (λ (l : x ≤ from).
    let z : x ≡ from = omega arith in
    cond-true (p from) (Some from) (find p (range_with_len (from + 1) n)) (sym (ap p z) ∙ e) ∙ ap (λ k. Some k) (sym z))
    (cases_lt from x)

find_no : (p : ℕ → Bool) (from n : ℕ) → ((y : ℕ) → p y ≡ true → ⊥) → find p (range_with_len from n) ≡ None
find_no p from zero f = refl
find_no p from (suc n) f =
    let no : p from ≡ false = ⊎_elim (λ k. absurd (f from k)) (λ k. k) (cases_Bool (p from)) in
    cond-false (p from) (Some from) (find p (range_with_len (from + 1) n)) no ∙ find_no p (from + 1) n f

-- a room that a space returns is the lowest
pub lowest_room : (space : Rooms) (free : ℕ → Bool) → Tied space free → (from units at len : ℕ) → from ≤ at → at < from + units → IsLowestRoom space at len → lowest free from units len ≡ Some at
unfolding lowest
lowest_room space free t from units at len lo hi r =
    find_least (are_free free len) from units at lo hi (room_free space free t at len r.free) (λ y l e. r.lowest y l (free_room space free t y len e))

-- and where it returns none, there is none
pub no_lowest : (space : Rooms) (free : ℕ → Bool) → Tied space free → (from units len : ℕ) → ((at : ℕ) → IsRoom space at len → ⊥) → lowest free from units len ≡ None
unfolding lowest
no_lowest space free t from units len r = find_no (are_free free len) from units (λ y e. r y (free_room space free t y len e))

-- ---- a room is taken

one_of_filter : (p : ℕ → Bool) (xs : List ℕ) (unit : ℕ) → is_one_of (filter p xs) unit ≡ (p unit && is_one_of xs unit)
one_of_filter p [] unit = and_nil (p unit)
  where
    and_nil : (b : Bool) → false ≡ (b && false)
    and_nil true = refl
    and_nil false = refl
one_of_filter p (x ∷ xs) unit = by (p x) (x == unit) (p unit) refl refl refl (one_of_filter p xs unit)
  where
    by : (a b c : Bool) → p x ≡ a → (x == unit) ≡ b → p unit ≡ c → is_one_of (filter p xs) unit ≡ (p unit && is_one_of xs unit)
        → is_one_of (cond a (x ∷ filter p xs) (filter p xs)) unit ≡ (p unit && ((x == unit) || is_one_of xs unit))
    by true true true i j k ih = ap (λ v. v || is_one_of (filter p xs) unit) j ∙ sym (and_from _ _ k (ap (λ v. v || is_one_of xs unit) j))
    by true true false i j k ih = let z : x ≡ unit = eqb-true x unit j in absurd (true≢false (sym i ∙ (ap p z ∙ k)))
    by true false c i j k ih = ap (λ v. v || is_one_of (filter p xs) unit) j ∙ (ih ∙ sym (ap (λ v. p unit && (v || is_one_of xs unit)) j))
    by false true true i j k ih = let z : x ≡ unit = eqb-true x unit j in absurd (true≢false (sym k ∙ (sym (ap p z) ∙ i)))
    by false true false i j k ih = ih ∙ (ap (λ v. v && is_one_of xs unit) k ∙ sym (ap (λ v. v && ((x == unit) || is_one_of xs unit)) k))
    by false false c i j k ih = ih ∙ sym (ap (λ v. p unit && (v || is_one_of xs unit)) j)

-- what is free after a take is what was free and isn't in the room
pub taken_tied : (space : Rooms) (free : ℕ → Bool) → Tied space free → (at len unit : ℕ) → is_free (after_take space at len) unit ≡ (not (is_within at len unit) && free unit)
taken_tied space free t at len unit = one_of_filter (λ u. not (is_within at len u)) space.free unit ∙ ap (λ v. not (is_within at len unit) && v) (t unit)

-- ---- a room is given back

one_of_append : (xs ys : List ℕ) (unit : ℕ) → is_one_of (xs ++ ys) unit ≡ (is_one_of xs unit || is_one_of ys unit)
one_of_append [] ys unit = refl
one_of_append (x ∷ xs) ys unit = by (x == unit) (one_of_append xs ys unit)
  where
    by : (b : Bool) → is_one_of (xs ++ ys) unit ≡ (is_one_of xs unit || is_one_of ys unit) → (b || is_one_of (xs ++ ys) unit) ≡ ((b || is_one_of xs unit) || is_one_of ys unit)
    by true e = refl
    by false e = e

above : (at unit : ℕ) → unit < at → nat_le at unit ≡ false
above at unit l = ⊎_elim (λ e. let z : at ≤ unit = leb-true at unit e in absurd (omega arith)) (λ e. e) (cases_Bool (nat_le at unit))

-- the units of a range are those within
pub range_has : (at len unit : ℕ) → is_one_of (range_with_len at len) unit ≡ is_within at len unit
range_has at len unit = ⊎_elim
    (λ (l : unit < at). below_range at len unit l ∙ sym (and_left (nat_le at unit) (nat_lt unit (at + len)) (above at unit l)))
    (λ (l : at ≤ unit). ⊎_elim
    (λ (m : unit < at + len). in_range at len unit l m ∙ sym (and_from _ _ (le-leb _ _ l) (lt-ltb _ _ m)))
    (λ (m : at + len ≤ unit). above_range at len unit m ∙ sym (and_right (nat_le at unit) (nat_lt unit (at + len)) (le-ltb unit (at + len) m)))
    (cases_lt unit (at + len)))
    (cases_lt unit at)

-- what is free after a give is what was free, and the room
pub given_tied : (space : Rooms) (free : ℕ → Bool) → Tied space free → (at len unit : ℕ) → 0 < len → IsTaken space at len → is_free (after_give space at len) unit ≡ (is_within at len unit || free unit)
given_tied space free t at len unit some k =
    one_of_append (filter (λ u. nat_lt u at) space.free) (range_with_len at len ++ filter (λ u. nat_lt at u) space.free) unit
    ∙ (ap (λ v. v || is_one_of (range_with_len at len ++ filter (λ u. nat_lt at u) space.free) unit) (one_of_filter (λ u. nat_lt u at) space.free unit)
    ∙ (ap (λ v. (nat_lt unit at && is_one_of space.free unit) || v) (one_of_append (range_with_len at len) (filter (λ u. nat_lt at u) space.free) unit)
    ∙ (ap (λ v. (nat_lt unit at && is_one_of space.free unit) || (v || is_one_of (filter (λ u. nat_lt at u) space.free) unit)) (range_has at len unit)
    ∙ (ap (λ v. (nat_lt unit at && is_one_of space.free unit) || (is_within at len unit || v)) (one_of_filter (λ u. nat_lt at u) space.free unit)
    ∙ (cases ∙ ap (λ v. is_within at len unit || v) (t unit))))))
  where
    joined : (b w a f : Bool) → ((b ≡ true) × (w ≡ false) × (a ≡ false)) ⊎ (((b ≡ false) × (a ≡ true) × (w ≡ true → f ≡ false)) ⊎ ((b ≡ false) × (w ≡ true) × (a ≡ false))) → ((b && f) || (w || (a && f))) ≡ (w || f)
    joined b w a f (inl e) = grind (arith, common_steps, e.0, e.1, e.2)
    joined b w a f (inr (inl e)) = by w f e.0 e.1 e.2
      where
        by : (w f : Bool) → b ≡ false → a ≡ true → (w ≡ true → f ≡ false) → ((b && f) || (w || (a && f))) ≡ (w || f)
        by true f p q r = grind (arith, common_steps, p, q, r refl)
        by false f p q r = grind (arith, common_steps, p, q)
    joined b w a f (inr (inr e)) = grind (arith, common_steps, e.0, e.1, e.2)

    cases : ((nat_lt unit at && is_one_of space.free unit) || (is_within at len unit || (nat_lt at unit && is_one_of space.free unit))) ≡ (is_within at len unit || is_free space unit)
    cases = joined (nat_lt unit at) (is_within at len unit) (nat_lt at unit) (is_one_of space.free unit) (⊎_elim
        (λ (l : unit < at). inl (lt-ltb _ _ l, and_left (nat_le at unit) (nat_lt unit (at + len)) (above at unit l), le-ltb at unit (omega arith)))
        (λ (l : at ≤ unit). inr (⊎_elim
        (λ (m : at < unit). inl (le-ltb unit at (omega arith), lt-ltb _ _ m, λ w. k.taken unit l (let p = and_parts (nat_le at unit) (nat_lt unit (at + len)) w in ltb-true unit (at + len) p.1)))
        (λ (m : unit ≤ at). inr (le-ltb unit at (omega arith), and_from _ _ (le-leb _ _ l) (lt-ltb _ _ (let z : unit < at + len = omega arith in z)), le-ltb at unit (omega arith)))
        (cases_lt at unit)))
        (cases_lt unit at))
