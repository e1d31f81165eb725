-- A space in which things take units: what a take, a give and a change of the things make of it.
use Rattle.std.proofs.Common.{◌≡◌, ℕ, ◌+◌, ◌<◌, ◌≤◌, List, [], ◌∷◌, ◌++◌, refl, sym, ap, ◌∙◌, subst, arith, ⊎_elim, inl, inr, map, length, cond, take, drop, get_or}
use Rattle.std.specs.Prelude.{Bool, true, false, not, nat_le, nat_lt, ◌&&◌, ◌||◌}
use Rattle.std.specs.List.{list_any}
use Rattle.std.proofs.lemmas.Bool.{true≢false, and_parts, and_from, not_from_true, le-leb, lt-ltb, ltb-true, ltb-false, leb-true, false_from_ne_true}
use Rattle.std.proofs.lemmas.List.{take_more, drop_more, take-append-drop}
use Rattle.std.proofs.lemmas.List.Folds.{list_any-append}
use Rattle.tool_space.specs.Rooms.{Rooms, is_within, IsRoom, IsTaken, after_take, after_give, new_space}
use Rattle.machine.specs.Cores.{In}
use Rattle.machine.proofs.Lists.{in_map}
use Rattle.instrument.specs.Spaces.{Span, covers, AreDistant, AllDistant, owed, is_left, IsSpaceOf}
use Rattle.instrument.proofs.Folds.{in_append, append_left, append_right}
use Rattle.instrument.proofs.Going.{any_in}
use Rattle.instrument.proofs.Spacing.{taken_tied, given_tied, range_has}

-- ---- lists apart

pub distant_append : {A : Type 0} (s : A → Span) (xs ys : List A) → AllDistant s xs → AllDistant s ys → ((x y : A) → In x xs → In y ys → AreDistant (s x) (s y)) → AllDistant s (xs ++ ys)
distant_append s [] ys a b f = b
distant_append s (x ∷ xs) ys a b f =
    (λ y h. ⊎_elim (λ i. a.0 y i) (λ i. f x y (inl refl) i) (in_append xs ys y h), distant_append s xs ys a.1 b (λ u v i j. f u v (inr i) j))

pub distant_left : {A : Type 0} (s : A → Span) (xs ys : List A) → AllDistant s (xs ++ ys) → AllDistant s xs
distant_left s [] ys a = tt
distant_left s (x ∷ xs) ys a = (λ y h. a.0 y (append_left xs ys y h), distant_left s xs ys a.1)

pub distant_right : {A : Type 0} (s : A → Span) (xs ys : List A) → AllDistant s (xs ++ ys) → AllDistant s ys
distant_right s [] ys a = a
distant_right s (x ∷ xs) ys a = distant_right s xs ys a.1

pub distant_across : {A : Type 0} (s : A → Span) (xs ys : List A) → AllDistant s (xs ++ ys) → (x y : A) → In x xs → In y ys → AreDistant (s x) (s y)
distant_across s (z ∷ xs) ys a x y (inl e) j = subst (λ u. AreDistant (s u) (s y)) (sym e) (a.0 y (append_right xs ys y j))
distant_across s (z ∷ xs) ys a x y (inr i) j = distant_across s xs ys a.1 x y i j
distant_across s [] ys a x y i j = absurd i

pub distant_map : {A : Type 0} (s : A → Span) (g : A → A) → ((x : A) → s (g x) ≡ s x) → (xs : List A) → AllDistant s xs → AllDistant s (map g xs)
distant_map s g e [] a = tt
distant_map s g e (x ∷ xs) a =
    (λ y h. let o = in_map g xs y h in subst (λ u. AreDistant u (s y)) (sym (e x)) (subst (λ u. AreDistant (s x) u) (sym (e o.0) ∙ ap s (sym o.2)) (a.0 o.0 o.1)), distant_map s g e xs a.1)

-- ---- gives

pub owed_append : {A : Type 0} (s : A → Span) (xs ys : List A) → owed s (xs ++ ys) ≡ owed s xs + owed s ys
owed_append s [] ys = omega arith
owed_append s (x ∷ xs) ys = let r = owed_append s xs ys in omega (arith, r)

pub owed_one : {A : Type 0} (s : A → Span) (x : A) → 0 < (s x).len → owed s (x ∷ []) ≡ 1
owed_one s x some = ap (λ b. cond b 1 0 + 0) (lt-ltb 0 (s x).len some)

owed_map : {A : Type 0} (s : A → Span) (g : A → A) → ((x : A) → s (g x) ≡ s x) → (xs : List A) → owed s (map g xs) ≡ owed s xs
owed_map s g e [] = refl
owed_map s g e (x ∷ xs) = ap (λ (w : Span). cond (nat_lt 0 w.len) 1 0 + owed s (map g xs)) (e x) ∙ ap (λ n. cond (nat_lt 0 (s x).len) 1 0 + n) (owed_map s g e xs)

-- one that has units owes a give
pub may_give : {A : Type 0} (s : A → Span) (from units : ℕ) (space : Rooms) (xs ys : List A) (x : A) → IsSpaceOf s from units space (xs ++ x ∷ ys) → 0 < (s x).len → 0 < space.gives
may_give s from units space xs ys x k some = let a = owed_append s xs (x ∷ ys) in let o = owed_one s x some in omega (arith, a, o, k.gives)

-- ---- units

within_from : (at len unit : ℕ) → at ≤ unit → unit < at + len → is_within at len unit ≡ true
within_from at len unit lo hi = and_from _ _ (le-leb _ _ lo) (lt-ltb _ _ hi)

within_of : (at len unit : ℕ) → is_within at len unit ≡ true → (at ≤ unit) × (unit < at + len)
within_of at len unit e = let p = and_parts (nat_le at unit) (nat_lt unit (at + len)) e in (leb-true at unit p.0, ltb-true unit (at + len) p.1)

pub none_covers : {A : Type 0} (s : A → Span) (unit : ℕ) (t : Span) (ys : List A) → ((y : A) → In y ys → AreDistant t (s y)) → is_within t.at t.len unit ≡ true → list_any (covers s unit) ys ≡ false
none_covers s unit t [] f w = refl
none_covers s unit t (y ∷ ys) f w =
    ap (λ v. v || list_any (covers s unit) ys) (false_from_ne_true (covers s unit y) (λ k. f y (inl refl) unit w k)) ∙ none_covers s unit t ys (λ z h. f z (inr h)) w

-- ---- the beginning

pub space_new : {A : Type 0} (s : A → Span) (from units : ℕ) → IsSpaceOf s from units (new_space from units) []
space_new s from units = record {
  low = refl;
  high = refl;
  tied = λ unit. range_has from units unit ∙ and_yes (is_within from units unit);
  apart = tt;
  gives = omega arith;
  within = λ x h. absurd h;
}
  where
    and_yes : (b : Bool) → b ≡ (b && true)
    and_yes true = refl
    and_yes false = refl

-- what is reserved is no matter
pub space_reserved : {A : Type 0} (s : A → Span) (from units : ℕ) (space : Rooms) (xs : List A) (takes : ℕ) → IsSpaceOf s from units space xs → IsSpaceOf s from units (record space { takes = takes }) xs
space_reserved s from units space xs takes k = record { low = k.low; high = k.high; tied = k.tied; apart = k.apart; gives = k.gives; within = k.within }

-- ---- a take

any_one_more : {A : Type 0} (s : A → Span) (unit : ℕ) (xs : List A) (x : A) → list_any (covers s unit) (xs ++ x ∷ []) ≡ (list_any (covers s unit) xs || (covers s unit x || false))
any_one_more s unit xs x = list_any-append (covers s unit) xs (x ∷ [])

free_of_none : {A : Type 0} (s : A → Span) (unit : ℕ) (xs : List A) (x : A) → not (list_any (covers s unit) xs) ≡ true → In x xs → covers s unit x ≡ true → ⊥
free_of_none s unit xs x e h t = true≢false (sym e ∙ not_from_true _ (any_in (covers s unit) xs x h t))

room_distant : {A : Type 0} (s : A → Span) (from units : ℕ) (space : Rooms) (xs : List A) → IsSpaceOf s from units space xs → (at len : ℕ) → IsRoom space at len → (x : A) → In x xs → AreDistant (s x) (record { at = at; len = len })
room_distant s from units space xs k at len r x h = λ unit c w.
    let z = within_of at len unit w in
    let f = and_parts (is_within from units unit) (not (list_any (covers s unit) xs)) (sym (k.tied unit) ∙ r unit z.0 z.1) in
    free_of_none s unit xs x f.1 h c

pub space_take : {A : Type 0} (s : A → Span) (from units : ℕ) (space : Rooms) (xs : List A) → IsSpaceOf s from units space xs → (x : A) → 0 < (s x).len → IsRoom space (s x).at (s x).len
    → space.from ≤ (s x).at → (s x).at + (s x).len ≤ space.end → IsSpaceOf s from units (after_take space (s x).at (s x).len) (xs ++ x ∷ [])
space_take {A} s from units space xs k x some r low high = record {
  low = k.low;
  high = k.high;
  tied = λ unit. taken_tied space (is_left s from units xs) k.tied (s x).at (s x).len unit
      ∙ (by (covers s unit x) (is_within from units unit) (list_any (covers s unit) xs)
      ∙ sym (ap (λ v. is_within from units unit && not v) (any_one_more s unit xs x)));
  apart = distant_append s xs (x ∷ []) k.apart (λ y h. absurd h, tt) (λ u v i j. ⊎_elim (λ e. subst (λ (w : A). AreDistant (s u) (s w)) (sym e) (room_distant s from units space xs k (s x).at (s x).len r u i)) (λ n. absurd n) j);
  gives = let n = owed_append s xs (x ∷ []) in let o = owed_one s x some in omega (arith, n, o, k.gives);
  within = λ u h. ⊎_elim (λ i. k.within u i) (λ j. ⊎_elim (λ e. subst (λ (w : A). (from ≤ (s w).at) × ((s w).at + (s w).len ≤ from + units)) (sym e) (omega (arith, k.low), omega (arith, k.high))) (λ n. absurd n) j) (in_append xs (x ∷ []) u h);
}
  where
    by : (w r a : Bool) → (not w && (r && not a)) ≡ (r && not (a || (w || false)))
    by true true true = refl
    by true true false = refl
    by true false a = refl
    by false true true = refl
    by false true false = refl
    by false false a = refl

-- ---- a give

-- what a thing takes isn't free
pub taken : {A : Type 0} (s : A → Span) (from units : ℕ) (space : Rooms) (xs : List A) → IsSpaceOf s from units space xs → (x : A) → In x xs → IsTaken space (s x).at (s x).len
taken s from units space xs k x h =
    let w = k.within x h in let a = w.0 in let b = w.1 in
    record {
      low = omega (arith, k.low);
      high = omega (arith, k.high);
      taken = λ unit lo hi. k.tied unit ∙ (ap (λ v. is_within from units unit && not v) (any_in (covers s unit) xs x h (within_from (s x).at (s x).len unit lo hi)) ∙ and_no (is_within from units unit));
    }
  where
    and_no : (b : Bool) → (b && false) ≡ false
    and_no true = refl
    and_no false = refl

pub without : {A : Type 0} (xs ys : List A) (x u : A) → In u (xs ++ ys) → In u (xs ++ x ∷ ys)
without xs ys x u h = ⊎_elim (λ i. append_left xs (x ∷ ys) u i) (λ i. append_right xs (x ∷ ys) u (inr i)) (in_append xs ys u h)

pub middle : {A : Type 0} (xs ys : List A) (x : A) → In x (xs ++ x ∷ ys)
middle xs ys x = append_right xs (x ∷ ys) x (inl refl)

distant_without : {A : Type 0} (s : A → Span) (xs ys : List A) (x : A) → AllDistant s (xs ++ x ∷ ys) → AllDistant s (xs ++ ys)
distant_without s [] ys x a = a.1
distant_without s (z ∷ xs) ys x a = (λ y h. a.0 y (without xs ys x y h), distant_without s xs ys x a.1)

pub space_give : {A : Type 0} (s : A → Span) (from units : ℕ) (space : Rooms) (xs ys : List A) (x : A) → IsSpaceOf s from units space (xs ++ x ∷ ys) → 0 < (s x).len
    → IsSpaceOf s from units (after_give space (s x).at (s x).len) (xs ++ ys)
space_give {A} s from units space xs ys x k some = record {
  low = k.low;
  high = k.high;
  tied = λ unit.
      given_tied space (is_left s from units (xs ++ x ∷ ys)) k.tied (s x).at (s x).len unit some (taken s from units space (xs ++ x ∷ ys) k x (middle xs ys x))
      ∙ (ap (λ v. is_within (s x).at (s x).len unit || (is_within from units unit && not v)) (list_any-append (covers s unit) xs (x ∷ ys))
      ∙ (on unit (is_within (s x).at (s x).len unit) refl
      ∙ sym (ap (λ v. is_within from units unit && not v) (list_any-append (covers s unit) xs ys))));
  apart = distant_without s xs ys x k.apart;
  gives = let a = owed_append s xs (x ∷ ys) in let b = owed_append s xs ys in let o = owed_one s x some in omega (arith, a, b, o, k.gives);
  within = λ u h. k.within u (without xs ys x u h);
}
  where
    on : (unit : ℕ) (w : Bool) → is_within (s x).at (s x).len unit ≡ w
        → (w || (is_within from units unit && not (list_any (covers s unit) xs || (w || list_any (covers s unit) ys)))) ≡ (is_within from units unit && not (list_any (covers s unit) xs || list_any (covers s unit) ys))
    on unit false w = refl
    on unit true w =
        let z = within_of (s x).at (s x).len unit w in let lo = z.0 in let hi = z.1 in
        let o = k.within x (middle xs ys x) in let a = o.0 in let b = o.1 in
        sym (and_from _ _ (within_from from units unit (omega arith) (omega arith))
        (ap not (ap (λ v. v || list_any (covers s unit) ys) (none_covers s unit (s x) xs (λ y h. flip y (distant_across s xs (x ∷ ys) k.apart y x h (inl refl))) w)
        ∙ none_covers s unit (s x) ys (distant_right s xs (x ∷ ys) k.apart).0 w)))
      where
        flip : (y : A) → AreDistant (s y) (s x) → AreDistant (s x) (s y)
        flip y f = λ unit a b. f unit b a

-- a thing that takes no units may be left out
pub space_skip : {A : Type 0} (s : A → Span) (from units : ℕ) (space : Rooms) (xs ys : List A) (x : A) → IsSpaceOf s from units space (xs ++ x ∷ ys) → (s x).len ≡ 0 → IsSpaceOf s from units space (xs ++ ys)
space_skip s from units space xs ys x k e = record {
  low = k.low;
  high = k.high;
  tied = λ unit. k.tied unit
      ∙ (ap (λ v. is_within from units unit && not v) (list_any-append (covers s unit) xs (x ∷ ys))
      ∙ (ap (λ v. is_within from units unit && not (list_any (covers s unit) xs || (v || list_any (covers s unit) ys))) (false_from_ne_true (covers s unit x) (λ w. let z = within_of (s x).at (s x).len unit w in let lo = z.0 in let hi = z.1 in omega (arith, e)))
      ∙ sym (ap (λ v. is_within from units unit && not v) (list_any-append (covers s unit) xs ys))));
  apart = distant_without s xs ys x k.apart;
  gives = let a = owed_append s xs (x ∷ ys) in let b = owed_append s xs ys in omega (arith, a, b, k.gives);
  within = λ u h. k.within u (without xs ys x u h);
}

-- ---- the things change, and take what they took

pub space_map : {A : Type 0} (s : A → Span) (g : A → A) → ((x : A) → s (g x) ≡ s x) → (from units : ℕ) (space : Rooms) (xs : List A) → IsSpaceOf s from units space xs → IsSpaceOf s from units space (map g xs)
space_map {A} s g e from units space xs k = record {
  low = k.low;
  high = k.high;
  tied = λ unit. k.tied unit ∙ ap (λ v. is_within from units unit && not v) (sym (same unit xs));
  apart = distant_map s g e xs k.apart;
  gives = let o = owed_map s g e xs in omega (arith, o, k.gives);
  within = λ x h. let o = in_map g xs x h in subst (λ (w : Span). (from ≤ w.at) × (w.at + w.len ≤ from + units)) (sym (e o.0) ∙ ap s (sym o.2)) (k.within o.0 o.1);
}
  where
    same : (unit : ℕ) (xs : List A) → list_any (covers s unit) (map g xs) ≡ list_any (covers s unit) xs
    same unit [] = refl
    same unit (x ∷ xs) = ap (λ (w : Span). is_within w.at w.len unit || list_any (covers s unit) (map g xs)) (e x) ∙ ap (λ v. covers s unit x || v) (same unit xs)

-- one is left out, and gives back what it took
pub space_out : {A : Type 0} (s : A → Span) (from units : ℕ) (space : Rooms) (xs ys : List A) (x : A) → IsSpaceOf s from units space (xs ++ x ∷ ys)
    → IsSpaceOf s from units (cond (nat_lt 0 (s x).len) (after_give space (s x).at (s x).len) space) (xs ++ ys)
space_out s from units space xs ys x k = by (nat_lt 0 (s x).len) refl
  where
    by : (b : Bool) → nat_lt 0 (s x).len ≡ b → IsSpaceOf s from units (cond b (after_give space (s x).at (s x).len) space) (xs ++ ys)
    by true c = space_give s from units space xs ys x k (ltb-true 0 (s x).len c)
    by false c = space_skip s from units space xs ys x k (let z = ltb-false 0 (s x).len c in omega arith)

-- ---- a list at a place

pub at_next : {A : Type 0} (xs : List A) (i : ℕ) (x : A) → i < length xs → x ≡ get_or xs i x → (take (i + 1) xs ≡ take i xs ++ x ∷ []) × (drop i xs ≡ x ∷ drop (i + 1) xs)
at_next xs i x l e = (take_more xs i x l ∙ ap (λ u. take i xs ++ u ∷ []) (sym e), drop_more xs i x l ∙ ap (λ u. u ∷ drop (i + 1) xs) (sym e))

pub parted : {A : Type 0} (xs : List A) (i : ℕ) (x : A) → i < length xs → x ≡ get_or xs i x → xs ≡ take i xs ++ x ∷ drop (i + 1) xs
parted xs i x l e = sym (take-append-drop i xs) ∙ ap (λ ys. take i xs ++ ys) (at_next xs i x l e).1
