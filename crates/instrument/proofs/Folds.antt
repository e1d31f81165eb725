-- Agendas after one another, rows that are kept, and ranges.
use Rattle.std.proofs.Common.{◌≡◌, List, [], ◌∷◌, ◌++◌, Some, None, refl, sym, ap, ◌∙◌, subst, ⊎_elim, inl, inr}
use Rattle.std.specs.Prelude.{map, filter, find, Bool, true, false, cond, ◌⊎◌}
use Rattle.std.proofs.lemmas.Bool.{true≢false, cond-true, cond-false}
use Rattle.rv_word.specs.Plain.{Words}
use Rattle.machine.specs.Cores.{In, Row, Status, is_current}
use Rattle.machine.specs.Effects.{with_status}
use Rattle.machine.specs.Events.{Apart}
use Rattle.instrument.specs.declared.entry.Entry.{Entry}
use Rattle.instrument.proofs.Stages.{Stage, puts, pending, next, Sound, ending, AllApart, is_now}
use Rattle.machine.proofs.Lists.{in_map, in_filter, map_filter}

pub sound_append : (t : Words) (k : Stage) (xs ys : List Entry) → Sound t k xs → Sound t (ending k xs) ys → Sound t k (xs ++ ys)
sound_append t k [] ys a b = b
sound_append t k (x ∷ xs) ys a b = (a.0, a.1, sound_append t (next k x) xs ys a.2 b)

pub sound_left : (t : Words) (k : Stage) (xs ys : List Entry) → Sound t k (xs ++ ys) → Sound t k xs
sound_left t k [] ys a = tt
sound_left t k (x ∷ xs) ys a = (a.0, a.1, sound_left t (next k x) xs ys a.2)

pub sound_right : (t : Words) (k : Stage) (xs ys : List Entry) → Sound t k (xs ++ ys) → Sound t (ending k xs) ys
sound_right t k [] ys a = a
sound_right t k (x ∷ xs) ys a = sound_right t (next k x) xs ys a.2

pub ending_append : (k : Stage) (xs ys : List Entry) → ending k (xs ++ ys) ≡ ending (ending k xs) ys
ending_append k [] ys = refl
ending_append k (x ∷ xs) ys = ending_append (next k x) xs ys

pub append_assoc : {A : Type 0} (xs ys zs : List A) → (xs ++ ys) ++ zs ≡ xs ++ (ys ++ zs)
append_assoc [] ys zs = refl
append_assoc (x ∷ xs) ys zs = ap (λ l. x ∷ l) (append_assoc xs ys zs)

pub append_nil : {A : Type 0} (xs : List A) → xs ++ [] ≡ xs
append_nil [] = refl
append_nil (x ∷ xs) = ap (λ l. x ∷ l) (append_nil xs)

pub pending_append : (xs ys : List Entry) → pending (xs ++ ys) ≡ pending xs ++ pending ys
pending_append [] ys = refl
pending_append (x ∷ xs) ys = ap (λ l. puts x ++ l) (pending_append xs ys) ∙ sym (append_assoc (puts x) (pending xs) (pending ys))

-- membership of an append
pub in_append : {A : Type 0} (xs ys : List A) (x : A) → In x (xs ++ ys) → In x xs ⊎ In x ys
in_append [] ys x h = inr h
in_append (z ∷ zs) ys x (inl e) = inl (inl e)
in_append (z ∷ zs) ys x (inr h) = ⊎_elim (λ a. inl (inr a)) (λ a. inr a) (in_append zs ys x h)

pub append_left : {A : Type 0} (xs ys : List A) (x : A) → In x xs → In x (xs ++ ys)
append_left [] ys x h = absurd h
append_left (z ∷ zs) ys x (inl e) = inl e
append_left (z ∷ zs) ys x (inr h) = inr (append_left zs ys x h)

pub append_right : {A : Type 0} (xs ys : List A) (x : A) → In x ys → In x (xs ++ ys)
append_right [] ys x h = h
append_right (z ∷ zs) ys x h = inr (append_right zs ys x h)

-- ranges
pub apart_across : (xs ys : List Row) → AllApart (xs ++ ys) → (x y : Row) → In x xs → In y ys → Apart x.at x.len y.at y.len
apart_across [] ys a x y hx hy = absurd hx
apart_across (z ∷ zs) ys a x y (inl e) hy = subst (λ (u : Row). Apart u.at u.len y.at y.len) (sym e) (a.0 y (append_right zs ys y hy))
apart_across (z ∷ zs) ys a x y (inr h) hy = apart_across zs ys a.1 x y h hy

pub apart_append : (xs ys : List Row) → AllApart xs → AllApart ys → ((x y : Row) → In x xs → In y ys → Apart x.at x.len y.at y.len) → AllApart (xs ++ ys)
apart_append [] ys a b f = b
apart_append (z ∷ zs) ys a b f =
    (λ y h. ⊎_elim (λ i. a.0 y i) (λ i. f z y (inl refl) i) (in_append zs ys y h), apart_append zs ys a.1 b (λ x y hx hy. f x y (inr hx) hy))

pub apart_left : (xs ys : List Row) → AllApart (xs ++ ys) → AllApart xs
apart_left [] ys a = tt
apart_left (z ∷ zs) ys a = (λ y h. a.0 y (append_left zs ys y h), apart_left zs ys a.1)

pub apart_right : (xs ys : List Row) → AllApart (xs ++ ys) → AllApart ys
apart_right [] ys a = a
apart_right (z ∷ zs) ys a = apart_right zs ys a.1

pub apart_filter : (p : Row → Bool) (xs : List Row) → AllApart xs → AllApart (filter p xs)
apart_filter p [] a = tt
apart_filter p (z ∷ zs) a = by (p z) (apart_filter p zs a.1)
  where
    by : (b : Bool) → AllApart (filter p zs) → AllApart (cond b (z ∷ filter p zs) (filter p zs))
    by true r = (λ y h. a.0 y (in_filter p zs y h).0, r)
    by false r = r

pub apart_map : (f : Row → Status) (xs : List Row) → AllApart xs → AllApart (map (with_status f) xs)
apart_map f [] a = tt
apart_map f (z ∷ zs) a =
    (λ y h. let o = in_map (with_status f) zs y h in subst (λ (u : Row). Apart z.at z.len u.at u.len) (sym o.2) (a.0 o.0 o.1), apart_map f zs a.1)

-- filters
pub filter_same : {A : Type 0} (p q : A → Bool) (xs : List A) → ((x : A) → In x xs → p x ≡ q x) → filter p xs ≡ filter q xs
filter_same p q [] h = refl
filter_same p q (x ∷ xs) h = cc (h x (inl refl), filter_same p q xs (λ y i. h y (inr i)))

pub filter_append : {A : Type 0} (p : A → Bool) (xs ys : List A) → filter p (xs ++ ys) ≡ filter p xs ++ filter p ys
filter_append p [] ys = refl
filter_append p (x ∷ xs) ys = by (p x) (filter_append p xs ys)
  where
    by : (b : Bool) → filter p (xs ++ ys) ≡ filter p xs ++ filter p ys → cond b (x ∷ filter p (xs ++ ys)) (filter p (xs ++ ys)) ≡ cond b (x ∷ filter p xs) (filter p xs) ++ filter p ys
    by true e = ap (λ l. x ∷ l) e
    by false e = e

pub map_append : {A B : Type 0} (f : A → B) (xs ys : List A) → map f (xs ++ ys) ≡ map f xs ++ map f ys
map_append f [] ys = refl
map_append f (x ∷ xs) ys = ap (λ l. f x ∷ l) (map_append f xs ys)

-- the rows that aren't retired, where no row begins or ceases to be retired
pub now_map : (f : Row → Status) (xs : List Row) → ((x : Row) → In x xs → is_current (f x) ≡ is_current x.status) → filter is_now (map (with_status f) xs) ≡ map (with_status f) (filter is_now xs)
now_map f xs h = map_filter (with_status f) is_now xs ∙ ap (map (with_status f)) (filter_same (λ x. is_now (with_status f x)) is_now xs h)

-- where some are retired
pub now_less : (f : Row → Status) (q : Row → Bool) (xs : List Row)
    → ((x : Row) → In x xs → is_current x.status ≡ false → is_current (f x) ≡ false)
    → ((x : Row) → In x xs → is_current x.status ≡ true → q x ≡ true → f x ≡ x.status)
    → ((x : Row) → In x xs → is_current x.status ≡ true → q x ≡ false → is_current (f x) ≡ false)
    → filter is_now (map (with_status f) xs) ≡ filter q (filter is_now xs)
now_less f q [] a b c = refl
now_less f q (x ∷ xs) a b c =
    by (is_current x.status) (q x) refl refl (now_less f q xs (λ y i. a y (inr i)) (λ y i. b y (inr i)) (λ y i. c y (inr i)))
  where
    goal : Bool → Type 0
    goal n = cond (is_current (f x)) (with_status f x ∷ filter is_now (map (with_status f) xs)) (filter is_now (map (with_status f) xs)) ≡ filter q (cond n (x ∷ filter is_now xs) (filter is_now xs))

    off : is_current (f x) ≡ false → cond (is_current (f x)) (with_status f x ∷ filter is_now (map (with_status f) xs)) (filter is_now (map (with_status f) xs)) ≡ filter is_now (map (with_status f) xs)
    off e = cond-false (is_current (f x)) _ _ e

    by : (n k : Bool) → is_current x.status ≡ n → q x ≡ k → filter is_now (map (with_status f) xs) ≡ filter q (filter is_now xs) → goal n
    by false k e g ih = off (a x (inl refl) e) ∙ ih
    by true true e g ih =
        let s : f x ≡ x.status = b x (inl refl) e g in
        let t : with_status f x ≡ x = ap (λ v. record x { status = v }) s in
        cond-true (is_current (f x)) _ _ (ap is_current s ∙ e) ∙ (cc (t, ih) ∙ sym (cond-true (q x) (x ∷ filter q (filter is_now xs)) (filter q (filter is_now xs)) g))
    by true false e g ih = off (c x (inl refl) e g) ∙ (ih ∙ sym (cond-false (q x) (x ∷ filter q (filter is_now xs)) (filter q (filter is_now xs)) g))

-- look-ups
pub find_now : (p : Row → Bool) (xs : List Row) → ((x : Row) → p x ≡ true → is_current x.status ≡ true) → find p (filter is_now xs) ≡ find p xs
find_now p [] h = refl
find_now p (x ∷ xs) h = by (is_current x.status) (p x) refl refl (find_now p xs h)
  where
    by : (n k : Bool) → is_current x.status ≡ n → p x ≡ k → find p (filter is_now xs) ≡ find p xs → find p (cond n (x ∷ filter is_now xs) (filter is_now xs)) ≡ cond k (Some x) (find p xs)
    by true true e g ih = cond-true (p x) _ _ g
    by true false e g ih = cond-false (p x) _ _ g ∙ ih
    by false true e g ih = absurd (true≢false (sym (h x g) ∙ e))
    by false false e g ih = ih

pub find_none : {A : Type 0} (p : A → Bool) (xs : List A) → find p xs ≡ None → (x : A) → In x xs → p x ≡ true → ⊥
find_none p [] e x h t = absurd h
find_none p (y ∷ ys) e x h t = by (p y) refl e h (λ g i. find_none p ys g x i t)
  where
    by : (b : Bool) → p y ≡ b → cond b (Some y) (find p ys) ≡ None → In x (y ∷ ys) → (find p ys ≡ None → In x ys → ⊥) → ⊥
    by true g e h ih = absurd cc
    by false g e (inl i) ih = true≢false (sym t ∙ (ap p i ∙ g))
    by false g e (inr h) ih = ih e h

pub filter_filter : {A : Type 0} (p q : A → Bool) (xs : List A) → ((x : A) → p x ≡ true → q x ≡ true) → filter p (filter q xs) ≡ filter p xs
filter_filter p q [] h = refl
filter_filter p q (x ∷ xs) h = by (q x) (p x) refl refl (filter_filter p q xs h)
  where
    by : (k n : Bool) → q x ≡ k → p x ≡ n → filter p (filter q xs) ≡ filter p xs → filter p (cond k (x ∷ filter q xs) (filter q xs)) ≡ cond n (x ∷ filter p xs) (filter p xs)
    by true true g e ih = cond-true (p x) _ _ e ∙ ap (λ l. x ∷ l) ih
    by true false g e ih = cond-false (p x) _ _ e ∙ ih
    by false true g e ih = absurd (true≢false (sym (h x e) ∙ g))
    by false false g e ih = ih

pub find_append : {A : Type 0} (p : A → Bool) (xs ys : List A) → find p xs ≡ None → find p (xs ++ ys) ≡ find p ys
find_append p [] ys e = refl
find_append p (x ∷ xs) ys e = by (p x) e (λ g. find_append p xs ys g)
  where
    by : (b : Bool) → cond b (Some x) (find p xs) ≡ None → (find p xs ≡ None → find p (xs ++ ys) ≡ find p ys) → cond b (Some x) (find p (xs ++ ys)) ≡ find p ys
    by true e ih = absurd cc
    by false e ih = ih e

pub find_first : {A : Type 0} (p : A → Bool) (xs ys : List A) (y : A) → find p xs ≡ Some y → find p (xs ++ ys) ≡ Some y
find_first p [] ys y e = absurd cc
find_first p (x ∷ xs) ys y e = by (p x) e (find_first p xs ys y)
  where
    by : (b : Bool) → cond b (Some x) (find p xs) ≡ Some y → (find p xs ≡ Some y → find p (xs ++ ys) ≡ Some y) → cond b (Some x) (find p (xs ++ ys)) ≡ Some y
    by true e ih = e
    by false e ih = ih e

-- what a look-up finds after a change that its test doesn't see
pub find_map : {A : Type 0} (p : A → Bool) (g : A → A) (xs : List A) → ((x : A) → In x xs → p (g x) ≡ p x) → (y : A) → find p xs ≡ Some y → find p (map g xs) ≡ Some (g y)
find_map p g [] h y e = absurd cc
find_map p g (x ∷ xs) h y e = by (p x) refl e (find_map p g xs (λ z i. h z (inr i)) y)
  where
    by : (b : Bool) → p x ≡ b → cond b (Some x) (find p xs) ≡ Some y → (find p xs ≡ Some y → find p (map g xs) ≡ Some (g y)) → cond (p (g x)) (Some (g x)) (find p (map g xs)) ≡ Some (g y)
    by true t e ih = let same : x ≡ y = cc in cond-true (p (g x)) _ _ (h x (inl refl) ∙ t) ∙ ap (λ z. Some (g z)) same
    by false t e ih = cond-false (p (g x)) _ _ (h x (inl refl) ∙ t) ∙ ih e

pub find_filter : {A : Type 0} (p q : A → Bool) (xs : List A) → ((x : A) → p x ≡ true → q x ≡ true) → (y : A) → find p xs ≡ Some y → find p (filter q xs) ≡ Some y
find_filter p q [] h y e = absurd cc
find_filter p q (x ∷ xs) h y e = by (p x) (q x) refl refl e (find_filter p q xs h y)
  where
    by : (b d : Bool) → p x ≡ b → q x ≡ d → cond b (Some x) (find p xs) ≡ Some y → (find p xs ≡ Some y → find p (filter q xs) ≡ Some y) → find p (cond d (x ∷ filter q xs) (filter q xs)) ≡ Some y
    by true true t u e ih = cond-true (p x) _ _ t ∙ e
    by true false t u e ih = absurd (true≢false (sym (h x t) ∙ u))
    by false true t u e ih = cond-false (p x) _ _ t ∙ ih e
    by false false t u e ih = ih e
