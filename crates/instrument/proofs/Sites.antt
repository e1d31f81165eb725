-- The sites of an instrument are dropped one after another.
use Rattle.std.proofs.Common.{◌≡◌, ℕ, zero, suc, ◌+◌, ◌/◌, ◌<◌, ◌≤◌, List, [], ◌∷◌, Option, Some, None, refl, sym, ap, ◌∙◌, subst, arith, ⊎_elim, inl, inr, filter, take, drop, get_or, length, map, cond}
use Rattle.std.specs.Prelude.{Bool, true, false, not, ◌&&◌, ◌==◌, find}
use Rattle.std.proofs.lemmas.Bool.{true≢false, cond-true, cond-false, cases_Bool, and_parts, and_from, le-leb, lt-ltb, eqb-true, eq-eqb}
use Rattle.std.proofs.lemmas.List.{length-map, take-append-drop}
use Rattle.tool_space.specs.Rooms.{is_within}
use Rattle.machine.specs.Cores.{In}
use Rattle.machine.proofs.Lists.{in_map}
use Rattle.instrument.specs.Books.{Book, is_held, leaving, is_mini_of, with_hold, mini_leaves, base_leaves, rooms_left, without_site}
use Rattle.instrument.specs.Placements.{is_site_of, without_sites}
use Rattle.instrument.specs.Spaces.{AreDistant, AllDistant, words_of_room, IsWhole, AreDistinct}
use Rattle.instrument.specs.ToolTexts.{is_held_mini, held_minis, for_drops}
use Rattle.instrument.specs.declared.room.Hold.{Hold}
use Rattle.instrument.specs.declared.room.Hold.TheVariants.{Held, Leaving, Unlinked}
use Rattle.instrument.specs.declared.room.Room.{Room}
use Rattle.instrument.proofs.Folds.{append_right}
use Rattle.instrument.proofs.Holdings.{distant_map, distant_right, at_next}
use Rattle.instrument.proofs.Texts.{fewer_map}

-- ---- the rooms stay distinct

distinct_hold : (h : Room → Hold) (rooms : List Room) → AreDistinct rooms → AreDistinct (map (with_hold h) rooms)
distinct_hold h rooms k = record {
  apart = distant_map words_of_room (with_hold h) (λ x. refl) rooms k.apart;
  whole = λ x i. let o = in_map (with_hold h) rooms x i in subst IsWhole (sym o.2) (k.whole o.0 o.1);
}

distinct_left : (o : Option Room) (p : ℕ) (rooms : List Room) → AreDistinct rooms → AreDistinct (rooms_left o p rooms)
distinct_left (Some r) p rooms k = k
distinct_left None p rooms k = distinct_hold (base_leaves p) rooms k

pub distinct_without : (x : Room) (book : Book) → AreDistinct book.rooms → AreDistinct (without_site x book).rooms
distinct_without x book k = distinct_left (find (is_mini_of x.point) (map (with_hold (mini_leaves x.at)) book.rooms)) x.point _ (distinct_hold (mini_leaves x.at) book.rooms k)

len_left : (o : Option Room) (p : ℕ) (rooms : List Room) → length (rooms_left o p rooms) ≡ length rooms
len_left (Some r) p rooms = refl
len_left None p rooms = length-map rooms (with_hold (base_leaves p))

pub len_without : (x : Room) (book : Book) → length (without_site x book).rooms ≡ length book.rooms
len_without x book = len_left (find (is_mini_of x.point) (map (with_hold (mini_leaves x.at)) book.rooms)) x.point _ ∙ length-map book.rooms (with_hold (mini_leaves x.at))

-- ---- sites that don't leave

drop_map : (f : Room → Room) (n : ℕ) (xs : List Room) → drop n (map f xs) ≡ map f (drop n xs)
drop_map f zero xs = refl
drop_map f (suc n) [] = refl
drop_map f (suc n) (x ∷ xs) = drop_map f n xs

filter_hold : (n : ℕ) (h : Room → Hold) (ys : List Room) → ((y : Room) → In y ys → y.base ≡ false → h y ≡ y.hold) → filter (is_site_of n) (map (with_hold h) ys) ≡ filter (is_site_of n) ys
filter_hold n h [] f = refl
filter_hold n h (y ∷ ys) f = by y.base refl (filter_hold n h ys (λ z i. f z (inr i)))
  where
    by : (b : Bool) → y.base ≡ b → filter (is_site_of n) (map (with_hold h) ys) ≡ filter (is_site_of n) ys → filter (is_site_of n) (map (with_hold h) (y ∷ ys)) ≡ filter (is_site_of n) (y ∷ ys)
    by true e rest =
        cond-false (is_site_of n (with_hold h y)) _ _ (ap (λ v. not v && ((y.owner == n) && is_held (h y))) e)
        ∙ (rest ∙ sym (cond-false (is_site_of n y) _ _ (ap (λ v. not v && ((y.owner == n) && is_held y.hold)) e)))
    by false e rest =
        let same : with_hold h y ≡ y = ap (λ v. record y { hold = v }) (f y (inl refl) e) in
        ap (λ (z : Room). cond (is_site_of n z) (z ∷ filter (is_site_of n) (map (with_hold h) ys)) (filter (is_site_of n) (map (with_hold h) ys))) same
        ∙ ap (λ zs. cond (is_site_of n y) (y ∷ zs) zs) rest

filter_left : (n : ℕ) (o : Option Room) (p k : ℕ) (rooms : List Room) → filter (is_site_of n) (drop k (rooms_left o p rooms)) ≡ filter (is_site_of n) (drop k rooms)
filter_left n (Some r) p k rooms = refl
filter_left n None p k rooms =
    ap (filter (is_site_of n)) (drop_map (with_hold (base_leaves p)) k rooms)
    ∙ filter_hold n (base_leaves p) (drop k rooms) (λ y i e. ap (λ b. cond (b && (y.point == p)) (leaving y.hold) y.hold) e)

starts : (at len : ℕ) → 0 < len → is_within at len at ≡ true
starts at len some = and_from _ _ (le-leb at at (omega arith)) (lt-ltb at (at + len) (omega arith))

-- another room begins at another word
elsewhere : (x y : Room) → IsWhole x → IsWhole y → AreDistant (words_of_room x) (words_of_room y) → (y.at == x.at) ≡ false
elsewhere x y v w f = ⊎_elim (λ e. absurd (
    let z : y.at ≡ x.at = eqb-true y.at x.at e in
    f (x.at / 4) (starts (x.at / 4) x.len v.0) (subst (λ a. is_within (y.at / 4) y.len (a / 4) ≡ true) z (starts (y.at / 4) y.len w.0)))) (λ e. e) (cases_Bool (y.at == x.at))

after_at : (rooms : List Room) (k : ℕ) (x y : Room) → k < length rooms → x ≡ get_or rooms k x → AreDistinct rooms → In x rooms → In y rooms → In y (drop (k + 1) rooms) → (y.at == x.at) ≡ false
after_at rooms k x y l e d hx hy i = elsewhere x y (d.whole x hx) (d.whole y hy) ((subst (λ (zs : List Room). AllDistant words_of_room zs) (at_next rooms k x l e).1
    (distant_right words_of_room (take k rooms) (drop k rooms) (subst (λ (zs : List Room). AllDistant words_of_room zs) (sym (take-append-drop k rooms)) d.apart))).0 y i)

in_drop : (k : ℕ) (rooms : List Room) (y : Room) → In y (drop k rooms) → In y rooms
in_drop k rooms y i = subst (λ (zs : List Room). In y zs) (take-append-drop k rooms) (append_right (take k rooms) (drop k rooms) y i)

pub in_at : (rooms : List Room) (k : ℕ) (x : Room) → k < length rooms → x ≡ get_or rooms k x → In x rooms
in_at rooms k x l e = in_drop k rooms x (subst (λ (zs : List Room). In x zs) (sym (at_next rooms k x l e).1) (inl refl))

-- ---- a step of the walk

filter_at : (n : ℕ) (rooms : List Room) (k : ℕ) (x : Room) → k < length rooms → x ≡ get_or rooms k x → filter (is_site_of n) (drop k rooms) ≡ cond (is_site_of n x) (x ∷ filter (is_site_of n) (drop (k + 1) rooms)) (filter (is_site_of n) (drop (k + 1) rooms))
filter_at n rooms k x l e = ap (filter (is_site_of n)) (at_next rooms k x l e).1

pub site_dropped : (n : ℕ) (book : Book) (k : ℕ) (x : Room) → k < length book.rooms → x ≡ get_or book.rooms k x → AreDistinct book.rooms → is_site_of n x ≡ true
    → without_sites (filter (is_site_of n) (drop (k + 1) (without_site x book).rooms)) (without_site x book) ≡ without_sites (filter (is_site_of n) (drop k book.rooms)) book
site_dropped n book k x l e d s =
    ap (λ xs. without_sites xs (without_site x book))
    (filter_left n (find (is_mini_of x.point) (map (with_hold (mini_leaves x.at)) book.rooms)) x.point (k + 1) (map (with_hold (mini_leaves x.at)) book.rooms)
    ∙ (ap (filter (is_site_of n)) (drop_map (with_hold (mini_leaves x.at)) (k + 1) book.rooms)
    ∙ filter_hold n (mini_leaves x.at) (drop (k + 1) book.rooms) (λ y i b.
    ap (λ v. cond (not y.base && v) (leaving y.hold) y.hold) (after_at book.rooms k x y l e d (in_at book.rooms k x l e) (in_drop (k + 1) book.rooms y i) i)
    ∙ ap (λ v. cond v (leaving y.hold) y.hold) (and_no (not y.base)))))
    ∙ ap (λ xs. without_sites xs book) (sym (filter_at n book.rooms k x l e ∙ cond-true (is_site_of n x) _ _ s))
  where
    and_no : (b : Bool) → (b && false) ≡ false
    and_no true = refl
    and_no false = refl

-- ---- one mini block less is held

abbrev one_if : Bool → ℕ
one_if b = cond b 1 0

leaving_not_held : (h : Hold) → is_held (leaving h) ≡ false
leaving_not_held Held = refl
leaving_not_held Leaving = refl
leaving_not_held Unlinked = refl

mini_held : (m : ℕ) (y : Room) → is_held (mini_leaves m y) ≡ true → is_held y.hold ≡ true
mini_held m y = by (not y.base && (y.at == m))
  where
    by : (b : Bool) → is_held (cond b (leaving y.hold) y.hold) ≡ true → is_held y.hold ≡ true
    by true e = absurd (true≢false (sym e ∙ leaving_not_held y.hold))
    by false e = e

base_held : (p : ℕ) (y : Room) → is_held (base_leaves p y) ≡ true → is_held y.hold ≡ true
base_held p y = by (y.base && (y.point == p))
  where
    by : (b : Bool) → is_held (cond b (leaving y.hold) y.hold) ≡ true → is_held y.hold ≡ true
    by true e = absurd (true≢false (sym e ∙ leaving_not_held y.hold))
    by false e = e

one_less : (x : Room) (rooms : List Room) → In x rooms → is_held_mini x ≡ true → held_minis (map (with_hold (mini_leaves x.at)) rooms) + 1 ≤ held_minis rooms
one_less x (y ∷ ys) (inl e) s =
    let r = fewer_map (mini_leaves x.at) (mini_held x.at) ys in
    let p = and_parts (not y.base) (is_held y.hold) (subst (λ (z : Room). is_held_mini z ≡ true) e s) in
    let same : (y.at == x.at) ≡ true = eq-eqb y.at x.at (sym (ap (λ (z : Room). z.at) e)) in
    let now : is_held (mini_leaves x.at y) ≡ false = ap (λ v. is_held (cond v (leaving y.hold) y.hold)) (and_from _ _ p.0 same) ∙ leaving_not_held y.hold in
    let gone : one_if (not y.base && is_held (mini_leaves x.at y)) ≡ 0 = ap (λ v. one_if (not y.base && v)) now ∙ none (not y.base) in
    let was : one_if (is_held_mini y) ≡ 1 = ap one_if (and_from _ _ p.0 p.1) in
    omega (arith, r, gone, was)
  where
    none : (b : Bool) → one_if (b && false) ≡ 0
    none true = refl
    none false = refl
one_less x (y ∷ ys) (inr i) s =
    let r = one_less x ys i s in
    let o = fewer_map (mini_leaves x.at) (mini_held x.at) (y ∷ []) in
    omega (arith, r, o)
one_less x [] i s = absurd i

left_held : (o : Option Room) (p : ℕ) (rooms : List Room) → held_minis (rooms_left o p rooms) ≤ held_minis rooms
left_held (Some r) p rooms = omega arith
left_held None p rooms = fewer_map (base_leaves p) (base_held p) rooms

pub held_without : (x : Room) (book : Book) → In x book.rooms → is_held_mini x ≡ true → held_minis (without_site x book).rooms + 1 ≤ held_minis book.rooms
held_without x book i s =
    let a = one_less x book.rooms i s in
    let b = left_held (find (is_mini_of x.point) (map (with_hold (mini_leaves x.at)) book.rooms)) x.point (map (with_hold (mini_leaves x.at)) book.rooms) in
    omega (arith, a, b)

pub site_held : (n : ℕ) (x : Room) → is_site_of n x ≡ true → is_held_mini x ≡ true
site_held n x s =
    let p = and_parts (not x.base) ((x.owner == n) && is_held x.hold) s in
    let q = and_parts (x.owner == n) (is_held x.hold) p.1 in and_from _ _ p.0 q.1

some_held : (rooms : List Room) (x : Room) → In x rooms → is_held_mini x ≡ true → 0 < held_minis rooms
some_held (y ∷ ys) x (inl e) s = let o = ap one_if (subst (λ (z : Room). is_held_mini z ≡ true) e s) in omega (arith, o)
some_held (y ∷ ys) x (inr i) s = let r = some_held ys x i s in omega (arith, r)
some_held [] x i s = absurd i

pub entries_there : (n : ℕ) (rooms : List Room) (x : Room) → In x rooms → is_site_of n x ≡ true → 3 ≤ for_drops rooms
entries_there n rooms x i s = let h = some_held rooms x i (site_held n x s) in omega (arith, h)
