-- To whom the words of the tool text belong.
use Rattle.std.proofs.Common.{◌≡◌, ℕ, zero, suc, ◌+◌, ◌-◌, ◌*◌, ◌%◌, ◌<◌, ◌≤◌, List, [], ◌∷◌, ◌++◌, Option, Some, None, refl, sym, ap, ◌∙◌, arith, ⊎_elim, inl, inr}
use Rattle.std.specs.Prelude.{Bool, true, false, cond, find, filter, map, ◌==◌, ◌&&◌, nat_le, nat_lt}
use Rattle.std.specs.Cmp.{unsigned_tied}
use Rattle.std.specs.FinMap.{get, insert, remove, get-insert, get-remove}
use Rattle.std.specs.Option.{option_map}
use Rattle.std.proofs.lemmas.Bool.{true≢false, cases_Bool, cases_eq, cond-true, cond-false, and_from, and_parts, lt-ltb, ltb-true, le-leb, leb-true, eq-eqb, eqb-true, ne_eqb}
use Rattle.std.proofs.lemmas.Cmp.{nat_cmp_total}
use Rattle.tramp_spec.specs.Codes.{is_word_of}
use Rattle.code_store.specs.Owners.{Owners, owners_with, owners_without}
use Rattle.machine.specs.Cores.{In, Row, Status}
use Rattle.machine.specs.Effects.{is_kept, with_status}
use Rattle.machine.specs.Events.{Apart}
use Rattle.machine.specs.Links.{owners_left}
use Rattle.machine.specs.Places.{holds}
use Rattle.machine.specs.Reached.{AreOwners, owner_by}
use Rattle.machine.proofs.BlockLists.{find_map}
use Rattle.machine.proofs.Lists.{find_finds, find_gives, filter_in, in_filter}

-- ---- words of a range

pub record IsWord (at n a : ℕ) : Type 0 where
  pub low : at ≤ a
  pub high : a < at + 4 * n
  pub even : (a - at) % 4 ≡ 0

pub word_is : (at n a : ℕ) → is_word_of at (4 * n) a ≡ true → IsWord at n a
word_is at n a e =
    let p = and_parts (nat_le at a && nat_lt (a - at) (4 * n)) ((a - at) % 4 == 0) e in
    let q = and_parts (nat_le at a) (nat_lt (a - at) (4 * n)) p.0 in
    let lo = leb-true at a q.0 in
    let d = ltb-true (a - at) (4 * n) q.1 in
    record { low = lo; high = omega arith; even = eqb-true _ _ p.1 }

pub is_word : (at n a : ℕ) → IsWord at n a → is_word_of at (4 * n) a ≡ true
is_word at n a w =
    let lo = w.low in
    let hi = w.high in
    let d : a - at < 4 * n = omega arith in
    and_from _ _ (and_from _ _ (le-leb at a lo) (lt-ltb _ _ d)) (eq-eqb _ _ w.even)

same_test : (b d : Bool) → (b ≡ true → d ≡ true) → (d ≡ true → b ≡ true) → b ≡ d
same_test true true f g = refl
same_test true false f g = sym (f refl)
same_test false true f g = g refl
same_test false false f g = refl

-- the first word of a range, and the others
first_word : (at n a : ℕ) → a ≡ at → is_word_of at (4 * suc n) a ≡ true
first_word at n a e = is_word at (suc n) a (record { low = omega arith; high = omega arith; even = omega arith })

other_word : (at n a : ℕ) → (a ≡ at → ⊥) → is_word_of at (4 * suc n) a ≡ is_word_of (at + 4) (4 * n) a
other_word at n a ne = same_test _ _
    (λ e. let w = word_is at (suc n) a e in let lo = w.low in let hi = w.high in let even = w.even in is_word (at + 4) n a (record { low = omega arith; high = omega arith; even = omega arith }))
    (λ e. let w = word_is (at + 4) n a e in let lo = w.low in let hi = w.high in let even = w.even in is_word at (suc n) a (record { low = omega arith; high = omega arith; even = omega arith }))

not_first : (at n a : ℕ) → a ≡ at → is_word_of (at + 4) (4 * n) a ≡ false
not_first at n a e = ⊎_elim (λ t. let lo = (word_is (at + 4) n a t).low in absurd (omega arith)) (λ f. f) (cases_Bool (is_word_of (at + 4) (4 * n) a))

-- ---- the map of owners

pub get_with : (at n p : ℕ) (owners : Owners) (a : ℕ) → get (owners_with at n p owners) a ≡ cond (is_word_of at (4 * n) a) (Some p) (get owners a)
get_with at zero p owners a = sym (cond-false (is_word_of at (4 * 0) a) _ _ (⊎_elim (λ t. let w = word_is at 0 a t in let lo = w.low in let hi = w.high in absurd (omega arith)) (λ f. f) (cases_Bool (is_word_of at (4 * 0) a))))
get_with at (suc n) p owners a =
    get_with (at + 4) n p (insert owners at p) a
    ∙ (ap (λ o. cond (is_word_of (at + 4) (4 * n) a) (Some p) o) (get-insert nat_cmp_total owners at p a ∙ ap (λ b. cond b (Some p) (get owners a)) (unsigned_tied a at))
    ∙ ⊎_elim
    (λ (e : a ≡ at). ap (λ b. cond b (Some p) (cond (a == at) (Some p) (get owners a))) (not_first at n a e) ∙ (cond-true (a == at) _ _ (eq-eqb a at e) ∙ sym (cond-true _ _ _ (first_word at n a e))))
    (λ (e : a ≡ at → ⊥). ap (λ o. cond (is_word_of (at + 4) (4 * n) a) (Some p) o) (cond-false (a == at) _ _ (ne_eqb a at e)) ∙ ap (λ b. cond b (Some p) (get owners a)) (sym (other_word at n a e)))
    (cases_eq a at))

pub get_without : (at n : ℕ) (owners : Owners) (a : ℕ) → get (owners_without at n owners) a ≡ cond (is_word_of at (4 * n) a) None (get owners a)
get_without at zero owners a = sym (cond-false (is_word_of at (4 * 0) a) _ _ (⊎_elim (λ t. let w = word_is at 0 a t in let lo = w.low in let hi = w.high in absurd (omega arith)) (λ f. f) (cases_Bool (is_word_of at (4 * 0) a))))
get_without at (suc n) owners a =
    get_without (at + 4) n (remove owners at) a
    ∙ (ap (λ o. cond (is_word_of (at + 4) (4 * n) a) None o) (get-remove nat_cmp_total owners at a ∙ ap (λ b. cond b None (get owners a)) (unsigned_tied a at))
    ∙ ⊎_elim
    (λ (e : a ≡ at). ap (λ b. cond b None (cond (a == at) None (get owners a))) (not_first at n a e) ∙ (cond-true (a == at) _ _ (eq-eqb a at e) ∙ sym (cond-true _ _ _ (first_word at n a e))))
    (λ (e : a ≡ at → ⊥). ap (λ o. cond (is_word_of (at + 4) (4 * n) a) None o) (cond-false (a == at) _ _ (ne_eqb a at e)) ∙ ap (λ b. cond b None (get owners a)) (sym (other_word at n a e)))
    (cases_eq a at))

-- ---- rows

-- the word at an address is a block's
abbrev pub has_word : ℕ → Row → Bool
has_word a r = is_word_of r.at (4 * r.len) a

pub word_holds : (a : ℕ) (r : Row) → has_word a r ≡ true → holds r a ≡ true
word_holds a r e = (and_parts (holds r a) ((a - r.at) % 4 == 0) e).0

find_none : {A : Type 0} (p : A → Bool) (xs : List A) → ((x : A) → In x xs → p x ≡ false) → find p xs ≡ None
find_none p [] f = refl
find_none p (x ∷ xs) f = cond-false (p x) _ _ (f x (inl refl)) ∙ find_none p xs (λ y h. f y (inr h))

none_holds_at : {A : Type 0} (p : A → Bool) (xs : List A) (y x : A) (b : Bool) → p y ≡ b → cond b (Some y) (find p xs) ≡ None → In x (y ∷ xs) → (find p xs ≡ None → In x xs → p x ≡ false) → p x ≡ false
none_holds_at p xs y x true e n h ih = absurd cc
none_holds_at p xs y x false e n (inl i) ih = ap p i ∙ e
none_holds_at p xs y x false e n (inr h) ih = ih n h

none_holds : {A : Type 0} (p : A → Bool) (xs : List A) (x : A) → find p xs ≡ None → In x xs → p x ≡ false
none_holds p [] x n h = absurd h
none_holds p (y ∷ xs) x n h = none_holds_at p xs y x (p y) refl n h (none_holds p xs x)

-- a row more
find_more_at : (p : Row → Bool) (xs : List Row) (y r : Row) (b : Bool) → (find p (xs ++ r ∷ []) ≡ find p xs) → cond b (Some y) (find p (xs ++ r ∷ [])) ≡ cond b (Some y) (find p xs)
find_more_at p xs y r b e = ap (λ o. cond b (Some y) o) e

find_old : (p : Row → Bool) (xs : List Row) (r : Row) → p r ≡ false → find p (xs ++ r ∷ []) ≡ find p xs
find_old p [] r e = cond-false (p r) _ _ e
find_old p (y ∷ xs) r e = find_more_at p xs y r (p y) (find_old p xs r e)

find_new : (p : Row → Bool) (xs : List Row) (r : Row) → p r ≡ true → ((x : Row) → In x xs → p x ≡ false) → find p (xs ++ r ∷ []) ≡ Some r
find_new p [] r e f = cond-true (p r) _ _ e
find_new p (y ∷ xs) r e f = cond-false (p y) _ _ (f y (inl refl)) ∙ find_new p xs r e (λ x h. f x (inr h))

-- a block is written
pub owners_more : (owners : Owners) (rows : List Row) (r : Row) → AreOwners owners rows → ((x : Row) → In x rows → Apart x.at x.len r.at r.len) → AreOwners (owners_with r.at r.len r.point owners) (rows ++ r ∷ [])
owners_more owners rows r are apart a = get_with r.at r.len r.point owners a ∙ ⊎_elim
    (λ (t : has_word a r ≡ true). cond-true (has_word a r) _ _ t ∙ sym (ap (option_map (λ (x : Row). x.point)) (find_new (has_word a) rows r t (away t))))
    (λ (f : has_word a r ≡ false). cond-false (has_word a r) _ _ f ∙ (are a ∙ sym (ap (option_map (λ (x : Row). x.point)) (find_old (has_word a) rows r f))))
    (cases_Bool (has_word a r))
  where
    away : has_word a r ≡ true → (x : Row) → In x rows → has_word a x ≡ false
    away t x h = ⊎_elim
        (λ u.
        let w = word_is r.at r.len a t in
        let v = word_is x.at x.len a u in
        let w0 = w.low in
        let w1 = w.high in
        let v0 = v.low in
        let v1 = v.high in
        absurd (⊎_elim (λ l. omega arith) (λ l. omega arith) (apart x h)))
        (λ f. f) (cases_Bool (has_word a x))

-- blocks get other statuses
same_points : (f : Row → Status) (o : Option Row) → option_map (λ (r : Row). r.point) (option_map (with_status f) o) ≡ option_map (λ (r : Row). r.point) o
same_points f None = refl
same_points f (Some r) = refl

pub owners_same : (owners : Owners) (rows : List Row) (f : Row → Status) → AreOwners owners rows → AreOwners owners (map (with_status f) rows)
owners_same owners rows f are a = are a ∙ (sym (same_points f (find (has_word a) rows)) ∙ ap (option_map (λ (r : Row). r.point)) (find_map (with_status f) (has_word a) rows))

-- ---- blocks are freed

left_step : (b : Bool) (r : Row) (owners : Owners) (a : ℕ) → get owners a ≡ None → get (cond b owners (owners_without r.at r.len owners)) a ≡ None
left_step true r owners a e = e
left_step false r owners a e = get_without r.at r.len owners a ∙ either (has_word a r)
  where
    either : (b : Bool) → cond b None (get owners a) ≡ None
    either true = refl
    either false = e

left_none : (p : ℕ) (rs : List Row) (owners : Owners) (a : ℕ) → get owners a ≡ None → get (owners_left p rs owners) a ≡ None
left_none p [] owners a e = e
left_none p (r ∷ rs) owners a e = left_none p rs _ a (left_step (is_kept p r) r owners a e)

left_hit : (p : ℕ) (rs : List Row) (owners : Owners) (a : ℕ) (x : Row) → In x rs → is_kept p x ≡ false → has_word a x ≡ true → get (owners_left p rs owners) a ≡ None
left_hit p [] owners a x h k w = absurd h
left_hit p (r ∷ rs) owners a x (inl i) k w =
    let kept : is_kept p r ≡ false = ap (is_kept p) (sym i) ∙ k in
    left_none p rs _ a (ap (λ b. get (cond b owners (owners_without r.at r.len owners)) a) kept ∙ (get_without r.at r.len owners a ∙ cond-true (has_word a r) _ _ (ap (has_word a) (sym i) ∙ w)))
left_hit p (r ∷ rs) owners a x (inr h) k w = left_hit p rs _ a x h k w

miss_step : (b : Bool) (r : Row) (owners : Owners) (a : ℕ) → (b ≡ false → has_word a r ≡ false) → get (cond b owners (owners_without r.at r.len owners)) a ≡ get owners a
miss_step true r owners a f = refl
miss_step false r owners a f = get_without r.at r.len owners a ∙ cond-false (has_word a r) _ _ (f refl)

left_miss : (p : ℕ) (rs : List Row) (owners : Owners) (a : ℕ) → ((x : Row) → In x rs → is_kept p x ≡ false → has_word a x ≡ false) → get (owners_left p rs owners) a ≡ get owners a
left_miss p [] owners a f = refl
left_miss p (r ∷ rs) owners a f = left_miss p rs _ a (λ x h. f x (inr h)) ∙ miss_step (is_kept p r) r owners a (f r (inl refl))

pub owners_freed : (owners : Owners) (rows : List Row) (p : ℕ) → AreOwners owners rows → ((x y : Row) (a : ℕ) → In x rows → In y rows → has_word a x ≡ true → has_word a y ≡ true → x ≡ y) → AreOwners (owners_left p rows owners) (filter (is_kept p) rows)
owners_freed owners rows p are one a = by (find (has_word a) rows) refl
  where
    by : (o : Option Row) → find (has_word a) rows ≡ o → get (owners_left p rows owners) a ≡ owner_by (filter (is_kept p) rows) a
    by None e = left_none p rows owners a (are a ∙ ap (option_map (λ (r : Row). r.point)) e)
        ∙ sym (ap (option_map (λ (r : Row). r.point)) (find_none (has_word a) (filter (is_kept p) rows) (λ x h. none_holds (has_word a) rows x e (in_filter (is_kept p) rows x h).0)))
    by (Some r) e =
        let g = find_gives (has_word a) rows r e in
        ⊎_elim
        (λ (k : is_kept p r ≡ true).
        let f = find_finds (has_word a) (filter (is_kept p) rows) r (filter_in (is_kept p) rows r g.0 k) g.1 in
        let z = find_gives (has_word a) (filter (is_kept p) rows) f.0 f.1 in
        let same : f.0 ≡ r = one f.0 r a (in_filter (is_kept p) rows f.0 z.0).0 g.0 z.1 g.1 in
        left_miss p rows owners a (λ x h n. ⊎_elim (λ t. absurd (true≢false (sym k ∙ (ap (is_kept p) (one r x a g.0 h g.1 t) ∙ n)))) (λ t. t) (cases_Bool (has_word a x)))
        ∙ (are a ∙ (ap (option_map (λ (q : Row). q.point)) (e ∙ ap (λ (q : Row). Some q) (sym same)) ∙ sym (ap (option_map (λ (q : Row). q.point)) f.1))))
        (λ (k : is_kept p r ≡ false).
        left_hit p rows owners a r g.0 k g.1
        ∙ sym (ap (option_map (λ (q : Row). q.point)) (find_none (has_word a) (filter (is_kept p) rows) (λ x h.
        let i = in_filter (is_kept p) rows x h in
        ⊎_elim (λ t. absurd (true≢false (sym i.1 ∙ (ap (is_kept p) (one x r a i.0 g.0 t g.1) ∙ k)))) (λ t. t) (cases_Bool (has_word a x))))))
        (cases_Bool (is_kept p r))
