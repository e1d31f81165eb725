-- Windows stay clear while the regions keep their addresses, and lead to the spot of an access.
use Rattle.std.proofs.Common.{◌≡◌, ℕ, ◌+◌, ◌-◌, ◌%◌, ◌^◌, ◌<◌, ◌≤◌, List, [], ◌∷◌, length, get_or, set, Option, Some, None, refl, ap, subst, sym, ◌∙◌, arith, false, zero, suc, inl, inr, ◌⊎◌}
use Rattle.std.specs.Prelude.{IfSome, Result, Ok}
use Rattle.rv_word.specs.declared.outcome.MemStop.{MemStop}
use Rattle.std.proofs.lemmas.Bool.{cases_lt}
use Rattle.std.proofs.lemmas.List.{get_or_default, get_or-set_same, get_or-set_other, length-set}
use Rattle.rv_word.specs.Memory.{in_range}
use Rattle.rv_mem.specs.Regions.{content, place_in, parts_of, region_part, HasRange, IsWrittenSpot}
use Rattle.rv_mem.specs.Windows.{IsClear, AreClearWindows, AreRegionNumbers, HasBounds, IsNotedIn, IsQuickAt, HasWindow, SamePlaces, SameShape}
use Rattle.rv_mem.specs.declared.mapped.Region.{Region}
use Rattle.rv_mem.specs.declared.mapped.Window.{Window}

-- ---- regions that keep their addresses

pub window_kept : (text_at text_len : ℕ) (rs new : List Region) (i : ℕ) (w : Window) → IsClear text_at text_len rs i w → SamePlaces rs new → IsClear text_at text_len new i w
window_kept text_at text_len rs new i w k s =
    record {
      listed = omega (arith, k.listed, s.many);
      begins = λ d q g l. omega (arith, s.begins i d, k.begins d q g l);
      ends = λ d q g l. omega (arith, s.begins i d, s.lengths i d, k.ends d q g l);
      apart = k.apart;
      first = λ j d q lt g l. subst (λ a. place_in a (length (content (get_or new j d))) q ≡ None) (sym (s.begins j d)) (subst (λ n. place_in (get_or rs j d).at n q ≡ None) (sym (s.lengths j d)) (k.first j d q lt g l));
    }

pub clear_kept : (text_at text_len : ℕ) (rs new : List Region) → AreClearWindows text_at text_len rs → SameShape rs new → AreClearWindows text_at text_len new
clear_kept text_at text_len rs new h s = λ i d lt.
    let places : SamePlaces rs new = record { many = s.many; begins = λ k e. (s.bounds k e).begins; lengths = λ k e. (s.bounds k e).lengths } in
    subst (IsClear text_at text_len new i) (sym (s.bounds i d).windows) (window_kept text_at text_len rs new i (get_or rs i d).window (h i d (omega (arith, lt, s.many))) places)

pub numbers_kept : (rs new : List Region) (pages : List ℕ) → AreRegionNumbers (length rs) pages → SameShape rs new → AreRegionNumbers (length new) pages
numbers_kept rs new pages h s = subst (λ n. AreRegionNumbers n pages) (sym s.many) h

bounds-set : (rs : List Region) (i : ℕ) (r new : Region) → i < length rs → r ≡ get_or rs i r → HasBounds r new → (k : ℕ) (d : Region) → HasBounds (get_or rs k d) (get_or (set rs i new) k d)
bounds-set [] i r new l e b k d = absurd (omega (arith, l))
bounds-set (x ∷ rs) zero r new l e b zero d = subst (λ z. HasBounds z new) e b
bounds-set (x ∷ rs) zero r new l e b (suc k) d = record { begins = refl; lengths = refl; windows = refl }
bounds-set (x ∷ rs) (suc i) r new l e b zero d = record { begins = refl; lengths = refl; windows = refl }
bounds-set (x ∷ rs) (suc i) r new l e b (suc k) d = bounds-set rs i r new (omega (arith, l)) e b k d

-- one region is another with its bounds
pub shape-set : (rs : List Region) (i : ℕ) (r new : Region) → i < length rs → r ≡ get_or rs i r → HasBounds r new → SameShape rs (set rs i new)
shape-set rs i r new l e b = record { many = length-set rs i new; bounds = bounds-set rs i r new l e b }

-- ---- an access

-- the window of an access
pub quick_window : (text_at text_len : ℕ) (rs : List Region) (a n i : ℕ) → Region → a < 2 ^ 64 → n ≤ 8 → AreClearWindows text_at text_len rs → IsQuickAt rs a i → HasWindow text_at text_len rs a n i
quick_window text_at text_len rs a n i e word short h q =
    let r = get_or rs i e in
    let near : (a + (2 ^ 64 - r.window.from)) % 2 ^ 64 < r.quick_len = q.near e in
    let some : 0 < r.quick_len = omega (arith, near) in
    let fits : r.window.from + r.quick_len + 7 < 2 ^ 64 = r.quick.fits some in
    let inside : r.window.from + r.quick_len + 7 ≤ r.window.to = r.quick.window some in
    let written : r.window.from + r.quick_len + 7 ≤ r.at + length r.bytes.items = r.quick.bytes some in
    let low : r.window.from ≤ a = omega (arith, word, near, fits) in
    let high : a < r.window.from + r.quick_len = omega (arith, word, near, fits, low) in
    let all : a + n ≤ r.at + length r.bytes.items = omega (arith, high, written, short) in
    record {
      window = r.window;
      clear = h i e q.listed;
      begins = low;
      here = omega (arith, high, inside);
      ends = omega (arith, high, short, inside);
      written = λ d. subst (λ z. a + n ≤ z.at + length z.bytes.items) (get_or_default rs i e d q.listed) all;
      fits = omega (arith, high, short, fits);
    }

-- the spot of bytes that are in a window
pub range_in : (text_at text_len : ℕ) (rs : List Region) (a n i place : ℕ) (r : Region) → HasWindow text_at text_len rs a n i → r ≡ get_or rs i r → place ≡ a - r.at → HasRange rs a n (record { region = i; place = place })
range_in text_at text_len rs a n i place r w is e =
    let k = w.clear in
    let begins : w.window.from ≤ a = w.begins in
    let here : a < w.window.to = w.here in
    let ends : a + n ≤ w.window.to = w.ends in
    let same : (d : Region) → get_or rs i d ≡ r = λ d. sym (is ∙ get_or_default rs i r d k.listed) in
    record {
      listed = k.listed;
      address = λ d.
          let b : (get_or rs i d).at ≤ a = k.begins d a begins here in
          let z : (get_or rs i d).at ≡ r.at = ap (λ y. y.at) (same d) in
          omega arith;
      within = λ d.
          let b : (get_or rs i d).at ≤ a = k.begins d a begins here in
          let z : (get_or rs i d).at ≡ r.at = ap (λ y. y.at) (same d) in
          let t : a + (n - 1) < (get_or rs i d).at + length (content (get_or rs i d)) = k.ends d (a + (n - 1)) (omega arith) (omega arith) in
          omega arith;
      first = λ j d q lt g l. k.first j d q lt (omega arith) (omega arith);
    }

pub written_in : (text_at text_len : ℕ) (rs : List Region) (a n i place : ℕ) (r : Region) → HasWindow text_at text_len rs a n i → r ≡ get_or rs i r → place ≡ a - r.at → IsWrittenSpot rs n (record { region = i; place = place })
written_in text_at text_len rs a n i place r w is e = λ d.
    let b : (get_or rs i d).at ≤ a = w.clear.begins d a w.begins w.here in
    let z : (get_or rs i d).at ≡ r.at = ap (λ y. y.at) (sym (is ∙ get_or_default rs i r d w.clear.listed)) in
    omega (arith, b, z, e, w.written d)

pub apart_in : (text_at text_len : ℕ) (rs : List Region) (a n i : ℕ) → HasWindow text_at text_len rs a n i → (q : ℕ) → a ≤ q → q < a + n → in_range text_at text_len q ≡ false
apart_in text_at text_len rs a n i w q g l =
    let begins : w.window.from ≤ a = w.begins in
    let ends : a + n ≤ w.window.to = w.ends in
    w.clear.apart q (omega arith) (omega arith)

-- a number that is loaded
pub some_ok : (r : Result ℕ MemStop) (o : Option ℕ) (x : ℕ) → IfSome o (λ v. v ≡ x) → r ≡ Ok x → IfSome o (λ v. r ≡ Ok v)
some_ok r None x h e = tt
some_ok r (Some v) x h e = e ∙ ap Ok (sym h)

-- ---- how windows and pages are noted

-- the first n regions have their windows
abbrev pub AreClearTo : ℕ → ℕ → ℕ → List Region → Type 0
AreClearTo text_at text_len n rs = (i : ℕ) (d : Region) → i < n → IsClear text_at text_len rs i (get_or rs i d).window

part-set : (rs : List Region) (i : ℕ) (r new : Region) → i < length rs → r ≡ get_or rs i r → region_part new ≡ region_part r → (k : ℕ) (d : Region) → region_part (get_or (set rs i new) k d) ≡ region_part (get_or rs k d)
part-set [] i r new l e p k d = absurd (omega (arith, l))
part-set (x ∷ rs) zero r new l e p zero d = p ∙ ap region_part e
part-set (x ∷ rs) zero r new l e p (suc k) d = refl
part-set (x ∷ rs) (suc i) r new l e p zero d = refl
part-set (x ∷ rs) (suc i) r new l e p (suc k) d = part-set rs i r new (omega (arith, l)) e p k d

pub parts-set : (rs : List Region) (i : ℕ) (r new : Region) → i < length rs → r ≡ get_or rs i r → region_part new ≡ region_part r → parts_of (set rs i new) ≡ parts_of rs
parts-set [] i r new l e p = refl
parts-set (x ∷ rs) zero r new l e p = ap (λ y. y ∷ parts_of rs) (p ∙ ap region_part e)
parts-set (x ∷ rs) (suc i) r new l e p = ap (λ ys. region_part x ∷ ys) (parts-set rs i r new (omega (arith, l)) e p)

-- a region more has one
pub clear_more : (text_at text_len : ℕ) (rs : List Region) (i : ℕ) (r new : Region) (w : Window) → i < length rs → r ≡ get_or rs i r → region_part new ≡ region_part r
    → new.window ≡ w → IsClear text_at text_len rs i w → AreClearTo text_at text_len i rs → AreClearTo text_at text_len (i + 1) (set rs i new)
clear_more text_at text_len rs i r new w lt is part own clear before j d below = by (cases_lt j i)
  where
    parts : (k : ℕ) (d : Region) → region_part (get_or (set rs i new) k d) ≡ region_part (get_or rs k d)
    parts = part-set rs i r new lt is part

    places : SamePlaces rs (set rs i new)
    places = record { many = length-set rs i new; begins = λ k d. ap (λ p. p.0) (parts k d); lengths = λ k d. ap (λ p. length p.1) (parts k d) }

    by : (j < i) ⊎ (i ≤ j) → IsClear text_at text_len (set rs i new) j (get_or (set rs i new) j d).window
    by (inl small) =
        subst (λ z. IsClear text_at text_len (set rs i new) j z.window) (sym (get_or-set_other rs i j new d (λ e. absurd (omega (arith, e, small)))))
        (window_kept text_at text_len rs (set rs i new) j (get_or rs j d).window (before j d small) places)
    by (inr le) =
        let here : j ≡ i = omega (arith, le, below) in
        subst (λ z. IsClear text_at text_len (set rs i new) j z.window) (sym (ap (λ k. get_or (set rs i new) k d) here ∙ get_or-set_same rs i new d lt))
        (subst (IsClear text_at text_len (set rs i new) j) (sym own)
        (subst (λ k. IsClear text_at text_len (set rs i new) k w) (sym here) (window_kept text_at text_len rs (set rs i new) i w clear places)))

-- a page more is noted
pub noted_more : (old pages : List ℕ) (p number : ℕ) → p < length pages → ((k : ℕ) → k < length pages → IsNotedIn old pages number k) → (k : ℕ) → k < length pages → IsNotedIn old (set pages p number) number k
noted_more old pages p number lt h k below = by (cases_lt k p) (cases_lt p k)
  where
    other : (k ≡ p → ⊥) → IsNotedIn old (set pages p number) number k
    other n = subst (λ v. (v ≡ get_or old k 0) ⊎ (v ≡ number)) (sym (get_or-set_other pages p k number 0 n)) (h k below)

    by : (k < p) ⊎ (p ≤ k) → (p < k) ⊎ (k ≤ p) → IsNotedIn old (set pages p number) number k
    by (inl small) q = other (λ e. absurd (omega (arith, e, small)))
    by (inr le) (inl great) = other (λ e. absurd (omega (arith, e, great)))
    by (inr le) (inr ge) =
        let same : k ≡ p = omega (arith, le, ge) in
        inr (ap (λ j. get_or (set pages p number) j 0) same ∙ get_or-set_same pages p number 0 lt)
