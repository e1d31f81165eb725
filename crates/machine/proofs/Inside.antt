-- Where no hart is inside a block of a point.
use Rattle.std.proofs.Common.{◌≡◌, ℕ, zero, suc, List, [], ◌∷◌, Option, Some, None, refl, sym, ap, ◌∙◌}
use Rattle.std.specs.Prelude.{Bool, true, false, find, slice_get, ◌&&◌, ◌||◌}
use Rattle.std.specs.List.{list_any}
use Rattle.std.specs.Option.{option_map}
use Rattle.std.proofs.lemmas.Bool.{true≢false, and_from, and_parts, eq-eqb, eqb-true}
use Rattle.tramp_spec.specs.Harts.{Hart}
use Rattle.machine.specs.Cores.{Row, Core}
use Rattle.machine.specs.Events.{Free, May}
use Rattle.machine.specs.Links.{is_of}
use Rattle.machine.specs.Reached.{IsReached, owner_by}
use Rattle.machine.proofs.HartPlaces.{stands}
use Rattle.machine.proofs.Homes.{covers}
use Rattle.machine.proofs.Lists.{find_gives}
use Rattle.machine.proofs.Owning.{has_word, word_holds}
use Rattle.machine.proofs.Reaching.{good, one_row}

-- ---- tests over a list

any_at : {A : Type 0} (test : A → Bool) (x : A) (xs : List A) (b : Bool) → test x ≡ b → (b || list_any test xs) ≡ true → (list_any test xs ≡ true → (i : ℕ) × (y : A) × (slice_get xs i ≡ Some y) × (test y ≡ true)) → (i : ℕ) × (y : A) × (slice_get (x ∷ xs) i ≡ Some y) × (test y ≡ true)
any_at test x xs true t e ih = (0, x, refl, t)
any_at test x xs false t e ih = let r = ih e in (suc r.0, r.1, r.2, r.3)

pub any_true : {A : Type 0} (test : A → Bool) (xs : List A) → list_any test xs ≡ true → (i : ℕ) × (y : A) × (slice_get xs i ≡ Some y) × (test y ≡ true)
any_true test [] e = absurd (true≢false (sym e))
any_true test (x ∷ xs) e = any_at test x xs (test x) refl e (any_true test xs)

or_false : (b d : Bool) → (b || d) ≡ false → (b ≡ false) × (d ≡ false)
or_false true d e = absurd (true≢false e)
or_false false d e = (refl, e)

any_false : {A : Type 0} (test : A → Bool) (xs : List A) (i : ℕ) (y : A) → list_any test xs ≡ false → slice_get xs i ≡ Some y → test y ≡ false
any_false test [] i y e s = absurd cc
any_false test (x ∷ xs) zero y e s = let same : x ≡ y = cc in ap test (sym same) ∙ (or_false (test x) (list_any test xs) e).0
any_false test (x ∷ xs) (suc i) y e s = any_false test xs i y (or_false (test x) (list_any test xs) e).1 s

-- ---- harts

-- a hart is inside a block of the point
abbrev stands_at : Core → ℕ → Hart → Bool
stands_at c p x = x.inside && is_of p (owner_by c.rows x.pc)

is_of_true : (p : ℕ) (o : Option Row) → is_of p (option_map (λ (r : Row). r.point) o) ≡ true → (r : Row) × (o ≡ Some r) × (r.point ≡ p)
is_of_true p None e = absurd (true≢false (sym e))
is_of_true p (Some r) e = (r, refl, eqb-true r.point p e)

-- then the point's room is not given back
pub held : (c : Core) (p : ℕ) → list_any (stands_at c p) c.harts ≡ true → May c (Free p) → ⊥
held c p e may =
    let a = any_true (stands_at c p) c.harts e in
    let x = a.1 in
    let b = and_parts x.inside (is_of p (owner_by c.rows x.pc)) a.3 in
    let o = is_of_true p (find (has_word x.pc) c.rows) b.1 in
    let g = find_gives (has_word x.pc) c.rows o.0 o.1 in
    may o.0 g.0 o.2 (a.0, x, a.2, b.0, word_holds x.pc o.0 g.1)

-- and else it is
pub let_go : (c : Core) (p : ℕ) → IsReached c → list_any (stands_at c p) c.harts ≡ false → May c (Free p)
let_go c p k e r hr rp inside =
    let v = good c k in
    let x = inside.1 in
    let w = stands c k inside.0 x inside.2 inside.3 in
    let same = one_row c v.0 v.1 w.row r x.pc w.listed hr (covers w.row x.pc w.low w.high) inside.4 in
    let o = w.owned ∙ ap (λ (u : Row). Some u.point) same in
    let yes : stands_at c p x ≡ true = and_from _ _ inside.3 (ap (is_of p) o ∙ eq-eqb r.point p rp) in
    true≢false (sym yes ∙ any_false (stands_at c p) c.harts inside.0 x e inside.2)
