-- A stable sort by tick has one result.
use Rattle.std.proofs.Common.{◌≡◌, ℕ, suc, ◌<◌, ◌≤◌, List, [], ◌∷◌, length, get_or, Bool, true, false, not, ◌&&◌, cond, eqb, leb, None, refl, ap, sym, subst, ◌∙◌, ⊎_elim, arith}
use Rattle.std.specs.List.{filter}
use Rattle.std.specs.List.Sorted.{IsNonDecreasingBy, IsStableByKey}
use Rattle.std.specs.Ordering.{is_lt, nat_cmp}
use Rattle.std.proofs.lemmas.Bool.{cases_lt}
use Rattle.std.proofs.lemmas.Bool.Decides.{nat_tests}
use Rattle.pn_types.specs.declared.focus.CodePart.TheVariants.{All}
use Rattle.mdl_check.specs.declared.checked.CheckedWish.{CheckedWish}
use Rattle.session_spec.specs.Inputs.{put_by_tick, by_tick}

-- the ticks don't fall, and the first is at least k
abbrev Rises : ℕ → List CheckedWish → Type 0
Rises k [] = Unit {0}
Rises k (w ∷ ws) = (k ≤ w.at) × Rises w.at ws

-- the wishes of a tick
abbrev at : ℕ → List CheckedWish → List CheckedWish
at j ws = filter (λ w. eqb j w.at) ws

-- ---- two lists that rise, with the same wishes of each tick, are one

none_below : (j k : ℕ) (ws : List CheckedWish) → Rises k ws → j < k → at j ws ≡ []
none_below j k [] h l = refl
none_below j k (w ∷ ws) h l =
    let e : eqb j w.at ≡ false = grind (arith, nat_tests) in
    ap (λ b. cond b (w ∷ at j ws) (at j ws)) e ∙ none_below j w.at ws h.1 (omega (arith, h.0))

at_head : (j : ℕ) (w : CheckedWish) (ws : List CheckedWish) → j ≡ w.at → at j (w ∷ ws) ≡ w ∷ at j ws
at_head j w ws e =
    let t : eqb j w.at ≡ true = grind (arith, nat_tests) in
    ap (λ b. cond b (w ∷ at j ws) (at j ws)) t

not_nil : (w : CheckedWish) (ws vs : List CheckedWish) → vs ≡ w ∷ ws → vs ≡ [] → ⊥
not_nil w ws vs e h = cc

joined : (w v : CheckedWish) (ws vs ss ts : List CheckedWish) → w ∷ ss ≡ v ∷ ts → ws ≡ vs → w ∷ ws ≡ v ∷ vs
joined w v ws vs ss ts h e = cc

same : (b : Bool) (w v : CheckedWish) (ws vs : List CheckedWish) → cond b (w ∷ ws) ws ≡ cond b (v ∷ vs) vs → ws ≡ vs
same true w v ws vs h = cc
same false w v ws vs h = h

-- the tails agree where the lists with their heads do, which have the same tick
tails : (j : ℕ) (w v : CheckedWish) (ws vs : List CheckedWish) → w.at ≡ v.at → at j (w ∷ ws) ≡ at j (v ∷ vs) → at j ws ≡ at j vs
tails j w v ws vs e h = same (eqb j w.at) w v (at j ws) (at j vs) (h ∙ ap (λ k. cond (eqb j k) (v ∷ at j vs) (at j vs)) (sym e))

unique : (k : ℕ) (ws vs : List CheckedWish) → Rises k ws → Rises k vs → ((j : ℕ) → at j ws ≡ at j vs) → ws ≡ vs
unique k [] [] a b h = refl
unique k [] (v ∷ vs) a b h = absurd (not_nil v _ _ (at_head v.at v vs refl) (sym (h v.at)))
unique k (w ∷ ws) [] a b h = absurd (not_nil w _ _ (at_head w.at w ws refl) (h w.at))
unique k (w ∷ ws) (v ∷ vs) a b h =
    ⊎_elim
    (λ (l : w.at < v.at). absurd (not_nil w _ _ (at_head w.at w ws refl) (h w.at ∙ none_below w.at v.at (v ∷ vs) (omega arith, b.1) l)))
    (λ (l : v.at ≤ w.at). ⊎_elim
    (λ (m : v.at < w.at). absurd (not_nil v _ _ (at_head v.at v vs refl) (sym (h v.at) ∙ none_below v.at w.at (w ∷ ws) (omega arith, a.1) m)))
    (λ (m : w.at ≤ v.at).
    let e : w.at ≡ v.at = omega arith in
    let heads = sym (at_head w.at w ws refl) ∙ h w.at ∙ at_head w.at v vs e in
    let same_tail : ws ≡ vs = unique w.at ws vs a.1 (subst (λ i. Rises i vs) (sym e) b.1) (λ j. tails j w v ws vs e (h j)) in
    joined w v ws vs _ _ heads same_tail)
    (cases_lt v.at w.at))
    (cases_lt w.at v.at)

-- ---- by_tick

put-rises : (w : CheckedWish) (k : ℕ) (ws : List CheckedWish) → k ≤ w.at → Rises k ws → Rises k (put_by_tick w ws)
put-rises w k [] l h = (l, tt)
put-rises w k (x ∷ xs) l h =
    ⊎_elim
    (λ (m : x.at < w.at).
    let e : leb w.at x.at ≡ false = grind (arith, nat_tests) in
    subst (λ b. Rises k (cond b (w ∷ (x ∷ xs)) (x ∷ put_by_tick w xs))) (sym e) (h.0, put-rises w x.at xs (omega arith) h.1))
    (λ (m : w.at ≤ x.at).
    let e : leb w.at x.at ≡ true = grind (arith, nat_tests) in
    subst (λ b. Rises k (cond b (w ∷ (x ∷ xs)) (x ∷ put_by_tick w xs))) (sym e) (l, (m, h.1)))
    (cases_lt x.at w.at)

by_tick-rises : (ws : List CheckedWish) → Rises 0 (by_tick ws)
by_tick-rises [] = tt
by_tick-rises (w ∷ ws) = put-rises w 0 (by_tick ws) (omega arith) (by_tick-rises ws)

-- of two wishes at most one passes
exchange : (a b : Bool) (w v : CheckedWish) (ws : List CheckedWish) → (a ≡ true → b ≡ true → ⊥) → cond a (w ∷ cond b (v ∷ ws) ws) (cond b (v ∷ ws) ws) ≡ cond b (v ∷ cond a (w ∷ ws) ws) (cond a (w ∷ ws) ws)
exchange true true w v ws h = absurd (h refl refl)
exchange true false w v ws h = refl
exchange false true w v ws h = refl
exchange false false w v ws h = refl

apart : (j a b : ℕ) → a < b → eqb j a ≡ true → eqb j b ≡ true → ⊥
apart j a b l e h = grind (arith, nat_tests)

put-at : (w : CheckedWish) (j : ℕ) (ws : List CheckedWish) → at j (put_by_tick w ws) ≡ at j (w ∷ ws)
put-at w j [] = refl
put-at w j (x ∷ xs) =
    ⊎_elim
    (λ (m : x.at < w.at).
    let e : leb w.at x.at ≡ false = grind (arith, nat_tests) in
    ap (λ b. at j (cond b (w ∷ (x ∷ xs)) (x ∷ put_by_tick w xs))) e
    ∙ ap (λ z. cond (eqb j x.at) (x ∷ z) z) (put-at w j xs)
    ∙ exchange (eqb j x.at) (eqb j w.at) x w (at j xs) (apart j x.at w.at m))
    (λ (m : w.at ≤ x.at).
    let e : leb w.at x.at ≡ true = grind (arith, nat_tests) in
    ap (λ b. at j (cond b (w ∷ (x ∷ xs)) (x ∷ put_by_tick w xs))) e)
    (cases_lt x.at w.at)

by_tick-at : (j : ℕ) (ws : List CheckedWish) → at j (by_tick ws) ≡ at j ws
by_tick-at j [] = refl
by_tick-at j (w ∷ ws) = put-at w j (by_tick ws) ∙ ap (λ z. cond (eqb j w.at) (w ∷ z) z) (by_tick-at j ws)

-- ---- a stable sort

rises : (k : ℕ) (ws : List CheckedWish) → IsNonDecreasingBy (λ w. w.at) ws → ((d : CheckedWish) → 0 < length ws → k ≤ (get_or ws 0 d).at) → Rises k ws
rises k [] h l = tt
rises k (w ∷ ws) h l = (l w (omega arith), rises w.at ws (λ i j d a b. h (suc i) (suc j) d (omega arith) (omega arith)) (λ d b. h 0 1 d (omega arith) (omega arith)))

tie : (a b : ℕ) → (not (is_lt (nat_cmp a b)) && not (is_lt (nat_cmp b a))) ≡ eqb a b
tie a b = grind (arith, nat_tests)

-- some wish of a tick
here : ℕ → CheckedWish
here j = record { at = j; show = false; metric = 0; focus = record { code = All; hart = None; object = None } }

stable_at : (j : ℕ) (ws vs : List CheckedWish) → IsStableByKey (λ (w : CheckedWish). w.at) nat_cmp ws vs → at j vs ≡ at j ws
unfolding here
stable_at j ws vs stable =
    (λ i. filter (λ (w : CheckedWish). sym (tie j w.at) i) vs) ∙ stable (here j) ∙ (λ i. filter (λ (w : CheckedWish). tie j w.at i) ws)

-- what a stable sort by tick makes of wishes
pub sorted_is : (ws vs : List CheckedWish) → IsNonDecreasingBy (λ w. w.at) vs → IsStableByKey (λ (w : CheckedWish). w.at) nat_cmp ws vs → vs ≡ by_tick ws
sorted_is ws vs up stable =
    unique 0 vs (by_tick ws) (rises 0 vs up (λ d b. omega arith)) (by_tick-rises ws)
    (λ j. stable_at j ws vs stable ∙ sym (by_tick-at j ws))
