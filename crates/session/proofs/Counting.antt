-- Wishes are counted, and what they need is made, one after another.
use Rattle.std.proofs.Common.{◌≡◌, ℕ, zero, suc, ◌+◌, ◌<◌, ◌≤◌, List, [], ◌∷◌, ◌++◌, Option, Some, None, refl, sym, ap, ◌∙◌, subst, arith, length, inl, inr, ◌^◌}
use Rattle.std.specs.Prelude.{true, false, drop, nat_le, slice_get, take}
use Rattle.pn_types.specs.declared.plan.Plan.{Plan}
use Rattle.mdl_check.specs.declared.checked.CheckedWish.{CheckedWish}
use Rattle.prim_code.specs.Counts.{predicted}
use Rattle.machine.specs.Cores.{In}
use Rattle.session_spec.specs.Inputs.{Inputs}
use Rattle.session.specs.declared.candidate.Candidate.{Candidate}
use Rattle.session.specs.Candidates.{AreOfWishes, IsOfWish}
use Rattle.session.specs.Tables.{IsCount}
use Rattle.session.proofs.Readiness.{drop_all, drop_step}

-- what is counted from a place on is counted in all
abbrev pub CountsOn : ℕ → List CheckedWish → ℕ → Type 0
CountsOn time ws count = (n : ℕ) → IsCount time (drop count ws) n → IsCount time ws (count + n)

pub counts_next : (time : ℕ) (ws : List CheckedWish) (count : ℕ) (w : CheckedWish) → slice_get ws count ≡ Some w → nat_le w.at time ≡ true → CountsOn time ws count → CountsOn time ws (count + 1)
counts_next time ws count w e due k n h =
    let sum : count + suc n ≡ count + 1 + n = omega arith in
    subst (IsCount time ws) sum (k (suc n) (subst (λ l. IsCount time l (suc n)) (sym (drop_step ws count w e)) (due, h)))

pub counts_end : (time : ℕ) (ws : List CheckedWish) (count : ℕ) → length ws ≤ count → CountsOn time ws count → IsCount time ws count
counts_end time ws count l k =
    let e : count + 0 ≡ count = omega arith in
    subst (IsCount time ws) e (k 0 (subst (λ l. IsCount time l 0) (sym (drop_all ws count l)) refl))

pub counts_stop : (time : ℕ) (ws : List CheckedWish) (count : ℕ) (w : CheckedWish) → slice_get ws count ≡ Some w → nat_le w.at time ≡ false → CountsOn time ws count → IsCount time ws count
counts_stop time ws count w e due k =
    let s : count + 0 ≡ count = omega arith in
    subst (IsCount time ws) s (k 0 (subst (λ l. IsCount time l 0) (sym (drop_step ws count w e)) due))

-- one more
snoc : (i : Inputs) (ws : List CheckedWish) (ps : List Plan) (cs : List (Option Candidate)) (w : CheckedWish) (p : Plan) (c : Option Candidate) → AreOfWishes i ws ps cs → IsOfWish i w p c → AreOfWishes i (ws ++ w ∷ []) (ps ++ p ∷ []) (cs ++ c ∷ [])
snoc i [] [] [] w p c a k = (k, tt)
snoc i [] [] (x ∷ cs) w p c a k = absurd a
snoc i [] (q ∷ ps) cs w p c a k = absurd a
snoc i (v ∷ ws) [] cs w p c a k = absurd a
snoc i (v ∷ ws) (q ∷ ps) [] w p c a k = absurd a
snoc i (v ∷ ws) (q ∷ ps) (x ∷ cs) w p c a k = (a.0, snoc i ws ps cs w p c a.1 k)

take_step : (ws : List CheckedWish) (k : ℕ) (w : CheckedWish) → slice_get ws k ≡ Some w → take (k + 1) ws ≡ take k ws ++ w ∷ []
take_step [] k w e = absurd cc
take_step (v ∷ ws) zero w e = let same : v ≡ w = cc in ap (λ x. x ∷ []) same
take_step (v ∷ ws) (suc k) w e =
    let next : suc k + 1 ≡ suc (k + 1) = omega arith in
    ap (λ n. take n (v ∷ ws)) next ∙ ap (λ l. v ∷ l) (take_step ws k w e)

pub one_prepared : (i : Inputs) (ws : List CheckedWish) (k : ℕ) (w : CheckedWish) (ps qs : List Plan) (cs ds : List (Option Candidate)) (p : Plan) (c : Option Candidate) → slice_get ws k ≡ Some w → AreOfWishes i (take k ws) ps cs → IsOfWish i w p c
    → qs ≡ ps ++ p ∷ [] → ds ≡ cs ++ c ∷ [] → AreOfWishes i (take (k + 1) ws) qs ds
one_prepared i ws k w ps qs cs ds p c e a one q d =
    subst (λ l. AreOfWishes i (take (k + 1) ws) l ds) (sym q) (subst (AreOfWishes i (take (k + 1) ws) (ps ++ p ∷ [])) (sym d)
    (subst (λ l. AreOfWishes i l (ps ++ p ∷ []) (cs ++ c ∷ [])) (sym (take_step ws k w e)) (snoc i (take k ws) ps cs w p c a one)))

pub take_all : {A : Type 0} (ws : List A) (k : ℕ) → length ws ≤ k → take k ws ≡ ws
take_all [] zero l = refl
take_all [] (suc k) l = refl
take_all (w ∷ ws) zero l = absurd (omega arith)
take_all (w ∷ ws) (suc k) l = ap (λ x. w ∷ x) (take_all ws k (omega arith))

-- ---- of a number of the first

pub count_low : (time : ℕ) (ws : List CheckedWish) (n : ℕ) → IsCount time ws n → n ≤ length ws
count_low time [] n k = omega arith
count_low time (w ∷ ws) zero k = omega arith
count_low time (w ∷ ws) (suc n) k = let l = count_low time ws n k.1 in omega arith

pub take_many : {A : Type 0} (n : ℕ) (ws : List A) → n ≤ length ws → n ≡ length (take n ws)
take_many zero ws l = refl
take_many (suc n) [] l = absurd (omega arith)
take_many (suc n) (w ∷ ws) l = ap suc (take_many n ws (omega arith))

pub take_in : (n : ℕ) (ws : List CheckedWish) (w : CheckedWish) → In w (take n ws) → In w ws
take_in zero ws w h = absurd h
take_in (suc n) [] w h = absurd h
take_in (suc n) (v ∷ ws) w (inl e) = inl e
take_in (suc n) (v ∷ ws) w (inr h) = inr (take_in n ws w h)

plan_short : (i : Inputs) (w : CheckedWish) (p : Plan) (c : Option Candidate) → IsOfWish i w p c → predicted p < 2 ^ 32
plan_short i w p None a = a.1
plan_short i w p (Some c) a = (a.2).words

pub plans_short : (i : Inputs) (ws : List CheckedWish) (ps : List Plan) (cs : List (Option Candidate)) → AreOfWishes i ws ps cs → (p : Plan) → In p ps → predicted p < 2 ^ 32
plans_short i [] [] cs a p h = absurd h
plans_short i [] (q ∷ ps) cs a p h = absurd a
plans_short i (w ∷ ws) [] cs a p h = absurd h
plans_short i (w ∷ ws) (q ∷ ps) [] a p h = absurd a
plans_short i (w ∷ ws) (q ∷ ps) (c ∷ cs) a p (inl e) = subst (λ x. predicted x < 2 ^ 32) (sym e) (plan_short i w q c a.0)
plans_short i (w ∷ ws) (q ∷ ps) (c ∷ cs) a p (inr h) = plans_short i ws ps cs a.1 p h

pub take_in_drop : (n k : ℕ) (ws : List CheckedWish) (w : CheckedWish) → In w (take n (drop k ws)) → In w (drop k ws)
take_in_drop n k ws w h = take_in n (drop k ws) w h
