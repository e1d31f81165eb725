-- Plans that are ready are used one after another.
use Rattle.std.proofs.Common.{◌≡◌, ℕ, zero, suc, ◌+◌, ◌≤◌, List, [], ◌∷◌, Some, refl, sym, ap, ◌∙◌, subst, arith, length, inl, inr}
use Rattle.std.specs.Prelude.{Bool, true, false, cond, drop, slice_get, ◌⊎◌}
use Rattle.pn_types.specs.declared.plan.Plan.{Plan}
use Rattle.machine.specs.Cores.{In}
use Rattle.instrument.specs.Needs.{Need, is_need, need_of, without}
use Rattle.instrument.proofs.Ready.{one_less}
use Rattle.session.specs.Tables.{AreReady}

-- ---- what is ready

pub ready_in : (n : Need) (ns ready : List Need) → AreReady (n ∷ ns) ready → In n ready
ready_in n ns [] r = absurd r
ready_in n ns (x ∷ ready) (inl e) = inl e.0
ready_in n ns (x ∷ ready) (inr r) = inr (ready_in n ns ready r)

one_more : (ns : List Need) (x : Need) (ready : List Need) → AreReady ns ready → AreReady ns (x ∷ ready)
one_more [] x ready r = tt
one_more (n ∷ ns) x ready r = inr r

-- fewer needs
less_ready : (n : Need) (ns ready : List Need) → AreReady (n ∷ ns) ready → AreReady ns ready
less_ready n ns [] r = absurd r
less_ready n ns (x ∷ ready) (inl e) = one_more ns x ready e.1
less_ready n ns (x ∷ ready) (inr r) = one_more ns x ready (less_ready n ns ready r)

-- a need is found where it stands
is_found : (n x : Need) → n ≡ x → is_need n x ≡ false → ⊥
is_found n x e f =
    let k = (one_less n (x ∷ []) (inl e)).1 in
    let w : without n (x ∷ []) ≡ x ∷ [] = ap (λ b. cond b [] (x ∷ [])) f in
    let l = ap (λ (l : List Need). length l) w in
    let one : length (x ∷ []) ≡ 1 = refl in
    omega arith

-- one of them is used up
used : (n : Need) (ns ready : List Need) → AreReady (n ∷ ns) ready → AreReady ns (without n ready)
used n ns [] r = absurd r
used n ns (x ∷ ready) r = by (is_need n x) refl r (used n ns ready)
  where
    by : (b : Bool) → is_need n x ≡ b → AreReady (n ∷ ns) (x ∷ ready) → (AreReady (n ∷ ns) ready → AreReady ns (without n ready)) → AreReady ns (cond b ready (x ∷ without n ready))
    by true e (inl k) ih = k.1
    by true e (inr k) ih = less_ready n ns ready k
    by false e (inl k) ih = absurd (is_found n x k.0 e)
    by false e (inr k) ih = one_more ns x (without n ready) (ih k)

pub all_ready : (ns : List Need) → AreReady ns ns
all_ready [] = tt
all_ready (n ∷ ns) = inl (refl, all_ready ns)

-- a plan is used up, or isn't
pub ready_behind : (plan : Plan) (rest ready new : List Need) → AreReady (need_of plan ∷ rest) ready → (new ≡ ready) ⊎ (new ≡ without (need_of plan) ready) → AreReady rest new
ready_behind plan rest ready new r (inl e) = subst (AreReady rest) (sym e) (less_ready (need_of plan) rest ready r)
ready_behind plan rest ready new r (inr e) = subst (AreReady rest) (sym e) (used (need_of plan) rest ready r)

-- ---- lists from a place on

-- one of a list, and the others after it
pub drop_step : {A : Type 0} (xs : List A) (i : ℕ) (x : A) → slice_get xs i ≡ Some x → drop i xs ≡ x ∷ drop (i + 1) xs
drop_step [] i x e = absurd cc
drop_step (y ∷ ys) zero x e = let same : y ≡ x = cc in ap (λ z. z ∷ ys) same
drop_step (y ∷ ys) (suc i) x e =
    let next : suc (i + 1) ≡ suc i + 1 = omega arith in
    drop_step ys i x e ∙ ap (λ k. x ∷ drop k (y ∷ ys)) next

pub drop_all : {A : Type 0} (xs : List A) (i : ℕ) → length xs ≤ i → drop i xs ≡ []
drop_all [] zero l = refl
drop_all [] (suc i) l = refl
drop_all (y ∷ ys) zero l = absurd (omega arith)
drop_all (y ∷ ys) (suc i) l = drop_all ys i (omega arith)
