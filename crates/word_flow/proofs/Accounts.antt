-- What is weighed along a run: what holds of each turn holds of all together.
use Rattle.std.proofs.Common.{◌≡◌, ℕ, ◌+◌, ◌<◌, ◌≤◌, List, [], ◌∷◌, length, Option, Some, None, refl, subst, arith, Bool, true, false}
use Rattle.std.specs.Prelude.{IsTrue, ◌&&◌, is_none, nat_lt, slice_get, slice_set, sum_by}
use Rattle.std.proofs.lemmas.Bool.{ltb-true}
use Rattle.std.proofs.lemmas.Option.{get_or_from_slice_get, slice_get_within}
use Rattle.std.proofs.lemmas.List.Sums.{sum_by-cons, sum_by-set}
use Rattle.rv_word.specs.Registers.{arguments_of}
use Rattle.rv_word.specs.Plain.{Words, PlainHart, Plain, may_go, turn_of, turn_alone}
use Rattle.rv_exec.specs.Run.{Position, position_of, run_from, trace_from, LegalFrom}
use Rattle.word_flow.proofs.Steps.{IsTurn, is_turn}

-- ---- a hart that may take a turn

pub not_stopped : (x : PlainHart) (budget : ℕ) → IsTrue (may_go (Some x) budget) → x.stop ≡ None
not_stopped x budget may = by x.stop (nat_lt x.ticks budget) may
  where
    by : {A : Type 0} (o : Option A) (b : Bool) → IsTrue (is_none o && b) → o ≡ None
    by None b h = refl
    by (Some a) b h = absurd (grind arith)

below_budget : (x : PlainHart) (budget : ℕ) → IsTrue (may_go (Some x) budget) → x.ticks < budget
below_budget x budget may = by (is_none x.stop) (nat_lt x.ticks budget) refl may
  where
    by : (a b : Bool) → nat_lt x.ticks budget ≡ b → IsTrue (a && b) → x.ticks < budget
    by true true e h = ltb-true x.ticks budget e
    by true false e h = absurd cc
    by false b e h = absurd cc

-- the sum over harts of which one was put back
pub sum_by-put_back : (F : PlainHart → ℕ) (hs : List PlainHart) (h : ℕ) (x y : PlainHart)
    → slice_get hs h ≡ Some x → sum_by F (slice_set hs h y) + F x ≡ sum_by F hs + F y
sum_by-put_back F hs h x y e =
    let l : h < length hs = slice_get_within hs h x e in
    let s = sum_by-set F hs h y x l in
    subst (λ z. sum_by F (slice_set hs h y) + F z ≡ sum_by F hs + F y) (get_or_from_slice_get hs h x x e) s

-- ---- turns together

-- for each turn of a hart that isn't stopped, f and g at its pc are balanced by what A and B say of the hart before and after it
abbrev pub IsBalanced : Words → ℕ → (ℕ → ℕ) → (ℕ → ℕ) → (PlainHart → ℕ) → (PlainHart → ℕ) → Type 0
IsBalanced t budget f g A B = (x y : PlainHart)
    → x.stop ≡ None → x.ticks < budget → IsTurn t x y → f x.pc + A x + B y ≤ g x.pc + A y + B x

-- one turn before others
add_turn : (f g ax ay bx by ao az bo bz ae be fr gr fs gs : ℕ)
    → fs ≡ f + fr → gs ≡ g + gr → az + ax ≡ ao + ay → bz + bx ≡ bo + by
    → f + ax + by ≤ g + ay + bx → fr + az + be ≤ gr + ae + bz → fs + ao + be ≤ gs + ae + bo
add_turn f g ax ay bx by ao az bo bz ae be fr gr fs gs a b c d e h = omega arith

-- the sum of f over the addresses of these positions
abbrev pub sum_along : (ℕ → ℕ) → List Position → ℕ
sum_along f tr = sum_by (λ q. f q.pc) tr

-- the turns hs from a state on are balanced together
abbrev pub AreBalanced : Words → (ℕ → ℕ) → (ℕ → ℕ) → (PlainHart → ℕ) → (PlainHart → ℕ) → List ℕ → Plain → Type 0
AreBalanced t f g A B hs s =
    sum_along f (trace_from t hs s) + sum_by A s.harts + sum_by B (run_from t hs s).harts
    ≤ sum_along g (trace_from t hs s) + sum_by A (run_from t hs s).harts + sum_by B s.harts

-- What holds of each turn holds of all.
pub all_balance : (t : Words) (budget : ℕ) (f g : ℕ → ℕ) (A B : PlainHart → ℕ)
    → IsBalanced t budget f g A B → (hs : List ℕ) (s : Plain) → LegalFrom t budget hs s → AreBalanced t f g A B hs s
all_balance t budget f g A B w [] s legal = omega arith
all_balance t budget f g A B w (h ∷ hs) s legal = by (slice_get s.harts h) refl (λ z l. all_balance t budget f g A B w hs z l)
  where
    -- by the hart that takes the first turn
    by : (o : Option PlainHart) → slice_get s.harts h ≡ o → ((z : Plain) → LegalFrom t budget hs z → AreBalanced t f g A B hs z)
        → sum_along f (position_of h o (trace_from t hs (turn_of o t h s))) + sum_by A s.harts
        + sum_by B (run_from t hs (turn_of o t h s)).harts
        ≤ sum_along g (position_of h o (trace_from t hs (turn_of o t h s))) + sum_by A (run_from t hs (turn_of o t h s)).harts
        + sum_by B s.harts
    by None e rest = let never : IsTrue (may_go None budget) = subst (λ z. IsTrue (may_go z budget)) e legal.0 in absurd cc
    by (Some x) e rest =
        let may : IsTrue (may_go (Some x) budget) = subst (λ z. IsTrue (may_go z budget)) e legal.0 in
        let free = not_stopped x budget may in
        let y = (turn_alone t h (record { hart = x; prog = s.prog })).hart in
        let z = turn_of (Some x) t h s in
        let one : f x.pc + A x + B y ≤ g x.pc + A y + B x = w x y free (below_budget x budget may) (is_turn t h x s.prog free) in
        let others : AreBalanced t f g A B hs z = rest z (subst (λ o. LegalFrom t budget hs (turn_of o t h s)) e legal.1) in
        let p : Position = record { hart = h; pc = x.pc; arguments = arguments_of x.regs } in
        add_turn (f x.pc) (g x.pc) (A x) (A y) (B x) (B y) (sum_by A s.harts) (sum_by A z.harts) (sum_by B s.harts) (sum_by B z.harts)
        _ _ _ _ _ _
        (sum_by-cons (λ (q : Position). f q.pc) p (trace_from t hs z)) (sum_by-cons (λ (q : Position). g q.pc) p (trace_from t hs z))
        (sum_by-put_back A s.harts h x y e) (sum_by-put_back B s.harts h x y e) one others
