-- Harmless bodies one after another, and after guards.
use Rattle.std.proofs.Common.{◌≡◌, ℕ, zero, suc, ◌+◌, ◌*◌, List, [], ◌∷◌, ◌++◌, length, refl, sym, ap, ◌∙◌, subst, arith, inl, inr, length-append}
use Rattle.std.specs.Prelude.{slice_index, ◌⊎◌}
use Rattle.tramp_spec.specs.Steps.{Bench}
use Rattle.tramp_spec.specs.Bodies.{AreTool, Safe, Stands, Harmless, LeavesSlot, bank_at_end}
use Rattle.tramp_spec.specs.Routes.{Route, Guards, BodiesGoOn}
use Rattle.tramp_spec.specs.declared.mark.MarkedWord.{MarkedWord}
use Rattle.tramp_spec.proofs.Routes.{keeps, safe_of, finish_of, and_on, left, right}

-- a safe run has an end
route_of : (body : List MarkedWord) (at ticks most i : ℕ) (x : Bench) → Safe most body at i x ticks → (y : Bench) × Route body at ticks i (length body) x y
route_of body at ticks zero i x s = (x, (0, (s, refl)))
route_of body at ticks (suc most) i x (inl e) = (x, (0, (e, refl)))
route_of body at ticks (suc most) i x (inr s) = let q = route_of body at ticks most s.0 s.1 s.3 in (q.0, (suc q.1.0, (s.0, s.1, s.2, q.1.1)))

pub ends : (body : List MarkedWord) → Harmless body → (at ticks : ℕ) (x : Bench) → Stands body at x → (y : Bench) × Route body at ticks 0 (length body) x y
ends body h at ticks x s = route_of body at ticks (length body) 0 x (h.safe at ticks x s)

stands_left : (a b : List MarkedWord) (at : ℕ) (x : Bench) → Stands (a ++ b) at x → Stands a at x
stands_left a b at x s =
    let n = length-append a b in
    let fits = s.fits in record { aligned = s.aligned; fits = omega arith; file = s.file; bank = s.bank }

stands_right : (a b : List MarkedWord) (at ticks : ℕ) (x z : Bench) → Stands (a ++ b) at x → Route (a ++ b) at ticks 0 (length a) x z → Stands b (at + 4 * length a) z
stands_right a b at ticks x z s r =
    let k = keeps (a ++ b) at ticks 0 (length a) x z r in
    let n = length-append a b in
    let aligned = s.aligned in
    let fits = s.fits in record { aligned = omega arith; fits = omega arith; file = k.size ∙ s.file; bank = k.room ∙ s.bank }

-- a run to the second body, and then through it
record Through (a b : List MarkedWord) (at ticks : ℕ) (x z : Bench) : Type 0 where
  y : Bench
  route : Route (a ++ b) at ticks 0 (length (a ++ b)) x y
  finish : bank_at_end b (at + 4 * length a) z ticks ≡ y.bank

through : (a b : List MarkedWord) → Harmless b → (at ticks : ℕ) (x z : Bench) → Stands (a ++ b) at x → Route (a ++ b) at ticks 0 (length a) x z → Through a b at ticks x z
through a b h at ticks x z s r =
    let n = length-append a b in
    let q = ends b h (at + 4 * length a) ticks z (stands_right a b at ticks x z s r) in
    let go = right a b at ticks 0 (length b) z q.0 q.1 in
    let e : length a + 0 ≡ length a = omega arith in
    let on = subst (λ m. Route (a ++ b) at ticks m (length a + length b) z q.0) e go in
    let to = subst (λ m. Route (a ++ b) at ticks (length a) m z q.0) (sym n) on in
    record { y = q.0; route = and_on (a ++ b) at ticks 0 (length a) (length (a ++ b)) x z q.0 r to; finish = finish_of b (at + 4 * length a) ticks z q.0 q.1 }

first : (a b : List MarkedWord) → Harmless a → (at ticks : ℕ) (x : Bench) → Stands (a ++ b) at x → (z : Bench) × Route (a ++ b) at ticks 0 (length a) x z × (bank_at_end a at x ticks ≡ z.bank)
first a b h at ticks x s =
    let q = ends a h at ticks x (stands_left a b at x s) in
    (q.0, left a b at ticks 0 (length a) x q.0 q.1, finish_of a at ticks x q.0 q.1)

tools_append : (a b : List MarkedWord) → AreTool a → AreTool b → AreTool (a ++ b)
tools_append [] b ta tb = tb
tools_append (w ∷ a) b ta tb = (ta.0, tools_append a b ta.1 tb)

append : (a b : List MarkedWord) → Harmless a → Harmless b → Harmless (a ++ b)
append a b ha hb =
    record {
      tools = tools_append a b ha.tools hb.tools;
      safe = λ at ticks x s. let q = first a b ha at ticks x s in let t = through a b hb at ticks x q.0 s q.1 in safe_of (a ++ b) at ticks x t.y t.route;
    }

append_leaves : (a b : List MarkedWord) (slot : ℕ) → Harmless a → Harmless b → LeavesSlot a slot → LeavesSlot b slot → LeavesSlot (a ++ b) slot
append_leaves a b slot ha hb la lb at ticks x s =
    let q = first a b ha at ticks x s in
    let z = q.0 in
    let t = through a b hb at ticks x z s q.1 in
    ap (λ k. slice_index k slot) (finish_of (a ++ b) at ticks x t.y t.route)
    ∙ ap (λ k. slice_index k slot) (sym t.finish)
    ∙ lb (at + 4 * length a) ticks z (stands_right a b at ticks x z s q.1)
    ∙ ap (λ k. slice_index k slot) (sym q.2)
    ∙ la at ticks x (stands_left a b at x s)

guard_ends : (g rest : List MarkedWord) (at ticks : ℕ) (x y : Bench) → Harmless rest → Stands (g ++ rest) at x
    → Route (g ++ rest) at ticks 0 (length g) x y ⊎ Route (g ++ rest) at ticks 0 (length (g ++ rest)) x y → (z : Bench) × Route (g ++ rest) at ticks 0 (length (g ++ rest)) x z
guard_ends g rest at ticks x y h s (inl r) = let t = through g rest h at ticks x y s r in (t.y, t.route)
guard_ends g rest at ticks x y h s (inr r) = (y, r)

guard : (g rest : List MarkedWord) → Guards g rest → Harmless rest → Harmless (g ++ rest)
guard g rest gs h =
    record {
      tools = tools_append g rest gs.tools h.tools;
      safe = λ at ticks x s.
          let w = gs.leads at ticks x s in
          let e = guard_ends g rest at ticks x w.0 h s w.2 in safe_of (g ++ rest) at ticks x e.0 e.1;
    }

guard_slot : (g rest : List MarkedWord) (slot at ticks : ℕ) (x y : Bench) → Harmless rest → LeavesSlot rest slot → Stands (g ++ rest) at x → y.bank ≡ x.bank
    → Route (g ++ rest) at ticks 0 (length g) x y ⊎ Route (g ++ rest) at ticks 0 (length (g ++ rest)) x y → slice_index (bank_at_end (g ++ rest) at x ticks) slot ≡ slice_index x.bank slot
guard_slot g rest slot at ticks x y h l s e (inl r) =
    let t = through g rest h at ticks x y s r in
    ap (λ k. slice_index k slot) (finish_of (g ++ rest) at ticks x t.y t.route)
    ∙ ap (λ k. slice_index k slot) (sym t.finish)
    ∙ l (at + 4 * length g) ticks y (stands_right g rest at ticks x y s r)
    ∙ ap (λ k. slice_index k slot) e
guard_slot g rest slot at ticks x y h l s e (inr r) = ap (λ k. slice_index k slot) (finish_of (g ++ rest) at ticks x y r) ∙ ap (λ k. slice_index k slot) e

guard_leaves : (g rest : List MarkedWord) (slot : ℕ) → Guards g rest → Harmless rest → LeavesSlot rest slot → LeavesSlot (g ++ rest) slot
guard_leaves g rest slot gs h l at ticks x s = let w = gs.leads at ticks x s in guard_slot g rest slot at ticks x w.0 h l s w.1 w.2

pub bodies_go_on : BodiesGoOn
bodies_go_on = record { append = append; append_leaves = append_leaves; guard = guard; guard_leaves = guard_leaves }
