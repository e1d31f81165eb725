-- A seed has one whole list of quanta.
use Rattle.std.proofs.Common.{◌≡◌, ◌⊎◌, ℕ, zero, suc, ◌<◌, ◌≤◌, List, [], ◌∷◌, length, Option, Some, refl, ap, sym, subst, ◌∙◌, arith, inl, inr}
use Rattle.std.specs.Prelude.{false, true}
use Rattle.std.proofs.lemmas.Bool.{true≢false}
use Rattle.pn_types.specs.declared.limits.TheConstants.{MAX_QUANTA}
use Rattle.turn_order.specs.declared.order.Order.{Order}
use Rattle.turn_order.specs.Orders.{order_after, order_of_seed, picked}
use Rattle.turn_order.proofs.Picks.{picked_may}
use Rattle.pn_types.specs.declared.quantum.Quantum.{Quantum}
use Rattle.machine.specs.Turns.{is_runnable}
use Rattle.session_spec.specs.Inputs.{Inputs}
use Rattle.session_spec.specs.States.{State}
use Rattle.session_spec.specs.Work.{Halted, IsWhole, first_state, quantum_of, after_quantum, after_quanta, after_quanta_from}
use Rattle.whole_run.specs.Seeded.{AreInOrder, OneSeeded}

-- after these quanta no hart can go on, or there are at least `limit` of them
abbrev Ends : Inputs → ℕ → State → List Quantum → Type 0
Ends i limit s quanta = (h : ℕ) → h < i.settings.harts → (is_runnable (after_quanta_from i quanta s).kept.machine.core h ≡ false) ⊎ (limit ≤ length quanta)

same_some : (a b : ℕ) (o : Option ℕ) → o ≡ Some a → o ≡ Some b → a ≡ b
same_some a b o e f = cc

-- a list that has ended has no quantum more
none_more : (i : Inputs) (limit : ℕ) (order : Order) (s : State) (y : Quantum) (rest : List Quantum) → picked order (is_runnable s.kept.machine.core) i.settings.harts ≡ Some y.hart → length (y ∷ rest) ≤ limit → Ends i limit s [] → ⊥
none_more i limit order s y rest e few ends = by (picked_may order (is_runnable s.kept.machine.core) i.settings.harts y.hart e) ends
  where
    by : (is_runnable s.kept.machine.core y.hart ≡ true) × (y.hart < i.settings.harts) → Ends i limit s [] → ⊥
    by k ends = stops (ends y.hart k.1)
      where
        stops : (is_runnable s.kept.machine.core y.hart ≡ false) ⊎ (limit ≤ 0) → ⊥
        stops (inl never) = true≢false (sym k.0 ∙ never)
        stops (inr l) = absurd (omega arith)

tail_ends : (i : Inputs) (limit : ℕ) (s : State) (x : Quantum) (quanta : List Quantum) → Ends i (suc limit) s (x ∷ quanta) → Ends i limit (after_quantum i x.hart x.turns s) quanta
tail_ends i limit s x quanta ends h l = by (ends h l)
  where
    by : (is_runnable (after_quanta_from i quanta (after_quantum i x.hart x.turns s)).kept.machine.core h ≡ false) ⊎ (suc limit ≤ length (x ∷ quanta)) → (is_runnable (after_quanta_from i quanta (after_quantum i x.hart x.turns s)).kept.machine.core h ≡ false) ⊎ (limit ≤ length quanta)
    by (inl e) = inl e
    by (inr m) = inr (omega arith)

one_order : (i : Inputs) (turns limit : ℕ) (order : Order) (s : State) (q r : List Quantum) → AreInOrder i turns order s q → AreInOrder i turns order s r → length q ≤ limit → length r ≤ limit → Ends i limit s q → Ends i limit s r → q ≡ r
one_order i turns limit order s [] [] a b l m e f = refl
one_order i turns limit order s [] (y ∷ r) a b l m e f = absurd (none_more i limit order s y r b.0 m e)
one_order i turns limit order s (x ∷ q) [] a b l m e f = absurd (none_more i limit order s x q a.0 l f)
one_order i turns zero order s (x ∷ q) (y ∷ r) a b l m e f = absurd (omega arith)
one_order i turns (suc limit) order s (x ∷ q) (y ∷ r) a b l m e f =
    let hart : x.hart ≡ y.hart = same_some x.hart y.hart (picked order (is_runnable s.kept.machine.core) i.settings.harts) a.0 b.0 in
    let same : x ≡ y = a.1 ∙ (ap (λ h. quantum_of i 0 h turns s.kept) hart ∙ sym b.1) in
    let after : Quantum → Type 0 = λ z. AreInOrder i turns (order_after order z.hart) (after_quantum i z.hart z.turns s) r in
    let ends : Quantum → Type 0 = λ z. Ends i limit (after_quantum i z.hart z.turns s) r in
    ap (λ z. z ∷ q) same ∙ ap (λ rest. y ∷ rest)
    (one_order i turns limit (order_after order x.hart) (after_quantum i x.hart x.turns s) q r a.2 (subst after (sym same) b.2) (omega arith) (omega arith) (tail_ends i limit s x q e) (subst ends (sym same) (tail_ends i limit s y r f)))

ended : (i : Inputs) (quanta : List Quantum) → IsWhole i quanta → Ends i MAX_QUANTA (first_state i) quanta
unfolding Halted after_quanta
ended i quanta w h l = w.ended h l

pub one_seeded : OneSeeded
one_seeded i seed turns q r a b = one_order i turns MAX_QUANTA (order_of_seed seed) (first_state i) q r a.ordered b.ordered a.whole.allowed.few b.whole.allowed.few (ended i q a.whole) (ended i r b.whole)
