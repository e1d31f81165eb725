-- The machine after the quanta that are left.
use Rattle.std.proofs.Common.{◌≡◌, ℕ, zero, suc, [], List, Option, Some, None, Bool, refl, sym, ap, ◌∙◌}
use Rattle.pn_types.specs.declared.limits.TheConstants.{MAX_QUANTA}
use Rattle.turn_order.specs.declared.order.Order.{Order}
use Rattle.turn_order.specs.Orders.{chosen, order_after, order_of_seed, picked, ready_of}
use Rattle.machine.specs.Cores.{Core}
use Rattle.machine.specs.Replays.{replay}
use Rattle.machine.specs.States.{quantum_turns}
use Rattle.machine.specs.Turns.{is_runnable}
use Rattle.machine.proofs.Replaying.{replay-append}
use Rattle.block_count.specs.Course.{Pace, all_quanta, and_then, quanta_from}

-- after at most a number of quanta
pub behind : ℕ → Pace → Order → Core → Core
behind more p order c = replay (quanta_from more p order c) c

pub behind_none : (more : ℕ) (p : Pace) (order : Order) (c : Core) → picked order (is_runnable c) p.harts ≡ None → behind more p order c ≡ c
unfolding behind
behind_none zero p order c e = refl
behind_none (suc more) p order c e =
    ap (λ (o : Option ℕ). replay (elim o [ None ↦ [] | Some h ↦ and_then (quantum_turns p.turns h c) (quanta_from more p (order_after order h)) c ]) c) e

pub behind_one : (more : ℕ) (p : Pace) (order : Order) (c : Core) (h : ℕ) → picked order (is_runnable c) p.harts ≡ Some h
    → behind (suc more) p order c ≡ behind more p (order_after order h) (replay (quantum_turns p.turns h c) c)
unfolding behind
behind_one more p order c h e =
    ap (λ (o : Option ℕ). replay (elim o [ None ↦ [] | Some h ↦ and_then (quantum_turns p.turns h c) (quanta_from more p (order_after order h)) c ]) c) e
    ∙ replay-append (quantum_turns p.turns h c) (quanta_from more p (order_after order h) (replay (quantum_turns p.turns h c) c)) c

pub behind_zero : (p : Pace) (order : Order) (c : Core) → behind zero p order c ≡ c
unfolding behind
behind_zero p order c = refl

pub behind_all : (p : Pace) (c : Core) → behind MAX_QUANTA p (order_of_seed p.seed) c ≡ replay (all_quanta p c) c
unfolding behind all_quanta
behind_all p c = refl

-- the next of the harts that are runnable
pub next_is : (order : Order) (ready : List ℕ) (may : ℕ → Bool) (n : ℕ) (r o : Option ℕ) → ready ≡ ready_of may n → r ≡ chosen order ready → r ≡ o → picked order may n ≡ o
next_is order ready may n r o e p is = sym (p ∙ ap (chosen order) e) ∙ is
