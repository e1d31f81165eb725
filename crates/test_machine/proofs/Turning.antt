-- Turns of hart 0, one by one.
use Rattle.std.proofs.Common.{◌≡◌, ℕ, suc, ◌-◌, ◌<◌, List, [], ◌∷◌, length, refl, ap, subst, arith}
use Rattle.std.specs.Prelude.{IsTrue}
use Rattle.tramp_spec.specs.Harts.{Hart}
use Rattle.machine.specs.Cores.{Core}
use Rattle.test_examples.specs.FirstTurns.{turns}
use Rattle.machine.specs.Replays.{Legal, replay}
use Rattle.machine.specs.Turns.{is_runnable, turn}

none_of : (n count : ℕ) → (n < count → ⊥) → count - n ≡ 0
none_of n count h = omega arith

has_first : (harts : List Hart) (c : Core) → harts ≡ c.harts → IsTrue (is_runnable c 0) → 0 < length harts
has_first [] c e r = absurd cc
has_first (x ∷ harts) c e r = omega arith

pub within_first : (c : Core) → IsTrue (is_runnable c 0) → 0 < length c.harts
within_first c r = has_first c.harts c refl r

pub goes : (n k : ℕ) (c : Core) → n ≡ suc k → Legal (turns n) c → IsTrue (is_runnable c 0) × Legal (turns k) (turn c 0)
goes n k c e l = subst (λ m. Legal (turns m) c) e l

pub leads : (n k : ℕ) (c : Core) → n ≡ suc k → replay (turns n) c ≡ replay (turns k) (turn c 0)
leads n k c e = ap (λ m. replay (turns m) c) e

pub ended : (n : ℕ) (c : Core) → n ≡ 0 → replay (turns n) c ≡ c
ended n c e = ap (λ m. replay (turns m) c) e
