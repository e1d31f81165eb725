-- Events of a machine that is known.
use Rattle.std.proofs.Common.{◌≡◌, ℕ, refl, sym, ap, ◌∙◌, subst}
use Rattle.std.specs.Prelude.{Bool, true, false, if◌then◌else◌, ◌↔◌, IsTrue}
use Rattle.machine.specs.Cores.{Core}
use Rattle.machine.specs.Effects.{after_event}
use Rattle.machine.specs.Events.{Free, May}
use Rattle.machine.specs.States.{Machine, with_core}

pub goes_to : (f : Core → Core) (m n : Machine) (c : Core) (room : ℕ) → m ≡ record { core = c; room = room } → n ≡ with_core m (f m.core) → n ≡ record { core = f c; room = room }
goes_to f m n c room e h = h ∙ ap (λ (k : Machine). record { core = f k.core; room = k.room }) e

-- nothing was freed
pub held_so : (m n : Machine) (c : Core) (room p : ℕ) (b : Bool) → m ≡ record { core = c; room = room } → IsTrue b ↔ May m.core (Free p) → n ≡ (if b then with_core m (after_event m.core (Free p)) else m) → (May c (Free p) → ⊥)
    → n ≡ record { core = c; room = room }
held_so m n c room p true e may h never = absurd (never (subst (λ (k : Machine). May k.core (Free p)) e (may.0 refl)))
held_so m n c room p false e may h never = h ∙ e

-- the point's retired blocks were freed
pub freed_so : (m n : Machine) (c : Core) (room p : ℕ) (b : Bool) → m ≡ record { core = c; room = room } → IsTrue b ↔ May m.core (Free p) → n ≡ (if b then with_core m (after_event m.core (Free p)) else m) → May c (Free p)
    → n ≡ record { core = after_event c (Free p); room = room }
freed_so m n c room p true e may h can = goes_to (λ d. after_event d (Free p)) m n c room e h
freed_so m n c room p false e may h can = absurd (let t : IsTrue false = may.1 (subst (λ (k : Machine). May k.core (Free p)) (sym e) can) in cc)
