-- What is known of machines from the blocks and counters of which they were made.
use Rattle.std.proofs.Common.{◌≡◌, ℕ, ◌-◌, ◌++◌, [], ◌∷◌, sym, ap, ◌∙◌, subst}
use Rattle.pn_types.specs.declared.placed.Placed.{Placed}
use Rattle.tramp_spec.specs.declared.block.Block.{Block}
use Rattle.machine.specs.Cores.{Core}
use Rattle.machine.specs.Effects.{after_event}
use Rattle.machine.specs.Events.{Arm, May}
use Rattle.test_examples.specs.LoopCounted.{loop_core, linking, counter}
use Rattle.machine.specs.Replays.{Legal, replay}
use Rattle.machine.specs.States.{Machine}
use Rattle.test_examples.specs.ThreeCounters.{adding, arming}
use Rattle.test_examples.proofs.LoopCounted.{loop_counted}
use Rattle.machine.proofs.Replaying.{legal-parts}
use Rattle.test_examples.proofs.ThreeCounters.{minis_unlinked}
use Rattle.test_machine.specs.Linkings.{linking_of, adding_of}

-- equal blocks, in a machine that is known
pub link_legal : (base mini x y : Block) (m : Machine) (c : Core) (room : ℕ) → base ≡ x → mini ≡ y → m ≡ record { core = c; room = room } → Legal (linking_of x y) c → Legal (linking_of base mini) m.core
link_legal base mini x y m c room eb em e l =
    subst (λ b. Legal (linking_of b mini) m.core) (sym eb) (subst (λ b. Legal (linking_of x b) m.core) (sym em) (subst (λ (k : Machine). Legal (linking_of x y) k.core) (sym e) l))

pub linked_so : (base mini x y : Block) (m n : Machine) (c : Core) (room : ℕ) → base ≡ x → mini ≡ y → m ≡ record { core = c; room = room } → n ≡ record { core = replay (linking_of base mini) m.core; room = m.room - 2 }
    → n ≡ record { core = replay (linking_of x y) c; room = room - 2 }
linked_so base mini x y m n c room eb em e h =
    h ∙ ap (λ b. record { core = replay (linking_of b mini) m.core; room = m.room - 2 }) eb
    ∙ ap (λ b. record { core = replay (linking_of x b) m.core; room = m.room - 2 }) em
    ∙ ap (λ (k : Machine). record { core = replay (linking_of x y) k.core; room = k.room - 2 }) e

pub add_legal : (mini y : Block) (m : Machine) (c : Core) (room : ℕ) → mini ≡ y → m ≡ record { core = c; room = room } → Legal (adding_of y) c → Legal (adding_of mini) m.core
add_legal mini y m c room em e l = subst (λ b. Legal (adding_of b) m.core) (sym em) (subst (λ (k : Machine). Legal (adding_of y) k.core) (sym e) l)

pub added_so : (mini y : Block) (m n : Machine) (c : Core) (room : ℕ) → mini ≡ y → m ≡ record { core = c; room = room } → n ≡ record { core = replay (adding_of mini) m.core; room = m.room - 1 }
    → n ≡ record { core = replay (adding_of y) c; room = room - 1 }
added_so mini y m n c room em e h =
    h ∙ ap (λ b. record { core = replay (adding_of b) m.core; room = m.room - 1 }) em ∙ ap (λ (k : Machine). record { core = replay (adding_of y) k.core; room = k.room - 1 }) e

pub arm_legal : (i j : Placed) (m : Machine) (c : Core) (room : ℕ) → i ≡ j → m ≡ record { core = c; room = room } → May c (Arm j) → May m.core (Arm i)
arm_legal i j m c room ei e l = subst (λ k. May m.core (Arm k)) (sym ei) (subst (λ (k : Machine). May k.core (Arm j)) (sym e) l)

pub armed_so : (i j : Placed) (m n : Machine) (c : Core) (room : ℕ) → i ≡ j → m ≡ record { core = c; room = room } → n ≡ record { core = after_event m.core (Arm i); room = m.room } → n ≡ record { core = after_event c (Arm j); room = room }
armed_so i j m n c room ei e h =
    h ∙ ap (λ k. record { core = after_event m.core (Arm k); room = m.room }) ei ∙ ap (λ (k : Machine). record { core = after_event k.core (Arm j); room = k.room }) e

-- ---- the loop

pub links : (budget : ℕ) → Legal linking (loop_core budget)
links budget = (legal-parts linking (Arm counter ∷ []) (loop_core budget) (loop_counted.begins budget)).0

pub arms : (budget : ℕ) → May (replay linking (loop_core budget)) (Arm counter)
arms budget = (legal-parts linking (Arm counter ∷ []) (loop_core budget) (loop_counted.begins budget)).1.0

abbrev pub linked : Core
linked = replay linking (loop_core 1000)

pub rest_counts : Legal (adding ++ arming) linked
rest_counts = (legal-parts linking (adding ++ arming) (loop_core 1000) minis_unlinked.counts).1

pub adds : Legal adding linked
adds = (legal-parts adding arming linked rest_counts).0

pub arms_all : Legal arming (replay adding linked)
arms_all = (legal-parts adding arming linked rest_counts).1
