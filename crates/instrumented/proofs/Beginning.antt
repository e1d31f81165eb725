-- The machine in which an image starts is reached by no acts.
use Rattle.std.proofs.Common.{◌≡◌, ℕ, [], sym, subst, refl, arith}
use Rattle.pn_types.specs.declared.image.Image.{Image}
use Rattle.machine.specs.Cores.{start_core}
use Rattle.machine.specs.Laws.{IsProgram}
use Rattle.machine.specs.States.{Machine}
use Rattle.instrument.specs.Placers.{PlacerData, new_placer}
use Rattle.instrumented.specs.Data.{AreReached}

first_sound : (image : Image) (harts budget limit : ℕ) → IsProgram image → AreReached (record { core = start_core image harts budget; room = 0 }) (new_placer image limit)
first_sound image harts budget limit p = record {
  reached = record { image = image; harts = harts; budget = budget; limit = limit; program = p; acts = []; plans = []; leads = record { can = tt; scene = refl } };
  room = omega arith;
}

pub begins : (image : Image) (harts budget limit : ℕ) (m : Machine) (p : PlacerData) → IsProgram image → m ≡ record { core = start_core image harts budget; room = 0 } → p ≡ new_placer image limit → AreReached m p
begins image harts budget limit m p program e f =
    subst (λ x. AreReached x p) (sym e) (subst (λ x. AreReached (record { core = start_core image harts budget; room = 0 }) x) (sym f) (first_sound image harts budget limit program))
