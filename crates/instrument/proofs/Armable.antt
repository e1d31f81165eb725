-- Instruments that can be armed: what keeps this of the listed ones, and which plans make such.
use Rattle.std.proofs.Common.{◌≡◌, List, [], ◌∷◌, ◌++◌, Option, Some, None, sym, subst, ⊎_elim, map}
use Rattle.std.specs.Prelude.{Bool, IfSome, filter, find}
use Rattle.pn_types.specs.declared.placed.Placed.{Placed}
use Rattle.pn_types.specs.declared.plan.Plan.{Plan}
use Rattle.prim_code.specs.Fitting.{IsMeasurable}
use Rattle.machine.proofs.Openings.{all_small}
use Rattle.machine.proofs.Lists.{find_gives, in_filter, in_map, in_snoc}
use Rattle.instrument.specs.Armable.{IsArmable, AreArmable}
use Rattle.instrument.specs.declared.instrument.Instrument.{Instrument}

abbrev CanBeArmed : Placed → Type 0
CanBeArmed p = IsArmable p.opens

-- a state is no matter
pub armable_map : (f : Instrument → Instrument) (xs : List Instrument) → ((i : Instrument) → (f i).placed ≡ i.placed) → AreArmable xs → AreArmable (map f xs)
armable_map f xs same k i h =
    let o = in_map f xs i h in
    subst (λ (j : Instrument). CanBeArmed j.placed) (sym o.2) (subst CanBeArmed (sym (same o.0)) (k o.0 o.1))

pub armable_filter : (p : Instrument → Bool) (xs : List Instrument) → AreArmable xs → AreArmable (filter p xs)
armable_filter p xs k i h = k i (in_filter p xs i h).0

pub armable_added : (xs : List Instrument) (x : Instrument) → AreArmable xs → CanBeArmed x.placed → AreArmable (xs ++ x ∷ [])
armable_added xs x k a i h = ⊎_elim (λ old. k i old) (λ e. subst (λ (j : Instrument). CanBeArmed j.placed) (sym e) a) (in_snoc xs x i h)

pub armable_found : (p : Instrument → Bool) (xs : List Instrument) (o : Option Instrument) → o ≡ find p xs → AreArmable xs → IfSome o (λ i. CanBeArmed i.placed)
armable_found p xs None e k = tt
armable_found p xs (Some i) e k = k i (find_gives p xs i (sym e)).0

-- ---- plans that are measured

-- a plan that is measured makes an instrument that can be armed
pub armable_plan : (plan : Plan) → IsMeasurable plan → IsArmable plan.opens
armable_plan plan m = all_small plan m
