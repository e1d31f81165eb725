-- What is known of a plan that is admitted, and of the result.
use Rattle.std.proofs.Common.{◌≡◌, ℕ, Option, Ok, Err, sym, ap, ◌∙◌, length, ⊎_elim}
use Rattle.std.specs.Prelude.{Result, ◌⊎◌, IfErr, OnOk}
use Rattle.pn_types.specs.declared.plan.Plan.{Plan}
use Rattle.pn_types.specs.declared.plan.Site.{Site}
use Rattle.rv_word.specs.Plain.{Words}
use Rattle.machine.specs.Cores.{In}
use Rattle.prim_code.specs.Named.{AreBelow}
use Rattle.prim_code.proofs.Naming.{statements_compile}
use Rattle.instrument.specs.Placements.{Placements, admission, or_same}
use Rattle.instrument.specs.Scenes.{IsPlanFor}
use Rattle.instrument.specs.declared.number.InstrumentNo.{InstrumentNo}
use Rattle.instrument.specs.declared.number.Refused.{Refused}
use Rattle.instrument.specs.declared.number.Refused.TheVariants.{NoMemory}

-- the statements of a plan for a program name its variables
pub below : (program : Words) (plan : Plan) → IsPlanFor program plan → (s : Site) → In s plan.sites → AreBelow (length plan.vars) s.stmts
below program plan p s h = (statements_compile plan.vars s.stmts (p.stmts s h)).0

-- the placements afterwards
pub answered : (p q : Placements) (plan : Plan) (cost : Option ℕ) (r : Result InstrumentNo Refused)
    → OnOk r (admission p plan cost ≡ Ok q)
    → IfErr r (λ refused. (refused ≡ NoMemory) ⊎ (admission p plan cost ≡ Err refused))
    → IfErr r (λ refused. q ≡ p)
    → (r ≡ Err NoMemory → ⊥) → q ≡ or_same p (admission p plan cost)
answered p q plan cost (Ok n) ok refused same memory = sym (ap (or_same p) ok)
answered p q plan cost (Err x) ok refused same memory =
    same ∙ sym (⊎_elim (λ (e : x ≡ NoMemory). absurd (memory (ap Err e))) (λ e. ap (or_same p) e) refused)
