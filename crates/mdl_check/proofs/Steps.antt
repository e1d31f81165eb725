-- One step along the ancestors.
use Rattle.std.proofs.Common.{◌≡◌, ◌≢◌, ℕ, suc, ◌==◌, ◌||◌, Bool, false, Option, Some, List, ap, ◌∙◌}
use Rattle.std.proofs.lemmas.Bool.{ne_eqb}
use Rattle.mdl_check.specs.Rules.{leads_to, parent_at}

apart : (place sought : ℕ) → place ≢ sought → (place == sought) ≡ false
apart place sought h = ne_eqb place sought h

-- an ancestor that isn't the one sought is passed
pub one_step : (parents : List (Option ℕ)) (m n sought place : ℕ) (next : Option ℕ) → m ≡ suc n → next ≡ Some place → place ≢ sought
    → leads_to parents m sought next ≡ leads_to parents n sought (parent_at parents place)
one_step parents m n sought place next e h ne =
    ap (λ (k : ℕ). leads_to parents k sought next) e
    ∙ ap (leads_to parents (suc n) sought) h
    ∙ ap (λ (b : Bool). b || leads_to parents n sought (parent_at parents place)) (apart place sought ne)
