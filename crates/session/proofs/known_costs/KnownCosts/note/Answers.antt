use Rattle.std.proofs.Common.{ℕ, zero, suc, Option, Some, List, [], ◌∷◌, sym, subst}
use Rattle.std.specs.Prelude.{slice_set}
use Rattle.session_spec.specs.Inputs.{Inputs}
use Rattle.session.specs.KnownCosts.{AreKnown, IsKnown}
use Rattle.session.specs.declared.known_costs.KnownCost.{KnownCost}
use Rattle.session.proofs.known_costs.KnownCosts.note.Goals as goal

-- one more is known
set_known : (i : Inputs) (costs : List (Option KnownCost)) (n : ℕ) (x : Option KnownCost) → IsKnown i x → AreKnown i costs → AreKnown i (slice_set costs n x)
set_known i [] n x k a = a
set_known i (y ∷ costs) zero x k a = (k, a.1)
set_known i (y ∷ costs) (suc n) x k a = (a.0, set_known i costs n x k a.1)

pub returns-in_err-make_place : goal.returns-in_err-make_place
returns-in_err-make_place c i cost known = c.in_err-make_place.ensures.known i known

pub returns : goal.returns
returns c i cost known =
    set_known i c.self.inside.entries.items c.args.node (Some c.args.cost) cost
    (subst (AreKnown i) (sym c.self.view_is) (c.in_ok-make_place.ensures.known i known))
