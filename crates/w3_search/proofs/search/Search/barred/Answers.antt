use Rattle.std.proofs.Common.{sym, subst, refl}
use Rattle.w3_search.specs.History.{IsHistory}
use Rattle.w3_search.specs.Steps.{SearchData, Waits}
use Rattle.w3_search.proofs.Whole.{state_keeps}
use Rattle.w3_search.proofs.search.Search.barred.Goals as goal

pub invariant_of-self : goal.invariant_of-self
invariant_of-self c =
    subst IsHistory (sym c.bar.ensures) (state_keeps c.args.node _ c.self.inside.state c.self.invariant (subst (λ (v : SearchData). Waits c.args.node v.nodes) (sym c.self.view_is) c.requires) refl)
