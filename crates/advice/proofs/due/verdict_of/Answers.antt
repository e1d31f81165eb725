use Rattle.std.proofs.Common.{◌<◌, ℕ, sym, ap, ◌∙◌, subst}
use Rattle.advice.proofs.ReadLines.{true_ticks}
use Rattle.advice.proofs.due.verdict_of.Goals as goal

pub returns-in_ok-told-clause-ticks : goal.returns-in_ok-told-clause-ticks
returns-in_ok-told-clause-ticks c =
    λ _.
    subst (λ (n : ℕ). 0 < n) (sym (ap (λ v. v.ticks) c.in_ok-told.ensures))
    (true_ticks c.args.line.now (sym c.is_true.ensures ∙ c.if-is_true.true))
