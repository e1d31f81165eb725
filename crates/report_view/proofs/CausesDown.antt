-- The causes from a depth on.
use Rattle.std.proofs.Common.{◌≡◌, ℕ, zero, suc, ◌-◌, List, ◌++◌, refl, ap, arith}
use Rattle.report.specs.declared.parts.NodePart.{NodePart}
use Rattle.report_view.specs.Causes.{causes_at, causes_from}
use Rattle.report_view.specs.declared.tree_row.TreeRow.{TreeRow}

pub one_less : (parts : List NodePart) (causes : List TreeRow) (d : ℕ) → (d ≡ 0 → ⊥) → causes_from parts causes d ≡ causes_at parts causes d ++ causes_from parts causes (d - 1)
unfolding causes_from
one_less parts causes zero more = absurd (more refl)
one_less parts causes (suc d) more =
    let same : d ≡ suc d - 1 = omega arith in
    ap (λ (n : ℕ). causes_at parts causes (suc d) ++ causes_from parts causes n) same

pub at_the_roots : (parts : List NodePart) (causes : List TreeRow) (d : ℕ) → d ≡ 0 → causes_from parts causes d ≡ causes_at parts causes d
unfolding causes_from
at_the_roots parts causes zero is = refl
at_the_roots parts causes (suc d) is = absurd (omega arith)
