use Rattle.std.proofs.Common.{◌≡◌, ◌+◌, ◌%◌, ◌^◌, drop}
use Rattle.std.specs.Prelude.{sum_by}
use Rattle.report_view.proofs.signed.sum_of.Given as goal

-- what is summed, and the values that are left, make all
abbrev pub invariant-loop-value : goal.invariant-loop-value
invariant-loop-value l = (l.sum + sum_by (λ value. value) (drop l.value-index l.values)) % 2 ^ 64 ≡ sum_by (λ value. value) l.values % 2 ^ 64
