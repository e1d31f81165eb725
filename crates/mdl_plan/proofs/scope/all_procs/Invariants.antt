use Rattle.std.proofs.Common.{◌≡◌, ◌==◌, ◌<◌, ℕ, true}
use Rattle.std.specs.List.{list_any}
use Rattle.mdl_plan.proofs.scope.all_procs.Given as goal

abbrev pub invariant-loop-proc_no : goal.invariant-loop-proc_no
invariant-loop-proc_no l = (q : ℕ) → q < l.proc_no → list_any (λ r. r == q) l.all.items ≡ true
