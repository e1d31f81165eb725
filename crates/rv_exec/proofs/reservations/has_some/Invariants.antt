use Rattle.std.proofs.Common.{◌≡◌, ℕ, ◌<◌, Option, None, get_or}
use Rattle.rv_exec.proofs.reservations.has_some.Given as goal

abbrev pub invariant-loop-i : goal.invariant-loop-i
invariant-loop-i l = (j : ℕ) (d : Option ℕ) → j < l.i → get_or l.of.items j d ≡ None
