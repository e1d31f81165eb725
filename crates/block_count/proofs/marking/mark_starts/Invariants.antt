use Rattle.std.proofs.Common.{◌≡◌, ℕ, ◌+◌, ◌*◌, ◌<◌, ◌==◌, ◌||◌, false, get_or, length, drop}
use Rattle.std.specs.List.{list_any}
use Rattle.block_count.proofs.marking.mark_starts.Given as goal

-- what is marked, and what the rest will mark
abbrev pub invariant-loop-proc : goal.invariant-loop-proc
invariant-loop-proc l =
    (k : ℕ) → k < length l.initial.marks → (get_or l.marks k false || list_any (λ p. p.start == l.at + 4 * k) (drop l.proc-index l.procs)) ≡ (get_or l.initial.marks k false || list_any (λ p. p.start == l.at + 4 * k) l.procs)
