use Rattle.std.proofs.Common.{◌≡◌, ℕ, ◌+◌, ◌*◌, ◌<◌, ◌||◌, false, get_or, length, drop}
use Rattle.block_count.specs.Heads.{is_opened}
use Rattle.block_count.proofs.marking.mark_all_opened.Given as goal

-- what is marked, and what the rest will mark
abbrev pub invariant-loop-place : goal.invariant-loop-place
invariant-loop-place l =
    (k : ℕ) → k < length l.initial.marks → (get_or l.marks k false || is_opened (drop l.place l.words) (l.at + 4 * l.place) (l.at + 4 * k)) ≡ (get_or l.initial.marks k false || is_opened l.words l.at (l.at + 4 * k))
