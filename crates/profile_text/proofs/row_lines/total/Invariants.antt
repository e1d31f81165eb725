use Rattle.std.proofs.Common.{◌≡◌, ◌+◌, drop}
use Rattle.std.specs.Prelude.{sum_by}
use Rattle.profile_text.proofs.row_lines.total.Given as goal

-- what is counted, and the numbers that are left, make all
abbrev pub invariant-loop-word : goal.invariant-loop-word
invariant-loop-word l = l.total + sum_by (λ x. x.number) (drop l.word-index l.words) ≡ sum_by (λ x. x.number) l.words
