use Rattle.std.proofs.Common.{◌≡◌, ℕ, List, take, bytes_eq}
use Rattle.std.specs.Map.{lookup}
use Rattle.advice.specs.Advice.{threshold_of}
use Rattle.advice.proofs.hypothesis.thresholds.Given as goal

-- the thresholds over the verdicts so far
abbrev pub invariant-loop-verdict : goal.invariant-loop-verdict
invariant-loop-verdict l = (name : List ℕ) → lookup (λ key. bytes_eq name key.items) l.thresholds.entries ≡ threshold_of (take l.verdict-index l.verdicts) name
