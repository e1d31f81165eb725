use Rattle.std.proofs.Common.{◌≡◌, ℕ, take}
use Rattle.std.specs.HashSet.{contains}
use Rattle.std.specs.Prelude.{nat_eq}
use Rattle.profile_text.specs.Annotated.{is_head}
use Rattle.profile_text.proofs.annotating.head_addresses.Given as goal

-- the heads so far
abbrev pub invariant-loop-head : goal.invariant-loop-head
invariant-loop-head l = (a : ℕ) → contains nat_eq l.found a ≡ is_head (take l.head-index l.heads) a
