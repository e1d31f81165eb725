use Rattle.std.proofs.Common.{◌≡◌, ◌+◌, drop}
use Rattle.report_diff.specs.Runs.{same_bytes}
use Rattle.report_diff.proofs.outputs.same_bytes.Given as goal

-- the bytes so far are the same, and so many of those that are left
abbrev pub invariant-loop-place : goal.invariant-loop-place
invariant-loop-place l = l.place + same_bytes (drop l.place l.old) (drop l.place l.new) ≡ same_bytes l.old l.new
