use Rattle.std.proofs.Common.{◌≡◌, map, take}
use Rattle.std.specs.List.{join_with_byte}
use Rattle.report_view.proofs.foci.joined.Given as goal

-- the parts so far, joined
abbrev pub invariant-loop-place : goal.invariant-loop-place
invariant-loop-place l = l.text.items ≡ join_with_byte 44 (map (λ part. part.now) (take l.place l.parts))
