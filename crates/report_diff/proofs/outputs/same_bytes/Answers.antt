use Rattle.std.proofs.Common.{◌≡◌, ◌+◌, drop, length, min, arith}
use Rattle.report_diff.specs.Runs.{same_bytes}
use Rattle.report_diff.proofs.Ends.{none_same}
use Rattle.report_diff.proofs.outputs.same_bytes.Goals as goal

pub returns : goal.returns
returns c =
    let old = c.args.old.now in
    let new = c.args.new.now in
    let place = c.loop-place.place in
    let end : place ≡ min (length old) (length new) = omega arith in
    let none : same_bytes (drop place old) (drop place new) ≡ 0 = none_same old new place end in
    let all : place + same_bytes (drop place old) (drop place new) ≡ same_bytes old new = c.loop-place.invariant in
    omega arith
