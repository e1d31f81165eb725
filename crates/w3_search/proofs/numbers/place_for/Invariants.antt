use Rattle.std.proofs.Common.{◌≡◌, ◌++◌, take, drop}
use Rattle.w3_search.specs.Index.{inserted}
use Rattle.w3_search.proofs.numbers.place_for.Given as goal

abbrev pub invariant-loop-place : goal.invariant-loop-place
invariant-loop-place l = take l.place l.numbers ++ inserted l.number (drop l.place l.numbers) ≡ inserted l.number l.numbers
