use Rattle.std.proofs.Common.{◌≡◌, ◌++◌, take, drop}
use Rattle.w3_search.specs.Index.{without}
use Rattle.w3_search.proofs.numbers.place_of.Given as goal

abbrev pub invariant-loop-place : goal.invariant-loop-place
invariant-loop-place l = take l.place l.numbers ++ without l.number (drop l.place l.numbers) ≡ without l.number l.numbers
