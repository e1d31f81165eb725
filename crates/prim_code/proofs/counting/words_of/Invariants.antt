use Rattle.std.proofs.Common.{◌≡◌, ◌+◌, drop}
use Rattle.prim_code.specs.Counts.{word_count}
use Rattle.prim_code.proofs.counting.words_of.Given as goal

abbrev pub invariant-loop-stmt : goal.invariant-loop-stmt
invariant-loop-stmt l = l.words + word_count (drop l.stmt-index l.stmts) ≡ word_count l.stmts
