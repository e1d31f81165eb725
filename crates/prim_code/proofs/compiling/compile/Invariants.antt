use Rattle.std.proofs.Common.{◌≡◌, ◌+◌, ◌++◌, drop, vec_len, vec_capacity}
use Rattle.tramp_spec.specs.MovedWords.{tools}
use Rattle.tramp_spec.specs.Statements.{code_of}
use Rattle.prim_code.specs.Counts.{word_count}
use Rattle.prim_code.proofs.compiling.compile.Given as goal

abbrev pub invariant-loop-stmt : goal.invariant-loop-stmt
invariant-loop-stmt l =
    record {
      words : l.out.items ++ tools (code_of l.slots (drop l.stmt-index l.stmts)) ≡ l.fn.out.items ++ tools (code_of l.slots l.stmts);
      len : vec_len l.out + word_count (drop l.stmt-index l.stmts) ≡ vec_len l.fn.out + word_count l.stmts;
      capacity : vec_capacity l.out ≡ vec_capacity l.fn.out;
    }
