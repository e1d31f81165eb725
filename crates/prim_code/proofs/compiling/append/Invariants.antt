use Rattle.std.proofs.Common.{◌≡◌, ◌+◌, ◌++◌, take, vec_len, vec_capacity}
use Rattle.tramp_spec.specs.MovedWords.{tools}
use Rattle.prim_code.proofs.compiling.append.Given as goal

abbrev pub invariant-loop-instr : goal.invariant-loop-instr
invariant-loop-instr l =
    record {
      words : l.out.items ≡ l.fn.out.items ++ tools (take l.instr-index l.instrs);
      len : vec_len l.out ≡ vec_len l.fn.out + l.instr-index;
      capacity : vec_capacity l.out ≡ vec_capacity l.fn.out;
    }
