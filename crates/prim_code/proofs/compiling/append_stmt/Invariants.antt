use Rattle.std.proofs.Common.{◌≡◌, ◌+◌, ◌++◌, length, vec_len, vec_capacity}
use Rattle.std.specs.List.{All}
use Rattle.std.specs.Prelude.{sum_by}
use Rattle.tramp_spec.specs.MovedWords.{tools}
use Rattle.tramp_spec.specs.Statements.{act_code, under}
use Rattle.prim_code.specs.Counts.{act_words, cond_words, stmt_words}
use Rattle.prim_code.specs.Named.{IsLeftBelow}
use Rattle.prim_code.proofs.compiling.append_stmt.Given as goal

abbrev pub invariant-loop-cond : goal.invariant-loop-cond
invariant-loop-cond l =
    record {
      words : l.out.items ++ tools (under l.slots l.conds (act_code l.slots l.stmt.act)) ≡ l.fn.out.items ++ tools (under l.slots l.stmt.conds (act_code l.slots l.stmt.act));
      named : All (λ c. IsLeftBelow (length l.slots) c.left) l.conds;
      rest : l.rest ≡ sum_by cond_words l.conds + act_words l.stmt.act;
      len : vec_len l.out + l.rest ≡ vec_len l.fn.out + stmt_words l.stmt;
      capacity : vec_capacity l.out ≡ vec_capacity l.fn.out;
    }

abbrev pub decreases-loop-cond : goal.decreases-loop-cond
decreases-loop-cond l = length l.conds
