use Rattle.std.proofs.Common.{◌+◌, ◌≤◌}
use Rattle.frame_walk.proofs.Steps.{Passing}
use Rattle.frame_walk.proofs.acting.pass_all.Given as goal

-- each statement so far acted once at most
abbrev pub invariant-loop-stmt : goal.invariant-loop-stmt
invariant-loop-stmt l = record {
  passing : Passing l.stmts l.stmt-index l.initial.values.values l.values.values;
  acts : l.values.acts ≤ l.initial.values.acts + l.stmt-index;
}
