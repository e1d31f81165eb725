use Rattle.std.proofs.Common.{◌≡◌, [], drop}
use Rattle.tramp_spec.specs.Values.{all_hold}
use Rattle.frame_walk.proofs.acting.all_hold.Given as goal

-- the conditions that are left decide
abbrev pub invariant-loop-cond : goal.invariant-loop-cond
invariant-loop-cond l = all_hold l.conds [] l.values.values ≡ all_hold (drop l.cond-index l.conds) [] l.values.values
