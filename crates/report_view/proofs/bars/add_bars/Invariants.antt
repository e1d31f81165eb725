use Rattle.std.proofs.Common.{◌≡◌, ◌++◌, drop, flat_map}
use Rattle.report_view.specs.Bars.{bar}
use Rattle.report_view.proofs.bars.add_bars.Given as goal

-- what is written, and the bars that are left, make all
abbrev pub invariant-loop-value : goal.invariant-loop-value
invariant-loop-value l = l.out.items ++ flat_map (bar l.ascii l.most) (drop l.value-index l.values) ≡ l.initial.out.items ++ flat_map (bar l.ascii l.most) l.values
