use Rattle.std.proofs.Common.{◌≡◌, ◌++◌, drop, flat_map}
use Rattle.report_picture.specs.TimeLines.{step}
use Rattle.report_picture.proofs.time_lines.add_steps.Given as goal

-- what is written, and the steps that are left, make all
abbrev pub invariant-loop-bin : goal.invariant-loop-bin
invariant-loop-bin l = l.out.items ++ flat_map (step l.end l.most) (drop l.bin-index l.bins) ≡ l.initial.out.items ++ flat_map (step l.end l.most) l.bins
