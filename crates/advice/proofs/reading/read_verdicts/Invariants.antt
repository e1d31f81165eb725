use Rattle.std.proofs.Common.{◌≡◌, ◌≤◌, ◌-◌, drop, length}
use Rattle.std.specs.List.{All}
use Rattle.advice.specs.Advice.{HasTicks}
use Rattle.advice.specs.Reading.{onto, verdicts_from, verdicts_of}
use Rattle.advice.proofs.reading.read_verdicts.Given as goal

-- the verdicts so far, and those of the rest, are all
abbrev pub invariant-lines : goal.invariant-lines
invariant-lines l = record {
  inside : l.at ≤ length l.report;
  rest : onto l.verdicts.items (verdicts_from l.due l.at 0 (drop l.at l.report)) ≡ verdicts_of l.report;
  ticks : All HasTicks l.verdicts.items;
}

abbrev pub decreases-lines : goal.decreases-lines
decreases-lines l = length l.report - l.at
