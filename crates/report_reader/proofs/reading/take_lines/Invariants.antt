use Rattle.std.proofs.Common.{◌≡◌, ◌≤◌, ◌-◌, drop, length}
use Rattle.report_reader.specs.Reading.{report_from}
use Rattle.report_reader.specs.Taking.{HasFewHarts}
use Rattle.report_reader.proofs.reading.take_lines.Given as goal

-- what is read of the rest is what is read of all
abbrev pub invariant-lines : goal.invariant-lines
invariant-lines l = record {
  inside : l.at ≤ length l.bytes;
  rest : report_from l.draft l.at 0 (drop l.at l.bytes) ≡ report_from l.fn.draft 0 0 l.bytes;
  harts : HasFewHarts l.draft;
}

abbrev pub decreases-lines : goal.decreases-lines
decreases-lines l = length l.bytes - l.at
