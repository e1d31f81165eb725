use Rattle.std.proofs.Common.{◌≡◌, ◌+◌, ◌^◌, ◌<◌, ◌++◌, drop}
use Rattle.std.specs.Prelude.{sum_by}
use Rattle.source_text.specs.Ticks.{merged, merged_from}
use Rattle.source_text.proofs.ticks.merged.Given as goal

-- what is written, and what the parts that are left make, are all; and the ticks that are left fit
abbrev pub invariant-loop-part : goal.invariant-loop-part
invariant-loop-part l = record {
  all : l.whole.items ++ merged_from l.last (drop l.part-index l.rest) ≡ merged l.parts;
  fits : l.last.ticks + sum_by (λ x. x.ticks) (drop l.part-index l.rest) < 2 ^ 64;
}
