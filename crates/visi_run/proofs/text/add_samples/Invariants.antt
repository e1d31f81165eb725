use Rattle.std.proofs.Common.{◌≡◌, ◌++◌, drop, flat_map}
use Rattle.visi_run.specs.Texts.{sample_line}
use Rattle.visi_run.proofs.text.add_samples.Given as goal

-- what is written, and the lines that are left, make all the lines
abbrev pub invariant-loop-sample : goal.invariant-loop-sample
invariant-loop-sample l = l.out.items ++ flat_map (sample_line l.shown) (drop l.sample-index l.samples) ≡ l.initial.out.items ++ flat_map (sample_line l.shown) l.samples
