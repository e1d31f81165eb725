use Rattle.std.proofs.Common.{◌≡◌, ◌++◌, drop}
use Rattle.std.specs.List.{flat_map}
use Rattle.quanta_log.specs.declared.version.Version.TheVariants.{Two}
use Rattle.quanta_log.specs.Spelling.{entry}
use Rattle.quanta_log.proofs.writing.push_entries.Given as goal

abbrev pub invariant-loop-quantum : goal.invariant-loop-quantum
invariant-loop-quantum l = l.out.items ++ flat_map (entry Two) (drop l.quantum-index l.quanta) ≡ l.initial.out.items ++ flat_map (entry Two) l.quanta
