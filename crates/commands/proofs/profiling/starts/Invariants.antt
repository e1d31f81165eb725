use Rattle.std.proofs.Common.{◌≡◌, ◌++◌, map, take}
use Rattle.code_points.specs.Procedures.{procedures_of}
use Rattle.commands.specs.Profiles.{start_of}
use Rattle.commands.proofs.profiling.starts.Given as goal

abbrev pub invariant-loop-address : goal.invariant-loop-address
invariant-loop-address l = l.starts.items ≡ procedures_of l.fn.image ++ map start_of (take l.address-index l.also)
