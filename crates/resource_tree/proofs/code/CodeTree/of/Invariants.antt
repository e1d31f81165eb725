use Rattle.std.proofs.Common.{◌≡◌, map, take}
use Rattle.resource_tree.specs.Foci.{path_of}
use Rattle.resource_tree.specs.Resources.{proc_of}
use Rattle.resource_tree.proofs.code.CodeTree.of.Given as goal

abbrev pub invariant-loop-proc : goal.invariant-loop-proc
invariant-loop-proc l = record {
  modules : l.modules ≡ map (λ p. p.«module») (take l.proc-index l.procs);
  paths : l.paths ≡ map (λ p. path_of (proc_of p)) (take l.proc-index l.procs);
}
