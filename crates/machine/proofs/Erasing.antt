-- Every list of legal events leaves the program what it is.
use Rattle.std.proofs.Common.{refl}
use Rattle.rv_mem.specs.Start.{program_of}
use Rattle.rv_exec.specs.Start.{start}
use Rattle.rv_exec.specs.Run.{run}
use Rattle.machine.specs.Cores.{start_core}
use Rattle.machine.specs.Laws.{Erasure}
use Rattle.machine.specs.Replays.{replay, owns}
use Rattle.machine.proofs.Beginning.{begins}
use Rattle.machine.proofs.Sames.{sames}
use Rattle.machine.proofs.Steps.{all_events}

pub erasure : Erasure
erasure image n budget es p l =
    let a = all_events es (program_of image) budget (start_core image n budget) (start image n) refl refl (begins image n budget p) l in
    record { legal = a.0; same = sames (replay es (start_core image n budget)) (run image n (owns es (start_core image n budget))) a.1 }
