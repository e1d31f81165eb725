use Rattle.std.proofs.Common.{◌≡◌, None, length}
use Rattle.rv_exec.specs.Pcs.{pc_address}
use Rattle.rv_exec.specs.Shared.{prog_in}
use Rattle.machine.specs.Stretches.{AreRun}
use Rattle.machine.proofs.Stretches.{left}
use Rattle.machine.proofs.stretch.run_words.Given as goal

-- the words so far led here
abbrev pub invariant-loop-turns : goal.invariant-loop-turns
invariant-loop-turns l = record {
  ran : AreRun l.store l.number l.turns (left l.fn.pc None l.fn.regs (prog_in l.fn.shared)) (left (pc_address l.at) None l.regs (prog_in l.shared));
  first : l.at.first ≡ l.initial.at.first;
  harts : length l.shared.resv ≡ length l.fn.shared.resv;
}
