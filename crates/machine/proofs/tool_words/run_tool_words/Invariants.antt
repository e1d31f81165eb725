use Rattle.std.proofs.Common.{◌≡◌, length}
use Rattle.rv_exec.specs.Pcs.{pc_address}
use Rattle.rv_exec.specs.Shared.{prog_in}
use Rattle.machine.specs.ToolRuns.{AreToolRun, stood_at}
use Rattle.machine.proofs.tool_words.run_tool_words.Given as goal

-- the words so far led here
abbrev pub invariant-loop-turns : goal.invariant-loop-turns
invariant-loop-turns l = record {
  ran : AreToolRun l.store l.fn.progress.ticks l.turns (stood_at l.fn.progress.pc l.fn.regs l.fn.bank) (stood_at (pc_address l.at) l.regs l.bank);
  first : l.at.first ≡ l.initial.at.first;
  len : length l.bank ≡ length l.fn.bank;
  shares : prog_in l.shared ≡ prog_in l.fn.shared;
  stands : l.progress ≡ l.fn.progress;
}
