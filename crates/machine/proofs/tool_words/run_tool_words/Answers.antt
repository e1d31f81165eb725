use Rattle.std.proofs.Common.{◌≡◌, ◌+◌, ◌*◌, ◌∙◌, Ok, ap, ℕ}
use Rattle.std.specs.Prelude.{true}
use Rattle.rv_word.specs.Values.{wrap}
use Rattle.rv_exec.specs.Pcs.{pc_address}
use Rattle.tramp_spec.specs.Banks.{bank_len}
use Rattle.tramp_spec.specs.Codes.{fetched_at}
use Rattle.tramp_spec.specs.Steps.{step_on}
use Rattle.machine.specs.Performing.{bench_from}
use Rattle.machine.specs.ToolRuns.{stood_at}
use Rattle.machine.proofs.ToolRuns.{has_tool, slot_there, tool_more}
use Rattle.machine.proofs.tool_words.run_tool_words.Goals as goal

pub loop-turns-preserved : goal.loop-turns-preserved
loop-turns-preserved c =
    let l = c.loop-turns in
    let s = c.args.store.now in
    let t = c.run.new in
    let ticks = c.args.progress.now.ticks in
    let at = pc_address l.at in
    let first = c.tool_slots-tool_at.result.0 in
    let slots = c.tool_slots-tool_at.result.1.now in
    let w = c.index-slots-at.result in
    let is = slot_there s first slots at l.at.place w c.tool_slots-tool_at.ensures.slots c.tool_slots-tool_at.ensures.ends c.if-at-slots.false
    (ap (λ f. wrap (f + 4 * l.at.place)) (l.invariant.first ∙ c.in-Some.ensures.0)) c.index-slots-at.is in
    let z = stood_at (pc_address t.pc) t.regs t.bank in
    record {
      ran = tool_more s ticks l.turns (stood_at c.args.progress.now.pc c.args.regs.now c.args.bank.now) (stood_at at l.regs l.bank) z l.invariant.ran
          (has_tool (fetched_at s.program s.code at true) w (λ (word : ℕ). step_on bank_len word ticks at (bench_from l.regs l.bank) ≡ Ok z) is
          (c.run.ensures.mark c.if-not-run.false) (c.run.ensures.goes c.if-not-run.false));
      first = c.run.ensures.first ∙ l.invariant.first;
      len = c.run.ensures.len ∙ l.invariant.len;
      shares = c.run.ensures.shares ∙ l.invariant.shares;
      stands = l.invariant.stands;
    }
