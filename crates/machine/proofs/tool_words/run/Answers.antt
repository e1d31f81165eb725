use Rattle.std.proofs.Common.{◌≡◌, refl}
use Rattle.std.specs.Prelude.{true}
use Rattle.rv_exec.specs.Pcs.{pc_address}
use Rattle.rv_exec.specs.Shared.{prog_in}
use Rattle.machine.proofs.ToolRuns.{either_way, no_access, other_goes}
use Rattle.machine.proofs.tool_words.run.Goals as goal

pub returns-in_default : goal.returns-in_default
returns-in_default c =
    let t = c.run.new in
    let d = c.in_default in
    let f = c.tool_flat-flat.result.now in
    let none = no_access f d.not-Lb d.not-Lh d.not-Lw d.not-Ld d.not-Lbu d.not-Lhu d.not-Lwu d.not-Sb d.not-Sh d.not-Sw d.not-Sd in
    let goes = λ (on : c.run.result ≡ true).
    other_goes c.args.slot.now f c.args.number c.args.ticks (pc_address c.args.pc.now) c.args.regs.now c.args.bank.now (prog_in c.args.shared.now)
    (pc_address t.pc) t.regs (prog_in t.shared) none c.tool_flat-flat.ensures (c.run.ensures.goes on) in
    record {
      first = c.run.ensures.first;
      len = refl;
      shares = either_way c.run.result (prog_in t.shared) (prog_in c.args.shared.now) (λ on. (goes on).prog) (λ off. (c.run.ensures.stays off).2);
      mark = λ on. (goes on).mark;
      goes = λ on. (goes on).step;
      stays = λ off. ((c.run.ensures.stays off).0, (c.run.ensures.stays off).1, refl);
    }
