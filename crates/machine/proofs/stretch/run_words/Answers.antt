use Rattle.std.proofs.Common.{◌+◌, ◌*◌, ◌∙◌, None, ap, refl, get_or}
use Rattle.std.specs.Prelude.{false}
use Rattle.rv_word.specs.Values.{wrap}
use Rattle.rv_exec.specs.Pcs.{pc_address}
use Rattle.rv_exec.specs.Shared.{prog_in}
use Rattle.rv_exec.specs.declared.flat.Flat.TheVariants.{Rest}
use Rattle.tramp_spec.specs.Codes.{fetched_at}
use Rattle.machine.proofs.Stretches.{left, fits, flat_there, own_word, run_more}
use Rattle.machine.proofs.stretch.run_words.Goals as goal

pub run-requires-clause-can_run : goal.run-requires-clause-can_run
run-requires-clause-can_run c =
    let l = c.loop-turns in
    let s = c.args.store.now in
    let first = c.flats-text_at.result.0 in
    let flats = c.flats-text_at.result.1.now in
    fits (fetched_at s.program s.code (pc_address l.at) false) (get_or flats l.at.place Rest)
    (flat_there s first flats (pc_address l.at) l.at.place Rest c.flats-text_at.ensures.flats c.flats-text_at.ensures.ends c.if-at-flats.false
    (ap (λ f. wrap (f + 4 * l.at.place)) (l.invariant.first ∙ c.in-Some.ensures.0)))

pub loop-turns-preserved : goal.loop-turns-preserved
loop-turns-preserved c =
    let l = c.loop-turns in
    let s = c.args.store.now in
    let t = c.run.new in
    let p = prog_in l.shared in
    let q = prog_in t.shared in
    let at = pc_address l.at in
    let first = c.flats-text_at.result.0 in
    let flats = c.flats-text_at.result.1.now in
    let flat = get_or flats l.at.place Rest in
    let is = flat_there s first flats at l.at.place Rest c.flats-text_at.ensures.flats c.flats-text_at.ensures.ends c.if-at-flats.false
    (ap (λ f. wrap (f + 4 * l.at.place)) (l.invariant.first ∙ c.in-Some.ensures.0)) in
    record {
      ran = run_more s c.args.number l.turns (left c.args.pc.now None c.args.regs.now (prog_in c.args.shared.now)) (left at None l.regs p) (left (pc_address t.pc) None t.regs q)
          l.invariant.ran refl
          (own_word (fetched_at s.program s.code at false) flat c.args.number at l.regs p (pc_address t.pc) t.regs q is (c.run.ensures.goes c.if-not-run.false));
      first = c.run.ensures.first ∙ l.invariant.first;
      harts = c.run.ensures.harts ∙ l.invariant.harts;
    }
