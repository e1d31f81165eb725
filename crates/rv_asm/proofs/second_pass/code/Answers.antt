use Rattle.std.proofs.Common.{◌≡◌, Err, map, arith}
use Rattle.std.proofs.lemmas.Grind.{common_steps}
use Rattle.rv_asm.specs.Means.{AsmRefuses}
use Rattle.rv_asm.specs.SecondPass.{code}
use Rattle.rv_asm.specs.DraftSeen.{placed_seen}
use Rattle.rv_asm.proofs.Codes.{code_step, code_fault, refuses_more}
use Rattle.rv_asm.proofs.second_pass.code.Goals as goal

pub loop-placed-preserved : goal.loop-placed-preserved
loop-placed-preserved c =
    code_step placed_seen c.args.labels.now c.args.text_part.now c.loop-placed.placed-index _ c.loop-placed.out.items c.add_code.new.out.items _
    (omega arith) c.in_ok-add_code.ensures c.loop-placed.invariant

pub returns-in_err-add_code : goal.returns-in_err-add_code
returns-in_err-add_code c =
    let fact : AsmRefuses c.in_err-add_code.field-0.0 (λ fault. code c.args.labels.now (map placed_seen c.args.text_part.now) ≡ Err fault) =
    refuses_more _ (λ fault fails. code_fault placed_seen c.args.labels.now c.args.text_part.now c.loop-placed.placed-index _ c.loop-placed.out.items fault _
    (omega arith) fails c.loop-placed.invariant) c.in_err-add_code.ensures in
    let g = c.from_residual.ensures in
    grind (arith, common_steps, fact, g)
