use Rattle.std.proofs.Common.{◌≡◌, ◌-◌, length, ◌∙◌, arith}
use Rattle.std.proofs.lemmas.Grind.{common_steps}
use Rattle.tramp_spec.specs.Statements.{act_code, under}
use Rattle.prim_code.specs.Named.{IsLeftBelow}
use Rattle.prim_code.proofs.Appending.{All-rest, cond_appended}
use Rattle.prim_code.proofs.Lengths.{length_act, length_under}
use Rattle.prim_code.proofs.compiling.append_stmt.Goals as goal

pub loop-cond-preserved : goal.loop-cond-preserved
loop-cond-preserved c =
    let slots = c.args.slots.now in
    let stmt = c.args.stmt.now in
    let code = act_code slots stmt.act in
    let inner = c.in-Some.inner.now in
    let here = c.in-Some.ensures.cases.0 in
    let left : length (under slots inner code) ≡ c.loop-cond.rest - c.cond_words-rest.result =
    length_under slots inner code ∙ grind (arith, common_steps, length_act slots stmt.act) in
    record {
      words = cond_appended slots code _ inner _ _ _ _ _ here left c.append_cond.ensures.words c.loop-cond.invariant.words;
      named = All-rest (λ k. IsLeftBelow (length slots) k.left) _ inner _ here c.loop-cond.invariant.named;
      rest = grind (arith, common_steps);
      len = grind (arith, common_steps);
      capacity = grind (arith, common_steps);
    }
