use Rattle.std.proofs.Common.{◌+◌, ◌-◌, ◌*◌, ◌∙◌, ap, length}
use Rattle.std.specs.FinMap.{remove}
use Rattle.rv_word.specs.Plain.{Words}
use Rattle.tramp_spec.specs.Codes.{tool_at}
use Rattle.code_store.specs.Owners.{owners_without}
use Rattle.code_store.specs.Stores.{StoredCode}
use Rattle.code_store.proofs.Blocks.{block_place, without_step}
use Rattle.code_store.proofs.store.Store.drop_block.Goals as goal

pub loop-i-preserved : goal.loop-i-preserved
loop-i-preserved c =
    let i = c.loop-i.i in
    let inv = c.loop-i.invariant in
    let program = c.args.self.now.program in
    let placed = ap (λ (p : Words). tool_at p + 4 * (c.tool_place-first.result + i)) inv.program ∙ block_place (program.at + 4 * length program.words) c.args.at c.tool_place-first.result i c.requires.low c.requires.aligned c.tool_place-first.ensures in
    record {
      program = ap (λ (z : StoredCode). z.program) c.free_word.ensures ∙ inv.program;
      code = ap (λ (z : StoredCode). z.code) c.free_word.ensures ∙ inv.code;
      owners = ap (λ (z : StoredCode). owners_without (c.args.at + 4 * (i + 1)) (c.args.len - (i + 1)) z.owners) c.free_word.ensures
          ∙ ap (λ a. owners_without (c.args.at + 4 * (i + 1)) (c.args.len - (i + 1)) (remove c.loop-i.self.owners a)) placed
          ∙ without_step c.args.len c.args.at i c.loop-i.self.owners c.loop-i-test.true
          ∙ inv.owners;
    }
