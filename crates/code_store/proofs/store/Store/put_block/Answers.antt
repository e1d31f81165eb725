use Rattle.std.proofs.Common.{◌+◌, ◌-◌, ◌*◌, ◌<◌, ◌∙◌, ap, subst, length, drop, get_or}
use Rattle.std.specs.FinMap.{insert}
use Rattle.rv_word.specs.Plain.{Words}
use Rattle.tramp_spec.specs.Codes.{put_words, tool_at}
use Rattle.tramp_spec.specs.Marks.{own}
use Rattle.code_store.specs.Owners.{owners_with}
use Rattle.code_store.specs.Stores.{StoredCode}
use Rattle.code_store.proofs.Blocks.{block_place, words_step, owners_step}
use Rattle.code_store.proofs.Entries.{read_same}
use Rattle.code_store.proofs.store.Store.put_block.Goals as goal

pub loop-i-preserved : goal.loop-i-preserved
loop-i-preserved c =
    let b = c.args.block.now in
    let i = c.loop-i.i in
    let inv = c.loop-i.invariant in
    let program = c.args.self.now.program in
    let below = subst (λ ws. i < length ws) c.as_slice-word-items.ensures c.loop-i-test.true in
    let placed = ap (λ (p : Words). tool_at p + 4 * (c.tool_place-first.result + i)) inv.program ∙ block_place (program.at + 4 * length program.words) b.at c.tool_place-first.result i c.requires.low c.requires.aligned c.tool_place-first.ensures in
    let word = get_or c.as_slice-word-items.result.now i (own 0) in
    record {
      program = ap (λ (z : StoredCode). z.program) c.put_word.ensures ∙ inv.program;
      code = ap (λ (z : StoredCode). put_words (b.at + 4 * (i + 1)) (drop (i + 1) b.words) z.code) c.put_word.ensures
          ∙ ap (λ a. put_words (b.at + 4 * (i + 1)) (drop (i + 1) b.words) (insert c.loop-i.self.code a word)) placed
          ∙ words_step b.words b.at i word c.loop-i.self.code below (read_same c.as_slice-word-items.result.now b.words i (own 0) c.as_slice-word-items.ensures below)
          ∙ inv.code;
      owners = ap (λ (z : StoredCode). owners_with (b.at + 4 * (i + 1)) (length b.words - (i + 1)) b.point z.owners) c.put_word.ensures
          ∙ ap (λ a. owners_with (b.at + 4 * (i + 1)) (length b.words - (i + 1)) b.point (insert c.loop-i.self.owners a b.point)) placed
          ∙ owners_step (length b.words) b.at i b.point c.loop-i.self.owners below
          ∙ inv.owners;
    }
