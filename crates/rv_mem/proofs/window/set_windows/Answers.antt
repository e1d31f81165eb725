use Rattle.std.proofs.Common.{◌<◌, ◌∙◌, length, arith}
use Rattle.std.proofs.lemmas.List.{length-set}
use Rattle.rv_mem.proofs.Clear.{clear_more, parts-set}
use Rattle.rv_mem.proofs.window.set_windows.Goals as goal

pub returns-clause-clear : goal.returns-clause-clear
returns-clause-clear c = λ i d lt. c.loop-i.invariant.clear i d (omega (arith, lt, c.loop-i-test.false, c.loop-i.invariant.many, c.len-i-end.ensures))

pub loop-i-preserved : goal.loop-i-preserved
loop-i-preserved c =
    let rs = c.loop-i.regions.items in
    let i = c.loop-i.i in
    let lt : i < length rs = omega arith in
    record {
      many = length-set rs i c.set_window.new.self ∙ c.loop-i.invariant.many;
      parts = parts-set rs i c.index_mut.result.now c.set_window.new.self lt c.index_mut.ensures.value c.set_window.ensures.part ∙ c.loop-i.invariant.parts;
      clear = clear_more c.args.text_at c.args.text_len rs i c.index_mut.result.now c.set_window.new.self c.window_of-window.result lt c.index_mut.ensures.value c.set_window.ensures.part c.set_window.ensures.window c.window_of-window.ensures c.loop-i.invariant.clear;
    }
