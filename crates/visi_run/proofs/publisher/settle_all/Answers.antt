use Rattle.std.proofs.Common.{rules, ◌≡◌, ◌+◌, ◌++◌, [], ◌∷◌, length, length-append, map, take, vec_len, get_or, sym, ap, ◌∙◌, arith}
use Rattle.std.proofs.lemmas.Iterator.Adapters.{YieldsList-from_vec}
use Rattle.std.proofs.lemmas.Iterator.Consumers.{YieldsList-turn}
use Rattle.visi_run.specs.Lanes.{LaneData}
use Rattle.visi_run.specs.Streams.{Watch}
use Rattle.visi_run.proofs.Desks.{map_set, line_at, same_length, taken_more_at, snoc_map}
use Rattle.visi_run.proofs.publisher.settle_all.Goals as goal

pub settle-requires : goal.settle-requires
settle-requires g c =
    let i = c.loop-watch.invariant in
    let gives = c.into_iter-watch-iterator.ensures.into_iter_gives in
    let count : vec_len c.args.views ≡ length c.args.views.items = search rules in
    let turn = YieldsList-turn (YieldsList-from_vec c.args.views.items gives.0 (gives.1 ∙ count)) c.loop-watch.yielded c.loop-watch.watch-iterator c.loop-watch.yielded_by c.next.result c.next.new.self c.in-Some.watch c.in-Some.is c.next.ensures.steps in
    line_at c.args.views.items c.loop-watch.lanes.items c.loop-watch.i c.in-Some.watch c.index_mut.result.now (let t = turn.0 in let a = i.at in omega arith) (c.requires.lines ∙ sym i.lines)
    (turn.1 ∙ ap (λ n. get_or c.args.views.items n c.in-Some.watch) (sym i.at)) c.index_mut.ensures.value

pub loop-watch-preserved : goal.loop-watch-preserved
loop-watch-preserved g c =
    let i = c.loop-watch.invariant in
    let gives = c.into_iter-watch-iterator.ensures.into_iter_gives in
    let count : vec_len c.args.views ≡ length c.args.views.items = search rules in
    let turn = YieldsList-turn (YieldsList-from_vec c.args.views.items gives.0 (gives.1 ∙ count)) c.loop-watch.yielded c.loop-watch.watch-iterator c.loop-watch.yielded_by c.next.result c.next.new.self c.in-Some.watch c.in-Some.is c.next.ensures.steps in
    let lanes : length c.args.views.items ≡ length c.loop-watch.lanes.items = same_length (λ (w : Watch). w.line) (λ (d : LaneData). d.line) _ _ (c.requires.lines ∙ sym i.lines) in
    let s = c.settle.ensures.same in
    let p = c.push_reserved.ensures in
    record {
      alls = map_set (λ (d : LaneData). d.all) c.loop-watch.lanes.items c.loop-watch.i c.settle.new.self c.index_mut.result.now c.index_mut.ensures.value s.0 ∙ i.alls;
      lines = map_set (λ (d : LaneData). d.line) c.loop-watch.lanes.items c.loop-watch.i c.settle.new.self c.index_mut.result.now c.index_mut.ensures.value s.1 ∙ i.lines;
      at = let a = i.at in omega (arith, length-append c.loop-watch.yielded (c.in-Some.watch ∷ []));
      lists =
          ap (map (λ v. v.items)) p.items ∙ snoc_map (λ v. v.items) c.loop-watch.lists.items c.in_ok-settle.field-0
          ∙ (λ k. i.lists k ++ c.in_ok-settle.ensures.list k ∷ [])
          ∙ (λ k. take c.loop-watch.i (sym i.alls k) ++ c.index_mut.result.now.all ∷ [])
          ∙ sym (taken_more_at c.loop-watch.lanes.items c.loop-watch.i c.index_mut.result.now (let t = turn.0 in let a = i.at in omega arith) c.index_mut.ensures.value)
          ∙ ap (take (c.loop-watch.i + 1)) i.alls;
      count = let n = i.count in let l = p.len in omega arith;
      room = let n = i.room in let l = p.capacity in omega arith;
    }
