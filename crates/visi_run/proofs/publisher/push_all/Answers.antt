use Rattle.std.proofs.Common.{rules, ◌≡◌, ◌≤◌, ◌++◌, length, vec_len, ◌∙◌, arith}
use Rattle.visi_run.specs.Lanes.{LaneData, alls_of}
use Rattle.visi_run.proofs.Desks.{map_set, alls_longer_at, each_behind_at}
use Rattle.visi_run.proofs.publisher.push_all.Goals as goal

pub loop-i-preserved : goal.loop-i-preserved
loop-i-preserved c =
    let i = c.loop-i.invariant in
    let len : vec_len c.loop-i.lanes ≡ length c.loop-i.lanes.items = search rules in
    record {
      alls = alls_longer_at (λ xs. xs ++ c.args.items.now) c.loop-i.lanes.items (alls_of c.args.lanes.now.items) c.loop-i.i c.push_all.new.self c.index_mut.result.now
          (let t = c.loop-i-test.true in let n = i.count in omega arith) c.index_mut.ensures.value c.push_all.ensures.all i.alls;
      lines = map_set (λ (d : LaneData). d.line) c.loop-i.lanes.items c.loop-i.i c.push_all.new.self c.index_mut.result.now c.index_mut.ensures.value c.push_all.ensures.line ∙ i.lines;
      room = each_behind_at (λ (d : LaneData). length c.args.items.now ≤ d.room) c.loop-i.lanes.items c.loop-i.i c.push_all.new.self i.room;
      count = i.count;
    }
