use Rattle.std.proofs.Common.{rules, ◌≡◌, ◌≤◌, length, vec_len, ◌∙◌, arith}
use Rattle.visi_run.specs.Lanes.{LaneData}
use Rattle.visi_run.proofs.Desks.{map_set, each_more}
use Rattle.visi_run.proofs.publisher.reserve_all.Goals as goal

pub returns-in_err-reserve-clause-alls : goal.returns-in_err-reserve-clause-alls
returns-in_err-reserve-clause-alls c = map_set (λ (d : LaneData). d.all) c.loop-i.lanes.items c.loop-i.i c.reserve.new.self c.index_mut.result.now c.index_mut.ensures.value c.reserve.ensures.same.0 ∙ c.loop-i.invariant.alls

pub returns-in_err-reserve-clause-lines : goal.returns-in_err-reserve-clause-lines
returns-in_err-reserve-clause-lines c = map_set (λ (d : LaneData). d.line) c.loop-i.lanes.items c.loop-i.i c.reserve.new.self c.index_mut.result.now c.index_mut.ensures.value c.reserve.ensures.same.1 ∙ c.loop-i.invariant.lines

pub loop-i-preserved : goal.loop-i-preserved
loop-i-preserved c =
    let i = c.loop-i.invariant in
    let len : vec_len c.loop-i.lanes ≡ length c.loop-i.lanes.items = search rules in
    record {
      alls = map_set (λ (d : LaneData). d.all) c.loop-i.lanes.items c.loop-i.i c.reserve.new.self c.index_mut.result.now c.index_mut.ensures.value c.reserve.ensures.same.0 ∙ i.alls;
      lines = map_set (λ (d : LaneData). d.line) c.loop-i.lanes.items c.loop-i.i c.reserve.new.self c.index_mut.result.now c.index_mut.ensures.value c.reserve.ensures.same.1 ∙ i.lines;
      room = each_more (λ (d : LaneData). c.args.count ≤ d.room) c.loop-i.lanes.items c.loop-i.i c.reserve.new.self (let t = c.loop-i-test.true in let n = i.count in omega arith) c.in_ok-reserve.ensures.room i.room;
      count = i.count;
    }
