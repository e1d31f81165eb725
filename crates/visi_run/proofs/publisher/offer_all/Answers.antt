use Rattle.std.proofs.Common.{◌∙◌}
use Rattle.visi_run.specs.Lanes.{LaneData}
use Rattle.visi_run.proofs.Desks.{map_set}
use Rattle.visi_run.proofs.publisher.offer_all.Goals as goal

pub loop-i-preserved : goal.loop-i-preserved
loop-i-preserved g c =
    let i = c.loop-i.invariant in
    record {
      alls = map_set (λ (d : LaneData). d.all) c.loop-i.lanes.items c.loop-i.i c.offer.new.self c.index_mut.result.now c.index_mut.ensures.value c.offer.ensures.0 ∙ i.alls;
      lines = map_set (λ (d : LaneData). d.line) c.loop-i.lanes.items c.loop-i.i c.offer.new.self c.index_mut.result.now c.index_mut.ensures.value c.offer.ensures.1 ∙ i.lines;
      count = i.count;
    }
