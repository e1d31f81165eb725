use Rattle.std.proofs.Common.{◌∙◌, sym}
use Rattle.session_pairs.proofs.Sampled.{bin_now, bin_off, pair_off, sampled_now}
use Rattle.session_pairs.proofs.Arms.{armed_here}
use Rattle.session_pairs.proofs.sampling.sample_pair.Goals as goal

pub read_pair-reading-requires-clause-there : goal.read_pair-reading-requires-clause-there
read_pair-reading-requires-clause-there c = armed_here c.args.machine.now.state.placer c.args.pair.now.shown (sym c.is_armed.ensures ∙ c.if-not-is_armed.false)

pub returns-then-not-is_armed-clause-pair : goal.returns-then-not-is_armed-clause-pair
returns-then-not-is_armed-clause-pair c = sym (pair_off c.args.machine.now.state c.args.time c.args.pair.now (sym c.is_armed.ensures ∙ c.if-not-is_armed.true))

pub returns-then-not-is_armed-clause-bin : goal.returns-then-not-is_armed-clause-bin
returns-then-not-is_armed-clause-bin c = sym (bin_off c.args.machine.now.state c.args.time c.args.pair.now (sym c.is_armed.ensures ∙ c.if-not-is_armed.true))

pub returns-clause-pair : goal.returns-clause-pair
returns-clause-pair c =
    let m = c.args.machine.now.state in
    let k = c.args.pair.now in
    sampled_now m c.args.time k c.read_pair-reading.result c.added.result c.record_bin.new.hist (sym c.is_armed.ensures ∙ c.if-not-is_armed.false) c.read_pair-reading.ensures.reading c.added.ensures c.record_bin.ensures

pub returns-clause-bin : goal.returns-clause-bin
returns-clause-bin c =
    let m = c.args.machine.now.state in
    let k = c.args.pair.now in
    bin_now m c.args.time k c.read_pair-reading.result c.added.result (sym c.is_armed.ensures ∙ c.if-not-is_armed.false) c.read_pair-reading.ensures.reading c.added.ensures
