use Rattle.std.proofs.Common.{◌≡◌, ◌∙◌, ap, sym, subst}
use Rattle.std.specs.Prelude.{IfSome, map, cond}
use Rattle.std.specs.List.{range_with_len}
use Rattle.machine.specs.Events.{IsQuiet}
use Rattle.machine.specs.Instruments.{reading}
use Rattle.machine.specs.Readings.{readings}
use Rattle.instrument.specs.Placements.{instrument_at}
use Rattle.instrumented.specs.Data.{InstrumentedData}
use Rattle.instrumented.specs.Sums.{sum_from}
use Rattle.instrumented.proofs.Sums.{read_of, sums}
use Rattle.instrumented.proofs.instrumented_machine.InstrumentedMachine.read.Goals as goal

pub returns-clause-sum : goal.returns-clause-sum
returns-clause-sum c =
    let s = c.self.inside in
    let x = c.placed.result.now in
    let core = (s.machine).core in
    let quiet = subst (λ (d : InstrumentedData). IsQuiet d.state.core) (sym c.self.view_is) c.requires.quiet in
    let all = c.sample.ensures.readings ∙ ap (λ b. cond b (map (reading x) core.harts) c.args.sample.now.readings) (c.sample.ensures.quiet.1 quiet) in
    let sum = c.sum_of.ensures ∙ (ap (λ l. sum_from l c.args.first c.args.count) (c.as_slice.ensures ∙ all) ∙ sums x core c.args.first c.args.count) in
    subst (λ (d : InstrumentedData). IfSome (instrument_at d.state.placer c.args.number.n) (λ i. c.sum_of.result ≡ readings i.placed (range_with_len c.args.first c.args.count) d.state.core)) c.self.view_is
    (read_of (instrument_at (s.placer).placements c.args.number.n) x c.sum_of.result (range_with_len c.args.first c.args.count) core c.placed.ensures.placed sum)
