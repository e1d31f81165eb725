use Rattle.std.proofs.Common.{◌∙◌, ap, sym}
use Rattle.std.specs.Prelude.{cond}
use Rattle.instrument.specs.Scenes.{Arms}
use Rattle.instrumented.specs.Instrumented.{Instrumented, after_act}
use Rattle.session_pairs.proofs.Arms.{armed_machine, armed_now, armed_there, placing, ready, same, same_pair, unlinked, unready}
use Rattle.session_pairs.proofs.arming.arm_pair.Goals as goal

pub returns-then-not-is_placing-clause-machine : goal.returns-then-not-is_placing-clause-machine
returns-then-not-is_placing-clause-machine c =
    let d = c.args.machine.now in
    let k = c.args.pair.now in
    ap (λ (x : Instrumented). record d { state = x }) (same d.state k (unready d.state k (sym c.is_placing.ensures ∙ c.if-not-is_placing.true)))

pub returns-then-not-is_placing-clause-pair : goal.returns-then-not-is_placing-clause-pair
returns-then-not-is_placing-clause-pair c =
    let m = c.args.machine.now.state in
    let k = c.args.pair.now in
    same_pair m k c.args.time (unready m k (sym c.is_placing.ensures ∙ c.if-not-is_placing.true))

pub arm-requires-clause-placing : goal.arm-requires-clause-placing
arm-requires-clause-placing c = placing _ (sym c.is_placing.ensures ∙ c.if-not-is_placing.false)

pub returns-then-not-arm-clause-machine : goal.returns-then-not-arm-clause-machine
returns-then-not-arm-clause-machine c =
    let d = c.args.machine.now in
    let k = c.args.pair.now in
    let off = unlinked d.state k (sym c.is_placing.ensures ∙ c.if-not-is_placing.false) (sym c.arm.ensures.linked ∙ c.if-not-arm.true) in
    c.arm.ensures.state ∙ (ap (λ b. record d { state = cond b (after_act (Arms k.shown.instrument.n) d.state) d.state }) c.if-not-arm.true ∙ ap (λ (x : Instrumented). record d { state = x }) (same d.state k off))

pub returns-then-not-arm-clause-pair : goal.returns-then-not-arm-clause-pair
returns-then-not-arm-clause-pair c =
    let m = c.args.machine.now.state in
    let k = c.args.pair.now in
    same_pair m k c.args.time (unlinked m k (sym c.is_placing.ensures ∙ c.if-not-is_placing.false) (sym c.arm.ensures.linked ∙ c.if-not-arm.true))

pub read_pair-pair-requires-clause-there : goal.read_pair-pair-requires-clause-there
read_pair-pair-requires-clause-there c = armed_there c.arm.new.self.state.placer c.args.pair.now.shown.instrument.n (c.arm.ensures.armed c.if-not-arm.false)

pub returns-clause-machine : goal.returns-clause-machine
returns-clause-machine c =
    let d = c.args.machine.now in
    let k = c.args.pair.now in
    let on = ready d.state k (sym c.is_placing.ensures ∙ c.if-not-is_placing.false) (sym c.arm.ensures.linked ∙ c.if-not-arm.false) in
    armed_machine d k c.arm.new.self c.arm.result on c.arm.ensures.state c.if-not-arm.false

pub returns-clause-pair : goal.returns-clause-pair
returns-clause-pair c =
    let d = c.args.machine.now in
    let k = c.args.pair.now in
    let on = ready d.state k (sym c.is_placing.ensures ∙ c.if-not-is_placing.false) (sym c.arm.ensures.linked ∙ c.if-not-arm.false) in
    armed_now d k c.arm.new.self c.arm.result on c.arm.ensures.state c.if-not-arm.false c.args.time c.read_pair-pair.result c.read_pair-pair.ensures.reading
