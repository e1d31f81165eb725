use Rattle.std.proofs.Common.{◌≡◌, ◌*◌, ◌<◌, ◌≤◌, ◌∙◌, sym, ap, subst, length, arith}
use Rattle.pn_types.specs.declared.limits.TheConstants.{TOOL_TEXT_LEN}
use Rattle.rv_exec.specs.Shared.{prog_in}
use Rattle.machine.specs.Events.{IsQuiet}
use Rattle.machine.specs.Replays.{owns, replay}
use Rattle.machine.specs.States.{Machine, leaving, settling, with_core, words_in}
use Rattle.machine.specs.Views.{core_of}
use Rattle.machine.proofs.Packing.{few_words}
use Rattle.machine.proofs.Settled.{settling_first, settling_step, settling_end, settled_quiet}
use Rattle.machine.proofs.machine.Machine.take_settling.Goals as goal

pub words-most-requires : goal.words-most-requires
words-most-requires c =
    let s = c.self.inside in
    few_words (core_of s.harts.items (prog_in s.shared) s.store s.blocks.rows s.budget) c.self.invariant.reached

pub loop-hart-init : goal.loop-hart-init
loop-hart-init c =
    let s = c.self.inside in
    let few = few_words (core_of s.harts.items (prog_in s.shared) s.store s.blocks.rows s.budget) c.self.invariant.reached in
    settling_first c.args.self.now c.words-most.result (c.words-most.ensures ∙ ap (λ (m : Machine). words_in m.core.rows) c.self.view_is) (subst (λ (m : Machine). 4 * words_in m.core.rows ≤ TOOL_TEXT_LEN) c.self.view_is few)

pub leave-left-requires : goal.leave-left-requires
leave-left-requires c =
    let n = c.numbered.ensures in
    let l = c.loop-hart-test.true in
    let many = c.loop-hart.invariant.many in
    let all = c.len-hart-end.ensures in
    let view = ap (λ (m : Machine). length m.core.harts) c.self.view_is in
    omega arith

pub overflow_add-turns : goal.overflow_add-turns
overflow_add-turns c =
    let bound = c.loop-hart.invariant.bound in
    let few = c.loop-hart.invariant.few in
    let low = c.leave-left.ensures.bound in
    let l = c.loop-hart-test.true in
    let all = c.len-hart-end.ensures in
    let most = c.self.invariant.few in
    omega arith

pub overflow_add-ticks : goal.overflow_add-ticks
overflow_add-ticks c =
    let bound = c.loop-hart.invariant.bound in
    let less = c.loop-hart.invariant.less in
    let few = c.loop-hart.invariant.few in
    let low = c.leave-left.ensures.bound in
    let fewer = c.leave-left.ensures.few in
    let l = c.loop-hart-test.true in
    let all = c.len-hart-end.ensures in
    let most = c.self.invariant.few in
    omega arith

pub loop-hart-preserved : goal.loop-hart-preserved
loop-hart-preserved c =
    let most = c.words-most.result in
    let d = c.loop-hart.self.core in
    let low : c.loop-hart.hart < length c.args.self.now.core.harts = (let l = c.loop-hart-test.true in let all = c.len-hart-end.ensures in let view = ap (λ (m : Machine). length m.core.harts) c.self.view_is in omega arith) in
    settling_step most c.loop-hart.turns c.loop-hart.ticks c.loop-hart.hart c.leave-left.result.turns c.leave-left.result.ticks c.args.self.now c.loop-hart.self c.leave-left.new.self c.loop-hart.invariant low
    (subst (λ h. c.leave-left.new.self ≡ with_core c.loop-hart.self (replay (leaving most h d) d)) c.numbered.ensures c.leave-left.ensures.left)
    (subst (λ h. c.leave-left.result.turns ≡ length (leaving most h d)) c.numbered.ensures c.leave-left.ensures.turns)
    (subst (λ h. c.leave-left.result.ticks ≡ length (owns (leaving most h d) d)) c.numbered.ensures c.leave-left.ensures.ticks)
    c.leave-left.ensures.few c.leave-left.ensures.bound

pub returns-clause-settled : goal.returns-clause-settled
returns-clause-settled c =
    let all : length c.args.self.now.core.harts ≤ c.loop-hart.hart = (let l = c.loop-hart-test.false in let all = c.len-hart-end.ensures in let view = ap (λ (m : Machine). length m.core.harts) c.self.view_is in omega arith) in
    (settling_end c.words-most.result c.loop-hart.turns c.loop-hart.ticks c.loop-hart.hart c.args.self.now c.loop-hart.self c.loop-hart.invariant all).is

pub returns-clause-turns : goal.returns-clause-turns
returns-clause-turns c =
    let all : length c.args.self.now.core.harts ≤ c.loop-hart.hart = (let l = c.loop-hart-test.false in let all = c.len-hart-end.ensures in let view = ap (λ (m : Machine). length m.core.harts) c.self.view_is in omega arith) in
    (settling_end c.words-most.result c.loop-hart.turns c.loop-hart.ticks c.loop-hart.hart c.args.self.now c.loop-hart.self c.loop-hart.invariant all).taken

pub returns-clause-ticks : goal.returns-clause-ticks
returns-clause-ticks c =
    let all : length c.args.self.now.core.harts ≤ c.loop-hart.hart = (let l = c.loop-hart-test.false in let all = c.len-hart-end.ensures in let view = ap (λ (m : Machine). length m.core.harts) c.self.view_is in omega arith) in
    (settling_end c.words-most.result c.loop-hart.turns c.loop-hart.ticks c.loop-hart.hart c.args.self.now c.loop-hart.self c.loop-hart.invariant all).ticked

pub returns-clause-quiet : goal.returns-clause-quiet
returns-clause-quiet c =
    let s = c.self.inside in
    let all : length c.args.self.now.core.harts ≤ c.loop-hart.hart = (let l = c.loop-hart-test.false in let all = c.len-hart-end.ensures in let view = ap (λ (m : Machine). length m.core.harts) c.self.view_is in omega arith) in
    let is = (settling_end c.words-most.result c.loop-hart.turns c.loop-hart.ticks c.loop-hart.hart c.args.self.now c.loop-hart.self c.loop-hart.invariant all).is in
    subst (λ (m : Machine). IsQuiet m.core) (sym is) (subst (λ (m : Machine). IsQuiet (replay (settling m.core) m.core)) c.self.view_is (settled_quiet (core_of s.harts.items (prog_in s.shared) s.store s.blocks.rows s.budget) c.self.invariant.reached))

pub returns-clause-harts : goal.returns-clause-harts
returns-clause-harts c = c.loop-hart.invariant.many

pub returns-clause-few : goal.returns-clause-few
returns-clause-few c = c.loop-hart.invariant.less
