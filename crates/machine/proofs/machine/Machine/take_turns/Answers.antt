use Rattle.std.proofs.Common.{◌≡◌, ◌<◌, ◌≤◌, ◌∙◌, sym, ap, subst, length, get_or, set, Some, arith}
use Rattle.std.specs.Prelude.{slice_get}
use Rattle.pn_types.specs.declared.limits.TheConstants.{MAX_HARTS}
use Rattle.rv_exec.specs.Shared.{prog_in}
use Rattle.machine.specs.Cores.{Core}
use Rattle.machine.specs.Performing.{solo_of}
use Rattle.machine.specs.Quanta.{KeepsBudget}
use Rattle.machine.specs.Replays.{owns, replay}
use Rattle.machine.specs.States.{Machine, quantum_turns, with_core}
use Rattle.machine.specs.Views.{AreMachineParts, core_of}
use Rattle.machine.proofs.Alone.{all_placed, took}
use Rattle.machine.proofs.Lists.{length_slice_set}
use Rattle.machine.proofs.Quanta.{keeps_budget}
use Rattle.machine.proofs.Taking.{element}
use Rattle.machine.proofs.machine.Machine.take_turns.Goals as goal

pub take_turns-turns-requires-clause-placed : goal.take_turns-turns-requires-clause-placed
take_turns-turns-requires-clause-placed c =
    let s = c.self.inside in
    let h = c.args.hart in
    let x = c.index_mut-state.result.now in
    let l : h < length s.harts.items = subst (λ (m : Machine). h < length m.core.harts) (sym c.self.view_is) c.requires in
    let ex : slice_get s.harts.items h ≡ Some x = element s.harts.items h x l (c.index_mut-state.ensures.value ∙ ap (λ i. get_or s.harts.items i x) c.get.ensures.number) in
    all_placed s.store s.blocks.rows s.budget c.self.invariant.owners h s.harts.items (solo_of x (prog_in s.shared)) c.self.invariant.reached ex

pub invariant_of-self : goal.invariant_of-self
invariant_of-self c =
    let s = c.self.inside in
    let h = c.args.hart in
    let x = c.index_mut-state.result.now in
    let l : h < length s.harts.items = subst (λ (m : Machine). h < length m.core.harts) (sym c.self.view_is) c.requires in
    let ex : slice_get s.harts.items h ≡ Some x = element s.harts.items h x l (c.index_mut-state.ensures.value ∙ ap (λ i. get_or s.harts.items i x) c.get.ensures.number) in
    let z = c.take_turns-turns.new.self in
    let q = prog_in c.take_turns-turns.new.shared in
    let t = took s.store s.blocks.rows s.budget c.self.invariant.owners h s.harts.items (solo_of x (prog_in s.shared)) c.self.invariant.reached ex c.args.most c.take_turns-turns.result (solo_of z q) c.take_turns-turns.ensures.taken in
    let same = length_slice_set s.harts.items h z in
    subst (λ i. AreMachineParts (set s.harts.items i z) q s.store s.blocks.rows s.budget) (sym c.get.ensures.number)
    (record {
      reached = t.reached;
      owners = c.self.invariant.owners;
      reservations = c.take_turns-turns.ensures.harts ∙ (c.self.invariant.reservations ∙ sym same);
      few = subst (λ n. n ≤ MAX_HARTS) (sym same) c.self.invariant.few;
      countable = c.self.invariant.countable;
    })

pub returns-clause-taken : goal.returns-clause-taken
returns-clause-taken c =
    let s = c.self.inside in
    let h = c.args.hart in
    let x = c.index_mut-state.result.now in
    let l : h < length s.harts.items = subst (λ (m : Machine). h < length m.core.harts) (sym c.self.view_is) c.requires in
    let ex : slice_get s.harts.items h ≡ Some x = element s.harts.items h x l (c.index_mut-state.ensures.value ∙ ap (λ i. get_or s.harts.items i x) c.get.ensures.number) in
    let z = c.take_turns-turns.new.self in
    let q = prog_in c.take_turns-turns.new.shared in
    let t = took s.store s.blocks.rows s.budget c.self.invariant.owners h s.harts.items (solo_of x (prog_in s.shared)) c.self.invariant.reached ex c.args.most c.take_turns-turns.result (solo_of z q) c.take_turns-turns.ensures.taken in
    let made : Core → Machine = λ d. record { core = d; room = s.blocks.room } in
    ap (λ i. made (core_of (set s.harts.items i z) q s.store s.blocks.rows s.budget)) c.get.ensures.number
    ∙ (ap made t.core ∙ ap (λ (m : Machine). with_core m (replay (quantum_turns c.args.most h m.core) m.core)) c.self.view_is)

pub returns-clause-turns : goal.returns-clause-turns
returns-clause-turns c =
    let s = c.self.inside in
    let h = c.args.hart in
    let x = c.index_mut-state.result.now in
    let l : h < length s.harts.items = subst (λ (m : Machine). h < length m.core.harts) (sym c.self.view_is) c.requires in
    let ex : slice_get s.harts.items h ≡ Some x = element s.harts.items h x l (c.index_mut-state.ensures.value ∙ ap (λ i. get_or s.harts.items i x) c.get.ensures.number) in
    let z = c.take_turns-turns.new.self in
    let q = prog_in c.take_turns-turns.new.shared in
    let t = took s.store s.blocks.rows s.budget c.self.invariant.owners h s.harts.items (solo_of x (prog_in s.shared)) c.self.invariant.reached ex c.args.most c.take_turns-turns.result (solo_of z q) c.take_turns-turns.ensures.taken in
    sym t.many ∙ ap (λ (m : Machine). length (quantum_turns c.args.most h m.core)) c.self.view_is

pub returns-clause-ticks : goal.returns-clause-ticks
returns-clause-ticks c =
    let s = c.self.inside in
    let h = c.args.hart in
    let x = c.index_mut-state.result.now in
    let l : h < length s.harts.items = subst (λ (m : Machine). h < length m.core.harts) (sym c.self.view_is) c.requires in
    let ex : slice_get s.harts.items h ≡ Some x = element s.harts.items h x l (c.index_mut-state.ensures.value ∙ ap (λ i. get_or s.harts.items i x) c.get.ensures.number) in
    let z = c.take_turns-turns.new.self in
    let q = prog_in c.take_turns-turns.new.shared in
    let t = took s.store s.blocks.rows s.budget c.self.invariant.owners h s.harts.items (solo_of x (prog_in s.shared)) c.self.invariant.reached ex c.args.most c.take_turns-turns.result (solo_of z q) c.take_turns-turns.ensures.taken in
    let view = ap (λ (m : Machine). length (owns (quantum_turns c.args.most h m.core) m.core)) c.self.view_is in
    let before = c.ticks-before.ensures in
    let behind = c.ticks.ensures in
    let ticks = t.ticks in
    omega arith

pub returns-clause-budget : goal.returns-clause-budget
returns-clause-budget c =
    let s = c.self.inside in
    let h = c.args.hart in
    let x = c.index_mut-state.result.now in
    let l : h < length s.harts.items = subst (λ (m : Machine). h < length m.core.harts) (sym c.self.view_is) c.requires in
    let ex : slice_get s.harts.items h ≡ Some x = element s.harts.items h x l (c.index_mut-state.ensures.value ∙ ap (λ i. get_or s.harts.items i x) c.get.ensures.number) in
    let z = c.take_turns-turns.new.self in
    let q = prog_in c.take_turns-turns.new.shared in
    let t = took s.store s.blocks.rows s.budget c.self.invariant.owners h s.harts.items (solo_of x (prog_in s.shared)) c.self.invariant.reached ex c.args.most c.take_turns-turns.result (solo_of z q) c.take_turns-turns.ensures.taken in
    subst (λ i. KeepsBudget (core_of (set s.harts.items i z) q s.store s.blocks.rows s.budget)) (sym c.get.ensures.number) (keeps_budget (core_of (set s.harts.items h z) q s.store s.blocks.rows s.budget) t.reached)
