use Rattle.std.proofs.Common.{sym, subst, refl, ◌≡◌, ◌+◌, ◌<◌, length, arith}
use Rattle.std.specs.Prelude.{get_or}
use Rattle.std.proofs.lemmas.Option.{slice_get-get_or, slice_get_read}
use Rattle.session.specs.Tables.{StateTable}
use Rattle.session.proofs.Considered.{Considering, first, is_empty, next, none_left, nothing, plans_many, ready_here}
use Rattle.session.proofs.stored.StoredState.consider_all.Goals.{in-Some, in_default}
use Rattle.session.proofs.stored.StoredState.consider_all.Goals as goal

pub loop-place-init : goal.loop-place-init
loop-place-init c = first c.args.inputs.now c.args.wishes.now c.args.plans.now c.args.self.now c.args.candidates.items c.requires.room c.requires.program c.requires.each c.requires.ready c.requires.live

pub consider-requires-clause-ready : goal.consider-requires-clause-ready
consider-requires-clause-ready c =
    let low : c.loop-place.place < length c.args.wishes.now = (let l = c.loop-place-test.true in omega arith) in
    let many = plans_many c.args.inputs.now c.args.wishes.now c.args.plans.now c.args.candidates.items c.requires.each in
    ready_here c.args.inputs.now c.args.wishes.now c.args.plans.now c.args.self.now c.loop-place.place c.loop-place.self c.loop-place.candidates.items c.pop_front.new.self.items c.index-wishes-place.result c.index-plans-place.result c.in-Some.candidate
    c.loop-place.invariant (slice_get_read c.args.wishes.now (length c.args.wishes.now) c.loop-place.place c.index-wishes-place.result refl low c.index-wishes-place.is)
    (slice_get_read c.args.plans.now (length c.args.plans.now) c.loop-place.place c.index-plans-place.result refl (omega arith) c.index-plans-place.is) c.in-Some.ensures.items

pub loop-place-preserved : goal.loop-place-preserved
loop-place-preserved c =
    let go : (t : StateTable) → Considering c.args.inputs.now c.args.wishes.now c.args.plans.now c.args.self.now (c.loop-place.place + 1) t c.pop_front.new.self.items → c.match-pop_front.self ≡ t → Considering c.args.inputs.now c.args.wishes.now c.args.plans.now c.args.self.now (c.loop-place.place + 1) c.match-pop_front.self c.pop_front.new.self.items =
    λ t k e. subst (λ x. Considering c.args.inputs.now c.args.wishes.now c.args.plans.now c.args.self.now (c.loop-place.place + 1) x c.pop_front.new.self.items) (sym e) k in
    let low : c.loop-place.place < length c.args.wishes.now = (let l = c.loop-place-test.true in omega arith) in
    let many = plans_many c.args.inputs.now c.args.wishes.now c.args.plans.now c.args.candidates.items c.requires.each in
    elim c.match-pop_front.branch [
      | in-Some w ↦
          go w.consider.new.self
          (next c.args.inputs.now c.args.wishes.now c.args.plans.now c.args.self.now c.loop-place.place c.loop-place.self c.loop-place.candidates.items c.pop_front.new.self.items w.index-wishes-place.result w.index-plans-place.result w.in-Some.candidate
          c.loop-place.invariant (slice_get_read c.args.wishes.now (length c.args.wishes.now) c.loop-place.place w.index-wishes-place.result refl low w.index-wishes-place.is)
          (slice_get_read c.args.plans.now (length c.args.plans.now) c.loop-place.place w.index-plans-place.result refl (omega arith) w.index-plans-place.is) w.in-Some.ensures.items w.consider.new.self
          w.consider.ensures.kept w.consider.ensures.step w.consider.ensures.search) w.self-is
      | in_default w ↦
          absurd (none_left c.args.inputs.now c.args.wishes.now c.args.plans.now c.args.self.now c.loop-place.place c.loop-place.self (get_or c.args.wishes.now c.loop-place.place nothing)
          (subst (Considering c.args.inputs.now c.args.wishes.now c.args.plans.now c.args.self.now c.loop-place.place c.loop-place.self) (is_empty c.loop-place.candidates.items c.pop_front.new.self.items w.in_default.ensures.items w.in_default.ensures.rest) c.loop-place.invariant)
          (slice_get-get_or c.args.wishes.now c.loop-place.place nothing low))
    ]
