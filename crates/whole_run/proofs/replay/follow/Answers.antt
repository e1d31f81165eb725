use Rattle.std.proofs.Common.{◌≡◌, ◌+◌, ◌∙◌, List, slice_index_or, Some, None, ap, arith, refl, subst, sym, true, false}
use Rattle.std.specs.List.{AllByRecursion}
use Rattle.quanta_log.specs.Spelling.{IsQuantum}
use Rattle.pn_types.specs.declared.quantum.Quantum.{Quantum}
use Rattle.session.specs.Sessions.{SessionData}
use Rattle.session_spec.specs.Inputs.{Inputs}
use Rattle.session_spec.specs.Work.{Halted, IsWhole}
use Rattle.whole_run.specs.declared.misfit.Misfit.TheVariants.{NotRunnable, OtherOwns, Unfinished}
use Rattle.whole_run.specs.Replayed.{goes_on, misfit_of}
use Rattle.whole_run.proofs.Following.{Following, all_at, all_taken, differs, ended, follows_none, goes_on_by, of_none, of_some, stops}
use Rattle.whole_run.proofs.Fitting.{open_end, over_is}
use Rattle.whole_run.proofs.replay.follow.Goals as goal

abbrev blank : Quantum
blank = record { worker = 0; hart = 0; turns = 0; owns = 0 }

pub quanta-init : goal.quanta-init
quanta-init g c = record {
  follows = subst (Following c.args.session.now.inputs c.args.quanta.now 0) (sym (ap (λ (s : SessionData). s.quanta) c.requires.begun)) (follows_none c.args.session.now.inputs c.args.quanta.now);
  inputs = refl;
  going = ap (λ (s : SessionData). s.closed) c.requires.begun;
}

pub quantum-requires-clause-going : goal.quantum-requires-clause-going
quantum-requires-clause-going g c = c.quanta.invariant.going

pub quantum-requires-clause-hart : goal.quantum-requires-clause-hart
quantum-requires-clause-hart g c =
    (all_at (IsQuantum c.quanta.session.inputs.settings.harts) c.args.quanta.now c.quanta.number blank
    (subst (λ (i : Inputs). AllByRecursion (IsQuantum i.settings.harts) c.args.quanta.now) (sym c.quanta.invariant.inputs) c.requires.quanta) c.quanta-test.true).hart

pub returns-in_err-taken-clause-inputs : goal.returns-in_err-taken-clause-inputs
returns-in_err-taken-clause-inputs g c = c.in_err-taken.ensures.inputs ∙ c.quanta.invariant.inputs

pub returns-in_default-clause-inputs : goal.returns-in_default-clause-inputs
returns-in_default-clause-inputs g c = c.in_ok-taken.ensures.inputs ∙ c.quanta.invariant.inputs

pub returns-in_default-clause-misfit : goal.returns-in_default-clause-misfit
returns-in_default-clause-misfit g c =
    let s = c.quanta.session in
    let k = c.quanta.invariant in
    let told = slice_index_or c.args.quanta.now c.quanta.number blank in (
      subst (λ (i : Inputs). misfit_of i c.args.quanta.now ≡ Some (NotRunnable c.quanta.number told.hart)) k.inputs
          (stops s c.args.quanta.now c.quanta.number blank k.going k.follows c.quanta-test.true c.requires.few
          (of_none c.in_ok-taken.field-0 (Halted s.inputs s.quanta told.hart) c.in_ok-taken.ensures.halted c.in_default.is)),
      c.quanta-test.true,
    )

pub returns-then-taken-told-clause-inputs : goal.returns-then-taken-told-clause-inputs
returns-then-taken-told-clause-inputs g c = c.in_ok-taken.ensures.inputs ∙ c.quanta.invariant.inputs

pub returns-then-taken-told-clause-misfit : goal.returns-then-taken-told-clause-misfit
returns-then-taken-told-clause-misfit g c =
    let s = c.quanta.session in
    let k = c.quanta.invariant in
    let told = slice_index_or c.args.quanta.now c.quanta.number blank in (
      subst (λ (i : Inputs). misfit_of i c.args.quanta.now ≡ Some (OtherOwns c.quanta.number told.owns c.in-Some.taken.owns)) k.inputs
          (differs s c.args.quanta.now c.quanta.number blank k.going k.follows c.quanta-test.true c.requires.few c.in-Some.taken
          (of_some c.in_ok-taken.field-0 _ c.in-Some.taken c.in_ok-taken.ensures.asked c.in-Some.is)
          (of_some c.in_ok-taken.field-0 _ c.in-Some.taken c.in_ok-taken.ensures.going_on c.in-Some.is) c.if-taken-told.true),
      c.quanta-test.true,
    )

pub quanta-preserved : goal.quanta-preserved
quanta-preserved g c =
    let s = c.quanta.session in
    let k = c.quanta.invariant in
    let new = c.quantum.new.self in
    let e = c.in_ok-taken.ensures in
    record {
      follows = subst (λ (i : Inputs). Following i c.args.quanta.now (c.quanta.number + 1) new.quanta) (sym e.inputs)
          (goes_on_by s c.args.quanta.now c.quanta.number blank k.going k.follows c.quanta-test.true c.requires.few c.in-Some.taken
          (of_some c.in_ok-taken.field-0 _ c.in-Some.taken e.asked c.in-Some.is) (of_some c.in_ok-taken.field-0 _ c.in-Some.taken e.going_on c.in-Some.is)
          new.quanta (of_some c.in_ok-taken.field-0 _ c.in-Some.taken e.taken c.in-Some.is) c.if-taken-told.false);
      inputs = e.inputs ∙ k.inputs;
      going = e.closed;
    }

pub done-requires : goal.done-requires
done-requires g c = c.quanta.invariant.going

pub returns-then-not-done-clause-inputs : goal.returns-then-not-done-clause-inputs
returns-then-not-done-clause-inputs g c = c.quanta.invariant.inputs

pub returns-then-not-done-clause-going : goal.returns-then-not-done-clause-going
returns-then-not-done-clause-going g c = c.quanta.invariant.going

pub returns-then-not-done-clause-misfit : goal.returns-then-not-done-clause-misfit
returns-then-not-done-clause-misfit g c =
    let s = c.quanta.session in
    let k = c.quanta.invariant in
    let past = c.quanta-test.false in
    let all = all_taken s.inputs c.args.quanta.now c.quanta.number s.quanta k.follows (omega arith) in
    let more = open_end s.inputs s.quanta (c.done.ensures.open c.if-not-done.true) in (
      subst (λ (i : Inputs). misfit_of i c.args.quanta.now ≡ Some Unfinished) k.inputs
          (ended s.inputs c.args.quanta.now c.quanta.number s.quanta true k.follows (omega arith) (ap (goes_on s.inputs) (sym all) ∙ more)),
      tt,
    )

pub returns-clause-inputs : goal.returns-clause-inputs
returns-clause-inputs g c = c.quanta.invariant.inputs

pub returns-clause-going : goal.returns-clause-going
returns-clause-going g c = c.quanta.invariant.going

pub returns-clause-fit : goal.returns-clause-fit
returns-clause-fit g c =
    let s = c.quanta.session in
    let k = c.quanta.invariant in
    let past = c.quanta-test.false in
    let all = all_taken s.inputs c.args.quanta.now c.quanta.number s.quanta k.follows (omega arith) in
    let over = over_is s.inputs s.quanta (c.done.ensures.whole c.if-not-done.false).ended in
    subst (λ (i : Inputs). misfit_of i c.args.quanta.now ≡ None) k.inputs
    (ended s.inputs c.args.quanta.now c.quanta.number s.quanta false k.follows (omega arith) (ap (goes_on s.inputs) (sym all) ∙ over))

pub returns-clause-taken : goal.returns-clause-taken
returns-clause-taken g c =
    let past = c.quanta-test.false in
    all_taken c.quanta.session.inputs c.args.quanta.now c.quanta.number c.quanta.session.quanta c.quanta.invariant.follows (omega arith)

pub returns-clause-whole : goal.returns-clause-whole
returns-clause-whole g c =
    let s = c.quanta.session in
    let k = c.quanta.invariant in
    let past = c.quanta-test.false in
    let all = all_taken s.inputs c.args.quanta.now c.quanta.number s.quanta k.follows (omega arith) in
    subst (λ (i : Inputs). IsWhole i c.args.quanta.now) k.inputs (subst (λ (l : List Quantum). IsWhole s.inputs l) all (c.done.ensures.whole c.if-not-done.false))
