use Rattle.std.proofs.Common.{◌≡◌, ◌≤◌, ap, subst}
use Rattle.std.specs.Prelude.{false, drop, true}
use Rattle.pn_types.specs.declared.limits.TheConstants.{MAX_HARTS}
use Rattle.session_spec.specs.Run.{IsRun}
use Rattle.session_spec.specs.Work.{AreAllowed}
use Rattle.session_spec.specs.States.{SessionState}
use Rattle.session_spec.specs.Told.{AreEnded, AreJudged}
use Rattle.session_spec.proofs.Runs.{is_run}
use Rattle.session_spec.specs.Bins.{AreRecorded}
use Rattle.session_spec.specs.Costs.{AreWithin, IsWithinLimit}
use Rattle.session_spec.specs.Feed.{IsFeed}
use Rattle.session_spec.specs.Printed.{AreForOpening, AreWholeRuns}
use Rattle.session_spec.specs.LastReadings.{AreReadNext}
use Rattle.session_spec.specs.Laws.{AreBarred}
use Rattle.w3_search.specs.History.{IsHistory}
use Rattle.session.specs.declared.session.Session.TheInside.{Inside}
use Rattle.session.specs.Bins.{AreParts, AreWholeParts}
use Rattle.session.specs.Sessions.{SessionData, state_at, state_of}
use Rattle.session.specs.Tables.{lasts_in}
use Rattle.session.proofs.Recorded.{all_fed, all_parts, all_read, all_recorded, all_whole, whole_parts}
use Rattle.session.proofs.Searched.{all_barred, all_ended, all_judged, all_moments, all_within}
use Rattle.session.proofs.session.Session.laws.Goals as goal

pub returns-clause-allowed : goal.returns-clause-allowed
returns-clause-allowed c = subst (λ (d : SessionData). AreAllowed d.inputs d.quanta) c.self.view_is c.self.invariant.0.allowed

pub returns-clause-machine : goal.returns-clause-machine
returns-clause-machine c = subst (λ (x : SessionData). x.machine ≡ (state_of x).kept.machine) c.self.view_is (ap (λ (k : SessionState). k.machine) c.self.invariant.0.state.kept)

pub returns-clause-harts : goal.returns-clause-harts
returns-clause-harts c = subst (λ (x : SessionData). x.inputs.settings.harts ≤ MAX_HARTS) c.self.view_is c.self.invariant.0.given.settings.harts.1

pub returns-clause-run : goal.returns-clause-run
returns-clause-run c =
    let s = c.self.inside in
    subst (λ (x : SessionData). IsRun x.inputs (state_of x)) c.self.view_is
    (is_run s.inputs (state_at s.inputs s.quanta.items s.closed) (lasts_in s.stored.pairs) c.self.invariant.0.state.sound)

pub returns-clause-history : goal.returns-clause-history
returns-clause-history c =
    let s = c.self.inside in
    let held : IsHistory s.stored.search = subst (λ (x : Inside). IsHistory x.stored.search) c.self-inside.view_is c.nodes-nodes.ensures.history in
    subst (λ (x : SessionData). IsHistory (state_of x).kept.search) c.self.view_is (subst (λ (k : SessionState). IsHistory k.search) c.self.invariant.0.state.kept held)

-- ---- what was recorded

pub returns-clause-bins : goal.returns-clause-bins
returns-clause-bins c =
    let s = c.self.inside in
    subst (λ (x : SessionData). AreRecorded x.inputs (state_of x)) c.self.view_is (all_recorded s.inputs s.quanta.items s.closed (drop s.looked s.wishes.items) s.stored c.self.invariant.0)

pub returns-clause-parts : goal.returns-clause-parts
returns-clause-parts c =
    let s = c.self.inside in
    subst (λ (x : SessionData). AreParts x.inputs (state_of x)) c.self.view_is (all_parts s.inputs s.quanta.items s.closed (drop s.looked s.wishes.items) s.stored c.self.invariant.0)

pub returns-clause-feed : goal.returns-clause-feed
returns-clause-feed c =
    let s = c.self.inside in
    subst (λ (x : SessionData). IsFeed (state_of x)) c.self.view_is (all_fed s.inputs s.quanta.items s.closed)

pub returns-clause-read : goal.returns-clause-read
returns-clause-read c =
    let s = c.self.inside in
    subst (λ (x : SessionData). x.closed ≡ false → AreReadNext x.inputs x.quanta (state_of x)) c.self.view_is (all_read s.inputs s.quanta.items s.closed (drop s.looked s.wishes.items) s.stored c.self.invariant.0)

pub returns-clause-whole : goal.returns-clause-whole
returns-clause-whole c =
    let s = c.self.inside in
    subst (λ (x : SessionData). x.closed ≡ true → AreForOpening x.inputs → AreWholeRuns x.inputs (state_of x)) c.self.view_is (all_whole s.inputs s.quanta.items s.closed (drop s.looked s.wishes.items) s.stored c.self.invariant.0)

pub returns-clause-whole_parts : goal.returns-clause-whole_parts
returns-clause-whole_parts c =
    let s = c.self.inside in
    subst (λ (x : SessionData). x.closed ≡ true → AreForOpening x.inputs → AreWholeParts x.inputs (state_of x)) c.self.view_is (whole_parts s.inputs s.quanta.items s.closed (drop s.looked s.wishes.items) s.stored c.self.invariant.0)

-- ---- the search

pub returns-clause-verdicts : goal.returns-clause-verdicts
returns-clause-verdicts c =
    let s = c.self.inside in
    subst (λ (x : SessionData). x.closed ≡ false → AreJudged x.inputs (state_of x)) c.self.view_is (all_judged s.inputs s.quanta.items s.closed (drop s.looked s.wishes.items) s.stored c.self.invariant.0)

pub returns-clause-bars : goal.returns-clause-bars
returns-clause-bars c =
    let s = c.self.inside in
    subst (λ (x : SessionData). AreBarred x.inputs x.quanta (state_of x)) c.self.view_is (all_barred s.inputs s.quanta.items s.closed)

pub returns-clause-told : goal.returns-clause-told
returns-clause-told c =
    let s = c.self.inside in
    subst (λ (x : SessionData). x.closed ≡ true → AreEnded x.inputs x.quanta (state_of x)) c.self.view_is (all_ended s.inputs s.quanta.items s.closed (drop s.looked s.wishes.items) s.stored c.self.invariant.0)

pub returns-clause-cost : goal.returns-clause-cost
returns-clause-cost c =
    let s = c.self.inside in
    subst (λ (x : SessionData). IsWithinLimit x.inputs (state_of x).kept) c.self.view_is (all_within s.inputs s.quanta.items s.closed)

pub returns-clause-moments : goal.returns-clause-moments
returns-clause-moments c =
    let s = c.self.inside in
    subst (λ (x : SessionData). x.closed ≡ false → AreWithin x.inputs (state_of x)) c.self.view_is (all_moments s.inputs s.quanta.items s.closed)
