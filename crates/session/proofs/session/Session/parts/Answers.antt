use Rattle.std.proofs.Common.{◌≡◌, ◌<◌, ◌≤◌, ◌^◌, Err, Ok, length, subst, sym}
use Rattle.std.specs.Prelude.{IfOk, Result, drop, sum_by}
use Rattle.pn_types.specs.declared.limits.TheConstants.{MAX_HARTS}
use Rattle.report.specs.declared.parts.ReportParts.{ReportParts}
use Rattle.session.specs.Parts.{parts_of}
use Rattle.session.specs.Seen.{table_parts}
use Rattle.session.specs.Sessions.{SessionData, state_at, state_of}
use Rattle.session.proofs.Reported.{parts_are}
use Rattle.session.proofs.Ticks.{parts_few, ticks_few}
use Rattle.session.proofs.session.Session.parts.Goals as goal

of_parts : {E : Type 0} (r : Result ReportParts E) (all : ReportParts) (P : ReportParts → Type 0) → IfOk r (λ parts. parts ≡ all) → P all → IfOk r P
of_parts (Ok parts) all P e p = subst P (sym e) p
of_parts (Err fault) all P e p = tt

pub returns-clause-parts : goal.returns-clause-parts
returns-clause-parts c =
    let s = c.self.inside in
    let are = parts_are s.inputs (state_at s.inputs (s.quanta).items s.closed) (drop s.looked (s.wishes).items) s.stored c.self.invariant.0.state in
    subst (λ (d : SessionData). IfOk c.stored_parts.result (λ parts. parts ≡ parts_of d.inputs (state_of d))) c.self.view_is
    (subst (λ all. IfOk c.stored_parts.result (λ parts. parts ≡ all)) are c.stored_parts.ensures)

pub returns-clause-harts : goal.returns-clause-harts
returns-clause-harts c =
    let s = c.self.inside in
    of_parts c.stored_parts.result (table_parts s.inputs s.stored) (λ parts. length parts.harts ≤ MAX_HARTS) c.stored_parts.ensures (parts_few s.inputs (s.quanta).items s.closed (drop s.looked (s.wishes).items) s.stored c.self.invariant.0)

pub returns-clause-ticks : goal.returns-clause-ticks
returns-clause-ticks c =
    let s = c.self.inside in
    of_parts c.stored_parts.result (table_parts s.inputs s.stored) (λ parts. sum_by (λ part. part.ticks) parts.harts < 2 ^ 64) c.stored_parts.ensures (ticks_few s.inputs (s.quanta).items s.closed (drop s.looked (s.wishes).items) s.stored c.self.invariant.0)
