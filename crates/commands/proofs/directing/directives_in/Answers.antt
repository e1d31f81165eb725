use Rattle.std.proofs.Common.{◌≡◌, Err, refl, sym, subst}
use Rattle.directives.specs.Meaning.{DirectiveFaults, DirectiveRefuses as Stops}
use Rattle.directives.specs.declared.fault.DirectiveError.{DirectiveError}
use Rattle.directives.specs.declared.fault.DirectiveFault.{DirectiveFault}
use Rattle.refusals.specs.Kinds.{fault_at, directive_kind}
use Rattle.refusals.specs.Refusals.{RefusalIs}
use Rattle.refusals.specs.declared.configuration.ConfKind.{ConfKind}
use Rattle.refusals.specs.declared.fault.Fault.TheVariants.{BadDirectives}
use Rattle.refusals.specs.declared.refusal.Refusal.{Refusal}
use Rattle.commands.specs.Directing.{MeansDirectives}
use Rattle.commands.proofs.directing.directives_in.Goals as goal

pub returns-in-Err-Fault : goal.returns-in-Err-Fault
returns-in-Err-Fault c =
    let wrong : DirectiveFault = c.in-Err-Fault.fault in
    let line = wrong.line in
    let col = wrong.col in
    subst (λ (e : Refusal). RefusalIs e (λ fault. MeansDirectives c.args.text.now (Err fault))) (sym c.bad_directives.ensures) (
      line,
      col,
      wrong.kind,
      subst (λ (e : DirectiveError). Stops e (λ fault. DirectiveFaults c.args.text.now fault)) c.in-Err-Fault.field-0-is c.in-Err-Fault.ensures.fault,
      subst (λ (kind : ConfKind). BadDirectives (fault_at line col kind) ≡ BadDirectives (fault_at line col (directive_kind wrong.kind))) (sym c.directive_kind.ensures) refl,
    )
