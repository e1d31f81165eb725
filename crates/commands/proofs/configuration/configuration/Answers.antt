use Rattle.std.proofs.Common.{◌≡◌, Err, refl, sym, subst}
use Rattle.mdl_parse.specs.Meaning.{Faults, ParseRefuses as ParseRefuses}
use Rattle.mdl_parse.specs.declared.fault.ParseError.{ParseError}
use Rattle.refusals.specs.Kinds.{fault_at, syntax_kind}
use Rattle.refusals.specs.Refusals.{RefusalIs}
use Rattle.refusals.specs.declared.configuration.ConfKind.{ConfKind}
use Rattle.refusals.specs.declared.fault.Fault.TheVariants.{BadConf}
use Rattle.refusals.specs.declared.refusal.Refusal.{Refusal}
use Rattle.commands.specs.Inputs.{MeansConf}
use Rattle.commands.proofs.FewItems.{few_items}
use Rattle.commands.proofs.configuration.configuration.Goals as goal

pub returns-in-Ok-clause-few : goal.returns-in-Ok-clause-few
returns-in-Ok-clause-few c = few_items c.args.text.now c.in-Ok.conf c.in-Ok.ensures.conf c.requires

pub returns-in-Err-Fault-clause-means : goal.returns-in-Err-Fault-clause-means
returns-in-Err-Fault-clause-means c =
    let text = c.args.text.now in
    let fault = c.in-Err-Fault.fault in
    subst (λ (e : Refusal). RefusalIs e (λ fault. MeansConf text (Err fault))) (sym c.bad_configuration.ensures) (
      fault.line,
      fault.col,
      fault.kind,
      subst (λ (e : ParseError). ParseRefuses e (Faults text)) c.in-Err-Fault.field-0-is c.in-Err-Fault.ensures.fault,
      subst (λ (kind : ConfKind). BadConf (fault_at fault.line fault.col kind) ≡ BadConf (fault_at fault.line fault.col (syntax_kind fault.kind))) (sym c.syntax_kind.ensures) refl,
    )
