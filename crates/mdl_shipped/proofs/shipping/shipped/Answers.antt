use Rattle.std.proofs.Common.{◌≡◌, IfOk, subst, sym, ap, ◌∙◌}
use Rattle.std.proofs.lemmas.Result.{IfOk-weaker}
use Rattle.std.specs.List.{AllByRecursion}
use Rattle.mdl_ast.specs.Small.{HasSmall}
use Rattle.mdl_ast.specs.declared.items.Conf.{Conf}
use Rattle.mdl_parse.specs.declared.fault.ParseError.{ParseError}
use Rattle.mdl_parse.specs.ButLines.{but_lines}
use Rattle.mdl_parse.specs.Meaning.{Faults, ParseRefuses}
use Rattle.mdl_parse.proofs.Unique.{one_conf, conf_or_fault}
use Rattle.mdl_shipped.specs.Shipped.{shipped_conf}
use Rattle.mdl_shipped.proofs.ShippedSmall.{shipped_small}
use Rattle.mdl_shipped.proofs.Lined.{lined}
use Rattle.mdl_shipped.proofs.Spelled.{is_conf, shipped_text, without_lines}
use Rattle.mdl_shipped.proofs.shipping.shipped.Goals as goal

pub unreachable-requires : goal.unreachable-requires
unfolding shipped_text
unreachable-requires c =
    let f = c.in-Err-Fault.field-0-0 in
    conf_or_fault shipped_text lined f.line f.col f.kind is_conf
    (subst (λ (e : ParseError). ParseRefuses e (Faults shipped_text)) c.in-Err-Fault.field-0-is c.in-Err-Fault.ensures.fault)

module _ (c : goal.After-but_lines) where
  made_is : IfOk c.but_lines.result (λ (made : Conf). made ≡ shipped_conf)
  unfolding shipped_text
  made_is =
      let same = one_conf shipped_text c.in-Ok.conf lined c.in-Ok.ensures.conf is_conf in
      subst (λ (x : Conf). IfOk c.but_lines.result (λ (made : Conf). made ≡ x)) (ap but_lines same ∙ without_lines) c.but_lines.ensures

pub returns-in-Ok-clause-conf : goal.returns-in-Ok-clause-conf
returns-in-Ok-clause-conf c = made_is c

pub returns-in-Ok-clause-small : goal.returns-in-Ok-clause-small
returns-in-Ok-clause-small c =
    IfOk-weaker c.but_lines.result (λ (made : Conf). made ≡ shipped_conf) (λ (made : Conf). AllByRecursion HasSmall made.items)
    (λ made same. subst (λ (x : Conf). AllByRecursion HasSmall x.items) (sym same) shipped_small) (made_is c)
