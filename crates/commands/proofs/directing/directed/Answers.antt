use Rattle.std.proofs.Common.{◌≡◌, ◌∙◌, ap, sym}
use Rattle.directives.specs.Acts.{applied}
use Rattle.mdl_ast.specs.declared.items.Conf.{Conf}
use Rattle.mdl_shipped.specs.Shipped.{shipped_conf}
use Rattle.commands.proofs.Directed.{applied_few}
use Rattle.commands.proofs.directing.directed.Goals as goal

pub returns-in-Ok-clause-few : goal.returns-in-Ok-clause-few
returns-in-Ok-clause-few c =
    let made = c.in-Ok.made.items in
    let shipped : applied c.in_ok-shipped.shipped.items c.args.conf.now.items c.args.directives.now ≡ applied shipped_conf.items c.args.conf.now.items c.args.directives.now =
    ap (λ (k : Conf). applied k.items c.args.conf.now.items c.args.directives.now) c.in_ok-shipped.ensures.conf in
    applied_few c.args.conf.now.items made c.args.directives.now c.requires.few (sym shipped ∙ c.in-Ok.ensures.applied)

pub returns-in-Ok-clause-small : goal.returns-in-Ok-clause-small
returns-in-Ok-clause-small c = c.in-Ok.ensures.small c.requires.small
