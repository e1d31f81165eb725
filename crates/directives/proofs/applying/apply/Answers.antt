use Rattle.std.proofs.Common.{◌≡◌, arith, refl, ◌∙◌, ap, ap₂, sym, subst, Ok, List}
use Rattle.mdl_ast.specs.declared.items.Item.{Item}
use Rattle.directives.specs.Acts.{expanded, directed, applied}
use Rattle.directives.specs.Standing.{HaveOwnNames}
use Rattle.directives.specs.declared.directive.Directive.{Directive}
use Rattle.directives.proofs.Accepting.{accepted_after, prefixes_after, few_after, own_names}
use Rattle.directives.proofs.Small.{small_after}
use Rattle.directives.proofs.Loops.{directed_faulty, directed_more, directed_all}
use Rattle.directives.proofs.applying.apply.Goals as goal

whole : (shipped items : List Item) (ds : List Directive) → applied shipped items ds ≡ directed ds (expanded shipped items)
unfolding applied
whole shipped items ds = refl

pub of-requires : goal.of-requires
of-requires c = subst HaveOwnNames (sym (c.in_ok-items.ensures ∙ ap₂ expanded c.as_slice.ensures c.as_slice-2.ensures)) (own_names c.args.tree.now c.args.shipped.now.items c.args.conf.now.items c.requires)

pub loop-directive-init : goal.loop-directive-init
loop-directive-init c = sym (ap (directed c.args.directives.now) (c.in_ok-standing.ensures ∙ c.in_ok-items.ensures ∙ ap₂ expanded c.as_slice.ensures c.as_slice-2.ensures))

pub returns-in-Some-clause-fault : goal.returns-in-Some-clause-fault
returns-in-Some-clause-fault c =
    let shipped = c.args.shipped.now.items in
    let conf = c.args.conf.now.items in
    let items = c.loop-directive.standing in
    whole shipped conf c.args.directives.now
    ∙ directed_faulty (directed c.args.directives.now (expanded shipped conf)) c.args.directives.now c.loop-directive.directive-index c.directive-item.result items c.in-Some.kind
    c.loop-directive.invariant (omega arith) c.directive-item.is (sym c.kind_of.ensures ∙ c.in-Some.is)

pub loop-directive-preserved : goal.loop-directive-preserved
loop-directive-preserved c =
    let items = c.loop-directive.standing in
    directed_more (directed c.args.directives.now (expanded c.args.shipped.now.items c.args.conf.now.items)) c.args.directives.now c.loop-directive.directive-index c.directive-item.result items c.act_on.new.standing
    c.loop-directive.invariant (omega arith) c.directive-item.is (sym c.kind_of.ensures ∙ c.in_default.is) c.in_ok-act_on.ensures

pub returns-clause-applied : goal.returns-clause-applied
returns-clause-applied c =
    let shipped = c.args.shipped.now.items in
    let conf = c.args.conf.now.items in
    whole shipped conf c.args.directives.now
    ∙ directed_all (directed c.args.directives.now (expanded shipped conf)) c.args.directives.now c.loop-directive.directive-index c.loop-directive.standing
    c.loop-directive.invariant (omega arith) ∙ ap (λ (l : List Item). Ok l) (sym (c.from_vec.ensures ∙ c.in_ok-into_items.ensures))

pub returns-clause-accepted : goal.returns-clause-accepted
returns-clause-accepted c =
    accepted_after c.args.tree.now c.args.shipped.now.items c.args.conf.now.items c.args.directives.now c.from_vec.result c.requires (returns-clause-applied c)

pub returns-clause-prefixes : goal.returns-clause-prefixes
returns-clause-prefixes c =
    prefixes_after c.args.tree.now c.args.shipped.now.items c.args.conf.now.items c.args.directives.now c.from_vec.result c.requires (returns-clause-applied c)

pub returns-clause-few : goal.returns-clause-few
returns-clause-few c =
    few_after c.args.tree.now c.args.shipped.now.items c.args.conf.now.items c.args.directives.now c.from_vec.result c.requires (returns-clause-applied c)

pub returns-clause-small : goal.returns-clause-small
returns-clause-small c s = small_after c.args.shipped.now.items c.args.conf.now.items c.args.directives.now c.from_vec.result s (returns-clause-applied c)
