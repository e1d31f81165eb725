use Rattle.std.proofs.Common.{List, Bool, sym, subst, ◌∙◌, eqb-true}
use Rattle.mdl_check.specs.Ancestry.{KeepsOthers}
use Rattle.mdl_check.proofs.Clearing.{dropped_there, marked_there}
use Rattle.mdl_check.proofs.ancestors.clears.Goals as goal

pub returns-then-not-is_empty : goal.returns-then-not-is_empty
returns-then-not-is_empty c =
    dropped_there (λ l. l.items) c.args.parents.now c.args.children.now.items c.args.clear.now.items c.args.place c.in-Some.list.now c.drop_clear.new.children c.requires c.in-Some.ensures.item.3.0 c.in-Some.ensures.value
    (subst (λ (b : List Bool). KeepsOthers b c.in-Some.list.now.items c.drop_clear.new.children.items) c.as_slice-2.ensures.value c.drop_clear.ensures)

pub returns-in-Some-get_mut : goal.returns-in-Some-get_mut
returns-in-Some-get_mut c =
    let dropped =
    dropped_there (λ l. l.items) c.args.parents.now c.args.children.now.items c.args.clear.now.items c.args.place c.in-Some.list.now c.drop_clear.new.children c.requires c.in-Some.ensures.item.3.0 c.in-Some.ensures.value
    (subst (λ (b : List Bool). KeepsOthers b c.in-Some.list.now.items c.drop_clear.new.children.items) c.as_slice-2.ensures.value c.drop_clear.ensures) in
    marked_there (λ l. l.items) c.args.parents.now c.args.children.now.items c.args.clear.now.items c.args.place c.drop_clear.new.children dropped c.in-Some.ensures.item.3.0
    (sym c.drop_clear.new.children.ok.0 ∙ eqb-true _ _ (sym c.is_empty.ensures ∙ c.if-not-is_empty.false))
