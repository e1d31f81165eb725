use Rattle.std.proofs.Common.{Option, ℕ, map, sym, ap, ◌∙◌}
use Rattle.mdl_check.specs.Ancestry.{noted}
use Rattle.mdl_check.proofs.Clearing.{put_last}
use Rattle.mdl_check.proofs.ancestors.note.Goals as goal

pub returns-in_ok-push : goal.returns-in_ok-push
returns-in_ok-push c =
    put_last (λ l. l.items) c.args.children.now.items c.in-Some.place c.args.child c.in-Some-get_mut.list.now c.push.new.self c.in-Some-get_mut.ensures.item.3.0 c.in-Some-get_mut.ensures.value c.in_ok-push.ensures.items
    ∙ ap (λ (o : Option ℕ). noted o c.args.child (map (λ l. l.items) c.args.children.now.items)) (sym c.in-Some.is)
