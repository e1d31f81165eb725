use Rattle.std.proofs.Common.{Some, subst}
use Rattle.std.specs.Prelude.{Option}
use Rattle.pn_types.specs.declared.focus.Focus.{Focus}
use Rattle.mdl_ast.specs.declared.items.Item.{Item}
use Rattle.mdl_check.specs.Sights.{IsFirstMetricFocus}
use Rattle.mdl_check.proofs.Befores.{one_more_sight}
use Rattle.mdl_check.proofs.before.add_shown.Goals as goal

pub returns-in_ok-put : goal.returns-in_ok-put
returns-in_ok-put c es h =
    let e = c.args.entry.now in
    let s = c.in-Some.sight in
    one_more_sight es e s c.args.shown.now.keys c.put.new.shown.keys
    (subst (λ (f : Option Focus). IsFirstMetricFocus e.item f (Some s)) c.focus.ensures (subst (λ (i : Item). IsFirstMetricFocus i c.focus.result (Some s)) c.item.ensures c.in-Some.ensures)) h c.in_ok-put.ensures
