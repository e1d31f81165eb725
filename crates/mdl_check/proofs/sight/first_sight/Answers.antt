use Rattle.std.proofs.Common.{◌==◌, ◌&&◌, Bool, Option, Some, bytes_eq, eq-eqb, sym, ap, ◌∙◌}
use Rattle.pn_types.specs.declared.focus.Focus.{Focus}
use Rattle.mdl_ast.specs.declared.items.Item.{Item}
use Rattle.mdl_check.specs.Rules.{is_shown_by, is_same_focus}
use Rattle.mdl_check.specs.Sights.{is_same_sight, metric_focus}
use Rattle.mdl_check.specs.declared.sight.MetricFocus.{MetricFocus}
use Rattle.mdl_check.proofs.Befores.{same_sight}
use Rattle.mdl_check.proofs.sight.first_sight.Goals as goal

pub returns-then-wish : goal.returns-then-wish
returns-then-wish c metric f =
    let w = c.in-Wish.wish in
    let g = c.in-Some.focus in
    ap (λ (i : Item). is_shown_by metric.now (Some f) i c.args.focus) c.in-Wish.is
    ∙ ap (λ (o : Option Focus). (w.at == 0) && w.show && bytes_eq metric.now w.metric && is_same_focus (Some f) o) c.in-Some.is
    ∙ ap (λ (b : Bool). b && w.show && bytes_eq metric.now w.metric && is_same_focus (Some f) (Some g)) (eq-eqb w.at 0 c.if-wish-eq0.true)
    ∙ ap (λ (b : Bool). b && bytes_eq metric.now w.metric && is_same_focus (Some f) (Some g)) c.if-wish.true
    ∙ ap (λ n. bytes_eq metric.now n && is_same_focus (Some f) (Some g)) (sym c.bytes.ensures)
    ∙ same_sight metric c.bytes.result f g
    ∙ ap (λ (s : MetricFocus). is_same_sight s (metric_focus metric f)) (sym c.new.ensures)
