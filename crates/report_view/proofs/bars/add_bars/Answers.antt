use Rattle.std.proofs.Common.{◌≡◌, get_or, refl, ap, ◌∙◌, arith}
use Rattle.report_view.specs.Bars.{positive}
use Rattle.report_view.specs.Signed.{greatest}
use Rattle.report_view.proofs.Heights.{greatest_bounds}
use Rattle.report_view.proofs.bars.add_bars.Goals as goal

pub add_bar-requires : goal.add_bar-requires
add_bar-requires c = λ n.
    let values = c.args.values.now in
    let e : c.positive-most.result ≡ positive (greatest values) = c.positive-most.ensures ∙ ap positive c.greatest.ensures in
    let b = greatest_bounds values c.loop-value.value-index (get_or values c.loop-value.value-index 0) (omega arith) refl (λ k l. let h = c.type_inv.values k in omega arith) n in
    omega arith
