use Rattle.std.proofs.Common.{arith, refl}
use Rattle.report_csv.specs.Cells.{line, row}
use Rattle.report_csv.specs.Report.{node_row, node_rows}
use Rattle.report_csv.proofs.Steps.{next_part}
use Rattle.report_csv.proofs.search.add_nodes.Goals as goal

pub loop-number-preserved : goal.loop-number-preserved
loop-number-preserved c =
    let added = c.in_ok-add_node.ensures in (
      added.between,
      next_part c.args.parts.now c.loop-number.number c.index-parts-number.result c.index-parts-number.result (omega arith) c.index-parts-number.is
          node_rows (λ n part. line (row (node_row n part))) (λ n part parts. refl) _ _ _ added.text c.loop-number.invariant.1,
    )
