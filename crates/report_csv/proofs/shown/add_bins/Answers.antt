use Rattle.std.proofs.Common.{arith, get_or, refl}
use Rattle.fold_hist.specs.declared.bin.Bin.{Bin}
use Rattle.report_csv.specs.Cells.{line, row}
use Rattle.report_csv.specs.Report.{bin_row, bin_rows}
use Rattle.report_csv.proofs.Steps.{next_part}
use Rattle.report_csv.proofs.shown.add_bins.Goals as goal

pub loop-number-preserved : goal.loop-number-preserved
loop-number-preserved c =
    let added = c.in_ok-add_bin.ensures in
    let histogram = c.args.histogram in
    let bins = c.args.bins.now in
    let n = c.loop-number.number in
    let none : Bin = record { from = 0; to = 0; sum = 0 } in (
      added.between,
      next_part bins n (get_or bins n none) none (omega arith) refl
          (bin_rows histogram) (λ n bin. line (row (bin_row histogram n bin))) (λ n bin bins. refl) _ _ _ added.text c.loop-number.invariant.1,
    )
