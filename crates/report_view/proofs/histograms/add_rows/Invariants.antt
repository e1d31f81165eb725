use Rattle.std.proofs.Common.{◌≡◌, ◌++◌, drop, flat_map, map}
use Rattle.report_view.specs.Histograms.{histogram_row}
use Rattle.report_view.proofs.histograms.add_rows.Given as goal

-- what is written, and the rows that are left, make all the rows
abbrev pub invariant-loop-part : goal.invariant-loop-part
invariant-loop-part l =
    l.out.items ++ flat_map (histogram_row l.ascii) (map (λ part. part.now) (drop l.part-index l.parts))
    ≡ l.initial.out.items ++ flat_map (histogram_row l.ascii) (map (λ part. part.now) l.parts)
