use Rattle.std.proofs.Common.{map}
use Rattle.profile_text.specs.Rows.{procedure_row}
use Rattle.profile_text.proofs.Adding.{costs_add_up, rows_add_up, rows_permuted}
use Rattle.profile_text.proofs.Order.{rows_ordered}
use Rattle.profile_text.proofs.Prepared.{ascends}
use Rattle.profile_text.proofs.laws.lines_add_up.Goals as goal

pub returns : goal.returns
returns c = λ image procs r are fits.
    let h = ascends image procs are in
    record {
      all_rows = rows_permuted (map (procedure_row image r) procs);
      order = rows_ordered image procs r h;
      rows = rows_add_up image procs r h fits;
      costs = costs_add_up image r fits procs h;
    }
