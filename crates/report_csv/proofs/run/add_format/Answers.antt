use Rattle.std.proofs.Common.{refl}
use Rattle.std.proofs.lemmas.Result.{IfOk-equal}
use Rattle.report_csv.proofs.run.add_format.Goals as goal

pub returns-clause-text : goal.returns-clause-text
returns-clause-text c =
    IfOk-equal _ _ _ _ c.add_row.ensures.text
    (rw (c.in_ok-text.ensures, c.in_ok-text-2.ensures)
    refl)
