use Rattle.std.proofs.Common.{refl}
use Rattle.std.proofs.lemmas.Result.{IfOk-equal}
use Rattle.report_csv.proofs.run.add_hart.Goals as goal

pub returns-clause-text : goal.returns-clause-text
returns-clause-text c =
    IfOk-equal _ _ _ _ c.add_row.ensures.text
    (rw (
      c.in_ok-number.ensures,
      c.in_ok-stop.ensures,
      c.in_ok-optional.ensures,
      c.in_ok-number-2.ensures,
      c.in_ok-number-3.ensures,
      c.stop_code.ensures,
    )
    refl)
