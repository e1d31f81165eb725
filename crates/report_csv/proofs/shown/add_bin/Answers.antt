use Rattle.std.proofs.Common.{refl}
use Rattle.std.proofs.lemmas.Result.{IfOk-equal}
use Rattle.report_csv.proofs.shown.add_bin.Goals as goal

pub returns-clause-text : goal.returns-clause-text
returns-clause-text c =
    IfOk-equal _ _ _ _ c.add_row.ensures.text
    (rw (
      c.in_ok-number.ensures,
      c.in_ok-number-2.ensures,
      c.in_ok-number-3.ensures,
      c.in_ok-number-4.ensures,
      c.in_ok-signed.ensures,
    )
    refl)
