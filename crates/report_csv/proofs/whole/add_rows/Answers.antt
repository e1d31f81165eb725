use Rattle.std.proofs.Common.{append_assoc}
use Rattle.std.proofs.lemmas.Result.{IfOk-equal}
use Rattle.report_csv.proofs.Steps.{lines_both}
use Rattle.report_csv.proofs.whole.add_rows.Goals as goal

pub returns-clause-text : goal.returns-clause-text
returns-clause-text c =
    IfOk-equal _ _ _ _ c.add_search.ensures.text
    (rw (
      c.in_ok-add_all_shown.ensures.text,
      c.in_ok-add_all_refused.ensures.text,
      c.in_ok-add_run.ensures.text,
      c.in_ok-add_names.ensures.text,
      c.as_slice.ensures,
      c.as_slice-2.ensures,
    )
    (simp (lines_both, append_assoc)))
