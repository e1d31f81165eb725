use Rattle.std.proofs.Common.{append-nil, append_assoc}
use Rattle.std.proofs.lemmas.Result.{IfOk-equal}
use Rattle.report_csv.proofs.Steps.{lines_both}
use Rattle.report_csv.proofs.run.add_run.Goals as goal

pub returns-clause-text : goal.returns-clause-text
returns-clause-text c =
    IfOk-equal _ _ _ _ c.add_output.ensures.text
    (rw (
      c.in_ok-add_harts.ensures.text,
      c.in_ok-add_samples.ensures.text,
      c.in_ok-add_skipped.ensures.text,
      c.in_ok-add_format.ensures.text,
      c.as_slice.ensures,
      c.bytes.ensures,
    )
    (simp (lines_both, append_assoc, append-nil)))
