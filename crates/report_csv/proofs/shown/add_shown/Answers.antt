use Rattle.std.proofs.Common.{append_assoc}
use Rattle.std.proofs.lemmas.Result.{IfOk-equal}
use Rattle.report_csv.proofs.shown.add_shown.Goals as goal

pub returns-clause-text : goal.returns-clause-text
returns-clause-text c =
    IfOk-equal _ _ _ _ c.add_bins.ensures.text
    (rw (c.in_ok-add_histogram.ensures.text, c.as_slice.ensures) (simp append_assoc))
