use Rattle.std.proofs.Common.{append_assoc, refl}
use Rattle.std.proofs.lemmas.Result.{IfOk-equal}
use Rattle.report_json.specs.Report.{report_value}
use Rattle.report_json.proofs.whole.add_report.Goals as goal

pub returns-clause-tokens : goal.returns-clause-tokens
unfolding report_value
returns-clause-tokens c =
    IfOk-equal _ _ _ _ c.end_object.ensures.tokens
    (rw (
      c.in_ok-add_search.ensures.tokens,
      append_assoc,
      c.in_ok-add_all_shown.ensures.tokens,
      append_assoc,
      c.in_ok-add_all_refused.ensures.tokens,
      append_assoc,
      c.in_ok-add_bytes.ensures.tokens,
      append_assoc,
      c.in_ok-add_harts.ensures.tokens,
      append_assoc,
      c.in_ok-add_natural-2.ensures.tokens,
      append_assoc,
      c.in_ok-add_natural.ensures.tokens,
      append_assoc,
      c.in_ok-add_string.ensures.tokens,
      append_assoc,
      c.in_ok-begin_object.ensures.tokens,
      append_assoc,
      c.bytes.ensures,
      c.as_slice.ensures,
      c.as_slice-2.ensures,
      c.as_slice-3.ensures,
    )
    refl)
