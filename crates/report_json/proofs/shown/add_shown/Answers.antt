use Rattle.std.proofs.Common.{append_assoc}
use Rattle.std.proofs.lemmas.Result.{IfOk-equal}
use Rattle.report_json.proofs.shown.add_shown.Goals as goal

pub returns-clause-tokens : goal.returns-clause-tokens
returns-clause-tokens c =
    IfOk-equal _ _ _ _ c.end_object.ensures.tokens
    (rw (
      c.in_ok-add_bins.ensures.tokens,
      c.in_ok-add_natural.ensures.tokens,
      c.in_ok-add_optional.ensures.tokens,
      c.in_ok-add_bytes-3.ensures.tokens,
      c.in_ok-add_bytes-2.ensures.tokens,
      c.in_ok-add_bytes.ensures.tokens,
      c.in_ok-begin_object.ensures.tokens,
      c.bytes.ensures,
      c.bytes-2.ensures,
      c.bytes-3.ensures,
      c.as_slice.ensures,
    )
    (simp append_assoc))
