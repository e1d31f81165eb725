use Rattle.std.proofs.Common.{append_assoc}
use Rattle.std.proofs.lemmas.Result.{IfOk-equal}
use Rattle.report_json.proofs.search.add_origin.Goals as goal

pub returns-clause-tokens : goal.returns-clause-tokens
returns-clause-tokens c =
    IfOk-equal _ _ _ _ c.add_bytes-3.ensures.tokens
    (rw (
      c.in_ok-add_bytes-2.ensures.tokens,
      c.in_ok-add_optional.ensures.tokens,
      c.in_ok-add_bytes.ensures.tokens,
      c.bytes.ensures,
      c.bytes-2.ensures,
      c.bytes-3.ensures,
      c.parent_of.ensures,
    )
    (simp append_assoc))
