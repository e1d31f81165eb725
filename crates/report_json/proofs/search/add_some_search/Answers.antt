use Rattle.std.proofs.Common.{append_assoc}
use Rattle.std.proofs.lemmas.Result.{IfOk-equal}
use Rattle.report_json.proofs.search.add_some_search.Goals as goal

pub returns-clause-tokens : goal.returns-clause-tokens
returns-clause-tokens c =
    IfOk-equal _ _ _ _ c.end_object.ensures.tokens
    (rw (
      c.in_ok-add_nodes.ensures.tokens,
      c.in_ok-add_natural.ensures.tokens,
      c.in_ok-add_boolean.ensures.tokens,
      c.in_ok-begin_object.ensures.tokens,
      c.as_slice.ensures,
    )
    (simp append_assoc))
