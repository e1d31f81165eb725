use Rattle.std.proofs.Common.{append_assoc}
use Rattle.std.proofs.lemmas.Result.{IfOk-equal}
use Rattle.report_json.proofs.search.add_node.Goals as goal

pub returns-clause-tokens : goal.returns-clause-tokens
returns-clause-tokens c =
    IfOk-equal _ _ _ _ c.end_object.ensures.tokens
    (rw (c.in_ok-add_outcome.ensures.tokens, c.in_ok-add_origin.ensures.tokens, c.in_ok-begin_object.ensures.tokens)
    (simp append_assoc))
