use Rattle.std.proofs.Common.{append-nil, append_assoc, refl}
use Rattle.std.proofs.lemmas.Result.{IfOk-equal}
use Rattle.report_json.proofs.search.add_outcome.Goals as goal

pub returns-clause-tokens : goal.returns-clause-tokens
returns-clause-tokens c =
    IfOk-equal _ _ _ _ c.add_bar.ensures.tokens
    (rw (
      append-nil,
      c.in_ok-add_optional-5.ensures.tokens,
      append_assoc,
      c.in_ok-add_optional-4.ensures.tokens,
      append_assoc,
      c.in_ok-add_optional-3.ensures.tokens,
      append_assoc,
      c.in_ok-add_optional-2.ensures.tokens,
      append_assoc,
      c.in_ok-add_optional.ensures.tokens,
      append_assoc,
      c.in_ok-add_string.ensures.tokens,
      append_assoc,
      c.state_word.ensures,
      c.seen_by.ensures,
      c.of_verdict.ensures,
      c.of_verdict-2.ensures,
      c.of_verdict-3.ensures,
      c.of_verdict-4.ensures,
      c.bar_cause.ensures,
    )
    refl)
