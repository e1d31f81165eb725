use Rattle.std.proofs.Common.{refl}
use Rattle.std.proofs.lemmas.Result.{IfOk-equal}
use Rattle.report_csv.proofs.search.add_node.Goals as goal

pub returns-clause-text : goal.returns-clause-text
returns-clause-text c =
    IfOk-equal _ _ _ _ c.add_row.ensures.text
    (rw (
      c.in_ok-number.ensures,
      c.in_ok-text.ensures,
      c.in_ok-text-2.ensures,
      c.in_ok-text-3.ensures,
      c.in_ok-optional.ensures,
      c.in_ok-word.ensures,
      c.in_ok-seen.ensures,
      c.in_ok-verdict.ensures,
      c.in_ok-verdict-2.ensures,
      c.in_ok-verdict-3.ensures,
      c.in_ok-verdict-4.ensures,
      c.in_ok-bar.ensures,
      c.bytes.ensures,
      c.bytes-2.ensures,
      c.bytes-3.ensures,
      c.parent_of.ensures,
    )
    refl)
