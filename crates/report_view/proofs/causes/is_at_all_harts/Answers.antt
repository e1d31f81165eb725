use Rattle.std.proofs.Common.{codes, not, rules, tests}
use Rattle.std.proofs.lemmas.Iterator.Search.{all_from_yields_List}
use Rattle.std.proofs.lemmas.Iterator.Splits.{YieldsList-from_slice_split}
use Rattle.pn_text.specs.Bytes.{begins_with}
use Rattle.report_view.proofs.causes.is_at_all_harts.Goals as goal

pub returns : goal.returns
returns c =
    all_from_yields_List (λ part. not (begins_with (codes "/Machine/") part)) _ _ c.all.result c.all.ensures.ran
    (YieldsList-from_slice_split _ _ c.args.focus.now c.split.ensures.rest c.split.ensures.done c.split.ensures.closure (λ x r q k. search (rules, tests)))
    (λ x b q k. search (rules, tests))
