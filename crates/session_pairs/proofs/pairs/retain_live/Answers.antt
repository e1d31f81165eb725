use Rattle.std.proofs.Common.{false, not, rules, tests}
use Rattle.std.specs.Prelude.{slice_get}
use Rattle.std.specs.Option.{option_map_or}
use Rattle.std.proofs.lemmas.Fn.{filter_same}
use Rattle.session_pairs.specs.SampledPairs.{is_gone_test}
use Rattle.session_pairs.proofs.pairs.retain_live.Goals as goal

pub returns-clause-live : goal.returns-clause-live
returns-clause-live c =
    let p = c.args.machine.now.state.placer in
    filter_same _ (λ at. not (option_map_or (is_gone_test p) (slice_get c.args.pairs.now at) false)) _ (λ x b f' k. search (rules, tests)) _ _ c.retain.ensures.filtered
