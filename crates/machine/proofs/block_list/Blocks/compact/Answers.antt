use Rattle.std.proofs.Common.{◌∙◌, ap, rules, tests}
use Rattle.std.specs.Prelude.{map}
use Rattle.std.specs.Option.{is_some}
use Rattle.std.proofs.lemmas.Fn.{filter_same}
use Rattle.bucket_chains.specs.Left.{present_entries}
use Rattle.machine.specs.Views.{row_of}
use Rattle.machine.proofs.BlockLists.{left_all}
use Rattle.machine.proofs.block_list.Blocks.compact.Goals as goal

pub returns : goal.returns
returns c =
    let room = c.self.inside.room in
    let kept = filter_same _ is_some _ (λ x b f' k. search (rules, tests)) _ _ c.retain.ensures.filtered in
    ap (λ es. record { rows = map row_of (present_entries es); room = room }) kept
    ∙ (ap (λ xs. record { rows = map row_of xs; room = room }) (left_all c.self.inside.rows.items) ∙ c.self.view_is)
