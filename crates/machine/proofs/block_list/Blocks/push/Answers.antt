use Rattle.std.proofs.Common.{◌-◌, [], ◌∷◌, ◌++◌, ◌∙◌, ap}
use Rattle.std.specs.Prelude.{map}
use Rattle.bucket_chains.specs.Left.{present_entries}
use Rattle.bucket_chains.proofs.Nexts.{left_push}
use Rattle.machine.specs.Views.{BlockList, row_of}
use Rattle.machine.proofs.Lists.{map_snoc}
use Rattle.machine.proofs.block_list.Blocks.push.Goals as goal

pub returns : goal.returns
returns c =
    let es = c.self.inside.rows.items in
    ap (λ xs. record { rows = map row_of (present_entries xs); room = c.self.inside.room - 1 }) c.push_reserved.ensures.items
    ∙ (ap (λ xs. record { rows = map row_of xs; room = c.self.inside.room - 1 }) (left_push es c.args.row)
    ∙ (ap (λ rows. record { rows = rows; room = c.self.inside.room - 1 }) (map_snoc row_of (present_entries es) c.args.row)
    ∙ ap (λ (b : BlockList). record { rows = b.rows ++ row_of c.args.row ∷ []; room = b.room - 1 }) c.self.view_is))
