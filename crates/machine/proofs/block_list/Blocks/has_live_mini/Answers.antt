use Rattle.std.proofs.Common.{◌∙◌, ap, sym}
use Rattle.std.specs.Option.{option_map}
use Rattle.machine.specs.LinkedSites.{is_live_mini}
use Rattle.machine.specs.Views.{row_of}
use Rattle.machine.proofs.BlockLooks.{live_same}
use Rattle.machine.proofs.block_list.Blocks.has_live_mini.Goals as goal

pub returns-in-Some : goal.returns-in-Some
returns-in-Some c =
    c.is_live_mini.ensures
    ∙ (ap (λ o. is_live_mini c.args.point (option_map row_of o)) (sym c.in-Some.is)
    ∙ (ap (is_live_mini c.args.point) c.row_of_point.ensures ∙ live_same c.args.point c.args.at c.args.self.now.rows c.requires))

pub returns-in-None : goal.returns-in-None
returns-in-None c =
    ap (λ o. is_live_mini c.args.point (option_map row_of o)) (sym c.in-None.is)
    ∙ (ap (is_live_mini c.args.point) c.row_of_point.ensures ∙ live_same c.args.point c.args.at c.args.self.now.rows c.requires)
