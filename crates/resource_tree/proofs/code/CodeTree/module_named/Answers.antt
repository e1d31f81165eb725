use Rattle.std.proofs.Common.{sym, ◌∙◌, ap, position, bytes_eq}
use Rattle.first_places.specs.Groups.{first_mentions}
use Rattle.resource_tree.specs.Resources.{CodeNodes, module_of}
use Rattle.resource_tree.proofs.Columns.{position_map}
use Rattle.resource_tree.proofs.code.CodeTree.module_named.Goals as goal

pub returns : goal.returns
returns c =
    let modules = c.self.inside.modules in
    c.group_named.ensures
    ∙ sym (position_map (module_of modules) (λ m. bytes_eq c.args.name.now m.name) (first_mentions modules))
    ∙ ap (λ (t : CodeNodes). position (λ m. bytes_eq c.args.name.now m.name) t.modules) c.self.view_is
