use Rattle.std.proofs.Common.{◌≡◌, ℕ, List, sym, ◌∙◌, ap, position, bytes_eq}
use Rattle.resource_tree.specs.Columns.{AreColumns, procs_at}
use Rattle.resource_tree.specs.Foci.{path_of}
use Rattle.resource_tree.specs.Resources.{CodeNodes}
use Rattle.resource_tree.proofs.Columns.{position_map}
use Rattle.resource_tree.proofs.code.CodeTree.proc_at.Goals as goal

found : (path : List ℕ) (modules paths : List (List ℕ)) → AreColumns modules paths → position (bytes_eq path) paths ≡ position (λ p. bytes_eq path (path_of p)) (procs_at modules paths)
found path modules paths h = ap (position (bytes_eq path)) h.joined ∙ position_map path_of (bytes_eq path) (procs_at modules paths)

pub returns-in_err-number : goal.returns-in_err-number
returns-in_err-number c =
    c.from_residual.ensures ∙ sym c.in_err-number.was ∙ c.lookup.ensures
    ∙ found c.args.path.now c.self.inside.modules c.self.inside.paths c.self.invariant
    ∙ ap (λ (t : CodeNodes). position (λ p. bytes_eq c.args.path.now (path_of p)) t.procs) c.self.view_is

pub returns : goal.returns
returns c =
    sym c.in_ok-number.was ∙ c.lookup.ensures
    ∙ found c.args.path.now c.self.inside.modules c.self.inside.paths c.self.invariant
    ∙ ap (λ (t : CodeNodes). position (λ p. bytes_eq c.args.path.now (path_of p)) t.procs) c.self.view_is
