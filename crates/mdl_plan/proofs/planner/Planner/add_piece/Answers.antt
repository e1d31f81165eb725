use Rattle.std.proofs.Common.{◌≤◌, ◌++◌, [], List, Option, length, sym, ap, ◌∙◌, subst}
use Rattle.std.specs.Option.{option_map_or}
use Rattle.std.proofs.lemmas.List.{append-nil}
use Rattle.std.proofs.lemmas.Option.{slice_get_past}
use Rattle.mdl_plan.specs.Pieces.{Piece}
use Rattle.mdl_plan.specs.Statements.{stmts_of}
use Rattle.mdl_plan.proofs.planner.Planner.add_piece.Goals as goal

pub returns-in-None : goal.returns-in-None
returns-in-None c =
    let stmts = c.args.stmts.now.items in
    let past : length c.args.self.now.pieces.items ≤ c.args.number = subst (λ (ps : List Piece). length ps ≤ c.args.number) c.deref.ensures.value c.in-None.ensures.lookup.3 in
    sym (ap (λ (o : Option Piece). stmts ++ option_map_or (stmts_of c.args.self.now.terms) o []) (slice_get_past c.args.self.now.pieces.items c.args.number past) ∙ append-nil stmts)
