use Rattle.std.proofs.Common.{List, ℕ, length, Some, [], ap, ◌∙◌}
use Rattle.std.proofs.lemmas.List.{length-map}
use Rattle.pn_types.specs.declared.plan.Var.{Var}
use Rattle.frame_walk.specs.Changes.{Acting}
use Rattle.frame_walk.specs.Openings.{entry_statements}
use Rattle.frame_walk.specs.Walks.{walk_of}
use Rattle.frame_walk.proofs.Rooms.{after_length}
use Rattle.frame_walk.proofs.opening.open_values.Goals as goal

pub returns-in-Some-clause-many : goal.returns-in-Some-clause-many
returns-in-Some-clause-many c =
    ap (λ (vs : List ℕ). length vs) c.enter.ensures.values
    ∙ (after_length (entry_statements c.args.opens.now (Some (walk_of c.args.mem.now c.in-Some.start))) [] c.new-values.result.values
    ∙ (ap (λ (a : Acting). length a.values) c.new-values.ensures ∙ length-map c.args.vars.now (λ (v : Var). v.initially)))
