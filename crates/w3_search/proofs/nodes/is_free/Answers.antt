use Rattle.std.proofs.Common.{Bool, sym, ap, ◌∙◌}
use Rattle.std.specs.Prelude.{not, ◌&&◌}
use Rattle.std.specs.List.{list_any}
use Rattle.std.proofs.lemmas.Bool.{lt-ltb}
use Rattle.w3_search.specs.declared.limits.TheConstants.{MAX_NODES}
use Rattle.w3_search.specs.Nodes.{is_same_place, has_place}
use Rattle.w3_search.proofs.Changes.{any_places}
use Rattle.w3_search.proofs.nodes.is_free.Goals as goal

pub returns-then-list-lt-MAX_NODES : goal.returns-then-list-lt-MAX_NODES
returns-then-list-lt-MAX_NODES c =
    ap not (c.is_taken.ensures ∙ ap (list_any (is_same_place c.args.place)) c.requires ∙ any_places c.args.place c.args.list.now)
    ∙ ap (λ (b : Bool). b && not (has_place c.args.place c.args.list.now)) (sym (lt-ltb _ MAX_NODES c.if-list-lt-MAX_NODES.true))
