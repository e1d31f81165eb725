-- One more item among those of its kind.
use Rattle.std.proofs.Common.{◌≡◌, Option, None, List, [], ◌∷◌, ◌++◌, flat_map, refl, sym, ap, ◌∙◌}
use Rattle.std.proofs.lemmas.Grind.{flat_map-append}
use Rattle.std.proofs.lemmas.List.{append-nil}
use Rattle.mdl_ast.specs.declared.items.SearchDecl.{SearchDecl}
use Rattle.mdl_check.specs.Placed.{Entry}
use Rattle.mdl_check.specs.Checking.{metric_of, constraint_of, hypothesis_of, phase_of, search_behind, search_in, wish_of}
use Rattle.mdl_check.specs.Indexes.{AddsMore, AreByKind}
use Rattle.mdl_check.specs.declared.collect.ByKind.{ByKind}

last_search : (before : Option SearchDecl) (es : List Entry) (e : Entry) → search_in before (es ++ e ∷ []) ≡ search_behind (search_in before es) e.line e.item
last_search before [] e = refl
last_search before (x ∷ es) e = last_search (search_behind before x.line x.item) es e

pub more : {X : Type 0} (of : Entry → List X) (es : List Entry) (e : Entry) (old new : List X) → old ≡ flat_map of es → new ≡ old ++ of e → new ≡ flat_map of (es ++ e ∷ [])
more of es e old new are added = added ∙ ap (λ l. l ++ of e) are ∙ sym (flat_map-append of es (e ∷ []) ∙ ap (λ l. flat_map of es ++ l) (append-nil (of e)))

pub one_more_item : (all es : List Entry) (e : Entry) (old new : ByKind) → AreByKind all es old → AddsMore all e old new → AreByKind all (es ++ e ∷ []) new
one_more_item all es e old new are added = record {
  metrics = more (λ e. metric_of e.line e.item) es e old.metrics.items new.metrics.items are.metrics added.metrics;
  constraints = more (λ e. constraint_of e.line e.item) es e old.constraints.items new.constraints.items are.constraints added.constraints;
  hypotheses = more (λ e. hypothesis_of e.line e.item) es e old.hypotheses.items new.hypotheses.items are.hypotheses added.hypotheses;
  search = added.search ∙ ap (λ (s : Option SearchDecl). search_behind s e.line e.item) are.search ∙ sym (last_search None es e);
  phases = more (λ e. phase_of e.line e.item) es e old.phases.items new.phases.items are.phases added.phases;
  wishes = more (λ e. wish_of all e.item e.focus) es e old.wishes.items new.wishes.items are.wishes added.wishes;
}
