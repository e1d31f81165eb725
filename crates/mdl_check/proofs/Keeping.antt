-- What is kept of one more item.
use Rattle.std.proofs.Common.{◌≡◌, ℕ, ◌+◌, ◌<◌, List, [], ◌∷◌, ◌++◌, length, take, get_or, sym, ap, ◌∙◌, subst, append_assoc, arith}
use Rattle.std.specs.Prelude.{option_to_list}
use Rattle.std.specs.Option.{option_map}
use Rattle.std.proofs.lemmas.List.{append-nil, length-take-le, take_more}
use Rattle.mdl_check.specs.Placed.{Entry}
use Rattle.mdl_check.specs.Names.{hypothesis_name, metric_name, as_constraint}
use Rattle.mdl_check.specs.Indexes.{AreIndexes, KeepsMore, place_if, places_from}
use Rattle.mdl_check.specs.declared.index.Kept.{Kept}
use Rattle.mdl_check.proofs.ByKind.{more}

places_more : (k n : ℕ) (es : List Entry) (e : Entry) → n ≡ k + length es → places_from k (es ++ e ∷ []) ≡ places_from k es ++ place_if e n
places_more k n [] e is = append-nil (place_if e k) ∙ ap (place_if e) (omega (arith, is))
places_more k n (x ∷ es) e is = ap (λ l. place_if x k ++ l) (places_more (k + 1) n es e (omega (arith, is))) ∙ sym (append_assoc (place_if x k) (places_from (k + 1) es) (place_if e n))

one_more_kept : (es : List Entry) (e : Entry) (k : ℕ) (old new : Kept) → k ≡ length es → AreIndexes es old → KeepsMore e k old new → AreIndexes (es ++ e ∷ []) new
one_more_kept es e k old new here is added = record {
  metrics_are = more (λ e. option_to_list (metric_name e.item)) es e old.metrics new.metrics is.metrics_are added.metrics;
  constraints_are = more (λ e. option_to_list (option_map (λ c. c.name) (as_constraint e.item))) es e old.constraints new.constraints is.constraints_are added.constraints;
  uses_are = more (λ e. option_to_list (as_constraint e.item)) es e old.uses.items new.uses.items is.uses_are added.uses;
  hypotheses_are = more (λ e. option_to_list (hypothesis_name e.item)) es e old.hypotheses new.hypotheses is.hypotheses_are added.hypotheses;
  places_are = added.places ∙ ap (λ l. l ++ place_if e k) is.places_are ∙ sym (places_more 0 k es e (omega (arith, here)));
}

-- the item at the next place is kept too
pub next_kept : (all : List Entry) (k : ℕ) (e : Entry) (old new : Kept) → k < length all → e ≡ get_or all k e → AreIndexes (take k all) old → KeepsMore e k old new → AreIndexes (take (k + 1) all) new
next_kept all k e old new within at is added =
    subst (λ (es : List Entry). AreIndexes es new) (ap (λ (x : Entry). take k all ++ x ∷ []) at ∙ sym (take_more all k e within))
    (one_more_kept (take k all) e k old new (sym (length-take-le k all (omega (arith, within)))) is added)
