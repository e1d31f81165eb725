use Rattle.std.proofs.Common.{◌≡◌, ℕ, ◌+◌, ◌≤◌, not, true, false, List, ◌++◌, ◌∷◌, [], length, is_some, sym, ap, ◌∙◌, arith}
use Rattle.std.proofs.lemmas.List.{length_push}
use Rattle.first_places.specs.Places.{first_place}
use Rattle.resource_tree.specs.Columns.{objects_at}
use Rattle.resource_tree.specs.Resources.{ObjectNode, is_listed}
use Rattle.resource_tree.proofs.Listed.{known, new, unlisted}
use Rattle.resource_tree.proofs.objects.Objects.of.Goals as goal
use Rattle.resource_tree.proofs.objects.Objects.of.Goals.{then-is_listed+then-is_none+in_ok-push+in_ok-push-2, else-is_listed, else-is_listed-via-then-is_listed+else-is_none, else-is_listed-via-else-is_listed}

-- the same objects
kept : (names before : List (List ℕ)) (ats ats_before : List ℕ) (i : ℕ) (due : List ObjectNode) → names ≡ before → ats ≡ ats_before → objects_at before ats_before ≡ due → length before ≡ length ats_before → length before ≤ i
    → record { objects : objects_at names ats ≡ due; even : length names ≡ length ats; few : length names ≤ i + 1 }
kept names before ats ats_before i due e f same even few = record {
  objects = ap (λ (l : List (List ℕ)). objects_at l ats) e ∙ ap (objects_at before) f ∙ same;
  even = ap length e ∙ even ∙ sym (ap length f);
  few = omega (arith, ap length e, few);
}

pub loop-symbol-preserved : goal.loop-symbol-preserved
loop-symbol-preserved c =
    let s = c.symbol-item.result in
    let names = c.loop-symbol.names in
    let ats = c.loop-symbol.addresses.items in
    let old = c.loop-symbol.invariant in
    elim c.if-is_listed.branch [
      | then-is_listed+then-is_none+in_ok-push+in_ok-push-2 w ↦
          let yes : is_listed c.args.prefixes.now s ≡ true = sym c.is_listed.ensures ∙ w.if-is_listed.true in
          let none : is_some (first_place s.name names) ≡ false =
          sym (ap is_some (w.lookup.ensures ∙ ap (λ (n : List ℕ). first_place n names) c.bytes-name.ensures)) ∙ w.is_none.ensures ∙ ap not w.if-is_none.true in
          let e : c.if-is_listed.names ≡ names ++ s.name ∷ [] = w.names-is ∙ w.in_ok-push.ensures.pushed ∙ ap (λ (n : List ℕ). names ++ n ∷ []) c.bytes-name.ensures in
          let f : c.if-is_listed.addresses.items ≡ ats ++ s.at ∷ [] = ap (λ v. v.items) w.addresses-is ∙ w.in_ok-push-2.ensures.items in
          record {
            objects = ap (λ (l : List (List ℕ)). objects_at l c.if-is_listed.addresses.items) e ∙ ap (objects_at (names ++ s.name ∷ [])) f
                ∙ new c.args.prefixes.now c.args.symbols.now c.loop-symbol.symbol-index s c.loop-symbol-test.true c.symbol-item.is names ats old.even old.objects yes none;
            even = omega (arith, ap length e, ap length f, length_push names s.name, length_push ats s.at, old.even);
            few = omega (arith, ap length e, length_push names s.name, old.few);
          }
      | else-is_listed w ↦ elim w.else-is_listed.branch [
        | else-is_listed-via-then-is_listed+else-is_none v ↦
            let yes : is_listed c.args.prefixes.now s ≡ true = sym c.is_listed.ensures ∙ v.if-is_listed.true in
            let some : is_some (first_place s.name names) ≡ true =
            sym (ap is_some (v.lookup.ensures ∙ ap (λ (n : List ℕ). first_place n names) c.bytes-name.ensures)) ∙ v.is_none.ensures ∙ ap not v.if-is_none.false in
            kept c.if-is_listed.names names c.if-is_listed.addresses.items ats c.loop-symbol.symbol-index _ w.names-is (ap (λ v. v.items) w.addresses-is)
            (known c.args.prefixes.now c.args.symbols.now c.loop-symbol.symbol-index s c.loop-symbol-test.true c.symbol-item.is names ats old.even old.objects yes some) old.even old.few
        | else-is_listed-via-else-is_listed v ↦
            kept c.if-is_listed.names names c.if-is_listed.addresses.items ats c.loop-symbol.symbol-index _ w.names-is (ap (λ v. v.items) w.addresses-is)
            (old.objects ∙ sym (unlisted c.args.prefixes.now c.args.symbols.now c.loop-symbol.symbol-index s c.loop-symbol-test.true c.symbol-item.is (sym c.is_listed.ensures ∙ v.if-is_listed.false))) old.even old.few
      ]
    ]
