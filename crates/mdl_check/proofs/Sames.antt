-- Sights are equal as keys of a set where they are the same.
use Rattle.std.proofs.Common.{◌≡◌, ◌&&◌, ◌||◌, cond, Bool, true, List, [], ◌∷◌, bytes_eq, refl, sym, ap, ◌∙◌}
use Rattle.std.specs.List.{list_any}
use Rattle.pn_types.specs.declared.focus.CodePart.{CodePart}
use Rattle.pn_types.specs.declared.focus.CodePart.TheVariants.{All, Module, Procedure}
use Rattle.pn_types.specs.contracts.focus.CodePartPartialEq.TheImpl as code
use Rattle.resource_tree.specs.SameNodes.{is_same_code, is_same_number}
use Rattle.mdl_check.specs.Sights.{is_same_sight}
use Rattle.mdl_check.specs.contracts.sight.MetricFocusPartialEq.TheImpl as it
use Rattle.mdl_check.specs.declared.sight.MetricFocus.{MetricFocus}

code_is : (a b : CodePart) → code.eq-value.it a b ≡ is_same_code a b
code_is All All = refl
code_is All (Module n) = refl
code_is All (Procedure n) = refl
code_is (Module m) All = refl
code_is (Module m) (Module n) = refl
code_is (Module m) (Procedure n) = refl
code_is (Procedure m) All = refl
code_is (Procedure m) (Module n) = refl
code_is (Procedure m) (Procedure n) = refl

sight_is : (a b : MetricFocus) → it.eq-value.it a b ≡ is_same_sight a b
sight_is a b = ap (λ (c : Bool). bytes_eq a.metric.now b.metric.now && (c && (is_same_number a.hart b.hart && is_same_number a.object b.object))) (code_is a.code b.code)

any_is : (q : MetricFocus) (ks : List MetricFocus) → list_any (it.eq-value.it q) ks ≡ list_any (is_same_sight q) ks
any_is q [] = refl
any_is q (k ∷ ks) = ap (λ (b : Bool). b || list_any (it.eq-value.it q) ks) (sight_is q k) ∙ ap (λ (b : Bool). is_same_sight q k || b) (any_is q ks)

-- so one more key is one more sight
pub put_is : (s q : MetricFocus) (old new : List MetricFocus) → list_any (it.eq-value.it q) new ≡ cond (it.eq-value.it s q) true (list_any (it.eq-value.it q) old) → list_any (is_same_sight q) new ≡ cond (is_same_sight s q) true (list_any (is_same_sight q) old)
put_is s q old new h =
    sym (any_is q new) ∙ h ∙ ap (λ (b : Bool). cond b true (list_any (it.eq-value.it q) old)) (sight_is s q) ∙ ap (cond (is_same_sight s q) true) (any_is q old)
