-- One more item that shows something from the beginning on.
use Rattle.std.proofs.Common.{◌≡◌, ℕ, ◌==◌, ◌&&◌, ◌||◌, cond, Bool, true, false, Option, Some, None, List, [], ◌∷◌, ◌++◌, bytes_eq, refl, sym, ap, ◌∙◌, eqb-true, eq-eqb}
use Rattle.std.specs.List.{list_any}
use Rattle.std.proofs.Math.Bool.{and_assoc, or-false}
use Rattle.std.proofs.lemmas.List.Folds.{list_any-append}
use Rattle.std.proofs.lemmas.Slice.Eq.{bytes_eq-Decides}
use Rattle.pn_types.specs.declared.focus.CodePart.{CodePart}
use Rattle.pn_types.specs.declared.focus.CodePart.TheVariants.{All, Module, Procedure}
use Rattle.pn_types.specs.declared.focus.Focus.{Focus}
use Rattle.mdl_ast.specs.declared.items.Item.{Item}
use Rattle.mdl_ast.specs.declared.items.Item.TheVariants.{Include, Sync, Metric, Constraint, Hypothesis, Search, Phase, Wish}
use Rattle.mdl_check.specs.Placed.{Entry}
use Rattle.resource_tree.specs.SameNodes.{is_same_code, is_same_number}
use Rattle.mdl_check.specs.Rules.{is_shown_by, is_same_focus}
use Rattle.mdl_check.specs.Sights.{metric_focus, is_same_sight, AreShown, IsFirstMetricFocus}
use Rattle.mdl_check.specs.declared.sight.MetricFocus.{MetricFocus}
use denote.Ref.{Bor}

any_more : (p : Entry → Bool) (es : List Entry) (e : Entry) → list_any p (es ++ e ∷ []) ≡ (list_any p es || p e)
any_more p es e = list_any-append p es (e ∷ []) ∙ ap (λ (b : Bool). list_any p es || b) (or-false (p e))

-- ---- what is shown from the beginning on

alike : (a b : Bool) → (a ≡ true → b ≡ true) → (b ≡ true → a ≡ true) → a ≡ b
alike true b f g = sym (f refl)
alike false true f g = g refl
alike false false f g = refl

name_either : (a b : List ℕ) → bytes_eq a b ≡ bytes_eq b a
name_either a b = alike (bytes_eq a b) (bytes_eq b a) (λ h. (bytes_eq-Decides b a).1 (sym ((bytes_eq-Decides a b).0 h))) (λ h. (bytes_eq-Decides a b).1 (sym ((bytes_eq-Decides b a).0 h)))

number_either : (a b : ℕ) → (a == b) ≡ (b == a)
number_either a b = alike (a == b) (b == a) (λ h. eq-eqb b a (sym (eqb-true a b h))) (λ h. eq-eqb a b (sym (eqb-true b a h)))

code_either : (a b : CodePart) → is_same_code a b ≡ is_same_code b a
code_either All All = refl
code_either All (Module n) = refl
code_either All (Procedure n) = refl
code_either (Module m) All = refl
code_either (Module m) (Module n) = number_either m n
code_either (Module m) (Procedure n) = refl
code_either (Procedure m) All = refl
code_either (Procedure m) (Module n) = refl
code_either (Procedure m) (Procedure n) = number_either m n

some_either : (a b : Option ℕ) → is_same_number a b ≡ is_same_number b a
some_either None None = refl
some_either None (Some n) = refl
some_either (Some m) None = refl
some_either (Some m) (Some n) = number_either m n

pub same_sight : (a m : Bor (List ℕ)) (f g : Focus) → (bytes_eq a.now m.now && is_same_focus (Some f) (Some g)) ≡ is_same_sight (metric_focus m g) (metric_focus a f)
same_sight a m f g =
    ap (λ (b : Bool). b && is_same_focus (Some f) (Some g)) (name_either a.now m.now)
    ∙ ap (λ (b : Bool). bytes_eq m.now a.now && b) (and_assoc (is_same_code f.code g.code) (is_same_number f.hart g.hart) (is_same_number f.object g.object)
    ∙ ap (λ (b : Bool). b && (is_same_number f.hart g.hart && is_same_number f.object g.object)) (code_either f.code g.code)
    ∙ ap (λ (b : Bool). is_same_code g.code f.code && (b && is_same_number f.object g.object)) (some_either f.hart g.hart)
    ∙ ap (λ (b : Bool). is_same_code g.code f.code && (is_same_number g.hart f.hart && b)) (some_either f.object g.object))

pub none_more : (es : List Entry) (e : Entry) (shown : List MetricFocus) → IsFirstMetricFocus e.item e.focus None → AreShown es shown → AreShown (es ++ e ∷ []) shown
none_more es e shown none h metric f =
    h metric f
    ∙ sym (or-false (list_any (λ e. is_shown_by metric.now (Some f) e.item e.focus) es))
    ∙ ap (λ (b : Bool). list_any (λ e. is_shown_by metric.now (Some f) e.item e.focus) es || b) (sym (none metric.now f))
    ∙ sym (any_more (λ e. is_shown_by metric.now (Some f) e.item e.focus) es e)

one_way : (a b : Bool) → cond a true b ≡ (b || a)
one_way true true = refl
one_way true false = refl
one_way false b = sym (or-false b)

pub one_more_sight : (es : List Entry) (e : Entry) (s : MetricFocus) (old new : List MetricFocus) → IsFirstMetricFocus e.item e.focus (Some s) → AreShown es old →
    ((q : MetricFocus) → list_any (is_same_sight q) new ≡ cond (is_same_sight s q) true (list_any (is_same_sight q) old)) → AreShown (es ++ e ∷ []) new
one_more_sight es e s old new first h put metric f =
    put (metric_focus metric f)
    ∙ ap (cond (is_same_sight s (metric_focus metric f)) true) (h metric f)
    ∙ one_way (is_same_sight s (metric_focus metric f)) (list_any (λ e. is_shown_by metric.now (Some f) e.item e.focus) es)
    ∙ ap (λ (b : Bool). list_any (λ e. is_shown_by metric.now (Some f) e.item e.focus) es || b) (sym (first metric f))
    ∙ sym (any_more (λ e. is_shown_by metric.now (Some f) e.item e.focus) es e)

-- ---- a metric at no focus

and_never : (b : Bool) → (b && false) ≡ false
and_never true = refl
and_never false = refl

never_shown : (metric : List ℕ) (item : Item) (focus : Option Focus) → is_shown_by metric None item focus ≡ false
never_shown metric (Include i) focus = refl
never_shown metric (Sync s) focus = refl
never_shown metric (Metric m) focus = refl
never_shown metric (Constraint c) focus = refl
never_shown metric (Hypothesis h) focus = refl
never_shown metric (Search s) focus = refl
never_shown metric (Phase p) focus = refl
never_shown metric (Wish w) focus = and_never ((w.at == 0) && w.show && bytes_eq metric w.metric)

pub nowhere_shown : (metric : List ℕ) (es : List Entry) → list_any (λ e. is_shown_by metric None e.item e.focus) es ≡ false
nowhere_shown metric [] = refl
nowhere_shown metric (e ∷ es) = ap (λ (b : Bool). b || list_any (λ e. is_shown_by metric None e.item e.focus) es) (never_shown metric e.item e.focus) ∙ nowhere_shown metric es
