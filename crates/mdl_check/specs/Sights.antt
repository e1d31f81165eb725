-- For proofs alone: a metric at a focus.
use Rattle.std.specs.Prelude.{ℕ, ◌≡◌, ◌&&◌, Bool, true, false, if◌then◌else◌, Option, Some, None, List, [], ◌∷◌, ◌++◌}
use Rattle.std.specs.List.{list_any}
use Rattle.std.specs.Str.{bytes_eq}
use Rattle.pn_types.specs.declared.focus.Focus.{Focus}
use Rattle.mdl_ast.specs.declared.items.Item.{Item}
use Rattle.resource_tree.specs.SameNodes.{is_same_code, is_same_number}
use Rattle.mdl_check.specs.Placed.{Entry}
use Rattle.mdl_check.specs.Rules.{is_shown_by}
use Rattle.mdl_check.specs.declared.sight.MetricFocus.{MetricFocus}
use denote.Ref.{Bor}

abbrev pub metric_focus : Bor (List ℕ) → Focus → MetricFocus
metric_focus metric focus = record { metric = metric; code = focus.code; hart = focus.hart; object = focus.object }

abbrev pub is_same_sight : MetricFocus → MetricFocus → Bool
is_same_sight a b =
    bytes_eq a.metric.now b.metric.now
    && (is_same_code a.code b.code && (is_same_number a.hart b.hart && is_same_number a.object b.object))

-- one more of them
abbrev pub Puts : MetricFocus → List MetricFocus → List MetricFocus → Type 0
Puts s old new = (q : MetricFocus) → list_any (is_same_sight q) new ≡ (if is_same_sight s q then true else list_any (is_same_sight q) old)

-- an item shows this from the beginning on, or nothing
abbrev pub IsFirstMetricFocus : Item → Option Focus → Option MetricFocus → Type 0
IsFirstMetricFocus item focus None = (metric : List ℕ) (f : Focus) → is_shown_by metric (Some f) item focus ≡ false
IsFirstMetricFocus item focus (Some s) =
    (metric : Bor (List ℕ)) (f : Focus)
    → is_shown_by metric.now (Some f) item focus ≡ is_same_sight s (metric_focus metric f)

-- what the items show from the beginning on
abbrev pub AreShown : List Entry → List MetricFocus → Type 0
AreShown es sights =
    (metric : Bor (List ℕ)) (f : Focus)
    → list_any (is_same_sight (metric_focus metric f)) sights
    ≡ list_any (λ e. is_shown_by metric.now (Some f) e.item e.focus) es

-- the same with one more item
abbrev pub ShowsMore : Entry → List MetricFocus → List MetricFocus → Type 0
ShowsMore e old new = (es : List Entry) → AreShown es old → AreShown (es ++ e ∷ []) new
