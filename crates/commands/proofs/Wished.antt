-- The wishes of a checked configuration name its metrics, and their foci select harts of the tree.
use Rattle.std.proofs.Common.{◌≡◌, ℕ, ◌+◌, ◌<◌, ◌≤◌, Bool, true, false, cond, Option, Some, None, Ok, List, [], ◌∷◌, length, flat_map, bytes_eq, refl, sym, subst, arith}
use Rattle.std.specs.List.{AllByRecursion}
use Rattle.std.proofs.lemmas.List.{length-append}
use Rattle.mdl_ast.specs.declared.items.Item.{Item}
use Rattle.mdl_ast.specs.declared.items.Item.TheVariants.{Include, Sync, Metric, Constraint, Hypothesis, Search, Phase, Wish}
use Rattle.mdl_ast.specs.declared.items.Wish.{Wish as TheWish}
use Rattle.mdl_ast.specs.declared.metric.Metric.{Metric as TheMetric}
use Rattle.mdl_check.specs.Checking.{HasFocus, HaveFoci, IsAnswer, metric_of, wish_with, wish_of}
use Rattle.mdl_check.specs.Names.{metric_name, number_from, metric_number}
use Rattle.mdl_check.specs.Placed.{Entry}
use Rattle.mdl_check.specs.declared.checked.Checked.{Checked}
use Rattle.mdl_check.specs.declared.checked.CheckedWish.{CheckedWish}
use Rattle.pn_types.specs.declared.focus.Focus.{Focus}
use Rattle.resource_tree.proofs.InTree.{focus_in}
use Rattle.resource_tree.specs.Foci.{Selects, IsBelow, harts_of_node}
use Rattle.resource_tree.specs.Resources.{Resources}
use Rattle.commands.proofs.Each.{all_both}

-- ---- the number of a metric

abbrev count_of : Option (List ℕ) → ℕ
count_of None = 0
count_of (Some name) = 1

-- an item that has a metric's name is one metric
counts : (line : ℕ) (item : Item) → length (metric_of line item) ≡ count_of (metric_name item)
counts line (Include i) = refl
counts line (Sync s) = refl
counts line (Metric m) = refl
counts line (Constraint c) = refl
counts line (Hypothesis h) = refl
counts line (Search s) = refl
counts line (Phase p) = refl
counts line (Wish w) = refl

abbrev metrics_in : List Entry → List TheMetric
metrics_in es = flat_map (λ e. metric_of e.line e.item) es

number_below : (k j : ℕ) (es : List Entry) (name : List ℕ) → number_from k es name ≡ Some j → j < k + length (metrics_in es)
number_below k j [] name h = cc
number_below k j (e ∷ es) name h =
    let below = by (metric_name e.item) h (λ i. number_below i j es name) in
    omega (arith, below, counts e.line e.item, length-append (metric_of e.line e.item) (metrics_in es))
  where
    found : (b : Bool) → cond b (Some k) (number_from (k + 1) es name) ≡ Some j → (number_from (k + 1) es name ≡ Some j → j < k + 1 + length (metrics_in es)) → j < k + (1 + length (metrics_in es))
    found true g later = let same : k ≡ j = cc in omega (arith, same)
    found false g later = omega (arith, later g)

    by : (o : Option (List ℕ)) → (elim o [ None ↦ number_from k es name | Some own ↦ cond (bytes_eq name own) (Some k) (number_from (k + 1) es name) ]) ≡ Some j
        → ((i : ℕ) → number_from i es name ≡ Some j → j < i + length (metrics_in es)) → j < k + (count_of o + length (metrics_in es))
    by None g later = omega (arith, later k g)
    by (Some own) g later = found (bytes_eq name own) g (later (k + 1))

-- ---- the harts of a focus

harts_within : (n : ℕ) (hart : Option ℕ) → IsBelow n hart → (harts_of_node n hart).0 + (harts_of_node n hart).1 ≤ n
harts_within n None h = omega arith
harts_within n (Some k) h = omega (arith, h)

-- ---- wishes

-- the number of one of the metrics, and harts of the tree
pub record IsWished (t : Resources) (metrics : List TheMetric) (w : CheckedWish) : Type 0 where
  pub metric : w.metric < length metrics
  pub harts : (harts_of_node t.harts w.focus.hart).0 + (harts_of_node t.harts w.focus.hart).1 ≤ t.harts

module _ (t : Resources) (all : List Entry) where
  abbrev AreWished : List CheckedWish → Type 0
  AreWished = AllByRecursion (IsWished t (metrics_in all))

  with_focus : (w : TheWish) (number : Option ℕ) (focus : Option Focus) → metric_number all w.metric ≡ number → Selects t w.focus focus → AreWished (wish_with w number focus)
  with_focus w None focus e s = tt
  with_focus w (Some k) None e s = tt
  with_focus w (Some k) (Some focus) e s =
      (record { metric = omega (arith, number_below 0 k all w.metric e); harts = harts_within t.harts focus.hart (focus_in t s.parts focus s.selected).hart }, tt)

  item_wished : (item : Item) (focus : Option Focus) → HasFocus t item focus → AreWished (wish_of all item focus)
  item_wished (Include i) focus h = tt
  item_wished (Sync s) focus h = tt
  item_wished (Metric m) focus h = tt
  item_wished (Constraint c) focus h = tt
  item_wished (Hypothesis x) focus h = tt
  item_wished (Search s) focus h = tt
  item_wished (Phase p) focus h = tt
  item_wished (Wish w) focus h = with_focus w (metric_number all w.metric) focus refl h

  all_wished : (es : List Entry) → HaveFoci t es → AreWished (flat_map (λ e. wish_of all e.item e.focus) es)
  all_wished [] h = tt
  all_wished (e ∷ es) h = all_both (IsWished t (metrics_in all)) (wish_of all e.item e.focus) (flat_map (λ e. wish_of all e.item e.focus) es) (item_wished e.item e.focus h.0) (all_wished es h.1)

pub wished : (t : Resources) (shipped items : List Item) (c : Checked) → IsAnswer t shipped items (Ok c) → AllByRecursion (IsWished t c.metrics) c.wishes
wished t shipped items c (es, entries, none, is) =
    subst (λ (x : Checked). AllByRecursion (IsWished t x.metrics) x.wishes) (sym is) (all_wished t es es entries.foci)
