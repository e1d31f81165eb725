-- What holds of a configuration after directives.
use Rattle.std.specs.Prelude.{◌≡◌, ℕ, ◌==◌, ◌&&◌, not, if◌then◌else◌, Bool, true, false, Option, Some, None, Ok, List, [], ◌∷◌, flat_map}
use Rattle.std.specs.List.{list_any}
use Rattle.std.specs.Str.{bytes_eq}
use Rattle.mdl_ast.specs.declared.items.Item.{Item}
use Rattle.mdl_ast.specs.declared.items.Item.TheVariants.{Hypothesis}
use Rattle.mdl_ast.specs.declared.items.Hypothesis.{Hypothesis as TheHypothesis}
use Rattle.mdl_check.specs.declared.checked.Checked.{Checked}
use Rattle.mdl_check.specs.Checking.{IsAnswer}
use Rattle.resource_tree.specs.Resources.{Resources}
use Rattle.directives.specs.declared.directive.Directive.{Directive}
use Rattle.directives.specs.declared.directive.DirectiveAct.{DirectiveAct}
use Rattle.directives.specs.declared.directive.DirectiveAct.TheVariants.{Prune, PruneAxis, Threshold}
use Rattle.directives.specs.Hypotheses.{has_hypothesis, has_axis}
use Rattle.directives.specs.Acts.{expanded, applied}
use Rattle.directives.specs.Applying.{IsAccepted}

-- ---- pruned hypotheses

-- it prunes the hypothesis of this name
abbrev pub is_prune : List ℕ → DirectiveAct → Bool
is_prune name (Prune other) = bytes_eq name other
is_prune name act = false

abbrev pub is_parent : List ℕ → Option (List ℕ) → Bool
is_parent name None = false
is_parent name (Some parent) = bytes_eq name parent

-- a hypothesis of the first name, whose parent has the second
abbrev pub is_child : List ℕ → List ℕ → Item → Bool
is_child name parent (Hypothesis h) = bytes_eq name h.name && is_parent parent h.parent
is_child name parent item = false

-- the hypothesis of the second name has that of the first as an ancestor
pub data IsAncestor (items : List Item) (ancestor : List ℕ) : List ℕ → Type 0 where
  Parent : (name : List ℕ) → list_any (is_child name ancestor) items ≡ true → IsAncestor items ancestor name
  Higher : (name parent : List ℕ) → list_any (is_child name parent) items ≡ true → IsAncestor items ancestor parent
      → IsAncestor items ancestor name

-- no hypothesis that was pruned stands, and none that had it as an ancestor
abbrev pub PrunedIsGone : Type 0
PrunedIsGone =
    (t : Resources) (shipped items made : List Item) (directives : List Directive) (pruned : List ℕ)
    → IsAccepted t shipped items → applied shipped items directives ≡ Ok made
    → list_any (λ d. is_prune pruned d.act) directives ≡ true
    → (has_hypothesis pruned made ≡ false) × ((name : List ℕ) → IsAncestor (expanded shipped items) pruned name → has_hypothesis name made ≡ false)

-- ---- pruned axes

-- it takes this axis from the hypothesis of this name
abbrev pub is_axis_prune : List ℕ → List ℕ → DirectiveAct → Bool
is_axis_prune name axis (PruneAxis other off) = bytes_eq name other && bytes_eq axis off
is_axis_prune name axis act = false

-- a hypothesis isn't refined along an axis that was taken from it
abbrev pub AxisIsGone : Type 0
AxisIsGone =
    (shipped items made : List Item) (directives : List Directive) (name axis : List ℕ)
    → applied shipped items directives ≡ Ok made
    → list_any (λ d. is_axis_prune name axis d.act) directives ≡ true → has_axis name axis made ≡ false

-- ---- thresholds

-- the threshold that the act gives the hypothesis of this name, or else the one before
abbrev pub threshold_behind : List ℕ → Option ℕ → DirectiveAct → Option ℕ
threshold_behind name before (Threshold other threshold) = if bytes_eq name other then Some threshold else before
threshold_behind name before act = before

-- the last threshold that directives give it, if one does
abbrev pub last_threshold : List ℕ → Option ℕ → List Directive → Option ℕ
last_threshold name before [] = before
last_threshold name before (d ∷ ds) = last_threshold name (threshold_behind name before d.act) ds

-- a hypothesis of this name with another threshold
abbrev pub is_off : List ℕ → ℕ → Item → Bool
is_off name threshold (Hypothesis h) = bytes_eq name h.name && not (h.threshold == threshold)
is_off name threshold item = false

-- a hypothesis has the last threshold that was given to it
abbrev pub LastThresholdHolds : Type 0
LastThresholdHolds =
    (shipped items made : List Item) (directives : List Directive) (name : List ℕ) (threshold : ℕ)
    → applied shipped items directives ≡ Ok made
    → last_threshold name None directives ≡ Some threshold → list_any (is_off name threshold) made ≡ false

-- ---- the other items

abbrev pub hypothesis_in : Item → List TheHypothesis
hypothesis_in (Hypothesis h) = h ∷ []
hypothesis_in item = []

-- the hypotheses of a configuration that the check accepts are those with the shipped ones in the place of their include
abbrev pub SameHypotheses : Type 0
SameHypotheses =
    (t : Resources) (shipped items : List Item) (checked : Checked) → IsAnswer t shipped items (Ok checked)
    → checked.hypotheses ≡ flat_map hypothesis_in (expanded shipped items)

-- what the check makes of the configuration differs in the hypotheses alone
abbrev pub OthersStay : Type 0
OthersStay =
    (t : Resources) (shipped items made : List Item) (directives : List Directive) (before after : Checked)
    → IsAnswer t shipped items (Ok before)
    → applied shipped items directives ≡ Ok made → IsAnswer t shipped made (Ok after)
    → after ≡ record before { hypotheses = flat_map hypothesis_in made }
