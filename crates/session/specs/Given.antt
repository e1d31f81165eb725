-- What a session asks of its inputs.
use Rattle.std.specs.Prelude.{◌≡◌, ℕ, ◌+◌, ◌<◌, ◌≤◌, ◌^◌, Option, None, Some, length, map}
use Rattle.std.specs.List.{AllByRecursion}
use Rattle.mdl_ast.specs.declared.metric.Constraint.{Constraint}
use Rattle.mdl_ast.specs.declared.metric.Metric.{Metric}
use Rattle.mdl_plan.specs.Plans.{at_first}
use Rattle.std.specs.List.Sorted.{IsStrictlyIncreasing}
use Rattle.pn_types.specs.Images.{IsImage, text_of}
use Rattle.pn_types.specs.Settings.{AreInRange}
use Rattle.pn_types.specs.declared.code.Point.{Point}
use Rattle.rv_word.specs.Names.{scratch_in, words_of}
use Rattle.rv_word.specs.Plain.{program_word}
use Rattle.rv_mem.specs.Start.{program_of}
use Rattle.mdl_ast.specs.declared.items.SearchDecl.{SearchDecl}
use Rattle.mdl_check.specs.Sound.{IsSoundCheck}
use Rattle.mdl_check.specs.declared.checked.CheckedWish.{CheckedWish}
use Rattle.mdl_plan.specs.Fitting.{HasLowObjects}
use Rattle.machine.specs.Cores.{In}
use Rattle.resource_tree.specs.Foci.{harts_of_node}
use Rattle.session_spec.specs.Inputs.{Inputs}

-- a wish names a metric, and its focus names a hart that there is
pub record IsWishOf (i : Inputs) (w : CheckedWish) : Type 0 where
  pub metric : w.metric < length i.checked.metrics
  pub harts : (harts_of_node i.tree.harts w.focus.hart).0 + (harts_of_node i.tree.harts w.focus.hart).1 ≤ i.settings.harts

-- the window of a search that is wanted has a sample
abbrev pub HasWindow : Option SearchDecl → Type 0
HasWindow None = Unit {0}
HasWindow (Some decl) = 1 ≤ decl.window

-- An image whose text never names x31; settings in range; the tree has the settings' harts, and its objects lie below 2^31; what was
-- checked is sound, and its items can be numbered; and the points ascend and are words of the text.
pub record AreGiven (i : Inputs) : Type 0 where
  pub image : IsImage i.image
  pub unscratched : scratch_in (words_of (text_of i.image)) i.image.text_at ≡ None
  pub settings : AreInRange i.settings
  pub harts : i.tree.harts ≡ i.settings.harts
  pub objects : HasLowObjects i.tree
  pub checked : IsSoundCheck i.checked
  pub wishes : (w : CheckedWish) → In w i.checked.wishes → IsWishOf i w
  pub few_wishes : length i.checked.wishes < 2 ^ 29
  pub few_metrics : length i.checked.metrics < 2 ^ 32
  pub few_hypotheses : length i.checked.hypotheses < 2 ^ 32
  pub few_phases : length i.checked.phases < 2 ^ 32
  pub window : HasWindow i.checked.search
  pub procs : length i.procs < 2 ^ 32
  pub points : length i.points < 2 ^ 32
  pub ascending : IsStrictlyIncreasing (map (λ p. p.at) i.points)
  pub inside : (p : Point) → In p i.points → (word : ℕ) × (program_word (program_of i.image) p.at ≡ Some word)

-- the value at which a metric or a constraint begins has 32 bits, as with any that the code holds
abbrev pub IsNarrowMetric : Metric → Type 0
IsNarrowMetric m = at_first m.initially < 2 ^ 32

abbrev pub IsNarrowConstraint : Constraint → Type 0
IsNarrowConstraint c = at_first c.initially < 2 ^ 32

pub record AreNarrow (i : Inputs) : Type 0 where
  pub metrics : AllByRecursion IsNarrowMetric i.checked.metrics
  pub constraints : AllByRecursion IsNarrowConstraint i.checked.constraints
