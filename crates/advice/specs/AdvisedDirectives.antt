-- What `advice` writes, `directives` reads.
use Rattle.std.specs.Prelude.{ℕ, ◌≡◌, ◌+◌, true, Option, Some, None, List, [], ◌∷◌, ◌++◌, flat_map, reverse}
use Rattle.std.specs.List.{All}
use Rattle.pn_text.specs.Words.{is_name}
use Rattle.directives.specs.Meaning.{IsDirectives}
use Rattle.directives.specs.declared.directive.Directive.{Directive}
use Rattle.directives.specs.declared.directive.DirectiveAct.{DirectiveAct}
use Rattle.directives.specs.declared.directive.DirectiveAct.TheVariants.{Prune, Threshold, First}
use Rattle.report.specs.declared.parts.ReportParts.{ReportParts}
use Rattle.advice.specs.Advice.{hypotheses_of}
use Rattle.advice.specs.Directives.{advice}
use Rattle.advice.specs.Seams.{IsReadable, verdicts_in}
use Rattle.advice.specs.declared.hypothesis.Hypothesis.{Hypothesis}
use Rattle.advice.specs.declared.verdict.Verdict.{Verdict}

-- a hypothesis without a threshold is pruned
abbrev pub prunes_for : List ℕ → Option ℕ → List DirectiveAct
prunes_for name None = Prune name ∷ []
prunes_for name (Some threshold) = []

-- another gets its threshold
abbrev pub thresholds_for : List ℕ → Option ℕ → List DirectiveAct
thresholds_for name None = []
thresholds_for name (Some threshold) = Threshold name threshold ∷ []

-- and goes first
abbrev pub firsts_for : List ℕ → Option ℕ → List DirectiveAct
firsts_for name None = []
firsts_for name (Some threshold) = First name ∷ []

abbrev pub prunes_of : Hypothesis → List DirectiveAct
prunes_of h = prunes_for h.name h.threshold

abbrev pub thresholds_of : Hypothesis → List DirectiveAct
thresholds_of h = thresholds_for h.name h.threshold

abbrev pub firsts_of : Hypothesis → List DirectiveAct
firsts_of h = firsts_for h.name h.threshold

-- all prunes, all thresholds, and all firsts from the last to the first
abbrev pub acts_of : List Hypothesis → List DirectiveAct
acts_of hs = flat_map prunes_of hs ++ (flat_map thresholds_of hs ++ flat_map firsts_of (reverse hs))

-- one on each line, from this line on
abbrev pub from_line : ℕ → List DirectiveAct → List Directive
from_line line [] = []
from_line line (act ∷ acts) = record { line = line; act = act } ∷ from_line (line + 1) acts

abbrev pub advised_directives : List Verdict → List Directive
advised_directives vs = from_line 1 (acts_of (hypotheses_of vs))

-- a verdict on a hypothesis that a directive can name
abbrev pub IsNamed : Verdict → Type 0
IsNamed v = is_name v.hypothesis ≡ true

-- The text of an advice spells what is advised.
abbrev pub AdviceIsRead : Type 0
AdviceIsRead = (vs : List Verdict) → All IsNamed vs → IsDirectives (advice vs) (advised_directives vs)

-- ---- one command after another

-- What a readable report advises is spelled so: its hypotheses have names that a directive can name.
abbrev pub ReportIsAdvised : Type 0
ReportIsAdvised =
    (parts : ReportParts) (skipped : ℕ) → IsReadable parts skipped
    → IsDirectives (advice (verdicts_in parts)) (advised_directives (verdicts_in parts))
