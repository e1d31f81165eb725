-- The text of the directives that verdicts advise.
use Rattle.std.specs.Prelude.{ℕ, Option, Some, None, List, [], ◌++◌, codes, flat_map, reverse}
use Rattle.std.specs.Fmt.{decimal}
use Rattle.advice.specs.Advice.{hypotheses_of}
use Rattle.advice.specs.declared.hypothesis.Hypothesis.{Hypothesis}
use Rattle.advice.specs.declared.verdict.Verdict.{Verdict}

-- a directive that only names a hypothesis
abbrev pub directive : List ℕ → List ℕ → List ℕ
directive word name = word ++ (name ++ codes ";\n")

-- a hypothesis without a true verdict is pruned
abbrev pub prune_text : List ℕ → Option ℕ → List ℕ
prune_text name None = directive (codes "prune ") name
prune_text name (Some threshold) = []

-- another gets its threshold
abbrev pub threshold_text : List ℕ → Option ℕ → List ℕ
threshold_text name None = []
threshold_text name (Some threshold) = codes "threshold " ++ (name ++ (codes " " ++ (decimal threshold ++ codes ";\n")))

-- and goes first
abbrev pub first_text : List ℕ → Option ℕ → List ℕ
first_text name None = []
first_text name (Some threshold) = directive (codes "first ") name

abbrev pub prune_line : Hypothesis → List ℕ
prune_line h = prune_text h.name h.threshold

abbrev pub threshold_line : Hypothesis → List ℕ
threshold_line h = threshold_text h.name h.threshold

abbrev pub first_line : Hypothesis → List ℕ
first_line h = first_text h.name h.threshold

-- All prunes, all thresholds, and all firsts from the last to the first: each goes before those that went first so far.
abbrev pub advice : List Verdict → List ℕ
advice vs =
    flat_map prune_line (hypotheses_of vs)
    ++ (flat_map threshold_line (hypotheses_of vs) ++ flat_map first_line (reverse (hypotheses_of vs)))
