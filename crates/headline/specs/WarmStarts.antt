-- What an instrument that is armed in mid-run measures, where it begins with the values that it would have if it had been armed at tick 0.
use Rattle.std.specs.Prelude.{◌≡◌, ℕ, ◌≤◌, List, take}
use Rattle.std.specs.List.{AllByRecursion}
use Rattle.machine.specs.Measures.{level_at, measure, opening_level}
use Rattle.pn_types.specs.declared.plan.Plan.{Plan}
use Rattle.rv_exec.specs.Run.{run_from}
use Rattle.rv_word.specs.Plain.{Plain, Words}

-- At time a the frames of hart h give the values that the variables have after its positions so far.
abbrev pub IsTrueOpening : Words → Plan → List ℕ → Plain → ℕ → ℕ → Type 0
IsTrueOpening t plan turns s a h =
    (opening_level plan (run_from t (take a turns) s) h).values ≡ (level_at t plan h 0 a turns s).values

-- Then it measures the same, from whichever of the two times it is armed.
abbrev pub WarmIsWhole : Type 0
WarmIsWhole =
    (t : Words) (plan : Plan) (harts : List ℕ) (a b c : ℕ) (turns : List ℕ) (s : Plain) → a ≤ b → b ≤ c
    → AllByRecursion (IsTrueOpening t plan turns s a) harts → measure t plan harts a b c turns s ≡ measure t plan harts 0 b c turns s
