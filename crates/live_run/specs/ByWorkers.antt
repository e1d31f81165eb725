-- Lists of quanta that workers took, each of which takes its harts in turn.
use Rattle.std.specs.Prelude.{◌≡◌, ◌≢◌, ℕ, ◌+◌, ◌%◌, ◌<◌, ◌≤◌, ◌==◌, List, [], ◌∷◌, ◌++◌, Bool, true, false}
use Rattle.std.specs.List.{AllByRecursion}
use Rattle.pn_types.specs.declared.limits.TheConstants.{MAX_QUANTUM, MAX_WORKERS}
use Rattle.pn_types.specs.declared.quantum.Quantum.{Quantum}
use Rattle.session_spec.specs.Inputs.{Inputs}
use Rattle.session_spec.specs.Work.{IsWhole}

abbrev pub one_if : Bool → ℕ
one_if true = 1
one_if false = 0

-- how many quanta are the hart's
abbrev pub times : ℕ → List Quantum → ℕ
times hart [] = 0
times hart (q ∷ quanta) = one_if (q.hart == hart) + times hart quanta

-- Each entry has these turns, and the worker that has its hart. Between two consecutive entries of one hart stands exactly one entry
-- of each other hart of that worker that still has an entry after them.
pub record IsByWorkers (workers turns : ℕ) (quanta : List Quantum) : Type 0 where
  pub each : AllByRecursion (λ (q : Quantum). (q.turns ≡ turns) × (q.worker ≡ q.hart % workers)) quanta
  pub in_turn : (before between after : List Quantum) (x y : Quantum)
      → quanta ≡ (before ++ x ∷ between) ++ y ∷ after → x.hart ≡ y.hart → times x.hart between ≡ 0
      → (hart : ℕ) → hart % workers ≡ x.hart % workers → hart ≢ x.hart → 0 < times hart after → times hart between ≡ 1

-- A whole list of quanta that a number of workers shared.
pub record IsShared (i : Inputs) (workers turns : ℕ) (quanta : List Quantum) : Type 0 where
  pub whole : IsWhole i quanta
  pub by_workers : IsByWorkers workers turns quanta

-- There is one, for any number of workers.
abbrev pub SomeShared : Type 0
SomeShared = (i : Inputs) (workers turns : ℕ)
    → 1 ≤ workers → workers ≤ MAX_WORKERS → 1 ≤ turns → turns ≤ MAX_QUANTUM → (quanta : List Quantum) × IsShared i workers turns quanta
