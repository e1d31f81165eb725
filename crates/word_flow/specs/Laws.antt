-- What holds of the numbers of any run.
use Rattle.std.specs.Prelude.{ℕ, ◌≡◌, ◌+◌, ◌-◌, ◌*◌, ◌^◌, ◌<◌, ◌≤◌, Bool, Option, List, length, MatchOption}
use Rattle.std.specs.List.{AllZip}
use Rattle.pn_types.specs.declared.image.Image.{Image}
use Rattle.rv_mem.specs.Start.{program_of}
use Rattle.rv_exec.specs.Run.{trace, IsLegal}
use Rattle.word_flow.specs.Executions.{run_executions, run_ticks, ticks_at}
use Rattle.word_flow.specs.HartEnds.{run_ends}
use Rattle.word_flow.specs.Numbers.{numbers_of, sum_at, told_ticks}

-- a count, if there is one, is at most so many executions
abbrev pub CountsAtMost : Option ℕ → ℕ → Type 0
CountsAtMost count executions = MatchOption count (Unit {0}) (λ n. n ≤ executions)

-- the numbers of a run's words from their counts
abbrev pub run_numbers : Image → ℕ → List ℕ → List (Option ℕ) → List ℕ
run_numbers image n turns counts = numbers_of (program_of image) (run_ends image n turns) counts

-- the ticks that these numbers tell
abbrev pub run_told_ticks : Image → ℕ → List ℕ → List (Option ℕ) → ℕ
run_told_ticks image n turns counts = told_ticks (program_of image) (run_ends image n turns) (run_numbers image n turns counts)

-- No number is more than the executions of its word, and the numbers tell no more than the run's ticks. At any set of words there are at
-- least as many ticks as their numbers say, and at most these and the ticks that no number tells. So where the numbers tell all ticks,
-- each is the executions of its word.
pub record AreExecutionBounds (image : Image) (n : ℕ) (turns : List ℕ) (counts : List (Option ℕ)) : Type 0 where
  pub low : AllZip (λ number executions. number ≤ executions) (run_numbers image n turns counts) (run_executions image n turns)
  pub within : run_told_ticks image n turns counts ≤ run_ticks image n turns
  pub least : (p : ℕ → Bool)
      → sum_at p (run_numbers image n turns counts) (program_of image).at ≤ ticks_at (program_of image) p (trace image n turns)
  pub most : (p : ℕ → Bool)
      → ticks_at (program_of image) p (trace image n turns)
      ≤ sum_at p (run_numbers image n turns counts) (program_of image).at + (run_ticks image n turns - run_told_ticks image n turns counts)
  pub exact : run_told_ticks image n turns counts ≡ run_ticks image n turns
      → run_numbers image n turns counts ≡ run_executions image n turns

-- So it is of every run, whichever words were counted, where no count is more than the executions of its word.
abbrev pub NumbersBoundExecutions : Type 0
NumbersBoundExecutions =
    (image : Image) (n budget : ℕ) (turns : List ℕ) (counts : List (Option ℕ))
    → (program_of image).at + 4 * length (program_of image).words < 2 ^ 64
    → IsLegal image n budget turns → AllZip CountsAtMost counts (run_executions image n turns) → AreExecutionBounds image n turns counts

-- A run has no more ticks than the budgets of its harts together.
abbrev pub TicksKeepToBudgets : Type 0
TicksKeepToBudgets = (image : Image) (n budget : ℕ) (turns : List ℕ) → IsLegal image n budget turns → run_ticks image n turns ≤ n * budget
