-- How often a run executes the words of its text, and its ticks.
use Rattle.std.specs.Prelude.{ℕ, ◌+◌, ◌&&◌, Bool, is_some, List, [], ◌∷◌, count_by, sum_by}
use Rattle.pn_types.specs.declared.image.Image.{Image}
use Rattle.rv_word.specs.Plain.{Words, program_word}
use Rattle.rv_mem.specs.Start.{program_of}
use Rattle.rv_exec.specs.Run.{Position, executions, run, trace}

-- the executions of each of these words, the first of which stands at a
abbrev pub executions_of : List ℕ → ℕ → List Position → List ℕ
executions_of [] a trace = []
executions_of (w ∷ ws) a trace = executions a trace ∷ executions_of ws (a + 4) trace

-- the ticks at those words of a text whose addresses pass a test
abbrev pub ticks_at : Words → (ℕ → Bool) → List Position → ℕ
ticks_at t p trace = count_by (λ q. p q.pc && is_some (program_word t q.pc)) trace

-- how often a run executes each word of its text
abbrev pub run_executions : Image → ℕ → List ℕ → List ℕ
run_executions image n turns = executions_of (program_of image).words (program_of image).at (trace image n turns)

-- the ticks of a run, of all its harts
abbrev pub run_ticks : Image → ℕ → List ℕ → ℕ
run_ticks image n turns = sum_by (λ x. x.ticks) (run image n turns).harts
