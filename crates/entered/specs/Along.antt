-- The run of the unpatched program along quanta.
use Rattle.std.specs.Prelude.{ℕ, if◌then◌else◌, nat_lt, Bool, List, [], ◌∷◌, ◌++◌, replicate}
use Rattle.pn_types.specs.declared.image.Image.{Image}
use Rattle.pn_types.specs.declared.quantum.Quantum.{Quantum}
use Rattle.rv_word.specs.Plain.{Words, Plain, plain, can}
use Rattle.rv_mem.specs.Start.{program_of}
use Rattle.rv_exec.specs.Start.{start}
use Rattle.rv_exec.specs.Run.{executions, trace}

-- the harts that are asked for a turn, one after another: the hart of each quantum as often as the quantum has ticks
abbrev pub asked_along : List Quantum → List ℕ
asked_along [] = []
asked_along (q ∷ quanta) = replicate q.owns q.hart ++ asked_along quanta

-- of the harts that are asked, those that can take a turn when they are
abbrev pub turns_from : Words → ℕ → List ℕ → Plain → List ℕ
turns_from t budget [] s = []
turns_from t budget (h ∷ hs) s = if can budget s h then h ∷ turns_from t budget hs (plain t h s) else turns_from t budget hs s

-- The turns of an image on n harts along quanta.
abbrev pub turns_along : Image → ℕ → ℕ → List Quantum → List ℕ
turns_along image n budget quanta = turns_from (program_of image) budget (asked_along quanta) (start image n)

-- The run along quanta executes the word at an address.
abbrev pub is_entered : Image → ℕ → ℕ → List Quantum → ℕ → Bool
is_entered image n budget quanta a = nat_lt 0 (executions a (trace image n (turns_along image n budget quanta)))
