-- What the state of a machine is, and what a word makes of it.
use Rattle.std.specs.Prelude.{◌≡◌, ℕ, Option, Some, None, List, MatchOption}
use Rattle.rv_word.specs.Exec.{Prog, prog_of}
use Rattle.test_machine.specs.Vectors.{State}
use Rattle.test_machine.specs.declared.conformance.executor.Machine.{Machine}

-- the memory, the reservations and the output of a machine
abbrev pub prog_of_machine : Machine → Prog
prog_of_machine m = prog_of m.shared.mem m.shared.resv m.shared.out

-- for proofs alone: the result is the pc of a state, whose registers and machine are these, or none
abbrev pub Reaches : Option State → Option ℕ → List ℕ → Machine → Type 0
Reaches state result regs machine =
    MatchOption result (state ≡ None) (λ pc. state ≡ Some (record { pc = pc; regs = regs; prog = prog_of_machine machine }))
