-- For proofs alone: the quantum that a step announces.
use mathlib.Core.Option.{Option, some, none}
use Rattle.pn_types.specs.declared.quantum.Quantum.{Quantum}

abbrev pub no_quantum : Quantum
no_quantum = record { worker = 0; hart = 0; turns = 0; owns = 0 }

abbrev pub said_of : Option Quantum → Quantum
said_of (some q) = q
said_of none = no_quantum
