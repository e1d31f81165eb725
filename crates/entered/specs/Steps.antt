-- For proofs alone: the run along quanta turn by turn.
use Rattle.std.specs.Prelude.{ℕ, if◌then◌else◌, ◌==◌, ◌&&◌, ◌||◌, Bool, false, Option, Some, None, List, [], ◌∷◌, replicate, slice_get}
use Rattle.pn_types.specs.declared.quantum.Quantum.{Quantum}
use Rattle.rv_word.specs.Plain.{Words, PlainHart, Plain, plain, can}
use Rattle.plain_run.specs.Machines.{Machine}

-- a hart's pc is this address
abbrev pub is_at : ℕ → Option PlainHart → Bool
is_at a None = false
is_at a (Some x) = x.pc == a

-- the state after these harts were asked
abbrev pub state_after : Words → ℕ → List ℕ → Plain → Plain
state_after t budget [] s = s
state_after t budget (h ∷ hs) s = state_after t budget hs (if can budget s h then plain t h s else s)

-- one of them took a turn that began at the address
abbrev pub asks_at : Words → ℕ → ℕ → List ℕ → Plain → Bool
asks_at t budget a [] s = false
asks_at t budget a (h ∷ hs) s =
    (can budget s h && is_at a (slice_get s.harts h)) || asks_at t budget a hs (if can budget s h then plain t h s else s)

abbrev pub with_plain : Machine → Plain → Machine
with_plain m s = record { program = m.program; budget = m.budget; state = s }

abbrev pub after_asked : Machine → ℕ → Machine
after_asked m h = with_plain m (if can m.budget m.state h then plain m.program h m.state else m.state)

abbrev pub begins_at : Machine → ℕ → ℕ → Bool
begins_at m h a = can m.budget m.state h && is_at a (slice_get m.state.harts h)

abbrev pub machine_after : Machine → Quantum → Machine
machine_after m q = with_plain m (state_after m.program m.budget (replicate q.owns q.hart) m.state)

abbrev pub quantum_begins_at : Machine → Quantum → ℕ → Bool
quantum_begins_at m q a = asks_at m.program m.budget a (replicate q.owns q.hart) m.state
