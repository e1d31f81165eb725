-- What a machine holds, and what its calls do.
use Rattle.std.specs.Prelude.{ℕ, zero, suc, ◌+◌, if◌then◌else◌, List, [], ◌∷◌, ◌++◌, length}
use Rattle.machine.specs.Cores.{Row, Core}
use Rattle.machine.specs.Events.{Event, Turn}
use Rattle.machine.specs.Turns.{turn, is_runnable}
use Rattle.machine.specs.Leaving.{is_out}
use Rattle.machine.specs.Replays.{replay}

-- the state of the patched machine, and for how many more blocks it has room
pub record Machine : Type 0 where
  pub core : Core
  pub room : ℕ

abbrev pub with_core : Machine → Core → Machine
with_core m c = record { core = c; room = m.room }

-- ---- a quantum: a hart takes turns as long as it is runnable

-- The turns of hart h, at most this many.
abbrev pub quantum_turns : ℕ → ℕ → Core → List Event
quantum_turns zero h c = []
quantum_turns (suc most) h c = if is_runnable c h then Turn h ∷ quantum_turns most h (turn c h) else []

-- ---- settling: each hart inside, by number, takes turns until it is outside or stopped

-- the words of all blocks that aren't freed
abbrev pub words_in : List Row → ℕ
words_in [] = 0
words_in (r ∷ rs) = r.len + words_in rs

-- the turns of hart h until it is out, at most this many
abbrev pub leaving : ℕ → ℕ → Core → List Event
leaving zero h c = []
leaving (suc most) h c = if is_out c h then [] else Turn h ∷ leaving most h (turn c h)

-- the same of this many harts from h on, one after another
abbrev pub settling_from : ℕ → ℕ → Core → List Event
settling_from zero h c = []
settling_from (suc more) h c = leaving (words_in c.rows) h c ++ settling_from more (h + 1) (replay (leaving (words_in c.rows) h c) c)

-- The turns of settling. A hart is out within as many of them as blocks have words.
abbrev pub settling : Core → List Event
settling c = settling_from (length c.harts) 0 c
