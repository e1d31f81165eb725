-- The walk of a hart: its pc, the call that it came from, and the calls of which its frames tell.
use Rattle.std.specs.Prelude.{ℕ, Option, Some, None, List, [], ◌∷◌, slice_get}
use Rattle.rv_word.specs.declared.outcome.Cause.{Cause}
use Rattle.rv_word.specs.Exec.{Prog}
use Rattle.rv_word.specs.Memory.{Memory}
use Rattle.rv_word.specs.Plain.{PlainHart, Plain}
use Rattle.rv_word.specs.Registers.{reg}
use Rattle.tramp_spec.specs.Harts.{Hart}
use Rattle.frame_walk.specs.declared.walk_start.WalkStart.{WalkStart}
use Rattle.frame_walk.specs.Frames.{frame_at, calls, caller_of}

pub record Walk : Type 0 where
  pub pc : ℕ
  pub caller : Option ℕ
  pub calls : List ℕ

abbrev pub most_frames : ℕ
most_frames = 64

-- at most 64 frames are walked, the first at x8
abbrev pub walk_of : Memory → WalkStart → Walk
walk_of m start = record { pc = start.pc; caller = caller_of (frame_at m start.fp) start.ra; calls = calls most_frames m start.fp }

abbrev pub walk_from : Memory → Option WalkStart → Option Walk
walk_from m None = None
walk_from m (Some start) = Some (walk_of m start)

-- ---- where it starts

-- a walk starts from the pc, x1 and x8; a stopped hart has none
abbrev pub start_of : Option Cause → ℕ → List ℕ → Option WalkStart
start_of None pc regs = Some (record { pc = pc; ra = reg regs 1; fp = reg regs 8 })
start_of (Some cause) pc regs = None

abbrev pub start_at : Option PlainHart → Option WalkStart
start_at None = None
start_at (Some x) = start_of x.stop x.pc x.regs

-- The walk of hart h in a state of the program.
abbrev pub walk : Plain → ℕ → Option Walk
walk s h = walk_from s.prog.mem (start_at (slice_get s.harts h))

-- The same for a hart of the patched machine.
abbrev pub walk_now : Prog → Hart → Option Walk
walk_now p x = walk_from p.mem (start_of x.stop x.pc x.regs)

-- ---- its addresses

abbrev pub from_caller : Option ℕ → List ℕ → List ℕ
from_caller None rest = rest
from_caller (Some a) rest = a ∷ rest

abbrev pub addresses : Option Walk → List ℕ
addresses None = []
addresses (Some w) = w.pc ∷ from_caller w.caller w.calls
