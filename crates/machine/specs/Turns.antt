-- A turn of a hart of the patched machine.
use Rattle.std.specs.Prelude.{ℕ, ◌&&◌, ◌||◌, nat_lt, Bool, false, Option, Some, None, is_none, slice_get, slice_set}
use Rattle.rv_word.specs.Plain.{Words}
use Rattle.tramp_spec.specs.Codes.{Code, fetched_at}
use Rattle.tramp_spec.specs.Harts.{Hart, Solo, step_of, is_tick}
use Rattle.tramp_spec.specs.declared.mark.MarkedWord.{MarkedWord}
use Rattle.machine.specs.Cores.{Core}
use Rattle.machine.specs.Places.{program_pc}

-- what a hart fetches
abbrev pub fetched : Words → Code → Hart → Option MarkedWord
fetched program code x = fetched_at program code x.pc x.inside

-- the hart isn't stopped, and is inside or has fewer ticks than the budget
abbrev pub may_turn : Option Hart → ℕ → Bool
may_turn None budget = false
may_turn (Some x) budget = is_none x.stop && (x.inside || nat_lt x.ticks budget)

-- Hart h can take a turn.
abbrev pub is_runnable : Core → ℕ → Bool
is_runnable c h = may_turn (slice_get c.harts h) c.budget

-- one turn of hart h by itself
abbrev pub turn_alone : Core → ℕ → Hart → Solo
turn_alone c h x = step_of (fetched c.program c.code x) h (program_pc c.code c.rows x) (record { hart = x; prog = c.prog })

abbrev pub put_back : Core → ℕ → Solo → Core
put_back c h s = record c { harts = slice_set c.harts h s.hart; prog = s.prog }

abbrev pub turn_by : Option Hart → Core → ℕ → Core
turn_by None c h = c
turn_by (Some x) c h = put_back c h (turn_alone c h x)

-- The machine after a turn of hart h.
abbrev pub turn : Core → ℕ → Core
turn c h = turn_by (slice_get c.harts h) c h

abbrev pub ticks_by : Option Hart → Core → Bool
ticks_by None c = false
ticks_by (Some x) c = is_tick (fetched c.program c.code x)

-- whether the next turn of hart h is a tick
abbrev pub ticks_next : Core → ℕ → Bool
ticks_next c h = ticks_by (slice_get c.harts h) c
