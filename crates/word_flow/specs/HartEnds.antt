-- How the harts of a run ended: which stopped, and where each was then.
use Rattle.std.specs.Prelude.{ℕ, ◌==◌, ◌&&◌, not, Bool, is_some, is_none, List, map}
use Rattle.pn_types.specs.declared.image.Image.{Image}
use Rattle.rv_word.specs.Plain.{Words, PlainHart, program_word}
use Rattle.rv_exec.specs.Run.{run}
use Rattle.word_flow.specs.declared.hart_end.HartEnd.{HartEnd}

abbrev pub hart_end_of : PlainHart → HartEnd
hart_end_of x = record { is_stopped = is_some x.stop; pc = x.pc }

abbrev pub hart_ends_of : List PlainHart → List HartEnd
hart_ends_of harts = map hart_end_of harts

-- the ends of a run's harts
abbrev pub run_ends : Image → ℕ → List ℕ → List HartEnd
run_ends image n turns = hart_ends_of (run image n turns).harts

-- the hart stopped at a: the word there is the last that it executed
abbrev pub is_stopped_at : ℕ → HartEnd → Bool
is_stopped_at a e = e.is_stopped && (e.pc == a)

-- the hart waits at a: it didn't stop, and the word there is the next that it would execute
abbrev pub is_waiting_at : ℕ → HartEnd → Bool
is_waiting_at a e = not e.is_stopped && (e.pc == a)

-- the hart stopped where the text has no word
abbrev pub is_stopped_outside : Words → HartEnd → Bool
is_stopped_outside t e = e.is_stopped && is_none (program_word t e.pc)
