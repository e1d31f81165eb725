-- What a session reads of its instruments.
use Rattle.std.specs.Prelude.{ℕ, ◌+◌, ◌-◌, if◌then◌else◌, Option, Some, None, List, [], ◌∷◌, ◌++◌, length, map, replicate, slice_index}
use Rattle.fold_hist.specs.declared.bin.Bin.{Bin}
use Rattle.machine.specs.Cores.{Core}
use Rattle.machine.specs.Measures.{difference}
use Rattle.machine.specs.Readings.{readings}
use Rattle.instrument.specs.Placements.{instrument_at}
use Rattle.instrument.specs.declared.instrument.Instrument.{Instrument}
use Rattle.instrumented.specs.Instrumented.{Instrumented}
use Rattle.session_spec.specs.declared.data.MetricFocusPair.{MetricFocusPair}
use Rattle.session_spec.specs.Inputs.{Inputs, harts_of_focus}
use Rattle.session_spec.specs.Due.{is_armed, is_ready, machine_armed}

-- ---- readings

abbrev pub reading_by : Option Instrument → List ℕ → Core → ℕ
reading_by None harts c = 0
reading_by (Some x) harts c = readings x.placed harts c

-- the sum of an instrument's readings over the harts of its focus, modulo 2^64
abbrev pub read_now : Inputs → Instrumented → MetricFocusPair → ℕ
read_now i m s = reading_by (instrument_at m.placer s.instrument.n) (harts_of_focus i s.focus) m.core

-- ---- what was read last of each instrument

-- an instrument that was just admitted was not read yet
abbrev pub lasts_with : List MetricFocusPair → List ℕ → List ℕ
lasts_with ss lasts = lasts ++ replicate (length ss - length lasts) 0

-- what is read last after a due work
abbrev pub last_now : Inputs → Instrumented → MetricFocusPair → ℕ → ℕ
last_now i m s last = if is_armed m.placer s then read_now i m s else last

abbrev pub lasts_now : Inputs → Instrumented → List MetricFocusPair → List ℕ → List ℕ
lasts_now i m [] lasts = []
lasts_now i m (s ∷ ss) [] = []
lasts_now i m (s ∷ ss) (last ∷ lasts) = last_now i m s last ∷ lasts_now i m ss lasts

-- what is read last after the armings of a due work: of an instrument that is armed, its readings then
abbrev pub lasts_armed : Inputs → Instrumented → List MetricFocusPair → List ℕ → List ℕ
lasts_armed i m [] lasts = []
lasts_armed i m (s ∷ ss) [] = []
lasts_armed i m (s ∷ ss) (last ∷ lasts) =
    (if is_ready m s then read_now i (machine_armed m s) s else last) ∷ lasts_armed i (machine_armed m s) ss lasts

-- ---- samples as they are read

-- a difference of readings
abbrev pub sum_read : Inputs → Instrumented → MetricFocusPair → ℕ → ℕ
sum_read i m s last = difference last (read_now i m s)

abbrev pub recorded_read : Inputs → Instrumented → ℕ → List MetricFocusPair → List ℕ → List (List Bin) → List (List Bin)
recorded_read i m time [] lasts rs = rs
recorded_read i m time (s ∷ ss) [] rs = []
recorded_read i m time (s ∷ ss) (last ∷ lasts) [] = []
recorded_read i m time (s ∷ ss) (last ∷ lasts) (r ∷ rs) =
    (if is_armed m.placer s then r ++ record { from = s.from; to = time; sum = sum_read i m s last } ∷ [] else r)
    ∷ recorded_read i m time ss lasts rs

-- ---- ticks

-- how many ticks each hart had
abbrev pub ticks_of : Instrumented → List ℕ
ticks_of m = map (λ x. x.ticks) m.core.harts

-- the ticks of these harts from a moment to a later one
abbrev pub ticks_between : List ℕ → List ℕ → List ℕ → ℕ
ticks_between [] before now = 0
ticks_between (h ∷ harts) before now = slice_index now h - slice_index before h + ticks_between harts before now
