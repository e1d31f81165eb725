-- For proofs alone: what is read off the patched machine.
use Rattle.std.specs.Prelude.{ℕ, ◌%◌, ◌^◌, Option, List, map, nat_lt, sum}
use Rattle.std.specs.Option.{option_map}
use Rattle.tramp_spec.specs.Harts.{Hart}
use Rattle.machine.specs.Cores.{Core}
use Rattle.machine.specs.Places.{program_pc}
use Rattle.machine.specs.Instruments.{reading}
use Rattle.report.specs.HartEnds.{hart_end}
use Rattle.block_count.specs.Counters.{Counter, placed_of}
use Rattle.block_count.specs.declared.counts.HartStop.{HartStop}
use Rattle.block_count.specs.declared.counted_block.CountedBlock.{CountedBlock}

-- how a hart ended
abbrev pub stop_seen : ℕ → Core → Hart → HartStop
stop_seen budget c x = record { stop = hart_end x.stop (nat_lt x.ticks budget); pc = program_pc c.code c.rows x }

abbrev pub stops_seen : ℕ → Core → List HartStop
stops_seen budget c = map (stop_seen budget c) c.harts

abbrev pub ticks_seen : Core → List ℕ
ticks_seen c = map (λ x. x.ticks) c.harts

-- what a counter reads on all harts together, modulo 2^64
abbrev pub counter_read : Core → Counter → ℕ
counter_read c k = sum (map (reading (placed_of k)) c.harts) % 2 ^ 64

abbrev pub counts_read : Core → List CountedBlock → List (Option ℕ)
counts_read c blocks = map (λ s. option_map (counter_read c) s.counter) blocks
