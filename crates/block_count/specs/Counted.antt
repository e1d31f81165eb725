-- What is counted of the blocks of a program: how often its own run, which the definitions run on the unpatched machine, passes
-- them.
use Rattle.std.specs.Prelude.{◌≡◌, ℕ, ◌<◌, ◌≤◌, ◌%◌, ◌^◌, Option, Some, None, List, length, map}
use Rattle.std.specs.Option.{option_map}
use Rattle.pn_types.specs.declared.code.Proc.{Proc}
use Rattle.pn_types.specs.declared.image.Image.{Image}
use Rattle.rv_word.specs.Plain.{PlainHart, may_go}
use Rattle.rv_exec.specs.Run.{Position, executions, run, trace, IsLegal}
use Rattle.machine.specs.Cores.{start_core}
use Rattle.machine.specs.Replays.{Legal, owns, replay}
use Rattle.machine.specs.Same.{SameProgram}
use Rattle.report.specs.HartEnds.{hart_end}
use Rattle.block_count.specs.CountedBlocks.{counted_blocks_of, counters_of}
use Rattle.block_count.specs.Course.{Pace, block_events}
use Rattle.block_count.specs.declared.counts.Counts.{Counts}
use Rattle.block_count.specs.declared.counts.CountFault.{CountFault}
use Rattle.block_count.specs.declared.counts.CountFault.TheVariants as fault
use Rattle.block_count.specs.declared.counts.HartStop.{HartStop}
use Rattle.block_count.specs.declared.counted_block.CountedBlock.{CountedBlock}

-- ---- harts

-- how a hart ended, and where
abbrev pub stop_of : ℕ → PlainHart → HartStop
stop_of budget x = record { stop = hart_end x.stop (may_go (Some x) budget); pc = x.pc }

-- ---- counts

-- the count of a block that has a counter
abbrev pub passes_of : List Position → CountedBlock → Option ℕ
passes_of trace s = option_map (λ _. executions s.head.at trace % 2 ^ 64) s.counter

-- ---- what is counted

-- for how many counters a hart has slots
abbrev pub most_counters : ℕ
most_counters = 4094

-- There are at most as many counters as slots. The events can happen when they come. Their ticks are a run of the unpatched
-- program, and the patched machine is that program's state after it. The ticks and stops are those of this run, and a block's count
-- is the number of the run's positions at the block's head, modulo 2^64. A block whose first word can't be moved has none.
pub record IsCounted (image : Image) (procs : List Proc) (budget : ℕ) (p : Pace) (r : Counts) : Type 0 where
  pub few : length (counters_of image procs) ≤ most_counters
  pub legal : Legal (block_events image procs budget p) (start_core image p.harts budget)
  pub turns : List ℕ
  pub owned : turns ≡ owns (block_events image procs budget p) (start_core image p.harts budget)
  pub could : IsLegal image p.harts budget turns
  pub same : SameProgram (replay (block_events image procs budget p) (start_core image p.harts budget)) (run image p.harts turns)
  pub ticks : r.ticks ≡ map (λ x. x.ticks) (run image p.harts turns).harts
  pub stops : r.stops ≡ map (stop_of budget) (run image p.harts turns).harts
  pub counts : r.counts ≡ map (passes_of (trace image p.harts turns)) (counted_blocks_of image procs)

-- More blocks have counters than there are slots: `n` of them.
abbrev pub IsFault : Image → List Proc → CountFault → Type 0
IsFault image procs fault.NoMemory = Unit {0}
IsFault image procs (fault.TooManyBlocks n) = (length (counters_of image procs) ≡ n) × (most_counters < n)
