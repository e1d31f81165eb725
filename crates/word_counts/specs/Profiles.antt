-- The profile of a program: how often its own run executes each word of its text.
use Rattle.std.specs.Prelude.{ℕ, ◌≡◌, ◌+◌, ◌≤◌, Bool, List, is_none, sum, count_by}
use Rattle.std.specs.List.{AllZip}
use Rattle.pn_types.specs.declared.code.Proc.{Proc}
use Rattle.pn_types.specs.declared.image.Image.{Image}
use Rattle.rv_mem.specs.Start.{program_of}
use Rattle.rv_exec.specs.Run.{trace}
use Rattle.block_count.specs.Counted.{IsCounted}
use Rattle.block_count.specs.Course.{Pace}
use Rattle.block_count.specs.Heads.{heads_of}
use Rattle.word_flow.specs.Executions.{run_executions, ticks_at}
use Rattle.word_flow.specs.HartEnds.{run_ends}
use Rattle.word_flow.specs.Laws.{run_numbers}
use Rattle.word_flow.specs.Numbers.{sum_at, told_ticks}
use Rattle.word_counts.specs.IndirectJumps.{run_jumps_into_blocks}
use Rattle.word_counts.specs.Placing.{counts_of_words}
use Rattle.word_counts.specs.declared.profile.Profile.{Profile}

-- The blocks are counted along a run of the program alone. Each word of the text has a number, which follows from the counts of the
-- blocks and from how the harts ended, and is at most the executions of the word on that run. The ticks that the numbers tell, and the
-- untold ones, are all ticks. At any set of words there are at least as many ticks as their numbers say, and at most these and the
-- untold ones. So where none is untold, each number is the executions of its word. None is where each block is counted and no indirect
-- jump of the run leads into the middle of a block.
pub record IsProfile (image : Image) (procs : List Proc) (budget : ℕ) (p : Pace) (r : Profile) : Type 0 where
  pub counted : IsCounted image procs budget p r.counts
  pub are : r.numbers ≡ run_numbers image p.harts counted.turns
      (counts_of_words (heads_of image procs) r.counts.counts (program_of image).words image.text_at)
  pub low : AllZip (λ number executions. number ≤ executions) r.numbers (run_executions image p.harts counted.turns)
  pub all : told_ticks (program_of image) (run_ends image p.harts counted.turns) r.numbers + r.untold ≡ sum r.counts.ticks
  pub least : (q : ℕ → Bool) → sum_at q r.numbers image.text_at ≤ ticks_at (program_of image) q (trace image p.harts counted.turns)
  pub most : (q : ℕ → Bool)
      → ticks_at (program_of image) q (trace image p.harts counted.turns) ≤ sum_at q r.numbers image.text_at + r.untold
  pub exact : r.untold ≡ 0 → r.numbers ≡ run_executions image p.harts counted.turns
  pub whole : count_by is_none r.counts.counts ≡ 0 → run_jumps_into_blocks image procs p.harts counted.turns ≡ 0 → r.untold ≡ 0
