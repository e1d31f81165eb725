-- The ticks of a profile that no procedure has, and what is known of all profiles.
use Rattle.std.specs.Prelude.{◌≡◌, ℕ, ◌+◌, ◌<◌, ◌^◌, Bool, List, is_none, length, sum, count_by}
use Rattle.pn_types.specs.declared.code.Proc.{Proc}
use Rattle.pn_types.specs.declared.image.Image.{Image}
use Rattle.rv_mem.specs.Start.{program_of}
use Rattle.block_count.specs.declared.counts.HartStop.{HartStop}
use Rattle.word_counts.specs.Stops.{end_of_stop}
use Rattle.word_counts.specs.declared.profile.Profile.{Profile}
use Rattle.word_flow.specs.HartEnds.{is_stopped_outside}
use Rattle.word_flow.specs.Numbers.{sum_at}
use Rattle.profile_text.specs.Names.{procedure_at}

-- the ticks of all harts
abbrev pub ticks_of : Profile → ℕ
ticks_of r = sum r.counts.ticks

-- the ticks at words that no procedure has
abbrev pub ticks_of_none : Image → List Proc → Profile → ℕ
ticks_of_none image procs r = sum_at (λ a. is_none (procedure_at procs a)) r.numbers image.text_at

-- the hart stopped where the text has no word
abbrev pub stopped_outside : Image → HartStop → Bool
stopped_outside image s = is_stopped_outside (program_of image) (end_of_stop s)

-- how many harts did, which is how many ticks were outside of the text
abbrev pub ticks_outside : Image → Profile → ℕ
ticks_outside image r = count_by (stopped_outside image) r.counts.stops

-- A profile has a number for each word of the text. The numbers, the ticks outside of the text and the untold ones are all ticks. Each
-- hart has ticks and a stop. Numbers of 64 and 32 bits hold the ticks and count the harts.
pub record Fits (image : Image) (r : Profile) : Type 0 where
  pub numbers : length r.numbers ≡ length (program_of image).words
  pub all : sum r.numbers + ticks_outside image r + r.untold ≡ ticks_of r
  pub small : ticks_of r < 2 ^ 64
  pub stops : length r.counts.stops ≡ length r.counts.ticks
  pub few : length r.counts.ticks < 2 ^ 32
