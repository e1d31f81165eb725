-- What is due for `blocks`.
use Rattle.std.specs.Prelude.{◌≡◌, ℕ, Ok, Err}
use Rattle.block_count.specs.Counted.{IsCounted, IsFault}
use Rattle.block_count.specs.Course.{Pace}
use Rattle.block_count.specs.Heads.{heads_of}
use Rattle.block_count.specs.declared.counts.CountFault.TheVariants as fault
use Rattle.block_count.specs.declared.counts.Counts.{Counts}
use Rattle.block_count.specs.Texts.{blocks_text}
use Rattle.code_points.specs.Procedures.{procedures_of}
use Rattle.command_words.specs.Requests.{BlocksRequest}
use Rattle.pn_types.specs.declared.image.Image.{Image}
use Rattle.refusals.specs.Refusals.{Step, Then}
use Rattle.refusals.specs.declared.fault.Fault.TheVariants.{TooManyBlocks}
use Rattle.commands.specs.Output.{output}
use Rattle.commands.specs.Inputs.{IsProgramOfFile}
use Rattle.commands.specs.FileReadings.{FileReading}
use Rattle.commands.specs.declared.texts.Texts.{Texts}

abbrev pub pace_of : BlocksRequest → Pace
pace_of r = record { harts = r.harts; turns = r.order.quantum; seed = r.order.seed }

-- What is counted of the image's blocks, or that more of them can be counted than a hart has slots.
abbrev pub AreCounted : BlocksRequest → Image → Step Texts
AreCounted r image (Ok texts) =
    (counts : Counts) × IsCounted image (procedures_of image) r.budget (pace_of r) counts
    × (texts ≡ output (blocks_text (heads_of image (procedures_of image)) counts))
AreCounted r image (Err why) = (count : ℕ) × IsFault image (procedures_of image) (fault.TooManyBlocks count) × (why ≡ TooManyBlocks count)

abbrev pub IsBlocksDue : BlocksRequest → FileReading → Step Texts
IsBlocksDue r sees = Then (IsProgramOfFile sees r.program) (AreCounted r)
