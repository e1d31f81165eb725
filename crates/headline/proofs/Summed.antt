-- The lines of a program's profile add up.
use Rattle.std.proofs.Common.{ℕ, List}
use Rattle.code_points.specs.Procedures.{procedures_of}
use Rattle.commands.proofs.Procs.{are_procs}
use Rattle.commands.proofs.Runnable.{good_image}
use Rattle.commands.specs.Blocks.{pace_of}
use Rattle.commands.specs.Profiles.{starts_of}
use Rattle.commands.specs.Runnable.{IsImageOf}
use Rattle.command_words.specs.Requests.{ProfileSource}
use Rattle.pn_types.specs.declared.image.Image.{Image}
use Rattle.profile_text.proofs.Fitting.{fits}
use Rattle.profile_text.specs.Laws.{DoLinesAddUp, LinesAddUp}
use Rattle.word_counts.specs.Profiles.{IsProfile}
use Rattle.word_counts.specs.declared.profile.Profile.{Profile}
use Rattle.headline.proofs.Ranges.{IsPaced}

pub lines_summed : LinesAddUp → (bytes : List ℕ) (image : Image) (s : ProfileSource) (r : Profile) → IsImageOf bytes image → IsPaced s.counted
    → IsProfile image (starts_of image s.also) s.counted.budget (pace_of s.counted) r → DoLinesAddUp image (procedures_of image) r
lines_summed add_up bytes image s r holds paced is =
    add_up image (procedures_of image) r (are_procs image (good_image bytes image holds).is)
    (fits image (starts_of image s.also) s.counted.budget (pace_of s.counted) r is paced.harts paced.budget)
