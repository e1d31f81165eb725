-- For proofs alone: what holds of a text that is prepared.
use Rattle.std.specs.Prelude.{◌≡◌}
use Rattle.pn_types.specs.Images.{IsImage}
use Rattle.code_points.specs.Procedures.{AreProcsOf}
use Rattle.profile_text.specs.Finding.{DoAscend}
use Rattle.profile_text.specs.NumberedWords.{numbered_words}
use Rattle.profile_text.specs.Sums.{AreSums}
use Rattle.profile_text.specs.Totals.{Fits}
use Rattle.profile_text.specs.declared.profiled_text.ProfiledText.{ProfiledText}

-- it has the words of its image with the numbers of its profile, and their sums
pub record IsProfiledText (t : ProfiledText) : Type 0 where
  pub image : IsImage t.image.now
  pub procs : AreProcsOf t.image.now t.procs.now
  pub ascend : DoAscend t.procs.now
  pub fits : Fits t.image.now t.profile.now
  pub words : t.words.items ≡ numbered_words t.image.now t.profile.now
  pub sums : AreSums t.words.items t.sums.items
