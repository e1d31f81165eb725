-- How a hart ended, by its ticks.
use Rattle.std.proofs.Common.{◌≡◌, refl}
use Rattle.std.specs.Prelude.{◌&&◌, Bool, Option, Some, None, is_none}
use Rattle.rv_word.specs.declared.outcome.Cause.{Cause}
use Rattle.rv_word.specs.declared.outcome.Cause.TheVariants as cause
use Rattle.report.specs.HartEnds.{hart_end}

-- of a hart that isn't stopped the ticks tell whether it can go on
pub same_end : (o : Option Cause) (below : Bool) → hart_end o below ≡ hart_end o (is_none o && below)
same_end None below = refl
same_end (Some (cause.Exit status)) below = refl
same_end (Some cause.Illegal) below = refl
same_end (Some cause.Break) below = refl
same_end (Some cause.Misaligned) below = refl
same_end (Some (cause.Access at)) below = refl
same_end (Some (cause.TextAccess at)) below = refl
same_end (Some cause.FetchOutside) below = refl
