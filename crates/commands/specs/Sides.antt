-- For proofs alone: which of two files is faulty.
use Rattle.std.specs.Prelude.{ℕ}
use Rattle.refusals.specs.declared.fault.Fault.{Fault}
use Rattle.refusals.specs.declared.fault.Fault.TheVariants.{BadReport, BadNewReport}
use Rattle.commands.specs.declared.differing.Side.{Side}
use Rattle.commands.specs.declared.differing.Side.TheVariants.{Old, New}

abbrev pub bad_side : Side → ℕ → Fault
bad_side Old place = BadReport place
bad_side New place = BadNewReport place
