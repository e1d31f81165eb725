use Rattle.commands.specs.FileReadings.{reads}
use Rattle.pd_run.proofs.ToldKinds.{kinds_told}
use Rattle.pd_run.proofs.kinds.kinds_are_told.Goals as goal

pub returns : goal.returns
returns c holds before now q texts tells = kinds_told (reads holds before now) q texts tells
