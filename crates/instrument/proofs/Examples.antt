-- The example is computed.
use Rattle.std.proofs.Common.{refl}
use Rattle.instrument.specs.ComesAndGoes.{ComesAndGoes}

pub comes_and_goes : ComesAndGoes
comes_and_goes = record { rooms = refl; agenda = refl }
