use Rattle.std.proofs.Common.{refl}
use Rattle.tramp_spec.specs.Banks.{bank_len}
use Rattle.machine.proofs.hart.HartState.first.Goals as goal

pub with_bank-requires : goal.with_bank-requires
unfolding bank_len
with_bank-requires c = refl
