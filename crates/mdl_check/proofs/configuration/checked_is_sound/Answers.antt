use Rattle.std.proofs.Common.{sym, subst}
use Rattle.mdl_check.specs.Sound.{IsSoundCheck}
use Rattle.mdl_check.proofs.Sounding.{sound}
use Rattle.mdl_check.proofs.configuration.checked_is_sound.Goals as goal

pub returns : goal.returns
returns c t shipped items checked answer small own = subst IsSoundCheck (sym answer.3) (sound t shipped items answer.0 answer.1 answer.2 small own)
