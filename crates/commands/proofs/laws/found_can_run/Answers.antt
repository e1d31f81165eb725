use Rattle.commands.proofs.Runnable.{can_run}
use Rattle.commands.proofs.laws.found_can_run.Goals as goal

pub returns : goal.returns
returns c = can_run c.checked_is_sound.ensures
