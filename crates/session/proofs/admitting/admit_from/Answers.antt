use Rattle.std.proofs.Common.{◌-◌, length}
use Rattle.session.proofs.Counting.{take_in_drop}
use Rattle.session.proofs.admitting.admit_from.Goals as goal

pub admit-requires-clause-wishes : goal.admit-requires-clause-wishes
admit-requires-clause-wishes c w h = c.requires.wishes w (take_in_drop (length c.args.wishes.now - c.args.looked) c.args.looked c.args.wishes.now w h)
