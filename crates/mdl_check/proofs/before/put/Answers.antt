use Rattle.mdl_check.proofs.Sames.{put_is}
use Rattle.mdl_check.proofs.before.put.Goals as goal

pub returns : goal.returns
returns c q = put_is c.args.sight q c.args.shown.now.keys c.insert.new.self.keys (c.in_ok-insert.ensures.updates.0 q)
