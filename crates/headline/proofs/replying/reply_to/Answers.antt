use Rattle.std.proofs.Common.{Ok, ap, refl}
use Rattle.headline.specs.Serving.{told_of}
use Rattle.headline.proofs.replying.reply_to.Goals as goal

pub returns-in-Ok : goal.returns-in-Ok
returns-in-Ok c = (Ok c.in-Ok.texts, ap told_of c.in-Ok.is, record { status = refl; texts = refl })
