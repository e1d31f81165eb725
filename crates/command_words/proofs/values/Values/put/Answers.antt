use Rattle.std.proofs.Common.{rules}
use Rattle.command_words.proofs.Words.{put_is}
use Rattle.command_words.proofs.values.Values.put.Goals as goal

pub returns : goal.returns
returns c = put_is c.args.self.now.at_slots c.in_ok-slot.slot _ c.args.value c.in_ok-slot.ensures.number (search rules)
