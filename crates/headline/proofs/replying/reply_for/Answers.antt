use Rattle.std.specs.Prelude.{map, string_bytes}
use Rattle.headline.proofs.Served.{replied}
use Rattle.headline.proofs.replying.reply_for.Goals as goal

pub returns : goal.returns
returns g c =
    replied g.F.Files.holds g.F.Files.faults c.args.files.now c.answer_words-answered.new.files (map string_bytes c.args.words.now)
    c.answer_words-answered.result c.reply_to.result c.answer_words-answered.ensures.due c.answer_words-answered.ensures.looks c.reply_to.ensures
