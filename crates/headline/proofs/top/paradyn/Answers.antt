use Rattle.std.specs.Prelude.{map, string_bytes}
use Rattle.headline.proofs.Complete.{given}
use Rattle.headline.proofs.top.paradyn.Goals as goal

pub returns : goal.returns
returns g c =
    given g.F.Files.holds g.F.Files.faults c.args.files.now c.answer_words-answered.new.files (map string_bytes c.args.words.now) g.K.Sink.has g.K.Sink.faults c.args.out.now c.give.new.out g.L.Sink.has g.L.Sink.faults c.args.log.now c.give.new.log c.give.result
    c.answer_words-answered.result c.one_owed.ensures c.answer_words-answered.ensures.due c.answer_words-answered.ensures.looks c.give.ensures.answered c.give.ensures.torn c.give.ensures.memory
