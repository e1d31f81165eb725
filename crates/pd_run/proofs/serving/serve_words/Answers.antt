use Rattle.std.proofs.Common.{map, refl, string_bytes, subst}
use Rattle.pd_run.specs.Screens.{sinks_of}
use Rattle.headline.specs.Serving.{IsReplied}
use Rattle.pd_run.proofs.ShownCalls.{reply_shown}
use Rattle.pd_run.proofs.serving.serve_words.Goals as goal

pub returns-in-Ok : goal.returns-in-Ok
returns-in-Ok g c =
    let words = map string_bytes c.args.words.now in
    let replied = subst (λ reply. IsReplied g.F.Files.holds g.F.Files.faults c.args.files.now c.reply_for.new.files words reply) c.in-Ok.is c.reply_for.ensures in
    reply_shown g.F.Files.holds g.F.Files.faults c.args.files.now c.reply_for.new.files words
    (sinks_of g.K.Sink.has g.K.Sink.faults g.E.Sink.has g.E.Sink.faults g.L.Sink.has g.L.Sink.faults c.args.screen.now.out c.args.screen.now.err c.args.log.now)
    (sinks_of g.K.Sink.has g.K.Sink.faults g.E.Sink.has g.E.Sink.faults g.L.Sink.has g.L.Sink.faults c.show-status.new.screen.out c.show-status.new.screen.err c.show-status.new.log)
    c.in-Ok.reply.texts c.show-status.result c.one_owed.ensures c.in-Ok.reply replied.0 replied.1 replied.2 refl
    (c.show-status.ensures.shown replied.0 replied.2) (c.show-status.ensures.cut replied.0 replied.2) c.owed_is_honest.ensures
