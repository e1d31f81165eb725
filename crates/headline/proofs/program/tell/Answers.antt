use Rattle.std.specs.Prelude.{map, string_bytes}
use Rattle.headline.proofs.Told.{told}
use Rattle.headline.proofs.program.tell.Goals as goal

pub returns : goal.returns
returns g c =
    told g.F.Files.holds g.F.Files.faults c.args.files.now c.paradyn.new.files (map string_bytes c.args.words.now) g.K.Sink.has g.K.Sink.faults c.args.out.now c.paradyn.new.out
    g.L.Sink.has g.L.Sink.faults c.args.log.now c.paradyn.new.log c.paradyn.result
    c.owed_is_honest.ensures c.paradyn.ensures
