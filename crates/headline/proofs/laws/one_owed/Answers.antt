use Rattle.headline.proofs.OneOwed.{owed_once}
use Rattle.headline.proofs.laws.one_owed.Goals as goal

pub returns : goal.returns
returns g c old new words a b told owed other =
    owed_once g.F.Files.holds g.F.Files.faults old new told
    (record {
      conf = c.one_meaning.ensures.conf;
      wrong = c.one_meaning.ensures.fault;
      either = c.one_meaning.ensures.either;
      directives = c.directives_or_fault.ensures.directives;
      wrong_directives = c.directives_or_fault.ensures.fault;
      either_directives = c.directives_or_fault.ensures.either;
      answer = c.one_answer.ensures;
      selection = c.one_reading.ensures.selection;
      seeded = c.one_seeded.ensures;
    })
    words a b owed other
