use Rattle.commands.specs.FileReadings.{reads}
use Rattle.headline.proofs.OneOwed.{same_bytes}
use Rattle.headline.proofs.ToldOnce.{told_once}
use Rattle.headline.proofs.laws.told_once.Goals as goal

pub returns : goal.returns
returns c holds before now words texts others told sole tells tell =
    told_once
    (record {
      conf = c.one_meaning.ensures.conf;
      wrong = c.one_meaning.ensures.fault;
      either = c.one_meaning.ensures.either;
      directives = c.directives_or_fault.ensures.directives;
      wrong_directives = c.directives_or_fault.ensures.fault;
      either_directives = c.directives_or_fault.ensures.either;
      answer = c.one_answer.ensures;
      selection = c.one_reading.ensures.selection;
      seeded = c.one_seeded.ensures;
    })
    (reads holds before now)
    (λ name x y a b. same_bytes (holds name) x y (told name) a.0 b.0)
    words texts others sole tells tell
