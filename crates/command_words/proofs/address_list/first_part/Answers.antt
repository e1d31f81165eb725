use Rattle.std.proofs.Common.{◌+◌, sym}
use Rattle.std.proofs.lemmas.List.{take_rest}
use Rattle.command_words.proofs.Commas.{parts_at, one_part}
use Rattle.command_words.proofs.address_list.first_part.Goals as goal

pub returns-in-Some-clause-parts : goal.returns-in-Some-clause-parts
returns-in-Some-clause-parts c =
    rw (take_rest c.args.text.now (c.in-Some.end + 1)) (parts_at c.args.text.now c.in-Some.end (sym c.in-Some.ensures))

pub returns-in-None-clause-parts : goal.returns-in-None-clause-parts
returns-in-None-clause-parts c = one_part c.args.text.now (sym c.in-None.ensures)
