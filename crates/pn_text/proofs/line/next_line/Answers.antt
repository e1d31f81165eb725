use Rattle.std.proofs.Common.{length, ◌+◌, sym}
use Rattle.std.proofs.lemmas.List.{take_rest}
use Rattle.pn_text.proofs.Cuts.{ended_at, last_line}
use Rattle.pn_text.proofs.line.next_line.Goals as goal

pub returns-in-Some-clause-line : goal.returns-in-Some-clause-line
returns-in-Some-clause-line c =
    rw (take_rest c.args.text.now (c.in-Some.end + 1), c.without_cr.ensures)
    (ended_at c.args.text.now c.in-Some.end (sym c.in-Some.ensures))

pub returns-in-None-clause-line : goal.returns-in-None-clause-line
returns-in-None-clause-line c =
    rw (take_rest c.args.text.now (length c.args.text.now))
    (last_line c.args.text.now (sym c.if-is_empty.ensures) (sym c.in-None.ensures))
