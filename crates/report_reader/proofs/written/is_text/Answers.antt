use Rattle.report_reader.proofs.LineEnds.{ends_line, ends_otherwise}
use Rattle.report_reader.proofs.written.is_text.Goals as goal

pub returns-then-last-eq10 : goal.returns-then-last-eq10
returns-then-last-eq10 c =
    ends_line c.args.line.now c.in-Some.front.now c.args.text.now c.in-Some.last.now c.is_same.result c.in-Some.ensures.cases.0 c.if-last-eq10.true c.is_same.ensures

pub returns-else-last-eq10 : goal.returns-else-last-eq10
returns-else-last-eq10 c =
    ends_otherwise c.args.line.now c.in-Some.front.now c.args.text.now c.in-Some.last.now c.in-Some.ensures.cases.0 c.if-last-eq10.false
