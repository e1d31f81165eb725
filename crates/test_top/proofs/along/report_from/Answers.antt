use Rattle.std.proofs.Common.{refl}
use Rattle.test_top.proofs.along.report_from.Goals as goal

pub report_of-requires-clause-given : goal.report_of-requires-clause-given
report_of-requires-clause-given c = c.in_ok-found.ensures.runs c.args.settings c.requires.settings refl
