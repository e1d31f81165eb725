use Rattle.std.proofs.Common.{sym}
use Rattle.commands.proofs.profiling.shape_text.Goals as goal

pub returns-in-Words : goal.returns-in-Words
returns-in-Words c = rw (c.in-Words.is, sym c.requires.procs) c.profile_lines-in-Words.ensures
