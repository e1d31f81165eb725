use Rattle.std.proofs.Common.{length}
use Rattle.test_language.proofs.language.texts.print_lines.Given as goal

abbrev pub decreases-lines : goal.decreases-lines
decreases-lines g l = length l.rest
