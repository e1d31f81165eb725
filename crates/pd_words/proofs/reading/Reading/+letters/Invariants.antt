use Rattle.std.proofs.Common.{length}
use Rattle.pd_words.proofs.reading.Reading.+letters.Given as goal

abbrev pub decreases-letters : goal.decreases-letters
decreases-letters l = length l.letters.now
