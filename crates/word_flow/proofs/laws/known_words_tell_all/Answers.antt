use Rattle.word_flow.proofs.Knowing.{known_words_tell}
use Rattle.word_flow.proofs.laws.known_words_tell_all.Goals as goal

pub returns : goal.returns
returns c = known_words_tell
