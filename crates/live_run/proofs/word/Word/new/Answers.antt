use Rattle.live_run.proofs.Keeping.{opens}
use Rattle.live_run.proofs.word.Word.new.Goals as goal

pub of_words-requires : goal.of_words-requires
of_words-requires c = opens _ _
