use Rattle.tramp_spec.proofs.Moving as proof
use Rattle.tramp_spec.proofs.laws.words_move.Goals as goal

pub returns : goal.returns
returns c = proof.words_move
