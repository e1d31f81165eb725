use Rattle.std.proofs.Common.{refl}
use Rattle.rv_word.specs.Table.{decode_of}
use Rattle.tramp_spec.specs.MovedWords.{moved_of}
use Rattle.tramp_spec.specs.Statements.{body_of}
use Rattle.tramp_spec.proofs.laws.code_rows.Goals as goal

pub returns : goal.returns
unfolding moved_of body_of decode_of
returns c = record { base = refl; ret = refl; mini = refl }
