use Rattle.std.proofs.Common.{refl}
use Rattle.rv_word.specs.Table.{decode_of}
use Rattle.tramp_spec.specs.MovedWords.{moved_of}
use Rattle.tramp_spec.proofs.laws.moved_rows.Goals as goal

pub returns : goal.returns
unfolding moved_of decode_of
returns c = record { jalr = refl; branch = refl; jal = refl; auipc = refl; unmovable = λ to. refl }
