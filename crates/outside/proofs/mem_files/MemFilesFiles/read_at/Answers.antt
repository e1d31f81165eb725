use Rattle.std.proofs.Common.{arith}
use Rattle.std.proofs.lemmas.Map.Text.{text_keys}
use Rattle.outside.proofs.mem_files.MemFilesFiles.read_at.Goals as goal

-- whether a name is the one that was read or another
pub returns-in-Some-clause-reads : goal.returns-in-Some-clause-reads
returns-in-Some-clause-reads c = record {
  same = λ other. grind (arith, text_keys);
  rising = λ other. grind (arith, text_keys);
  others = λ other ne told. grind (arith, text_keys);
}
