use Rattle.elf_write.proofs.ReadAgain.{read_again, file_accepted}
use Rattle.elf_write.proofs.laws.written_is_read_again.Goals as goal

pub returns-clause-again : goal.returns-clause-again
returns-clause-again c = read_again

pub returns-clause-files : goal.returns-clause-files
returns-clause-files c = file_accepted
