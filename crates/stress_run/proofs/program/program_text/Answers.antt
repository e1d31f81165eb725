use Rattle.std.proofs.Common.{◌∙◌, sym}
use Rattle.stress_run.specs.Program.{program_text}
use Rattle.stress_run.proofs.Texts.{bytes_of}
use Rattle.stress_run.proofs.program.program_text.Goals as goal

pub returns : goal.returns
unfolding program_text
returns c = bytes_of c.into_bytes.result c.in_ok-text.text c.into_bytes.ensures.value ∙ (rw (sym c.in_ok-main.ensures) (rw (sym c.in_ok-called.ensures) c.in_ok-text.ensures.ok))
