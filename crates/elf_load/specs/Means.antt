-- What is returned where a file is read.
use Rattle.std.specs.Prelude.{◌≡◌, ⊤, Result, Ok, Err, MatchResult}
use Rattle.elf_form.specs.declared.fault.ElfError.{ElfError}
use Rattle.elf_form.specs.declared.fault.ElfError.TheVariants as error
use Rattle.elf_form.specs.declared.fault.ElfFault.{ElfFault}
use Rattle.pn_types.specs.declared.image.Image.{Image}

-- why a call was refused; running out of memory is always allowed
abbrev pub ElfRefuses : ElfError → (ElfFault → Type 0) → Type 0
ElfRefuses (error.Fault fault) why = why fault
ElfRefuses error.NoMemory why = ⊤

-- the result is what a file means, unless memory runs out
abbrev pub Means : Result Image ElfError → Result Image ElfFault → Type 0
Means result meaning = MatchResult result (λ image. meaning ≡ Ok image) (λ e. ElfRefuses e (λ fault. meaning ≡ Err fault))
