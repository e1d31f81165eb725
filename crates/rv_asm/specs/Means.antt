-- What is returned where a text is assembled.
use Rattle.std.specs.Prelude.{◌≡◌, ⊤, Result, Ok, Err, MatchResult}
use Rattle.rv_asm.specs.declared.fault.AsmError.{AsmError}
use Rattle.rv_asm.specs.declared.fault.AsmError.TheVariants as error
use Rattle.rv_asm.specs.declared.fault.AsmFault.{AsmFault}
use Rattle.pn_types.specs.declared.image.Image.{Image}

-- why a call was refused; running out of memory is always allowed
abbrev pub AsmRefuses : AsmError → (AsmFault → Type 0) → Type 0
AsmRefuses (error.Fault fault) why = why fault
AsmRefuses error.NoMemory why = ⊤

-- the result is what a text stands for, unless memory runs out
abbrev pub Means : Result Image AsmError → Result Image AsmFault → Type 0
Means result meaning = MatchResult result (λ image. meaning ≡ Ok image) (λ e. AsmRefuses e (λ fault. meaning ≡ Err fault))
