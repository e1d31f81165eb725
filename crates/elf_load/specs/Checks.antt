-- For proofs alone: what is returned where parts of a file are checked.
use Rattle.std.specs.Prelude.{◌≡◌, Option, Some, None, List, ℕ, Result, MatchResult}
use Rattle.elf_form.specs.Meaning.{Tables, meaning_with}
use Rattle.elf_form.specs.declared.fault.ElfError.{ElfError}
use Rattle.elf_form.specs.declared.fault.ElfFault.{ElfFault}
use Rattle.elf_load.specs.Means.{Means, ElfRefuses}
use Rattle.pn_types.specs.declared.image.Image.{Image}

-- the result is a fault exactly where the checks give one, and then that one
abbrev pub Checks : {A : Type 0} → Result A ElfFault → Option ElfFault → Type 0
Checks result fault = MatchResult result (λ _. fault ≡ None) (λ e. fault ≡ Some e)

-- the same, but running out of memory may come before a fault
abbrev pub ChecksOrWants : {A : Type 0} → Result A ElfError → Option ElfFault → Type 0
ChecksOrWants result fault = MatchResult result (λ _. fault ≡ None) (λ e. ElfRefuses e (λ first. fault ≡ Some first))

-- the result is what a file with these tables means, unless memory runs out
abbrev pub MeansWith : List ℕ → Tables → Result Image ElfError → Type 0
MeansWith b t result = Means result (meaning_with b t)
