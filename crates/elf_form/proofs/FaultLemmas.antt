-- What a list of checks says of each of them.
use Rattle.std.proofs.Common.{◌≡◌, Bool, true, false, Option, Some, None, List, ◌∷◌, refl, ap}
use Rattle.elf_form.specs.Faults.{fault_where, first_fault}
use Rattle.elf_form.specs.declared.fault.ElfFault.{ElfFault}

-- without a fault the first check gives none, nor do the others
pub no_fault : (check : Option ElfFault) (checks : List (Option ElfFault)) → first_fault (check ∷ checks) ≡ None → (check ≡ None) × (first_fault checks ≡ None)
no_fault None checks h = (refl, h)
no_fault (Some fault) checks h = (h, absurd (cc))

-- a check that gives none has a test that fails
pub fails : (test : Bool) (fault : ElfFault) → fault_where test fault ≡ None → test ≡ false
fails true fault h = absurd (cc)
fails false fault h = refl

-- after a check that gives none the others count
pub behind : (check : Option ElfFault) (checks : List (Option ElfFault)) → check ≡ None → first_fault (check ∷ checks) ≡ first_fault checks
behind check checks h = ap (λ c. first_fault (c ∷ checks)) h
