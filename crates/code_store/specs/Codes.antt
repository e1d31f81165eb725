-- For proofs alone: the code of a store's value, from the codes of its parts.
use mathlib.Core.Path.{refl}
use Rattle.std.specs.Coded.{Coded, code_by, coded×, coded_ℕ}
use Rattle.std.specs.FinMap.{code}
use Rattle.rv_word.specs.Plain.{Words}
use Rattle.rv_exec.specs.Codes.{words_code}
use Rattle.tramp_spec.specs.Codes.{Code}
use Rattle.tramp_spec.specs.contracts.mark.MarkedWord as marked_word
use Rattle.code_store.specs.Owners.{Owners}
use Rattle.code_store.specs.Stores.{StoredCode}

abbrev pub stored_coded : Coded StoredCode
stored_coded =
    code_by (Words × (Code × Owners))
    (coded× words_code (coded× (code coded_ℕ marked_word.the_row.coded) (code coded_ℕ coded_ℕ)))
    (λ s. (s.program, (s.code, s.owners)))
    (λ t. record { program = t.0; code = t.1.0; owners = t.1.1 })
    (λ _. refl)
