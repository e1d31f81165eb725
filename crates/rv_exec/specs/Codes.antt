-- For proofs alone: the codes of the program's words and of what all harts share, from the codes of their parts.
use Rattle.std.specs.Prelude.{ℕ, List, Option}
use mathlib.Core.Path.{refl}
use Rattle.std.specs.Coded.{Coded, code_by, coded×, coded_ℕ, coded_list, coded_option}
use Rattle.rv_word.specs.Memory.{Memory, memory_code}
use Rattle.rv_word.specs.Exec.{Prog}
use Rattle.rv_word.specs.Plain.{Words}

abbrev pub prog_code : Coded Prog
prog_code =
    code_by (Memory × (List (Option ℕ) × List ℕ))
    (coded× memory_code (coded× (coded_list (coded_option coded_ℕ)) (coded_list coded_ℕ)))
    (λ p. (p.mem, (p.resv, p.out)))
    (λ t. record { mem = t.0; resv = t.1.0; out = t.1.1 })
    (λ _. refl)

abbrev pub words_code : Coded Words
words_code =
    code_by (ℕ × List ℕ) (coded× coded_ℕ (coded_list coded_ℕ)) (λ w. (w.at, w.words)) (λ t. record { at = t.0; words = t.1 }) (λ _. refl)
