-- For proofs alone: the code of a machine's value, from the codes of its parts.
use Rattle.std.specs.Prelude.{ℕ, List, Option}
use mathlib.Core.Path.{refl}
use Rattle.std.specs.Coded.{Coded, code_by, coded×, coded_ℕ, coded_list, coded_option}
use Rattle.rv_word.specs.declared.outcome.Cause.{Cause}
use Rattle.rv_word.specs.contracts.outcome.Cause as cause_type
use Rattle.rv_word.specs.Exec.{Prog}
use Rattle.rv_word.specs.Plain.{Words, PlainHart, Plain}
use Rattle.rv_exec.specs.Codes.{prog_code, words_code}
use Rattle.plain_run.specs.Machines.{Machine}

abbrev pub hart_code : Coded PlainHart
hart_code =
    code_by (ℕ × (List ℕ × (ℕ × Option Cause)))
    (coded× coded_ℕ (coded× (coded_list coded_ℕ) (coded× coded_ℕ (coded_option cause_type.the_row.coded))))
    (λ h. (h.pc, (h.regs, (h.ticks, h.stop))))
    (λ t. record { pc = t.0; regs = t.1.0; ticks = t.1.1.0; stop = t.1.1.1 })
    (λ _. refl)

abbrev pub plain_code : Coded Plain
plain_code =
    code_by (List PlainHart × Prog)
    (coded× (coded_list hart_code) prog_code)
    (λ s. (s.harts, s.prog))
    (λ t. record { harts = t.0; prog = t.1 })
    (λ _. refl)

abbrev pub machine_code : Coded Machine
machine_code =
    code_by (Words × (ℕ × Plain))
    (coded× words_code (coded× coded_ℕ plain_code))
    (λ m. (m.program, (m.budget, m.state)))
    (λ t. record { program = t.0; budget = t.1.0; state = t.1.1 })
    (λ _. refl)
