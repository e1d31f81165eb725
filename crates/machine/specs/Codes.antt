-- For proofs alone: the code of a machine's value, from the codes of its parts.
use Rattle.std.specs.Prelude.{ℕ, zero, suc, ◌≡◌, List, Option, Bool}
use mathlib.Core.Path.{refl}
use Rattle.std.specs.Coded.{Coded, code_by, coded×, coded_ℕ, coded_bool, coded_list, coded_option}
use Rattle.std.specs.FinMap.{code}
use Rattle.rv_word.specs.declared.outcome.Cause.{Cause}
use Rattle.rv_word.specs.contracts.outcome.Cause as cause_type
use Rattle.rv_word.specs.Exec.{Prog}
use Rattle.rv_word.specs.Plain.{Words}
use Rattle.rv_exec.specs.Codes.{prog_code, words_code}
use Rattle.tramp_spec.specs.Codes.{Code}
use Rattle.tramp_spec.specs.Harts.{Hart}
use Rattle.tramp_spec.specs.contracts.mark.MarkedWord as marked_word
use Rattle.machine.specs.Cores.{Status, Written, Live, Retired, Row, Core}
use Rattle.machine.specs.States.{Machine}

abbrev pub hart_code : Coded Hart
hart_code =
    code_by (ℕ × (List ℕ × (ℕ × (Option Cause × (Bool × List ℕ)))))
    (coded× coded_ℕ (coded× (coded_list coded_ℕ) (coded× coded_ℕ
    (coded× (coded_option cause_type.the_row.coded) (coded× coded_bool (coded_list coded_ℕ))))))
    (λ h. (h.pc, (h.regs, (h.ticks, (h.stop, (h.inside, h.bank))))))
    (λ t. record { pc = t.0; regs = t.1.0; ticks = t.1.1.0; stop = t.1.1.1.0; inside = t.1.1.1.1.0; bank = t.1.1.1.1.1 })
    (λ _. refl)

-- a status as a number
abbrev pub status_number : Status → ℕ
status_number Written = 0
status_number Live = 1
status_number Retired = 2

abbrev pub status_at : ℕ → Status
status_at zero = Written
status_at (suc zero) = Live
status_at (suc (suc n)) = Retired

pub status_again : (s : Status) → status_at (status_number s) ≡ s
status_again Written = refl
status_again Live = refl
status_again Retired = refl

abbrev pub status_code : Coded Status
status_code = code_by ℕ coded_ℕ status_number status_at status_again

abbrev pub row_code : Coded Row
row_code =
    code_by (ℕ × (ℕ × (ℕ × (Bool × Status))))
    (coded× coded_ℕ (coded× coded_ℕ (coded× coded_ℕ (coded× coded_bool status_code))))
    (λ r. (r.point, (r.at, (r.len, (r.base, r.status)))))
    (λ t. record { point = t.0; at = t.1.0; len = t.1.1.0; base = t.1.1.1.0; status = t.1.1.1.1 })
    (λ _. refl)

abbrev pub core_code : Coded Core
core_code =
    code_by (Words × (ℕ × (List Hart × (Prog × (Code × List Row)))))
    (coded× words_code (coded× coded_ℕ (coded× (coded_list hart_code) (coded× prog_code
    (coded× (code coded_ℕ marked_word.the_row.coded) (coded_list row_code))))))
    (λ c. (c.program, (c.budget, (c.harts, (c.prog, (c.code, c.rows))))))
    (λ t. record { program = t.0; budget = t.1.0; harts = t.1.1.0; prog = t.1.1.1.0; code = t.1.1.1.1.0; rows = t.1.1.1.1.1 })
    (λ _. refl)

abbrev pub machine_code : Coded Machine
machine_code = code_by (Core × ℕ) (coded× core_code coded_ℕ) (λ m. (m.core, m.room)) (λ t. record { core = t.0; room = t.1 }) (λ _. refl)
