-- What is left of a run: its report and its log.
use Rattle.std.specs.Prelude.{◌≡◌, ℕ, List}
use Rattle.pn_types.specs.declared.quantum.Quantum.{Quantum}
use Rattle.quanta_log.specs.declared.version.Version.TheVariants.{Two}
use Rattle.quanta_log.specs.Spelling.{spelled}
use Rattle.report.specs.Text.{report_text}
use Rattle.report.specs.declared.parts.ReportParts.{ReportParts}
use Rattle.session_spec.specs.Inputs.{Inputs}
use Rattle.session_spec.specs.Work.{final_state, after_quanta}
use Rattle.session.specs.Parts.{parts_of}
use Rattle.whole_run.specs.declared.recorded.Course.{Course}
use Rattle.whole_run.specs.declared.recorded.Recorded.{Recorded}
use Rattle.whole_run.specs.Seeded.{IsSeeded}

-- the report of a session after these quanta and its end
abbrev pub report_of : Inputs → List Quantum → ℕ → List ℕ
report_of i quanta skipped = report_text (parts_of i (final_state i (after_quanta i quanta))) skipped

-- the bytes of its log
abbrev pub log_of : Inputs → List Quantum → List ℕ
log_of i quanta = spelled Two i.settings quanta

-- The parts of the report of the whole list of quanta in the order of a seed.
pub record AreSeededParts (i : Inputs) (seed turns : ℕ) (p : ReportParts) : Type 0 where
  pub quanta : List Quantum
  pub seeded : IsSeeded i seed turns quanta
  pub parts : p ≡ parts_of i (final_state i (after_quanta i quanta))

-- The report and the log of these quanta.
pub record IsRecordOf (i : Inputs) (quanta : List Quantum) (skipped : ℕ) (r : Recorded) : Type 0 where
  pub report : r.report.items ≡ report_of i quanta skipped
  pub log : r.log.items ≡ log_of i quanta

-- Those of the whole list of quanta in the order of a seed.
pub record IsRecorded (i : Inputs) (c : Course) (r : Recorded) : Type 0 where
  pub quanta : List Quantum
  pub seeded : IsSeeded i c.seed c.turns quanta
  pub record_of : IsRecordOf i quanta c.skipped r
