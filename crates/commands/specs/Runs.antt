-- What is due for the commands that run a program under a configuration: `run`, `live`, `visi` and `stress`.
use Rattle.std.specs.Prelude.{◌≡◌, ℕ, if◌then◌else◌, List, replicate, Option, None, Some, Ok, Err, codes}
use Rattle.std.specs.Str.{bytes_eq}
use Rattle.code_points.specs.Procedures.{skipped_of}
use Rattle.command_words.specs.Requests.{SessionRequest, RunRequest, LiveRequest, VisiRequest, StressRequest}
use Rattle.command_words.specs.declared.requests.TurnOrder.{TurnOrder}
use Rattle.live_run.specs.ByWorkers.{IsShared}
use Rattle.pn_types.specs.declared.settings.Start.TheVariants.{Warm}
use Rattle.pn_types.specs.declared.quantum.Quantum.{Quantum}
use Rattle.refusals.specs.Refusals.{Step, Then}
use Rattle.session.specs.Parts.{parts_of}
use Rattle.session_spec.specs.Inputs.{Inputs}
use Rattle.session_spec.specs.Opening.{bad_pick}
use Rattle.session_spec.specs.Work.{final_state, after_quanta}
use Rattle.session_spec.specs.declared.data.RefusedWish.{RefusedWish}
use Rattle.stress_run.specs.Configuration.{configuration_text}
use Rattle.stress_run.specs.Program.{program_text}
use Rattle.stress_run.specs.Summary.{summary_text}
use Rattle.visi_run.specs.Texts.{visi_text}
use Rattle.visi_run.specs.Feed.{feed_of}
use Rattle.visi_run.specs.Viewed.{shown_of}
use Rattle.whole_run.specs.Recorded.{log_of, report_of}
use Rattle.whole_run.specs.Seeded.{IsSeeded}
use Rattle.commands.specs.Output.{output}
use Rattle.commands.specs.Found.{IsFound}
use Rattle.commands.specs.Given.{inputs_with, pick_fault}
use Rattle.commands.specs.Inputs.{AreInputs}
use Rattle.commands.specs.FileReadings.{FileReading}
use Rattle.commands.specs.declared.texts.Texts.{Texts}

-- A program and a configuration, as a session is given them.
abbrev pub IsPrepared : SessionRequest → FileReading → Step Inputs
IsPrepared r sees =
    Then (AreInputs sees r.program r.conf) (λ read.
    Then (IsFound read.image r.settings.harts read.conf) (λ found i. i ≡ Ok (inputs_with read.image found r.settings)))

-- ---- a whole run

-- What comes of a session that opened; or the first wish at tick 0 that is refused, and then it doesn't open.
abbrev pub IsOpened : Option RefusedWish → Inputs → Step Texts → Step Texts
IsOpened None i comes texts = comes texts
IsOpened (Some wish) i comes texts = texts ≡ Err (pick_fault i wish)

-- the lists of quanta in an order
abbrev pub Order : Type 1
Order = Inputs → List Quantum → Type 0

-- the order that is drawn from a seed
abbrev pub IsInOrder : TurnOrder → Order
IsInOrder order i quanta = IsSeeded i order.seed order.quantum quanta

-- the order in which a number of workers took quanta with a limit of their turns
abbrev pub IsByWorkers : ℕ → ℕ → Order
IsByWorkers workers turns i quanta = IsShared i workers turns quanta

-- the texts of a whole list of quanta in the order
abbrev pub AreTexts : Order → (Inputs → List Quantum → Texts) → Inputs → Step Texts
AreTexts InOrder texts_of i texts = (quanta : List Quantum) × InOrder i quanta × (texts ≡ Ok (texts_of i quanta))

-- a session in the order, from its opening to the end of the run
abbrev pub IsSession : Order → (Inputs → List Quantum → Texts) → Inputs → Step Texts
IsSession InOrder texts_of i = IsOpened (bad_pick i) i (AreTexts InOrder texts_of i)

-- the session that is asked for
abbrev pub IsSessionOf : SessionRequest → FileReading → Order → (Inputs → List Quantum → Texts) → Step Texts
IsSessionOf r sees InOrder texts_of = Then (IsPrepared r sees) (IsSession InOrder texts_of)

-- the report of these quanta, and nothing for the log
abbrev pub report_alone : Inputs → List Quantum → Texts
report_alone i quanta = output (report_of i quanta (skipped_of i.image))

-- ---- run and live

-- the report of these quanta, and their log
abbrev pub report_and_log : Inputs → List Quantum → Texts
report_and_log i quanta = record { out = report_of i quanta (skipped_of i.image); log = log_of i quanta }

abbrev pub IsRunDue : RunRequest → FileReading → Step Texts
IsRunDue r sees = IsSessionOf r.session sees (IsInOrder r.order) report_and_log

abbrev pub IsLiveDue : LiveRequest → FileReading → Step Texts
IsLiveDue r sees = IsSessionOf r.session sees (IsByWorkers r.workers r.quantum) report_and_log

-- ---- visi

-- what each of a number of views is given of these quanta
abbrev pub views_of : ℕ → Inputs → List Quantum → Texts
views_of views i quanta = output (visi_text (shown_of i quanta) (replicate views (feed_of i quanta)))

abbrev pub IsVisiDue : VisiRequest → FileReading → Step Texts
IsVisiDue r sees = IsSessionOf r.session sees (IsInOrder r.order) (views_of r.views)

-- ---- stress

-- two files that are made; two harts, and the defaults of the other options
abbrev pub stress_session : SessionRequest
stress_session = record {
  program = codes "program";
  conf = codes "configuration";
  settings = record { harts = 2; budget = 1000000; bins = 64; width = 1000; start = Warm; instruments = 64 };
}

-- what the two files have
abbrev pub stress_sight : StressRequest → FileReading
stress_sight r name content =
    content ≡ Ok (if bytes_eq name (codes "program") then program_text r.procs r.seed else configuration_text r.procs)

-- quanta of at most 50 turns in the order of the program's own seed
abbrev pub stress_order : StressRequest → TurnOrder
stress_order r = record { seed = r.seed; quantum = 50 }

-- the line that sums up a run of these quanta
abbrev pub summary_of : ℕ → Inputs → List Quantum → Texts
summary_of procs i quanta = output (summary_text procs (parts_of i (final_state i (after_quanta i quanta))))

abbrev pub IsStressDue : StressRequest → Step Texts
IsStressDue r = IsSessionOf stress_session (stress_sight r) (IsInOrder (stress_order r)) (summary_of r.procs)
