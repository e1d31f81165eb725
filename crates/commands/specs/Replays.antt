-- What is due for a log: the report of a run along its quanta, and the log written anew.
use Rattle.std.specs.Prelude.{◌≡◌, ℕ, List, Option, None, Some, Ok, Err, Result}
use Rattle.command_words.specs.Requests.{ReplayRequest}
use Rattle.pn_types.specs.declared.image.Image.{Image}
use Rattle.quanta_log.specs.Spelling.{spelled}
use Rattle.quanta_log.specs.declared.version.Version.TheVariants.{Two}
use Rattle.refusals.specs.Refusals.{Step, Then}
use Rattle.refusals.specs.declared.fault.Fault.{Fault}
use Rattle.session_spec.specs.Inputs.{Inputs}
use Rattle.session_spec.specs.Opening.{bad_pick}
use Rattle.whole_run.specs.Replayed.{misfit_of}
use Rattle.whole_run.specs.declared.misfit.Misfit.{Misfit}
use Rattle.commands.specs.Output.{output}
use Rattle.commands.specs.Found.{IsFound}
use Rattle.commands.specs.Given.{inputs_with}
use Rattle.commands.specs.Inputs.{AreInputs}
use Rattle.commands.specs.Logs.{misfit_fault, IsLog}
use Rattle.commands.specs.Runs.{IsOpened, report_alone}
use Rattle.commands.specs.FileReadings.{FileReading}
use Rattle.commands.specs.declared.finding.Found.{Found}
use Rattle.commands.specs.declared.inputs.Inputs.{Inputs as Read}
use Rattle.commands.specs.declared.logs.Log.{Log}
use Rattle.commands.specs.declared.texts.Texts.{Texts}

-- the quanta one after another, and then whether they are all
abbrev pub replayed : Option Misfit → Log → Inputs → Result Texts Fault
replayed (Some misfit) log i = Err (misfit_fault log misfit)
replayed None log i = Ok (report_alone i log.quanta)

abbrev pub IsReplayWith : Log → Inputs → Step Texts
IsReplayWith log i = IsOpened (bad_pick i) i (λ texts. texts ≡ replayed (misfit_of i log.quanta) log i)

-- a run along a log's quanta of the image with what was found of it
abbrev pub IsReplay : Log → Image → Found → Step Texts
IsReplay log image found = IsReplayWith log (inputs_with image found log.settings)

-- a run along a log's quanta of a program and a configuration
abbrev pub IsReplayOf : Log → Read → Step Texts
IsReplayOf log i = Then (IsFound i.image log.settings.harts i.conf) (IsReplay log i.image)

-- The program and the configuration are read, and then the log, whose settings, the start among them, are the run's.
abbrev pub IsReplayDue : ReplayRequest → FileReading → Step Texts
IsReplayDue r sees = Then (AreInputs sees r.program r.conf) (λ i. Then (IsLog sees r.log) (λ log. IsReplayOf log i))

-- the log of a name, as it is written now
abbrev pub IsRelogDue : List ℕ → FileReading → Step Texts
IsRelogDue name sees = Then (IsLog sees name) (λ log texts. texts ≡ Ok (output (spelled Two log.settings log.quanta)))
