-- What the bytes of a log's file stand for, and what is wrong with quanta that are no whole run.
use Rattle.std.specs.Prelude.{◌≡◌, ℕ, if◌then◌else◌, List, length, Result, Ok, Err}
use Rattle.pn_types.specs.declared.settings.Settings.{Settings}
use Rattle.quanta_log.specs.Fields.{log_len}
use Rattle.quanta_log.specs.Meaning.{begins_as, meaning_of}
use Rattle.quanta_log.specs.declared.fault.LogFault.{LogFault}
use Rattle.pn_types.specs.declared.quantum.Quantum.{Quantum}
use Rattle.quanta_log.specs.declared.version.Version.{Version}
use Rattle.quanta_log.specs.declared.version.Version.TheVariants.{One, Two}
use Rattle.refusals.specs.Logs.{log_fault_at}
use Rattle.refusals.specs.Refusals.{Step, Then}
use Rattle.refusals.specs.declared.fault.Fault.{Fault}
use Rattle.refusals.specs.declared.fault.Fault.TheVariants.{BadLog}
use Rattle.refusals.specs.declared.log.LogCause.TheVariants.{NotRunnable, OtherOwns, TooLong, Unfinished}
use Rattle.whole_run.specs.declared.misfit.Misfit.{Misfit}
use Rattle.whole_run.specs.declared.misfit.Misfit.TheVariants as misfit
use Rattle.commands.specs.FileReadings.{FileReading, IsContent}
use Rattle.commands.specs.declared.logs.Log.{Log}

-- the version of a log's bytes
abbrev pub version_in : List ℕ → Version
version_in bytes = if begins_as Two bytes then Two else One

-- the settings and quanta of bytes, with their version
abbrev pub log_with : List ℕ → Settings × List Quantum → Log
log_with bytes log = record { settings = log.0; quanta = log.1; version = version_in bytes }

abbrev pub or_bad_log : List ℕ → Result (Settings × List Quantum) LogFault → Result Log Fault
or_bad_log bytes (Ok log) = Ok (log_with bytes log)
or_bad_log bytes (Err fault) = Err (log_fault_at fault)

-- the log that bytes are, or their first fault
abbrev pub MeansLog : List ℕ → Step Log
MeansLog bytes log = log ≡ or_bad_log bytes (meaning_of bytes)

-- what a log's file has, at most 268,435,496 bytes
abbrev pub IsLogContent : FileReading → List ℕ → Step (List ℕ)
IsLogContent sees = IsContent sees 268435496 (BadLog 268435496 TooLong)

-- the log of a name
abbrev pub IsLog : FileReading → List ℕ → Step Log
IsLog sees name = Then (IsLogContent sees name) MeansLog

-- Why a log's quanta are no whole run. The entry of a number begins after that many others; where they end too early, that is at
-- the log's end.
abbrev pub misfit_fault : Log → Misfit → Fault
misfit_fault log (misfit.NotRunnable number hart) = BadLog (log_len log.version number) (NotRunnable hart)
misfit_fault log (misfit.OtherOwns number told owns) = BadLog (log_len log.version number) (OtherOwns told owns)
misfit_fault log misfit.Unfinished = BadLog (log_len log.version (length log.quanta)) Unfinished
