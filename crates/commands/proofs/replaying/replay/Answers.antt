use Rattle.std.proofs.Common.{ℕ, List, Result, Ok, Err}
use Rattle.command_words.specs.Asked.{asked_replay}
use Rattle.refusals.proofs.Steps.{comes_then, handed_on}
use Rattle.refusals.specs.Refusals.{Step, Then}
use Rattle.refusals.specs.declared.fault.Fault.{Fault}
use Rattle.commands.proofs.FileReadingSteps.{inputs_again, log_from, refuses_as, seen_from}
use Rattle.commands.specs.Inputs.{AreInputs}
use Rattle.commands.specs.Logs.{IsLog}
use Rattle.commands.specs.Replays.{IsReplayOf}
use Rattle.commands.specs.FileReadings.{FileReading, reads}
use Rattle.commands.specs.declared.inputs.Inputs.{Inputs}
use Rattle.commands.specs.declared.logs.Log.{Log}
use Rattle.commands.specs.declared.texts.Texts.{Texts}
use Rattle.commands.proofs.replaying.replay.Goals as goal

-- what is due of a log
abbrev ended : Inputs → Log → Step Texts
ended i log = IsReplayOf log i

pub returns-in_err-log-clause-due : goal.returns-in_err-log-clause-due
returns-in_err-log-clause-due g c =
    let holds = g.F.Files.holds in
    let faults = g.F.Files.faults in
    let r = asked_replay c.args.request.now in
    let old = c.args.files.now in
    let mid = c.read_inputs.new.files in
    let new = c.read_log.new.files in
    let sees : FileReading = reads (holds old) (faults old) (faults new) in
    let later : FileReading = reads (holds mid) (faults mid) (faults new) in
    let i = c.in_ok-inputs.inputs in
    let inputs = inputs_again (holds old) (faults old) (faults mid) (faults new) r.program r.conf i c.in_ok-inputs.ensures.inputs in
    let more : (x : Result (List ℕ) Fault) → later r.log x → sees r.log x = seen_from (holds old) (holds mid) (faults old) (faults mid) (faults new) r.log (c.in_ok-inputs.ensures.looks.same r.log) (c.in_ok-inputs.ensures.looks.counts r.log) in
    let why = refuses_as (λ fault. IsLog later r.log (Err fault)) (λ fault. IsLog sees r.log (Err fault)) c.in_err-log.field-0.0 (λ fault. log_from later sees r.log more (Err fault)) c.in_err-log.ensures.log in
    comes_then (AreInputs sees r.program r.conf) (λ i. Then (IsLog sees r.log) (ended i)) i c.from_residual-in_err-log.result inputs
    (handed_on (IsLog sees r.log) (ended i) c.in_err-log.field-0.0 c.from_residual-in_err-log.result c.from_residual-in_err-log.ensures why)

pub returns-clause-due : goal.returns-clause-due
returns-clause-due g c =
    let holds = g.F.Files.holds in
    let faults = g.F.Files.faults in
    let r = asked_replay c.args.request.now in
    let old = c.args.files.now in
    let mid = c.read_inputs.new.files in
    let new = c.read_log.new.files in
    let sees : FileReading = reads (holds old) (faults old) (faults new) in
    let later : FileReading = reads (holds mid) (faults mid) (faults new) in
    let i = c.in_ok-inputs.inputs in
    let inputs = inputs_again (holds old) (faults old) (faults mid) (faults new) r.program r.conf i c.in_ok-inputs.ensures.inputs in
    let more : (x : Result (List ℕ) Fault) → later r.log x → sees r.log x = seen_from (holds old) (holds mid) (faults old) (faults mid) (faults new) r.log (c.in_ok-inputs.ensures.looks.same r.log) (c.in_ok-inputs.ensures.looks.counts r.log) in
    let log = log_from later sees r.log more (Ok c.in_ok-log.log) c.in_ok-log.ensures.log in
    comes_then (AreInputs sees r.program r.conf) (λ i. Then (IsLog sees r.log) (ended i)) i c.replay_log.result inputs
    (comes_then (IsLog sees r.log) (ended i) c.in_ok-log.log c.replay_log.result log c.replay_log.ensures)
