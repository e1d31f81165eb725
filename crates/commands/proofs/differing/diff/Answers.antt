use Rattle.std.proofs.Common.{◌≡◌, ℕ, List, Result, Ok, Err}
use Rattle.command_words.specs.Asked.{asked_diff}
use Rattle.refusals.proofs.Steps.{comes_then, handed_on}
use Rattle.refusals.specs.Refusals.{Step, Then}
use Rattle.refusals.specs.declared.fault.Fault.{Fault}
use Rattle.refusals.specs.declared.fault.Fault.TheVariants.{BadReport, BadNewReport}
use Rattle.commands.proofs.FileReadingSteps.{compared_again, compared_from, refuses_as, seen_from}
use Rattle.commands.specs.Differing.{IsComparedFile, diff_of}
use Rattle.commands.specs.FileReadings.{FileReading, reads}
use Rattle.commands.specs.declared.differing.ComparedFile.{ComparedFile}
use Rattle.commands.specs.declared.texts.Texts.{Texts}
use Rattle.commands.proofs.differing.diff.Goals as goal

-- what differs between two reports
abbrev ended : ComparedFile → ComparedFile → Step Texts
ended old new texts = texts ≡ diff_of old new

pub returns-in_err-new-clause-due : goal.returns-in_err-new-clause-due
returns-in_err-new-clause-due g c =
    let holds = g.F.Files.holds in
    let faults = g.F.Files.faults in
    let q = asked_diff c.args.request.now in
    let old = c.args.files.now in
    let mid = c.read_side.new.files in
    let new = c.read_side-2.new.files in
    let sees : FileReading = reads (holds old) (faults old) (faults new) in
    let later : FileReading = reads (holds mid) (faults mid) (faults new) in
    let before = compared_again BadReport (holds old) (faults old) (faults mid) (faults new) q.old c.in_ok-old.old c.in_ok-old.ensures.compared in
    let more : (x : Result (List ℕ) Fault) → later q.new x → sees q.new x = seen_from (holds old) (holds mid) (faults old) (faults mid) (faults new) q.new (c.in_ok-old.ensures.looks.same q.new) (c.in_ok-old.ensures.looks.counts q.new) in
    let why = refuses_as (λ fault. IsComparedFile BadNewReport later q.new (Err fault)) (λ fault. IsComparedFile BadNewReport sees q.new (Err fault)) c.in_err-new.field-0.0 (λ fault. compared_from BadNewReport later sees q.new more (Err fault)) c.in_err-new.ensures.compared in
    comes_then (IsComparedFile BadReport sees q.old) (λ old. Then (IsComparedFile BadNewReport sees q.new) (ended old)) c.in_ok-old.old c.from_residual-in_err-new.result before
    (handed_on (IsComparedFile BadNewReport sees q.new) (ended c.in_ok-old.old) c.in_err-new.field-0.0 c.from_residual-in_err-new.result c.from_residual-in_err-new.ensures why)

pub returns-clause-due : goal.returns-clause-due
returns-clause-due g c =
    let holds = g.F.Files.holds in
    let faults = g.F.Files.faults in
    let q = asked_diff c.args.request.now in
    let old = c.args.files.now in
    let mid = c.read_side.new.files in
    let new = c.read_side-2.new.files in
    let sees : FileReading = reads (holds old) (faults old) (faults new) in
    let later : FileReading = reads (holds mid) (faults mid) (faults new) in
    let before = compared_again BadReport (holds old) (faults old) (faults mid) (faults new) q.old c.in_ok-old.old c.in_ok-old.ensures.compared in
    let more : (x : Result (List ℕ) Fault) → later q.new x → sees q.new x = seen_from (holds old) (holds mid) (faults old) (faults mid) (faults new) q.new (c.in_ok-old.ensures.looks.same q.new) (c.in_ok-old.ensures.looks.counts q.new) in
    let after = compared_from BadNewReport later sees q.new more (Ok c.in_ok-new.new) c.in_ok-new.ensures.compared in
    comes_then (IsComparedFile BadReport sees q.old) (λ old. Then (IsComparedFile BadNewReport sees q.new) (ended old)) c.in_ok-old.old c.diff_of.result before
    (comes_then (IsComparedFile BadNewReport sees q.new) (ended c.in_ok-old.old) c.in_ok-new.new c.diff_of.result after c.diff_of.ensures)
