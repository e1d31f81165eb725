-- The count of faults of a file that the answer names as unread has risen.
use Rattle.std.proofs.Common.{◌≡◌, ℕ, List, length, Option, Some, None, Bool, true, false, cond, Result, Ok, Err, sym, subst}
use Rattle.std.specs.Prelude.{⊤, nat_lt}
use Rattle.elf_write.specs.Made.{elf_of}
use Rattle.advice.specs.Reading.{verdicts_of}
use Rattle.advice.specs.declared.fault.ReportFault.{ReportFault}
use Rattle.advice.specs.declared.fault.ReportFault.TheVariants as report_fault
use Rattle.advice.specs.declared.verdict.Verdict.{Verdict}
use Rattle.directives.specs.Acts.{applied}
use Rattle.directives.specs.declared.fault.DirectiveFault.{DirectiveFault}
use Rattle.mdl_ast.specs.declared.items.Item.{Item}
use Rattle.command_words.specs.Requests.{Request, SessionRequest, ReplayRequest, PlanRequest, StressRequest, DirectRequest, ShowRequest, DiffRequest, AskRequest, run, live, replay, plan, asm, points, relog, stress, blocks, visi, advise, direct, profile, annotate, show, diff, ask, request_of}
use Rattle.elf_form.specs.Meaning.{meaning_of}
use Rattle.elf_form.specs.declared.fault.ElfFault.{ElfFault}
use Rattle.elf_form.specs.declared.limits.TheConstants.{MAX_PROGRAM_LEN}
use Rattle.mdl_ast.specs.declared.items.Conf.{Conf}
use Rattle.mdl_ast.specs.declared.metric.Metric.{Metric}
use Rattle.mdl_shipped.specs.Shipped.{shipped_conf}
use Rattle.mdl_plan.specs.Plans.{plan_of}
use Rattle.mdl_plan.specs.declared.fault.PlanFault.{PlanFault}
use Rattle.mdl_plan.specs.declared.fault.PlanFault.TheVariants as cause
use Rattle.outside.specs.Causes.{Rose}
use Rattle.outside.specs.Outside.{Holding}
use Rattle.pn_types.specs.declared.focus.Focus.{Focus}
use Rattle.pn_types.specs.declared.image.Image.{Image}
use Rattle.pn_types.specs.declared.plan.Plan.{Plan}
use Rattle.pn_types.specs.declared.settings.Settings.{Settings}
use Rattle.quanta_log.specs.Meaning.{meaning_of as log_of}
use Rattle.quanta_log.specs.declared.fault.LogFault.{LogFault}
use Rattle.quanta_log.specs.declared.fault.LogFault.TheVariants as log_fault
use Rattle.pn_types.specs.declared.quantum.Quantum.{Quantum}
use Rattle.refusals.proofs.Steps.{of_either}
use Rattle.refusals.specs.Kinds.{fault_at}
use Rattle.refusals.specs.Refusals.{Step, Then}
use Rattle.refusals.specs.declared.configuration.ConfKind.TheVariants.{TooLong as TooLongConf}
use Rattle.refusals.specs.declared.fault.Fault.{Fault}
use Rattle.refusals.specs.declared.fault.Fault.TheVariants.{Usage, FileFault, BadProgram, BadConf, BadPick, BadLog, TooManyBlocks, BadDirectives, BadReport, BadNewReport, NoProcedure, NoLines, BadLines}
use Rattle.refusals.specs.declared.log.LogCause.TheVariants.{TooLong as TooLongLog}
use Rattle.refusals.specs.declared.program.ProgramFault.TheVariants.{TooLong}
use Rattle.resource_tree.specs.Foci.{canonical}
use Rattle.resource_tree.specs.Resources.{Resources}
use Rattle.rv_asm.specs.Assembly.{assembled}
use Rattle.rv_asm.specs.declared.fault.AsmFault.{AsmFault}
use Rattle.session_spec.specs.Inputs.{Inputs as SessionInputs}
use Rattle.session_spec.specs.Opening.{bad_pick}
use Rattle.session_spec.specs.declared.data.RefusedWish.{RefusedWish}
use Rattle.whole_run.specs.Replayed.{misfit_of}
use Rattle.whole_run.specs.declared.misfit.Misfit.{Misfit}
use Rattle.whole_run.specs.declared.misfit.Misfit.TheVariants as misfit
use Rattle.commands.specs.Given.{inputs_with}
use Rattle.profile_reader.specs.Reading.{profile_in}
use Rattle.profile_reader.specs.declared.profile.ReadProfile.{ReadProfile}
use Rattle.report_diff.specs.Diff.{diff_text}
use Rattle.report_reader.specs.Reading.{report_in}
use Rattle.report_reader.specs.declared.whole_report.Report.{Report}
use Rattle.commands.specs.Asking.{IsAsk, IsAskAt, IsAskDue, IsAskFor, IsAskOf, known, shipped_metrics}
use Rattle.commands.specs.Differing.{IsComparedFile, IsDiffDue, are_alike, begins_profile, compared_file, diff_of, compared_profile, compared_report}
use Rattle.commands.specs.Showing.{report_view_texts, IsShowDue}
use Rattle.commands.specs.Advising.{advice_texts, IsAdviseDue, IsReportContent}
use Rattle.commands.specs.Output.{output}
use Rattle.commands.specs.Blocks.{AreCounted}
use Rattle.commands.specs.Profiles.{AreProfileTexts, IsAnnotation, IsBytesAnnotation}
use Rattle.commands.specs.Directing.{MeansDirectives, AreDirectives, IsConfAfter, IsDirectDue, IsDirection, IsDirectivesContent, IsDirectRun, conf_with, or_bad_directives}
use Rattle.commands.specs.Due.{IsDueFor, IsDue}
use Rattle.commands.specs.Runs.{AreTexts, IsByWorkers, IsInOrder, IsOpened, IsPrepared, IsSession, IsSessionOf, IsStressDue, Order, report_alone, report_and_log, stress_order, stress_session, stress_sight, summary_of, views_of}
use Rattle.commands.specs.Found.{resources_of, IsCheck, IsFound}
use Rattle.commands.specs.Inputs.{begins_elf, or_bad_elf, or_bad_text, image_of, file_of, MeansConf, IsProgramContent, IsProgramOfFile, IsElfFile, IsConfContent, IsConfiguration, AreInputs}
use Rattle.commands.specs.Logs.{or_bad_log, IsLog, IsLogContent, MeansLog}
use Rattle.commands.specs.Replays.{replayed, IsReplay, IsReplayDue, IsReplayOf, IsReplayWith}
use Rattle.commands.specs.Plans.{metric_named, or_unknown, or_bad_focus, IsSelected, IsPlanText, IsPlanAt, IsPlan}
use Rattle.commands.specs.FileReadings.{FileReading, reads, limited, IsContent}
use Rattle.commands.specs.declared.advising.TheConstants.{REPORT_LIMIT}
use Rattle.commands.specs.declared.configuration.TheConstants.{CONFIGURATION_LIMIT}
use Rattle.commands.specs.declared.differing.ComparedFile.{ComparedFile}
use Rattle.commands.specs.declared.directing.TheConstants.{DIRECTIVES_LIMIT}
use Rattle.commands.specs.declared.finding.Found.{Found}
use Rattle.commands.specs.declared.inputs.Inputs.{Inputs}
use Rattle.commands.specs.declared.logs.Log.{Log}
use Rattle.commands.specs.declared.logs.TheConstants.{LOG_LIMIT}
use Rattle.commands.specs.declared.texts.Texts.{Texts}
use Rattle.commands.proofs.Counted.{counted_spared}
use Rattle.commands.proofs.Asked.{ask_at_spared, known_spared}
use Rattle.commands.proofs.Profiled.{annotation_spared, profile_spared}

-- ---- what names no file as unread

abbrev pub NotFile : Fault → Type 0
NotFile Usage = ⊤
NotFile (FileFault name) = ⊥
NotFile (BadProgram fault) = ⊤
NotFile (BadConf fault) = ⊤
NotFile (BadPick metric focus why) = ⊤
NotFile (BadLog place why) = ⊤
NotFile (TooManyBlocks count) = ⊤
NotFile (BadDirectives fault) = ⊤
NotFile (BadReport place) = ⊤
NotFile (BadNewReport place) = ⊤
NotFile (NoProcedure name) = ⊤
NotFile NoLines = ⊤
NotFile (BadLines place) = ⊤

abbrev Spares : {A : Type 0} → Result A Fault → Type 0
Spares (Ok a) = ⊤
Spares (Err fault) = NotFile fault

spared : {A : Type 0} (value : Result A Fault) (name : List ℕ) → Spares value → Err (FileFault name) ≡ value → ⊥
spared {A} value name h e = subst (λ (r : Result A Fault). Spares r) (sym e) h

if_spared : {A : Type 0} (b : Bool) (x y : Result A Fault) → Spares x → Spares y → Spares (cond b x y)
if_spared true x y h g = h
if_spared false x y h g = g

elf_spared : {A : Type 0} (r : Result A ElfFault) → Spares (or_bad_elf r)
elf_spared (Ok a) = tt
elf_spared (Err fault) = tt

text_spared : {A : Type 0} (r : Result A AsmFault) → Spares (or_bad_text r)
text_spared (Ok a) = tt
text_spared (Err fault) = tt

limited_spared : (most : ℕ) (too_long : Fault) (bytes : List ℕ) → NotFile too_long → Spares (limited most too_long bytes)
limited_spared most too_long bytes other = if_spared (nat_lt most (length bytes)) (Err too_long) (Ok bytes) other tt

image_spared : (bytes : List ℕ) → Spares (image_of bytes)
image_spared bytes = if_spared (begins_elf bytes) (or_bad_elf (meaning_of bytes)) (or_bad_text (assembled bytes)) (elf_spared (meaning_of bytes)) (text_spared (assembled bytes))

conf_spared : (text : List ℕ) (name : List ℕ) → MeansConf text (Err (FileFault name)) → ⊥
conf_spared text name (line, col, kind, wrong, e) = cc

check_spared : (t : Resources) (conf : Conf) (name : List ℕ) → IsCheck t conf (Err (FileFault name)) → ⊥
check_spared t conf name (found, answer, e) = cc

metric_spared : (o : Option Metric) (name : List ℕ) → Err (FileFault name) ≡ or_unknown o → ⊥
metric_spared None name e = cc
metric_spared (Some m) name e = cc

focus_spared : (o : Option Focus) (name : List ℕ) → Err (FileFault name) ≡ or_bad_focus o → ⊥
focus_spared None name e = cc
focus_spared (Some m) name e = cc

plan_spared : (metric focus : List ℕ) (due : Result Plan PlanFault) (name : List ℕ) → IsPlanText metric focus due (Err (FileFault name)) → ⊥
plan_spared metric focus (Ok made) name e = cc
plan_spared metric focus (Err (cause.NoConstraint axis)) name e = cc
plan_spared metric focus (Err (cause.TooManySites n)) name e = cc
plan_spared metric focus (Err (cause.TooManyStmts at)) name e = cc

opened_spared : (pick : Option RefusedWish) (i : SessionInputs) (comes : Step Texts) (name : List ℕ) → (comes (Err (FileFault name)) → ⊥) →
    IsOpened pick i comes (Err (FileFault name)) → ⊥
opened_spared None i comes name h e = h e
opened_spared (Some wish) i comes name h e = cc

session_spared : (InOrder : Order) (texts_of : SessionInputs → List Quantum → Texts) (i : SessionInputs) (name : List ℕ) → IsSession InOrder texts_of i (Err (FileFault name)) → ⊥
session_spared InOrder texts_of i name = opened_spared (bad_pick i) i (AreTexts InOrder texts_of i) name (λ (quanta, right, e). cc)

log_spared : (bytes : List ℕ) (r : Result (Settings × List Quantum) LogFault) → Spares (or_bad_log bytes r)
log_spared bytes (Ok log) = tt
log_spared bytes (Err log_fault.BadHead) = tt
log_spared bytes (Err (log_fault.Short n)) = tt
log_spared bytes (Err (log_fault.BadField n)) = tt
log_spared bytes (Err (log_fault.Trailing n)) = tt

replayed_spared : (m : Option Misfit) (log : Log) (i : SessionInputs) → Spares (replayed m log i)
replayed_spared (Some (misfit.NotRunnable number hart)) log i = tt
replayed_spared (Some (misfit.OtherOwns number told owns)) log i = tt
replayed_spared (Some misfit.Unfinished) log i = tt
replayed_spared None log i = tt

replay_spared : (log : Log) (i : SessionInputs) (name : List ℕ) → IsReplayWith log i (Err (FileFault name)) → ⊥
replay_spared log i name =
    opened_spared (bad_pick i) i (λ texts. texts ≡ replayed (misfit_of i log.quanta) log i) name
    (spared (replayed (misfit_of i log.quanta) log i) name (replayed_spared (misfit_of i log.quanta) log i))

advice_spared : (r : Result (List Verdict) ReportFault) → Spares (advice_texts r)
advice_spared (Ok verdicts) = tt
advice_spared (Err (report_fault.BadReport place)) = tt

view_spared : (q : ShowRequest) (r : Result Report ReportFault) → Spares (report_view_texts q r)
view_spared q (Ok report) = tt
view_spared q (Err (report_fault.BadReport place)) = tt

compared_report_spared : (bad : ℕ → Fault) → ((place : ℕ) → NotFile (bad place)) → (r : Result Report ReportFault) → Spares (compared_report bad r)
compared_report_spared bad spare (Ok report) = tt
compared_report_spared bad spare (Err (report_fault.BadReport place)) = spare place

compared_profile_spared : (bad : ℕ → Fault) → ((place : ℕ) → NotFile (bad place)) → (r : Result ReadProfile ReportFault) → Spares (compared_profile bad r)
compared_profile_spared bad spare (Ok p) = tt
compared_profile_spared bad spare (Err (report_fault.BadReport place)) = spare place

compared_spared : (bad : ℕ → Fault) → ((place : ℕ) → NotFile (bad place)) → (bytes : List ℕ) → Spares (compared_file bad bytes)
compared_spared bad spare bytes =
    if_spared (begins_profile bytes) (compared_profile bad (profile_in bytes)) (compared_report bad (report_in bytes))
    (compared_profile_spared bad spare (profile_in bytes)) (compared_report_spared bad spare (report_in bytes))

diff_spared : (old new : ComparedFile) → Spares (diff_of old new)
diff_spared old new = if_spared (are_alike old new) (Ok (output (diff_text old.parts new.parts))) (Err (BadNewReport 0)) tt tt

ask_spared : (q : AskRequest) (image : Image) (found : Found) (name : List ℕ) → IsAsk q image found (Err (FileFault name)) → ⊥
ask_spared q image found name =
    of_either ⊥ (λ names. names ≡ known found.checked.metrics q.metrics) (λ names. Then (IsSelected found.tree q.under) (IsAskAt q image found.tree names)) (FileFault name)
    (known_spared found.checked.metrics q.metrics name)
    (λ names. of_either ⊥ (IsSelected found.tree q.under) (IsAskAt q image found.tree names) (FileFault name) (λ (o, selects, e). focus_spared o name e)
    (λ focus. ask_at_spared q image found.tree names focus name))

directives_spared : (text : List ℕ) (name : List ℕ) → MeansDirectives text (Err (FileFault name)) → ⊥
directives_spared text name (line, col, kind, wrong, e) = cc

directed_spared : (r : Result (List Item) DirectiveFault) → Spares (or_bad_directives r)
directed_spared (Ok items) = tt
directed_spared (Err fault) = tt

conf_with_spared : (r : Result (List Item) Fault) → Spares r → Spares (conf_with r)
conf_with_spared (Ok items) h = tt
conf_with_spared (Err fault) h = h

-- ---- where a file was read

-- P follows from each file that was seen as unread
module _ (name : List ℕ) (P : Type 0) (sees : FileReading) (at_file : (other : List ℕ) → sees other (Err (FileFault name)) → P) where
  at_content : (most : ℕ) (too_long : Fault) (other : List ℕ) → NotFile too_long → IsContent sees most too_long other (Err (FileFault name)) → P
  at_content most too_long other spare =
      of_either P (sees other) (λ bytes content. content ≡ limited most too_long bytes) (FileFault name) (at_file other)
      (λ bytes e. absurd (spared (limited most too_long bytes) name (limited_spared most too_long bytes spare) e))

  at_program : (other : List ℕ) → IsProgramOfFile sees other (Err (FileFault name)) → P
  at_program other =
      of_either P (IsProgramContent sees other) (λ bytes image. image ≡ image_of bytes) (FileFault name) (at_content MAX_PROGRAM_LEN (BadProgram TooLong) other tt)
      (λ bytes e. absurd (spared (image_of bytes) name (image_spared bytes) e))

  at_text : (other : List ℕ) → IsElfFile sees other (Err (FileFault name)) → P
  at_text other =
      of_either P (IsProgramContent sees other) (λ bytes file. file ≡ file_of bytes) (FileFault name) (at_content MAX_PROGRAM_LEN (BadProgram TooLong) other tt)
      (λ bytes e. absurd (spared (file_of bytes) name (text_spared (elf_of bytes)) e))

  at_configuration : (other : List ℕ) → IsConfiguration sees other (Err (FileFault name)) → P
  at_configuration other =
      of_either P (IsConfContent sees other) MeansConf (FileFault name) (at_content CONFIGURATION_LIMIT (BadConf (fault_at 0 0 TooLongConf)) other tt) (λ bytes wrong. absurd (conf_spared bytes name wrong))

  at_inputs : (program conf : List ℕ) → AreInputs sees program conf (Err (FileFault name)) → P
  at_inputs program conf =
      let ended : Image → Conf → Result Inputs Fault → Type 0 = λ image c inputs. inputs ≡ Ok (record { image = image; conf = c }) in
      of_either P (IsProgramOfFile sees program) (λ image. Then (IsConfiguration sees conf) (ended image)) (FileFault name) (at_program program)
      (λ image. of_either P (IsConfiguration sees conf) (ended image) (FileFault name) (at_configuration conf) (λ c e. absurd (cc)))

  at_plan : (p : PlanRequest) (found : Found) → IsPlan p found (Err (FileFault name)) → ⊥
  at_plan p found =
      of_either ⊥ (λ m. m ≡ or_unknown (metric_named found.checked.metrics p.metric)) (λ m. Then (IsSelected found.tree p.focus) (IsPlanAt p.metric found m)) (FileFault name)
      (metric_spared (metric_named found.checked.metrics p.metric) name)
      (λ m. of_either ⊥ (IsSelected found.tree p.focus) (IsPlanAt p.metric found m) (FileFault name) (λ (o, selects, e). focus_spared o name e)
      (λ focus. plan_spared p.metric (canonical found.tree focus) (plan_of found.checked.constraints m focus found.tree found.procs found.points) name))

  abbrev due_texts : Fault → Result Texts Fault
  due_texts fault = Err fault

  no_usage : due_texts (FileFault name) ≡ due_texts Usage → P
  no_usage e = absurd (cc)

  at_prepared : (r : SessionRequest) → IsPrepared r sees (Err (FileFault name)) → P
  at_prepared r =
      let ended : Inputs → Found → Result SessionInputs Fault → Type 0 = λ read found i. i ≡ Ok (inputs_with read.image found r.settings) in
      of_either P (AreInputs sees r.program r.conf) (λ read. Then (IsFound read.image r.settings.harts read.conf) (ended read)) (FileFault name) (at_inputs r.program r.conf)
      (λ read. of_either P (IsFound read.image r.settings.harts read.conf) (ended read) (FileFault name)
      (λ wrong. absurd (check_spared (resources_of read.image r.settings.harts read.conf) read.conf name wrong)) (λ found e. absurd (cc)))

  at_session : (r : SessionRequest) (InOrder : Order) (texts_of : SessionInputs → List Quantum → Texts) → IsSessionOf r sees InOrder texts_of (Err (FileFault name)) → P
  at_session r InOrder texts_of =
      of_either P (IsPrepared r sees) (IsSession InOrder texts_of) (FileFault name) (at_prepared r) (λ i e. absurd (session_spared InOrder texts_of i name e))

stress_spared : (r : StressRequest) (name : List ℕ) → IsStressDue r (Err (FileFault name)) → ⊥
stress_spared r name = at_session name ⊥ (stress_sight r) (λ other e. absurd (cc)) stress_session (IsInOrder (stress_order r)) (summary_of r.procs)

module _ (name : List ℕ) (P : Type 0) (sees : FileReading) (at_file : (other : List ℕ) → sees other (Err (FileFault name)) → P) where
  at_log : (other : List ℕ) → IsLog sees other (Err (FileFault name)) → P
  at_log other =
      of_either P (IsLogContent sees other) MeansLog (FileFault name) (at_content name P sees at_file LOG_LIMIT (BadLog LOG_LIMIT TooLongLog) other tt)
      (λ bytes e. absurd (spared (or_bad_log bytes (log_of bytes)) name (log_spared bytes (log_of bytes)) e))

  at_replay_from : (log : Log) (i : Inputs) → IsReplayOf log i (Err (FileFault name)) → P
  at_replay_from log i =
      of_either P (IsFound i.image log.settings.harts i.conf) (IsReplay log i.image) (FileFault name)
      (λ wrong. absurd (check_spared (resources_of i.image log.settings.harts i.conf) i.conf name wrong))
      (λ found e. absurd (replay_spared log (inputs_with i.image found log.settings) name e))

  at_replay : (r : ReplayRequest) → IsReplayDue r sees (Err (FileFault name)) → P
  at_replay r =
      of_either P (AreInputs sees r.program r.conf) (λ i. Then (IsLog sees r.log) (λ log. IsReplayOf log i)) (FileFault name) (at_inputs name P sees at_file r.program r.conf)
      (λ i. of_either P (IsLog sees r.log) (λ log. IsReplayOf log i) (FileFault name) (at_log r.log) (λ log. at_replay_from log i))

  at_advice : (other : List ℕ) → IsAdviseDue other sees (Err (FileFault name)) → P
  at_advice other =
      of_either P (IsReportContent sees other) (λ bytes texts. texts ≡ advice_texts (verdicts_of bytes)) (FileFault name) (at_content name P sees at_file REPORT_LIMIT (BadReport REPORT_LIMIT) other tt)
      (λ bytes e. absurd (spared (advice_texts (verdicts_of bytes)) name (advice_spared (verdicts_of bytes)) e))

  at_view : (q : ShowRequest) → IsShowDue q sees (Err (FileFault name)) → P
  at_view q =
      of_either P (IsReportContent sees q.report) (λ bytes texts. texts ≡ report_view_texts q (report_in bytes)) (FileFault name) (at_content name P sees at_file REPORT_LIMIT (BadReport REPORT_LIMIT) q.report tt)
      (λ bytes e. absurd (spared (report_view_texts q (report_in bytes)) name (view_spared q (report_in bytes)) e))

  at_compared : (bad : ℕ → Fault) → ((place : ℕ) → NotFile (bad place)) → (other : List ℕ) → IsComparedFile bad sees other (Err (FileFault name)) → P
  at_compared bad spare other =
      of_either P (IsContent sees REPORT_LIMIT (bad REPORT_LIMIT) other) (λ bytes compared. compared ≡ compared_file bad bytes) (FileFault name)
      (at_content name P sees at_file REPORT_LIMIT (bad REPORT_LIMIT) other (spare REPORT_LIMIT))
      (λ bytes e. absurd (spared (compared_file bad bytes) name (compared_spared bad spare bytes) e))

  at_diff : (q : DiffRequest) → IsDiffDue q sees (Err (FileFault name)) → P
  at_diff q =
      let ended : ComparedFile → ComparedFile → Result Texts Fault → Type 0 = λ old new texts. texts ≡ diff_of old new in
      of_either P (IsComparedFile BadReport sees q.old) (λ old. Then (IsComparedFile BadNewReport sees q.new) (ended old)) (FileFault name)
      (at_compared BadReport (λ place. tt) q.old)
      (λ old. of_either P (IsComparedFile BadNewReport sees q.new) (ended old) (FileFault name) (at_compared BadNewReport (λ place. tt) q.new)
      (λ new e. absurd (spared (diff_of old new) name (diff_spared old new) e)))

  at_ask : (q : AskRequest) → IsAskDue q sees (Err (FileFault name)) → P
  at_ask q =
      of_either P (IsProgramOfFile sees q.counted.program) (IsAskOf q) (FileFault name) (at_program name P sees at_file q.counted.program)
      (λ image. of_either P (MeansConf shipped_metrics) (IsAskFor q image) (FileFault name) (λ wrong. absurd (conf_spared shipped_metrics name wrong))
      (λ conf. of_either P (IsFound image q.counted.harts conf) (IsAsk q image) (FileFault name)
      (λ wrong. absurd (check_spared (resources_of image q.counted.harts conf) conf name wrong)) (λ found e. absurd (ask_spared q image found name e))))

  at_directives : (other : List ℕ) → AreDirectives sees other (Err (FileFault name)) → P
  at_directives other =
      of_either P (IsDirectivesContent sees other) MeansDirectives (FileFault name)
      (at_content name P sees at_file DIRECTIVES_LIMIT (BadDirectives (fault_at 0 0 TooLongConf)) other tt) (λ bytes wrong. absurd (directives_spared bytes name wrong))

  at_direct_run : (r : DirectRequest) (image : Image) (conf : Conf) → IsDirectRun r image conf (Err (FileFault name)) → P
  at_direct_run r image conf =
      of_either P (IsFound image r.session.settings.harts conf) (λ found. IsSession (IsInOrder r.order) report_alone (inputs_with image found r.session.settings)) (FileFault name)
      (λ wrong. absurd (check_spared (resources_of image r.session.settings.harts conf) conf name wrong))
      (λ found e. absurd (session_spared (IsInOrder r.order) report_alone (inputs_with image found r.session.settings) name e))

  at_direction : (r : DirectRequest) (i : Inputs) → IsDirection r sees i (Err (FileFault name)) → P
  at_direction r i =
      of_either P (AreDirectives sees r.directives) (λ directives. Then (IsConfAfter i.conf directives) (IsDirectRun r i.image)) (FileFault name) (at_directives r.directives)
      (λ directives. let made = applied shipped_conf.items i.conf.items directives in
      of_either P (IsConfAfter i.conf directives) (IsDirectRun r i.image) (FileFault name)
      (λ e. absurd (spared (conf_with (or_bad_directives made)) name (conf_with_spared (or_bad_directives made) (directed_spared made)) e)) (at_direct_run r i.image))

  at_direct : (r : DirectRequest) → IsDirectDue r sees (Err (FileFault name)) → P
  at_direct r =
      let harts = r.session.settings.harts in
      of_either P (AreInputs sees r.session.program r.session.conf) (λ i. Then (IsFound i.image harts i.conf) (λ found. IsDirection r sees i)) (FileFault name)
      (at_inputs name P sees at_file r.session.program r.session.conf)
      (λ i. of_either P (IsFound i.image harts i.conf) (λ found. IsDirection r sees i) (FileFault name)
      (λ wrong. absurd (check_spared (resources_of i.image harts i.conf) i.conf name wrong)) (λ found. at_direction r i))

  at_request : (asked : Option Request) → IsDueFor asked sees (Err (FileFault name)) → P
  at_request None = no_usage name P sees at_file
  at_request (Some (run r)) = at_session name P sees at_file r.session (IsInOrder r.order) report_and_log
  at_request (Some (live r)) = at_session name P sees at_file r.session (IsByWorkers r.workers r.quantum) report_and_log
  at_request (Some (replay r)) = at_replay r
  at_request (Some (plan p)) =
      of_either P (AreInputs sees p.program p.conf) (λ i. Then (IsFound i.image p.harts i.conf) (IsPlan p)) (FileFault name) (at_inputs name P sees at_file p.program p.conf)
      (λ i. of_either P (IsFound i.image p.harts i.conf) (IsPlan p) (FileFault name)
      (λ wrong. absurd (check_spared (resources_of i.image p.harts i.conf) i.conf name wrong)) (λ found e. absurd (at_plan name P sees at_file p found e)))
  at_request (Some (points other)) = of_either P (IsProgramOfFile sees other) _ (FileFault name) (at_program name P sees at_file other) (λ image e. absurd (cc))
  at_request (Some (asm other)) = of_either P (IsElfFile sees other) (λ file texts. texts ≡ Ok (output file)) (FileFault name) (at_text name P sees at_file other) (λ file e. absurd (cc))
  at_request (Some (relog other)) = of_either P (IsLog sees other) _ (FileFault name) (at_log other) (λ log e. absurd (cc))
  at_request (Some (stress r)) = λ e. absurd (stress_spared r name e)
  at_request (Some (visi r)) = at_session name P sees at_file r.session (IsInOrder r.order) (views_of r.views)
  at_request (Some (advise other)) = at_advice other
  at_request (Some (show q)) = at_view q
  at_request (Some (diff q)) = at_diff q
  at_request (Some (ask q)) = at_ask q
  at_request (Some (direct r)) = at_direct r
  at_request (Some (blocks r)) =
      of_either P (IsProgramOfFile sees r.program) (AreCounted r) (FileFault name) (at_program name P sees at_file r.program) (λ image e. absurd (counted_spared r image name e))
  at_request (Some (profile r)) =
      of_either P (IsProgramOfFile sees r.source.counted.program) (AreProfileTexts r) (FileFault name) (at_program name P sees at_file r.source.counted.program) (λ image e. absurd (profile_spared r image name e))
  at_request (Some (annotate r)) =
      of_either P (IsProgramContent sees r.source.counted.program) (IsBytesAnnotation r) (FileFault name) (at_content name P sees at_file MAX_PROGRAM_LEN (BadProgram TooLong) r.source.counted.program tt)
      (λ bytes. of_either P (λ image. image ≡ image_of bytes) (IsAnnotation r bytes) (FileFault name) (λ e. absurd (spared (image_of bytes) name (image_spared bytes) e)) (λ image e. absurd (annotation_spared r bytes image name e)))

  at_words : (words : List (List ℕ)) → IsDue words sees (Err (FileFault name)) → P
  at_words words = at_request (request_of words)

pub rises : (holds : List ℕ → Holding) (before now : List ℕ → ℕ) (name : List ℕ) (words : List (List ℕ)) → IsDue words (reads holds before now) (Err (FileFault name)) → Rose (before name) (now name)
rises holds before now name words = at_words name (Rose (before name) (now name)) (reads holds before now) at words
  where
    at : (other : List ℕ) → reads holds before now other (Err (FileFault name)) → Rose (before name) (now name)
    at other h =
        let e = h.0 in
        let same : other ≡ name = cc in
        subst (λ (x : List ℕ). Rose (before x) (now x)) same h.1
