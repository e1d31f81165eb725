-- What is due is unique where each file was seen as one thing.
use Rattle.std.proofs.Common.{◌≡◌, ℕ, Bool, true, false, List, Option, Some, None, Result, Ok, Err, refl, sym, ap, ◌∙◌}
use Rattle.command_words.specs.Requests.{Request, SessionRequest, LiveRequest, ReplayRequest, PlanRequest, DirectRequest, ShowRequest, DiffRequest, AskRequest, run, live, replay, plan, asm, points, relog, stress, blocks, visi, advise, direct, profile, annotate, show, diff, ask, request_of}
use Rattle.command_words.specs.declared.requests.TurnOrder.{TurnOrder}
use Rattle.advice.specs.Reading.{verdicts_of}
use Rattle.directives.specs.Acts.{applied}
use Rattle.directives.specs.Meaning.{OneDirectives, OneFault as OneDirectivesFault, DirectivesOrFault}
use Rattle.directives.specs.declared.directive.Directive.{Directive}
use Rattle.directives.specs.declared.fault.DirectiveKind.{DirectiveKind}
use Rattle.elf_form.specs.declared.limits.TheConstants.{MAX_PROGRAM_LEN}
use Rattle.mdl_ast.specs.declared.items.Conf.{Conf}
use Rattle.mdl_check.specs.Checking.{OneAnswer}
use Rattle.mdl_check.specs.declared.checked.Checked.{Checked}
use Rattle.mdl_check.specs.declared.fault.CheckFault.{CheckFault}
use Rattle.mdl_parse.specs.Meaning.{OneConf, OneFault, ConfOrFault}
use Rattle.mdl_shipped.specs.Shipped.{shipped_conf}
use Rattle.mdl_parse.specs.declared.fault.SyntaxKind.{SyntaxKind}
use Rattle.mdl_plan.specs.Plans.{plan_of}
use Rattle.mdl_plan.specs.declared.fault.PlanFault.{PlanFault}
use Rattle.mdl_plan.specs.declared.fault.PlanFault.TheVariants as cause
use Rattle.pn_types.specs.declared.code.Proc.{Proc}
use Rattle.pn_types.specs.declared.image.Image.{Image}
use Rattle.pn_types.specs.declared.plan.Plan.{Plan}
use Rattle.pn_types.specs.declared.code.Point.{Point}
use Rattle.quanta_log.specs.Meaning.{meaning_of}
use Rattle.pn_types.specs.declared.quantum.Quantum.{Quantum}
use Rattle.refusals.proofs.Steps.{IsOne, one_then, related_then}
use Rattle.refusals.specs.Kinds.{fault_at, syntax_kind, check_kind, directive_kind}
use Rattle.refusals.specs.Refusals.{Step, Then}
use Rattle.refusals.specs.declared.configuration.ConfKind.TheVariants.{TooLong as TooLongConf}
use Rattle.refusals.specs.declared.log.LogCause.TheVariants.{TooLong as TooLongLog}
use Rattle.refusals.specs.declared.program.ProgramFault.TheVariants.{TooLong}
use Rattle.refusals.specs.declared.fault.Fault.{Fault}
use Rattle.refusals.specs.declared.fault.Fault.TheVariants.{Usage, BadProgram, BadConf, BadLog, BadDirectives, BadReport, BadNewReport}
use Rattle.report_reader.specs.Reading.{report_in}
use Rattle.resource_tree.specs.Foci.{OneSelection, canonical}
use Rattle.resource_tree.specs.Resources.{Resources}
use Rattle.session_spec.specs.Inputs.{Inputs as SessionInputs}
use Rattle.session_spec.specs.Opening.{bad_pick}
use Rattle.session_spec.specs.declared.data.RefusedWish.{RefusedWish}
use Rattle.whole_run.specs.Replayed.{misfit_of}
use Rattle.whole_run.specs.Seeded.{OneSeeded}
use Rattle.commands.specs.Advising.{advice_texts, IsAdviseDue, IsReportContent}
use Rattle.commands.specs.Differing.{IsComparedFile, IsDiffDue, compared_file, diff_of}
use Rattle.commands.specs.Showing.{report_view_texts, IsShowDue}
use Rattle.commands.specs.Asking.{IsAsk, IsAskAt, IsAskDue, IsAskFor, IsAskOf, known, shipped_metrics}
use Rattle.commands.specs.Output.{output}
use Rattle.commands.specs.Blocks.{AreCounted}
use Rattle.commands.specs.Profiles.{AreProfileTexts, IsBytesAnnotation}
use Rattle.commands.specs.Directing.{MeansDirectives, AreDirectives, IsConfAfter, IsDirectDue, IsDirection, IsDirectivesContent, IsDirectRun, conf_with, or_bad_directives}
use Rattle.commands.specs.Found.{resources_of, IsCheck, IsFound}
use Rattle.commands.specs.Given.{inputs_with}
use Rattle.commands.specs.Inputs.{image_of, file_of, MeansConf, IsProgramContent, IsProgramOfFile, IsElfFile, IsConfContent, IsConfiguration, AreInputs}
use Rattle.commands.specs.Logs.{or_bad_log, IsLog, IsLogContent, MeansLog}
use Rattle.commands.specs.Replays.{replayed, IsReplay, IsReplayDue, IsReplayOf, IsReplayWith}
use Rattle.commands.specs.Runs.{AreTexts, IsByWorkers, IsInOrder, IsLiveDue, IsOpened, IsPrepared, IsSession, IsSessionOf, Order, report_alone, report_and_log, stress_order, stress_session, stress_sight, summary_of, views_of}
use Rattle.commands.specs.Listing.{IsAsmDue}
use Rattle.commands.specs.Plans.{metric_named, or_unknown, or_bad_focus, IsSelected, IsPlanText, IsPlanAt, IsPlan, IsPlanDue}
use Rattle.commands.specs.Due.{AreLike, AreOne, IsDue, IsDueFor, is_live}
use Rattle.commands.specs.FileReadings.{FileReading, limited, IsContent}
use Rattle.commands.specs.declared.advising.TheConstants.{REPORT_LIMIT}
use Rattle.commands.specs.declared.configuration.TheConstants.{CONFIGURATION_LIMIT}
use Rattle.commands.specs.declared.differing.ComparedFile.{ComparedFile}
use Rattle.commands.specs.declared.directing.TheConstants.{DIRECTIVES_LIMIT}
use Rattle.commands.specs.declared.finding.Found.{Found}
use Rattle.commands.specs.declared.inputs.Inputs.{Inputs}
use Rattle.commands.specs.declared.logs.Log.{Log}
use Rattle.commands.specs.declared.logs.TheConstants.{LOG_LIMIT}
use Rattle.commands.specs.declared.texts.Texts.{Texts}
use Rattle.commands.proofs.Counted.{counted_once}
use Rattle.commands.proofs.Asked.{ask_at_once}
use Rattle.commands.proofs.Profiled.{annotation_once, profile_once}

-- the laws of what the top call's steps stand upon
pub record Laws : Type 0 where
  pub conf : OneConf
  pub wrong : OneFault
  pub either : ConfOrFault
  pub directives : OneDirectives
  pub wrong_directives : OneDirectivesFault
  pub either_directives : DirectivesOrFault
  pub answer : OneAnswer
  pub selection : OneSelection
  pub seeded : OneSeeded

equal_once : {A : Type 0} (value : Result A Fault) → IsOne (λ r. r ≡ value)
equal_once value a b e f = e ∙ sym f

-- ---- answers that are alike

pub of_same : (a b : Result Texts Fault) → a ≡ b → AreLike a b
of_same (Ok x) (Ok y) e = tt
of_same (Ok x) (Err g) e = absurd (cc)
of_same (Err f) (Ok y) e = absurd (cc)
of_same (Err f) (Err g) e = cc

opened_alike : (pick : Option RefusedWish) (i : SessionInputs) (InOrder : Order) (texts_of : SessionInputs → List Quantum → Texts) (a b : Result Texts Fault) →
    IsOpened pick i (AreTexts InOrder texts_of i) a → IsOpened pick i (AreTexts InOrder texts_of i) b → AreLike a b
opened_alike None i InOrder texts_of (Ok x) (Ok y) d e = tt
opened_alike None i InOrder texts_of (Ok x) (Err g) d (others, right, f) = absurd (cc)
opened_alike None i InOrder texts_of (Err f) b (quanta, right, e) d = absurd (cc)
opened_alike (Some wish) i InOrder texts_of a b d e = of_same a b (d ∙ sym e)

session_alike : (InOrder : Order) (texts_of : SessionInputs → List Quantum → Texts) (i : SessionInputs) (a b : Result Texts Fault) →
    IsSession InOrder texts_of i a → IsSession InOrder texts_of i b → AreLike a b
session_alike InOrder texts_of i = opened_alike (bad_pick i) i InOrder texts_of

-- ---- configurations

abbrev conf_fault : ℕ → ℕ → SyntaxKind → Fault
conf_fault line col kind = BadConf (fault_at line col (syntax_kind kind))

abbrev directives_wrong : ℕ → ℕ → DirectiveKind → Fault
directives_wrong line col kind = BadDirectives (fault_at line col (directive_kind kind))

module _ (laws : Laws) where
  conf_once : (text : List ℕ) → IsOne (MeansConf text)
  conf_once text (Ok c) (Ok d) a b = ap (λ (x : Conf). Ok x) (laws.conf text c d a b)
  conf_once text (Ok c) (Err f) a (line, col, kind, b, e) = absurd (laws.either text c line col kind a b)
  conf_once text (Err f) (Ok d) (line, col, kind, a, e) b = absurd (laws.either text d line col kind b a)
  conf_once text (Err f) (Err g) (line, col, kind, a, e) (line', col', kind', b, e') =
      let same = laws.wrong text line col line' col' kind kind' a b in
      ap (λ (x : Fault). Err x)
      (e ∙ ap (λ (n : ℕ). conf_fault n col kind) same.0 ∙ ap (λ (n : ℕ). conf_fault line' n kind) same.1 ∙ ap (conf_fault line' col') same.2 ∙ sym e')

  -- ---- directives

  directives_once : (text : List ℕ) → IsOne (MeansDirectives text)
  directives_once text (Ok ds) (Ok es) a b = ap (λ (x : List Directive). Ok x) (laws.directives text ds es a b)
  directives_once text (Ok ds) (Err f) a (line, col, kind, b, e) = absurd (laws.either_directives text ds line col kind a b)
  directives_once text (Err f) (Ok ds) (line, col, kind, a, e) b = absurd (laws.either_directives text ds line col kind b a)
  directives_once text (Err f) (Err g) (line, col, kind, a, e) (line', col', kind', b, e') =
      let same = laws.wrong_directives text line col line' col' kind kind' a b in
      ap (λ (x : Fault). Err x) (e ∙ ap (λ (n : ℕ). directives_wrong n col kind) same.0 ∙ ap (λ (n : ℕ). directives_wrong line' n kind) same.1
      ∙ ap (directives_wrong line' col') same.2 ∙ sym e')

  -- ---- what is found

  abbrev checked_fault : CheckFault → Fault
  checked_fault found = BadConf (fault_at found.line 0 (check_kind found.kind))

  check_once : (t : Resources) (conf : Conf) → IsOne (IsCheck t conf)
  check_once t conf (Ok c) (Ok d) a b =
      let same = laws.answer t shipped_conf.items conf.items (Ok c) (Ok d) a b in
      let value : c ≡ d = cc in
      ap (λ (x : Checked). Ok x) value
  check_once t conf (Ok c) (Err g) a (found, b, e) =
      let same = laws.answer t shipped_conf.items conf.items (Ok c) (Err found) a b in
      absurd cc
  check_once t conf (Err f) (Ok d) (found, a, e) b =
      let same = laws.answer t shipped_conf.items conf.items (Err found) (Ok d) a b in
      absurd cc
  check_once t conf (Err f) (Err g) (found, a, e) (found', b, e') =
      let same = laws.answer t shipped_conf.items conf.items (Err found) (Err found') a b in
      let one : found ≡ found' = cc in
      ap (λ (x : Fault). Err x) (e ∙ ap checked_fault one ∙ sym e')

  abbrev made : Resources → List Proc → ℕ → List Point → Checked → Found
  made tree procs skipped places checked = record { tree = tree; procs = procs; skipped = skipped; points = places; checked = checked }

  found_once : (image : Image) (harts : ℕ) (conf : Conf) → IsOne (IsFound image harts conf)
  found_once image harts conf (Ok f) (Ok g) a b =
      let same = check_once (resources_of image harts conf) conf (Ok f.checked) (Ok g.checked) a.checked b.checked in
      let checked : f.checked ≡ g.checked = cc in
      ap (λ (x : Found). Ok x) (
      ap (λ (x : Resources). made x f.procs f.skipped f.points f.checked) (a.tree ∙ sym b.tree)
      ∙ ap (λ (x : List Proc). made g.tree x f.skipped f.points f.checked) (a.procs ∙ sym b.procs)
      ∙ ap (λ (x : ℕ). made g.tree g.procs x f.points f.checked) (a.skipped ∙ sym b.skipped)
      ∙ ap (λ (x : List Point). made g.tree g.procs g.skipped x f.checked) (a.points ∙ sym b.points)
      ∙ ap (made g.tree g.procs g.skipped g.points) checked)
  found_once image harts conf (Ok f) (Err e) a b =
      let same = check_once (resources_of image harts conf) conf (Ok f.checked) (Err e) a.checked b in
      absurd cc
  found_once image harts conf (Err e) (Ok g) a b =
      let same = check_once (resources_of image harts conf) conf (Err e) (Ok g.checked) a b.checked in
      absurd cc
  found_once image harts conf (Err d) (Err e) a b =
      let same = check_once (resources_of image harts conf) conf (Err d) (Err e) a b in
      let fault : d ≡ e = cc in
      ap (λ (x : Fault). Err x) fault

  -- ---- plans

  selected_once : (t : Resources) (text : List ℕ) → IsOne (IsSelected t text)
  selected_once t text r s (o, a, e) (p, b, f) = e ∙ ap or_bad_focus (laws.selection t text o p a b) ∙ sym f

  planned_once : (metric focus : List ℕ) (due : Result Plan PlanFault) → IsOne (IsPlanText metric focus due)
  planned_once metric focus (Ok made) a b e f = e ∙ sym f
  planned_once metric focus (Err (cause.NoConstraint axis)) a b e f = e ∙ sym f
  planned_once metric focus (Err (cause.TooManySites n)) a b e f = e ∙ sym f
  planned_once metric focus (Err (cause.TooManyStmts at)) a b e f = e ∙ sym f

  plan_once : (p : PlanRequest) (found : Found) → IsOne (IsPlan p found)
  plan_once p found =
      one_then (λ m. m ≡ or_unknown (metric_named found.checked.metrics p.metric)) (λ m. Then (IsSelected found.tree p.focus) (IsPlanAt p.metric found m))
      (equal_once (or_unknown (metric_named found.checked.metrics p.metric)))
      (λ m. one_then (IsSelected found.tree p.focus) (IsPlanAt p.metric found m) (selected_once found.tree p.focus)
      (λ focus. planned_once p.metric (canonical found.tree focus) (plan_of found.checked.constraints m focus found.tree found.procs found.points)))

  -- ---- wishes

  ask_once : (q : AskRequest) (image : Image) (found : Found) → IsOne (IsAsk q image found)
  ask_once q image found =
      one_then (λ names. names ≡ known found.checked.metrics q.metrics) (λ names. Then (IsSelected found.tree q.under) (IsAskAt q image found.tree names))
      (equal_once (known found.checked.metrics q.metrics))
      (λ names. one_then (IsSelected found.tree q.under) (IsAskAt q image found.tree names) (selected_once found.tree q.under) (ask_at_once q image found.tree names))

  ask_of_once : (q : AskRequest) (image : Image) → IsOne (IsAskOf q image)
  ask_of_once q image =
      one_then (MeansConf shipped_metrics) (IsAskFor q image) (conf_once shipped_metrics)
      (λ conf. one_then (IsFound image q.counted.harts conf) (IsAsk q image) (found_once image q.counted.harts conf) (ask_once q image))

  -- ---- sessions

  opened_once : (pick : Option RefusedWish) (i : SessionInputs) (comes : Step Texts) → IsOne comes → IsOne (IsOpened pick i comes)
  opened_once None i comes one a b e f = one a b e f
  opened_once (Some wish) i comes one a b e f = e ∙ sym f

  ordered_once : (order : TurnOrder) (texts_of : SessionInputs → List Quantum → Texts) (i : SessionInputs) → IsOne (AreTexts (IsInOrder order) texts_of i)
  ordered_once order texts_of i a b (quanta, right, e) (others, right', f) =
      e ∙ ap (λ (l : List Quantum). Ok (texts_of i l)) (laws.seeded i order.seed order.quantum quanta others right right') ∙ sym f

  session_once : (order : TurnOrder) (texts_of : SessionInputs → List Quantum → Texts) (i : SessionInputs) → IsOne (IsSession (IsInOrder order) texts_of i)
  session_once order texts_of i = opened_once (bad_pick i) i (AreTexts (IsInOrder order) texts_of i) (ordered_once order texts_of i)

  direct_run_once : (r : DirectRequest) (image : Image) (conf : Conf) → IsOne (IsDirectRun r image conf)
  direct_run_once r image conf =
      one_then (IsFound image r.session.settings.harts conf) (λ found. IsSession (IsInOrder r.order) report_alone (inputs_with image found r.session.settings))
      (found_once image r.session.settings.harts conf) (λ found. session_once r.order report_alone (inputs_with image found r.session.settings))

  -- ---- logs

  replay_once : (log : Log) (i : SessionInputs) → IsOne (IsReplayWith log i)
  replay_once log i = opened_once (bad_pick i) i (λ texts. texts ≡ replayed (misfit_of i log.quanta) log i) (equal_once (replayed (misfit_of i log.quanta) log i))

  replay_of_once : (log : Log) (i : Inputs) → IsOne (IsReplayOf log i)
  replay_of_once log i =
      one_then (IsFound i.image log.settings.harts i.conf) (IsReplay log i.image) (found_once i.image log.settings.harts i.conf)
      (λ found. replay_once log (inputs_with i.image found log.settings))

  module _ (sees : FileReading) (once : (name : List ℕ) → IsOne (sees name)) where
    content_once : (most : ℕ) (too_long : Fault) (name : List ℕ) → IsOne (IsContent sees most too_long name)
    content_once most too_long name = one_then (sees name) (λ bytes content. content ≡ limited most too_long bytes) (once name) (λ bytes. equal_once (limited most too_long bytes))

    program_once : (name : List ℕ) → IsOne (IsProgramOfFile sees name)
    program_once name =
        one_then (IsProgramContent sees name) (λ bytes image. image ≡ image_of bytes) (content_once MAX_PROGRAM_LEN (BadProgram TooLong) name) (λ bytes. equal_once (image_of bytes))

    inputs_once : (program conf : List ℕ) → IsOne (AreInputs sees program conf)
    inputs_once program conf =
        let ended : Image → Conf → Step Inputs = λ image c inputs. inputs ≡ Ok (record { image = image; conf = c }) in
        one_then (IsProgramOfFile sees program) (λ image. Then (IsConfiguration sees conf) (ended image)) (program_once program)
        (λ image. one_then (IsConfiguration sees conf) (ended image) (one_then (IsConfContent sees conf) MeansConf (content_once CONFIGURATION_LIMIT (BadConf (fault_at 0 0 TooLongConf)) conf) conf_once)
        (λ c. equal_once (Ok (record { image = image; conf = c }))))

    prepared_once : (r : SessionRequest) → IsOne (IsPrepared r sees)
    prepared_once r =
        let ended : Inputs → Found → Step SessionInputs = λ read found i. i ≡ Ok (inputs_with read.image found r.settings) in
        one_then (AreInputs sees r.program r.conf) (λ read. Then (IsFound read.image r.settings.harts read.conf) (ended read)) (inputs_once r.program r.conf)
        (λ read. one_then (IsFound read.image r.settings.harts read.conf) (ended read) (found_once read.image r.settings.harts read.conf)
        (λ found. equal_once (Ok (inputs_with read.image found r.settings))))

    session_of_once : (r : SessionRequest) (order : TurnOrder) (texts_of : SessionInputs → List Quantum → Texts) → IsOne (IsSessionOf r sees (IsInOrder order) texts_of)
    session_of_once r order texts_of = one_then (IsPrepared r sees) (IsSession (IsInOrder order) texts_of) (prepared_once r) (session_once order texts_of)

    live_due_alike : (r : LiveRequest) (a b : Result Texts Fault) → IsLiveDue r sees a → IsLiveDue r sees b → AreLike a b
    live_due_alike r =
        related_then AreLike of_same (IsPrepared r.session sees) (IsSession (IsByWorkers r.workers r.quantum) report_and_log) (prepared_once r.session)
        (session_alike (IsByWorkers r.workers r.quantum) report_and_log)

    log_once : (name : List ℕ) → IsOne (IsLog sees name)
    log_once name = one_then (IsLogContent sees name) MeansLog (content_once LOG_LIMIT (BadLog LOG_LIMIT TooLongLog) name) (λ bytes. equal_once (or_bad_log bytes (meaning_of bytes)))

    replay_due_once : (r : ReplayRequest) → IsOne (IsReplayDue r sees)
    replay_due_once r =
        one_then (AreInputs sees r.program r.conf) (λ i. Then (IsLog sees r.log) (λ log. IsReplayOf log i)) (inputs_once r.program r.conf)
        (λ i. one_then (IsLog sees r.log) (λ log. IsReplayOf log i) (log_once r.log) (λ log. replay_of_once log i))

    advise_due_once : (name : List ℕ) → IsOne (IsAdviseDue name sees)
    advise_due_once name =
        one_then (IsReportContent sees name) (λ bytes texts. texts ≡ advice_texts (verdicts_of bytes)) (content_once REPORT_LIMIT (BadReport REPORT_LIMIT) name)
        (λ bytes. equal_once (advice_texts (verdicts_of bytes)))

    show_due_once : (q : ShowRequest) → IsOne (IsShowDue q sees)
    show_due_once q =
        one_then (IsReportContent sees q.report) (λ bytes texts. texts ≡ report_view_texts q (report_in bytes)) (content_once REPORT_LIMIT (BadReport REPORT_LIMIT) q.report)
        (λ bytes. equal_once (report_view_texts q (report_in bytes)))

    compared_once : (bad : ℕ → Fault) (name : List ℕ) → IsOne (IsComparedFile bad sees name)
    compared_once bad name =
        one_then (IsContent sees REPORT_LIMIT (bad REPORT_LIMIT) name) (λ bytes compared. compared ≡ compared_file bad bytes) (content_once REPORT_LIMIT (bad REPORT_LIMIT) name)
        (λ bytes. equal_once (compared_file bad bytes))

    diff_due_once : (q : DiffRequest) → IsOne (IsDiffDue q sees)
    diff_due_once q =
        let ended : ComparedFile → ComparedFile → Step Texts = λ old new texts. texts ≡ diff_of old new in
        one_then (IsComparedFile BadReport sees q.old) (λ old. Then (IsComparedFile BadNewReport sees q.new) (ended old)) (compared_once BadReport q.old)
        (λ old. one_then (IsComparedFile BadNewReport sees q.new) (ended old) (compared_once BadNewReport q.new) (λ new. equal_once (diff_of old new)))

    directions_once : (name : List ℕ) → IsOne (AreDirectives sees name)
    directions_once name =
        one_then (IsDirectivesContent sees name) MeansDirectives (content_once DIRECTIVES_LIMIT (BadDirectives (fault_at 0 0 TooLongConf)) name) directives_once

    direction_once : (r : DirectRequest) (i : Inputs) → IsOne (IsDirection r sees i)
    direction_once r i =
        one_then (AreDirectives sees r.directives) (λ directives. Then (IsConfAfter i.conf directives) (IsDirectRun r i.image)) (directions_once r.directives)
        (λ directives. one_then (IsConfAfter i.conf directives) (IsDirectRun r i.image) (equal_once (conf_with (or_bad_directives (applied shipped_conf.items i.conf.items directives))))
        (direct_run_once r i.image))

    direct_due_once : (r : DirectRequest) → IsOne (IsDirectDue r sees)
    direct_due_once r =
        one_then (AreInputs sees r.session.program r.session.conf) (λ i. Then (IsFound i.image r.session.settings.harts i.conf) (λ found. IsDirection r sees i))
        (inputs_once r.session.program r.session.conf)
        (λ i. one_then (IsFound i.image r.session.settings.harts i.conf) (λ found. IsDirection r sees i) (found_once i.image r.session.settings.harts i.conf)
        (λ found. direction_once r i))

    plan_due_once : (r : PlanRequest) → IsOne (IsPlanDue r sees)
    plan_due_once r =
        one_then (AreInputs sees r.program r.conf) (λ i. Then (IsFound i.image r.harts i.conf) (IsPlan r)) (inputs_once r.program r.conf)
        (λ i. one_then (IsFound i.image r.harts i.conf) (IsPlan r) (found_once i.image r.harts i.conf) (plan_once r))

    asm_due_once : (name : List ℕ) → IsOne (IsAsmDue name sees)
    asm_due_once name =
        one_then (IsElfFile sees name) (λ file texts. texts ≡ Ok (output file))
        (one_then (IsProgramContent sees name) (λ bytes file. file ≡ file_of bytes) (content_once MAX_PROGRAM_LEN (BadProgram TooLong) name)
        (λ bytes. equal_once (file_of bytes))) (λ file. equal_once (Ok (output file)))

  module _ (sees : FileReading) (once : (name : List ℕ) → IsOne (sees name)) where
    due_for_once : (asked : Option Request) → is_live asked ≡ false → IsOne (IsDueFor asked sees)
    due_for_once None other = equal_once (Err Usage)
    due_for_once (Some (run r)) other = session_of_once sees once r.session r.order report_and_log
    due_for_once (Some (live r)) other = absurd (cc)
    due_for_once (Some (replay r)) other = replay_due_once sees once r
    due_for_once (Some (plan r)) other = plan_due_once sees once r
    due_for_once (Some (points name)) other = one_then (IsProgramOfFile sees name) _ (program_once sees once name) (λ image. equal_once _)
    due_for_once (Some (asm name)) other = asm_due_once sees once name
    due_for_once (Some (relog name)) other = one_then (IsLog sees name) _ (log_once sees once name) (λ log. equal_once _)
    due_for_once (Some (stress r)) other = session_of_once (stress_sight r) (λ name a b e f. e ∙ sym f) stress_session (stress_order r) (summary_of r.procs)
    due_for_once (Some (blocks r)) other = one_then (IsProgramOfFile sees r.program) (AreCounted r) (program_once sees once r.program) (counted_once r)
    due_for_once (Some (visi r)) other = session_of_once sees once r.session r.order (views_of r.views)
    due_for_once (Some (advise name)) other = advise_due_once sees once name
    due_for_once (Some (direct r)) other = direct_due_once sees once r
    due_for_once (Some (profile r)) other =
        one_then (IsProgramOfFile sees r.source.counted.program) (AreProfileTexts r) (program_once sees once r.source.counted.program) (profile_once r)
    due_for_once (Some (annotate r)) other =
        one_then (IsProgramContent sees r.source.counted.program) (IsBytesAnnotation r) (content_once sees once MAX_PROGRAM_LEN (BadProgram TooLong) r.source.counted.program) (annotation_once r)
    due_for_once (Some (show q)) other = show_due_once sees once q
    due_for_once (Some (diff q)) other = diff_due_once sees once q
    due_for_once (Some (ask q)) other = one_then (IsProgramOfFile sees q.counted.program) (IsAskOf q) (program_once sees once q.counted.program) (ask_of_once q)

    due_for_alike : (asked : Option Request) (a b : Result Texts Fault) → IsDueFor asked sees a → IsDueFor asked sees b → AreLike a b
    due_for_alike None a b d e = of_same a b (due_for_once None refl a b d e)
    due_for_alike (Some (run r)) a b d e = of_same a b (due_for_once (Some (run r)) refl a b d e)
    due_for_alike (Some (live r)) a b d e = live_due_alike sees once r a b d e
    due_for_alike (Some (replay r)) a b d e = of_same a b (due_for_once (Some (replay r)) refl a b d e)
    due_for_alike (Some (plan r)) a b d e = of_same a b (due_for_once (Some (plan r)) refl a b d e)
    due_for_alike (Some (points name)) a b d e = of_same a b (due_for_once (Some (points name)) refl a b d e)
    due_for_alike (Some (asm name)) a b d e = of_same a b (due_for_once (Some (asm name)) refl a b d e)
    due_for_alike (Some (relog name)) a b d e = of_same a b (due_for_once (Some (relog name)) refl a b d e)
    due_for_alike (Some (stress r)) a b d e = of_same a b (due_for_once (Some (stress r)) refl a b d e)
    due_for_alike (Some (blocks r)) a b d e = of_same a b (due_for_once (Some (blocks r)) refl a b d e)
    due_for_alike (Some (visi r)) a b d e = of_same a b (due_for_once (Some (visi r)) refl a b d e)
    due_for_alike (Some (advise name)) a b d e = of_same a b (due_for_once (Some (advise name)) refl a b d e)
    due_for_alike (Some (direct r)) a b d e = of_same a b (due_for_once (Some (direct r)) refl a b d e)
    due_for_alike (Some (profile r)) a b d e = of_same a b (due_for_once (Some (profile r)) refl a b d e)
    due_for_alike (Some (annotate r)) a b d e = of_same a b (due_for_once (Some (annotate r)) refl a b d e)
    due_for_alike (Some (show r)) a b d e = of_same a b (due_for_once (Some (show r)) refl a b d e)
    due_for_alike (Some (diff r)) a b d e = of_same a b (due_for_once (Some (diff r)) refl a b d e)
    due_for_alike (Some (ask r)) a b d e = of_same a b (due_for_once (Some (ask r)) refl a b d e)

    by_kind : (words : List (List ℕ)) (is : Bool) → is_live (request_of words) ≡ is → (a b : Result Texts Fault) → IsDue words sees a → IsDue words sees b → AreOne is a b
    by_kind words true e a b due other = due_for_alike (request_of words) a b due other
    by_kind words false e a b due other = due_for_once (request_of words) e a b due other

    pub due_once : (words : List (List ℕ)) (a b : Result Texts Fault) → IsDue words sees a → IsDue words sees b → AreOne (is_live (request_of words)) a b
    due_once words = by_kind words (is_live (request_of words)) refl
