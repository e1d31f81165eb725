-- What is due for a request tells what the headline says.
use Rattle.std.proofs.Common.{◌≡◌, ℕ, ◌<◌, ◌^◌, Option, Some, None, Result, Ok, Err, List, refl, sym, ap, ◌∙◌, subst, inl, inr, arith}
use Rattle.std.specs.Prelude.{replicate, slice_get}
use Rattle.advice.specs.Directives.{advice}
use Rattle.advice.specs.Reading.{verdicts_of}
use Rattle.advice.specs.declared.fault.ReportFault.{ReportFault}
use Rattle.advice.specs.declared.fault.ReportFault.TheVariants as fault
use Rattle.advice.specs.declared.verdict.Verdict.{Verdict}
use Rattle.elf_write.specs.Made.{elf_of}
use Rattle.code_points.specs.Points.{points_of}
use Rattle.code_points.specs.Procedures.{procedures_of, skipped_of}
use Rattle.command_words.specs.Requests.{Request, SessionRequest, RunRequest, LiveRequest, ReplayRequest, PlanRequest, StressRequest, BlocksRequest, VisiRequest, DirectRequest, ProfileRequest, AnnotateRequest, AskRequest, run, live, replay, plan, asm, points, relog, stress, blocks, visi, advise, direct, profile, annotate, show, diff, ask}
use Rattle.directives.proofs.Accepting.{prefixes_after}
use Rattle.directives.specs.Acts.{applied}
use Rattle.directives.specs.Applying.{IsAccepted}
use Rattle.directives.specs.declared.directive.Directive.{Directive}
use Rattle.directives.specs.declared.fault.DirectiveFault.{DirectiveFault}
use Rattle.mdl_ast.specs.declared.items.Conf.{Conf}
use Rattle.mdl_ast.specs.declared.items.Item.{Item}
use Rattle.mdl_check.specs.Checking.{IsAnswer}
use Rattle.mdl_shipped.specs.Shipped.{shipped_conf}
use Rattle.outside.specs.Outside.{IsBytes}
use Rattle.pn_types.specs.Settings.{AreInRange}
use Rattle.pn_types.specs.declared.image.Image.{Image}
use Rattle.pn_types.specs.declared.quantum.Quantum.{Quantum}
use Rattle.pn_types.specs.declared.settings.Settings.{Settings}
use Rattle.quanta_log.specs.Laws.{IsReadAgain}
use Rattle.quanta_log.specs.Meaning.{meaning_of}
use Rattle.profile_reader.specs.Laws.{ProfileIsSpelled}
use Rattle.quanta_log.specs.Spelling.{spelled}
use Rattle.quanta_log.specs.declared.version.Version.TheVariants.{Two}
use Rattle.refusals.specs.Refusals.{Step, Then}
use Rattle.refusals.specs.declared.fault.Fault.{Fault}
use Rattle.report.specs.Points.{points_text}
use Rattle.report.specs.Text.{report_text}
use Rattle.report.specs.declared.parts.ReportParts.{ReportParts}
use Rattle.report.specs.declared.parts.ShownPart.{ShownPart}
use Rattle.resource_tree.specs.Resources.{Resources, tree_of}
use Rattle.session.specs.Parts.{parts_of}
use Rattle.session.specs.Bins.{IsPartOf}
use Rattle.session_spec.specs.Feed.{told_at}
use Rattle.session_spec.specs.Laws.{BinsTold, FeedTold}
use Rattle.session_spec.specs.Inputs.{Inputs as SessionInputs}
use Rattle.session_spec.specs.Opening.{bad_pick}
use Rattle.session_spec.specs.Work.{IsWhole}
use Rattle.stress_run.specs.Program.{program_text}
use Rattle.stress_run.specs.Summary.{summary_text}
use Rattle.visi_run.specs.Feed.{feed_of}
use Rattle.visi_run.specs.Texts.{visi_text}
use Rattle.whole_run.proofs.Logged.{can_spell}
use Rattle.whole_run.specs.Recorded.{log_of}
use Rattle.whole_run.specs.Replayed.{WholeFit, misfit_of}
use Rattle.code_points.specs.Objects.{objects_of}
use Rattle.commands.specs.Advising.{IsAdviseDue, IsReportContent, advice_texts}
use Rattle.command_words.specs.declared.requests.AnnotationUnit.{AnnotationUnit}
use Rattle.command_words.specs.declared.requests.AnnotationUnit.TheVariants as unit
use Rattle.word_counts.specs.Profiles.{IsProfile}
use Rattle.word_counts.specs.declared.profile.Profile.{Profile}
use Rattle.commands.specs.Blocks.{AreCounted, IsBlocksDue, pace_of}
use Rattle.commands.specs.Profiles.{AreAnnotation, AreProfileTexts, IsAnnotateDue, IsAnnotation, IsBytesAnnotation, IsProfileDue, IsProfiled, IsShown, IsUnitShown, chosen, line_parts, lines_shown, profile_texts, starts_of, words_shown}
use Rattle.commands.specs.Directing.{AreDirectives, IsDirectDue, IsDirectRun, IsConfAfter, IsDirection, IsDirectivesContent, MeansDirectives, conf_with, or_bad_directives}
use Rattle.commands.specs.Due.{IsDueFor}
use Rattle.commands.specs.Found.{AreFound, IsFound, resources_of}
use Rattle.commands.specs.Given.{inputs_with}
use Rattle.commands.specs.Asking.{IsAsk, IsAskDue, IsAskFor, IsAskOf, shipped_metrics}
use Rattle.commands.specs.Inputs.{AreInputs, IsElfFile, IsProgramOfFile, MeansConf, IsProgramContent, file_of, or_bad_text, image_of}
use Rattle.commands.specs.Listing.{IsAsmDue, IsPointsDue}
use Rattle.commands.specs.Logs.{IsLog, misfit_fault}
use Rattle.commands.specs.Output.{output}
use Rattle.commands.specs.Plans.{IsPlan, IsPlanDue}
use Rattle.commands.specs.Replays.{IsRelogDue, IsReplay, IsReplayDue, IsReplayOf, replayed}
use Rattle.commands.specs.Runnable.{FoundCanRun, MakesOf}
use Rattle.commands.specs.Runs.{AreTexts, IsByWorkers, IsInOrder, IsLiveDue, IsPrepared, IsRunDue, IsSession, IsSessionOf, IsStressDue, IsVisiDue, Order, report_alone, report_and_log, stress_order, stress_session, stress_sight, summary_of, views_of}
use Rattle.commands.specs.FileReadings.{FileReading}
use Rattle.commands.specs.declared.finding.Found.{Found}
use Rattle.commands.specs.declared.inputs.Inputs.{Inputs}
use Rattle.commands.specs.declared.texts.Texts.{Texts}
use Rattle.rv_asm.specs.declared.fault.AsmFault.{AsmFault}
use Rattle.headline.specs.Headline.{AreViews, IsAsked, IsConfigurationOf, IsDirectedBy, IsLogOf, IsPlain, IsProgramOf, IsRunOf, Run, Tells, report_of}
use Rattle.profile_text.specs.Laws.{LinesAddUp}
use Rattle.headline.specs.Honest.{end_of}
use Rattle.headline.proofs.Directed.{DirectiveLaws, IsMade, report_follows}
use Rattle.headline.proofs.Files.{IsOfBytes, inputs_of, log_read, meant_again, program_of}
use Rattle.headline.proofs.Asked.{asked_at}
use Rattle.headline.proofs.Ranges.{IsPaced, IsRanged}
use Rattle.headline.proofs.Summed.{lines_summed}
use Rattle.headline.proofs.Reports.{IsRunnable, Laws, honest}
use Rattle.headline.proofs.Runnable.{runnable}
use Rattle.headline.proofs.Steps.{came, content_of, ok_is, opened, opens}
use Rattle.headline.proofs.ReportViews.{diff_tells, show_tells}
use Rattle.report_reader.specs.Laws.{ReportIsSpelled}
use Rattle.headline.proofs.StressTexts.{program_bytes}
use Rattle.headline.proofs.Views.{fed_parts}

-- the laws of the crates below
pub record AllLaws : Type 0 where
  pub reports : Laws
  pub bins : BinsTold
  pub feed : FeedTold
  pub directives : DirectiveLaws
  pub can : FoundCanRun
  pub logs : IsReadAgain
  pub fit : WholeFit
  pub spelled : ReportIsSpelled
  pub profiles : ProfileIsSpelled
  pub lines : LinesAddUp

-- ---- a run

abbrev run_with : Image → Conf → Conf → Found → Settings → List Quantum → Run
run_with image spelled made found settings quanta = record {
  spelled = spelled;
  made = made;
  inputs = inputs_with image found settings;
  quanta = quanta;
  parts = parts_of (inputs_with image found settings) (end_of (inputs_with image found settings) quanta);
}

same_settings : (image : Image) (found : Found) (settings : Settings) → (inputs_with image found settings).settings ≡ settings
same_settings image found settings = refl

module _ (laws : AllLaws) (sees : FileReading) where
  -- a run of what files hold
  record IsMadeRun (program conf : List ℕ) (r : Run) : Type 0 where
    run_of : IsRunOf sees program conf r
    can : IsRunnable r.inputs

  made_run : (program conf : List ℕ) (image : Image) (conf_is made : Conf) (found : Found) (settings : Settings) (quanta : List Quantum) → IsProgramOf sees program image
      → IsConfigurationOf sees conf conf_is → MakesOf conf_is made → AreFound image settings.harts made found → AreInRange settings → bad_pick (inputs_with image found settings) ≡ None → IsWhole (inputs_with image found settings) quanta
      → IsMadeRun program conf (run_with image conf_is made found settings quanta)
  made_run program conf image conf_is made found settings quanta p c makes are range opening whole =
      let can = runnable laws.can p.0 c.0 image conf_is made found settings p.2 c.2 makes are range in
      record {
        run_of = record {
          holds_program = p;
          holds_conf = c;
          found = found;
          accepted = are;
          given = refl;
          opened = opening;
          whole = whole;
          honest = honest laws.reports (inputs_with image found settings) quanta can;
        };
        can = can;
      }

  -- the log of whole quanta means them
  logged : (i : SessionInputs) (quanta : List Quantum) → IsRunnable i → IsWhole i quanta → meaning_of (log_of i quanta) ≡ Ok (i.settings, quanta)
  logged i quanta can whole = laws.logs Two i.settings quanta (can_spell i quanta can.given whole.allowed)

  -- ---- sessions that were asked for

  record IsRun (s : SessionRequest) (InOrder : Order) (texts_of : SessionInputs → List Quantum → Texts) (texts : Texts) : Type 0 where
    r : Run
    asked : IsAsked sees s InOrder r
    plain : IsPlain r
    can : IsRunnable r.inputs
    parts : parts_of r.inputs (end_of r.inputs r.quanta) ≡ r.parts
    is : texts ≡ texts_of r.inputs r.quanta

  plain_run : (s : SessionRequest) (InOrder : Order) (texts_of : SessionInputs → List Quantum → Texts) (texts : Texts) (image : Image) (conf : Conf) (found : Found) (quanta : List Quantum)
      → IsProgramOf sees s.program image → IsConfigurationOf sees s.conf conf → AreFound image s.settings.harts conf found → AreInRange s.settings → bad_pick (inputs_with image found s.settings) ≡ None
      → IsWhole (inputs_with image found s.settings) quanta → InOrder (inputs_with image found s.settings) quanta → texts ≡ texts_of (inputs_with image found s.settings) quanta → IsRun s InOrder texts_of texts
  plain_run s InOrder texts_of texts image conf found quanta p c are range opening whole order is =
      let m = made_run s.program s.conf image conf conf found s.settings quanta p c (inl refl) are range opening whole in
      record { r = run_with image conf conf found s.settings quanta; asked = (m.run_of, refl, order); plain = refl; can = m.can; parts = refl; is = is }

  asked_run : (s : SessionRequest) (InOrder : Order) (texts_of : SessionInputs → List Quantum → Texts) (texts : Texts) → IsOfBytes sees s.program → AreInRange s.settings
      → ((i : SessionInputs) (quanta : List Quantum) → InOrder i quanta → IsWhole i quanta) → IsSessionOf s sees InOrder texts_of (Ok texts) → IsRun s InOrder texts_of texts
  asked_run s InOrder texts_of texts bytes range whole_in step =
      let ends : Inputs → Found → Step SessionInputs = λ read found i. i ≡ Ok (inputs_with read.image found s.settings) in
      let goes : Inputs → Step SessionInputs = λ read. Then (IsFound read.image s.settings.harts read.conf) (ends read) in
      let p = came (IsPrepared s sees) (IsSession InOrder texts_of) texts step in
      let a = came (AreInputs sees s.program s.conf) goes p.a p.first in
      let f = came (IsFound (a.a).image s.settings.harts (a.a).conf) (ends a.a) p.a a.next in
      let i : SessionInputs = inputs_with (a.a).image f.a s.settings in
      let is : p.a ≡ i = ok_is p.a i f.next in
      let ran : IsSession InOrder texts_of i (Ok texts) = subst (λ (x : SessionInputs). IsSession InOrder texts_of x (Ok texts)) is p.next in
      let t = opened (bad_pick i) i (AreTexts InOrder texts_of i) texts ran in
      let read = inputs_of sees s.program s.conf a.a bytes a.first in
      plain_run s InOrder texts_of texts (a.a).image (a.a).conf f.a t.0 read.holds_program read.holds_conf f.first range (subst (λ (x : SessionInputs). bad_pick x ≡ None) is (opens (bad_pick p.a) p.a (AreTexts InOrder texts_of p.a) texts p.next)) (whole_in i t.0 t.1) t.1 (ok_is texts (texts_of i t.0) t.2)

  -- its report and its log
  module _ (s : SessionRequest) (InOrder : Order) (texts : Texts) (k : IsRun s InOrder report_and_log texts) where
    reported : texts.out ≡ report_of k.r
    reported = ap (λ (t : Texts). t.out) k.is ∙ ap (λ (p : ReportParts). report_text p (skipped_of k.r.inputs.image)) k.parts

    log_names : (texts.log ≡ log_of k.r.inputs k.r.quanta) × IsLogOf texts.log k.r
    log_names = let is = ap (λ (t : Texts). t.log) k.is in (is, ap meaning_of is ∙ logged k.r.inputs k.r.quanta k.can k.asked.0.whole)

  -- the samples that views were given of each pair
  viewed : (i : SessionInputs) (quanta : List Quantum) → IsRunnable i → (n : ℕ) (part : ShownPart) → slice_get (parts_of i (end_of i quanta)).shown n ≡ Some part
      → IsPartOf i (end_of i quanta) (record part { bins = told_at n (feed_of i quanta) })
  unfolding feed_of
  viewed i quanta can n part e =
      fed_parts i (end_of i quanta) (end_of i quanta).feed (laws.bins.closes i quanta can.given.settings.width.0) (laws.feed.closes i quanta).fed n part e

  -- ---- the commands that run a program

  module _ (bytes : (name : List ℕ) → IsOfBytes sees name) (texts : Texts) where
    run_tells : (q : RunRequest) → AreInRange q.session.settings → IsRunDue q sees (Ok texts) → Tells (Some (run q)) sees texts
    run_tells q range due =
        let k = asked_run q.session (IsInOrder q.order) report_and_log texts (bytes q.session.program) range (λ i quanta o. o.whole) due in
        (let log = log_names q.session (IsInOrder q.order) texts k in (k.r, k.asked, k.plain, reported q.session (IsInOrder q.order) texts k, log.0, log.1))

    live_tells : (q : LiveRequest) → AreInRange q.session.settings → IsLiveDue q sees (Ok texts) → Tells (Some (live q)) sees texts
    live_tells q range due =
        let k = asked_run q.session (IsByWorkers q.workers q.quantum) report_and_log texts (bytes q.session.program) range (λ i quanta o. o.whole) due in
        (let log = log_names q.session (IsByWorkers q.workers q.quantum) texts k in (k.r, k.asked, k.plain, reported q.session (IsByWorkers q.workers q.quantum) texts k, log.0, log.1))

    visi_tells : (q : VisiRequest) → AreInRange q.session.settings → IsVisiDue q sees (Ok texts) → Tells (Some (visi q)) sees texts
    visi_tells q range due =
        let k = asked_run q.session (IsInOrder q.order) (views_of q.views) texts (bytes q.session.program) range (λ i quanta o. o.whole) due in
        let r = k.r in
        let feed = feed_of r.inputs r.quanta in
        let views : AreViews q.views r texts.out = record {
          is = ap (λ (t : Texts). t.out) k.is ∙ ap (λ (p : ReportParts). visi_text p.shown (replicate q.views feed)) k.parts;
          samples = λ n part e. viewed r.inputs r.quanta k.can n part (subst (λ (p : ReportParts). slice_get p.shown n ≡ Some part) (sym k.parts) e);
        } in
        (r, k.asked, k.plain, views, ap (λ (t : Texts). t.log) k.is)

    -- ---- replay

    -- the log's type has no name here
    replay_tells : (q : ReplayRequest) → IsReplayDue q sees (Ok texts) → Tells (Some (replay q)) sees texts
    replay_tells q due =
        let a = came (AreInputs sees q.program q.conf) (λ i. Then (IsLog sees q.log) (λ log. IsReplayOf log i)) texts due in
        let l = came (IsLog sees q.log) (λ log. IsReplayOf log a.a) texts a.next in
        let image = (a.a).image in
        let settings : Settings = l.a.settings in
        let quanta : List Quantum = l.a.quanta in
        let f = came (IsFound image settings.harts (a.a).conf) (IsReplay l.a image) texts l.next in
        let i : SessionInputs = inputs_with image f.a settings in
        let ran = opened (bad_pick i) i (λ t. t ≡ replayed (misfit_of i quanta) l.a i) texts f.next in
        let fits : (misfit_of i quanta ≡ None) × (texts ≡ report_alone i quanta) =
        (elim (misfit_of i quanta) as (λ m. Ok texts ≡ replayed m l.a i → (m ≡ None) × (texts ≡ report_alone i quanta)) [
          | Some misfit ↦ λ e. absurd (let no : Ok texts ≡ Err (misfit_fault l.a misfit) = e in cc)
          | None ↦ λ e. (refl, ok_is texts (report_alone i quanta) e)
        ]) ran in
        let read_log = log_read sees q.log (bytes q.log) texts (λ log. IsReplayOf log a.a) l in
        let able = read_log.able in
        let whole : IsWhole i quanta = (laws.fit i quanta able.quanta able.few).0 fits.0 in
        let read = inputs_of sees q.program q.conf a.a (bytes q.program) a.first in
        let m = made_run q.program q.conf image (a.a).conf (a.a).conf f.a settings quanta read.holds_program read.holds_conf (inl refl) f.first able.settings (opens (bad_pick i) i (λ t. t ≡ replayed (misfit_of i quanta) l.a i) texts f.next) whole in
        (run_with image (a.a).conf (a.a).conf f.a settings quanta, m.run_of, refl, (read_log.log, read_log.told, read_log.means), fits.1)

    -- ---- direct

    spelled_is : (x : Result (List Item) Fault) (c : Conf) → Ok c ≡ conf_with x → x ≡ Ok c.items
    spelled_is (Ok items) c e = let is : c ≡ record { items = items } = ok_is c (record { items = items }) e in ap (λ (k : Conf). Ok k.items) (sym is)
    spelled_is (Err fault) c e = absurd (cc)

    applied_is : (items : List Item) (x : Result (List Item) DirectiveFault) → or_bad_directives x ≡ Ok items → x ≡ Ok items
    applied_is items (Ok made) e = ap (λ (l : List Item). Ok l) (ok_is made items e)
    applied_is items (Err fault) e = absurd (cc)

    -- the check's tree is the one before
    made_of : (image : Image) (harts : ℕ) (conf made : Conf) (directives : List Directive) (before found : Found) → AreFound image harts conf before → applied shipped_conf.items conf.items directives ≡ Ok made.items
        → AreFound image harts made found → IsMade conf.items directives found.checked
    unfolding IsAccepted
    made_of image harts conf made directives before found first e second =
        let t : Resources = resources_of image harts conf in
        let prefixes = prefixes_after t shipped_conf.items conf.items directives made.items (before.checked, first.checked) e in
        let trees : resources_of image harts made ≡ t = ap (λ (p : List (List ℕ)). tree_of (procedures_of image) (objects_of image) harts p) prefixes in
        record {
          tree = t;
          before = before.checked;
          accepted = first.checked;
          made = made.items;
          applied = e;
          checked = subst (λ (x : Resources). IsAnswer x shipped_conf.items made.items (Ok found.checked)) trees second.checked;
        }

    direct_tells : (q : DirectRequest) → AreInRange q.session.settings → IsDirectDue q sees (Ok texts) → Tells (Some (direct q)) sees texts
    direct_tells q range due =
        let s : SessionRequest = q.session in
        let settings : Settings = s.settings in
        let a = came (AreInputs sees s.program s.conf) (λ i. Then (IsFound i.image settings.harts i.conf) (λ found. IsDirection q sees i)) texts due in
        let image : Image = (a.a).image in
        let conf : Conf = (a.a).conf in
        let f = came (IsFound image settings.harts conf) (λ found. IsDirection q sees a.a) texts a.next in
        let d = came (AreDirectives sees q.directives) (λ directives. Then (IsConfAfter conf directives) (IsDirectRun q image)) texts f.next in
        let m = came (IsConfAfter conf d.a) (IsDirectRun q image) texts d.next in
        let g = came (IsFound image settings.harts m.a) (λ found. IsSession (IsInOrder q.order) report_alone (inputs_with image found settings)) texts m.next in
        let i : SessionInputs = inputs_with image g.a settings in
        let t = opened (bad_pick i) i (AreTexts (IsInOrder q.order) report_alone i) texts g.next in
        let made : applied shipped_conf.items conf.items d.a ≡ Ok (m.a).items =
        applied_is (m.a).items (applied shipped_conf.items conf.items d.a) (spelled_is (or_bad_directives (applied shipped_conf.items conf.items d.a)) m.a m.first) in
        let text = came (IsDirectivesContent sees q.directives) MeansDirectives d.a d.first in
        let read = inputs_of sees s.program s.conf a.a (bytes s.program) a.first in
        let ran = made_run s.program s.conf image conf m.a g.a settings t.0 read.holds_program read.holds_conf (inr (d.a, made)) g.first range (opens (bad_pick i) i (AreTexts (IsInOrder q.order) report_alone i) texts g.next) (t.1).whole in
        let are : IsMade conf.items d.a i.checked = made_of image settings.harts conf m.a d.a f.a g.a f.first made g.first in
        let given : IsDirectedBy sees q.directives (run_with image conf m.a g.a settings t.0) = record {
          text = text.a;
          told = (content_of sees 1048576 _ q.directives text.a text.first).told;
          directives = d.a;
          spelled = text.next;
          made = made;
          followed = report_follows laws.directives i t.0 conf.items d.a are (ran.run_of).honest;
        } in
        (run_with image conf m.a g.a settings t.0, (ran.run_of, same_settings image g.a settings, t.1), given, ok_is texts (report_alone i t.0) t.2)

    -- ---- the other commands

    blocks_tell : (q : BlocksRequest) → IsBlocksDue q sees (Ok texts) → Tells (Some (blocks q)) sees texts
    blocks_tell q due =
        let p = came (IsProgramOfFile sees q.program) (AreCounted q) texts due in
        (p.a, program_of sees q.program p.a (bytes q.program) p.first, p.next)

    profile_tells : (q : ProfileRequest) → IsPaced q.source.counted → IsProfileDue q sees (Ok texts) → Tells (Some (profile q)) sees texts
    profile_tells q paced due =
        let p = came (IsProgramOfFile sees q.source.counted.program) (AreProfileTexts q) texts due in
        let program = program_of sees q.source.counted.program p.a (bytes q.source.counted.program) p.first in
        let r = came (IsProfiled q.source p.a) (λ r t. t ≡ Ok (profile_texts q p.a r)) texts p.next in
        (p.a, program, r.a, r.first, lines_summed laws.lines program.0 p.a q.source r.a program.2 paced r.first, ok_is texts (profile_texts q p.a r.a) r.next)

    -- what is shown of an image's profile in a unit
    abbrev IsUnitTold : AnnotationUnit → AnnotateRequest → List ℕ → Image → Option (List ℕ) → Type 0
    IsUnitTold by q content image name =
        (r : Profile) × IsProfile image (starts_of image q.source.also) q.source.counted.budget (pace_of q.source.counted) r × AreAnnotation by q content image name r texts

    unit_tells : (by : AnnotationUnit) (q : AnnotateRequest) (content : List ℕ) (image : Image) (name : Option (List ℕ)) → IsUnitShown by q content image name (Ok texts) → IsUnitTold by q content image name
    unit_tells unit.Words q content image name due =
        let r = came (IsProfiled q.source image) (λ r t. t ≡ Ok (output (words_shown q image name r))) texts due in
        (r.a, r.first, ok_is texts (output (words_shown q image name r.a)) r.next)
    unit_tells unit.Lines q content image name due =
        let l = came (λ parts. parts ≡ line_parts content) (λ parts. IsShown (lines_shown content parts image name) q image) texts due in
        let r = came (IsProfiled q.source image) (λ r t. t ≡ Ok (output (lines_shown content l.a image name r))) texts l.next in
        (r.a, r.first, (l.a, l.first, ok_is texts (output (lines_shown content l.a image name r.a)) r.next))

    annotate_tells : (q : AnnotateRequest) → IsAnnotateDue q sees (Ok texts) → Tells (Some (annotate q)) sees texts
    annotate_tells q due =
        let b = came (IsProgramContent sees q.source.counted.program) (IsBytesAnnotation q) texts due in
        let c = content_of sees 33554432 _ q.source.counted.program b.a b.first in
        let p = came (λ image. image ≡ image_of b.a) (IsAnnotation q b.a) texts b.next in
        let n = came (λ name. name ≡ chosen q.procedure p.a) (IsUnitShown q.unit q b.a p.a) texts p.next in
        let t = unit_tells q.unit q b.a p.a n.a n.next in
        (b.a, c.told, p.a, record { are = bytes q.source.counted.program b.a c.told; short = c.few; means = sym p.first }, n.a, n.first, t.0, t.1, t.2)

    points_tell : (name : List ℕ) → IsPointsDue name sees (Ok texts) → Tells (Some (points name)) sees texts
    points_tell name due =
        let text : Image → Texts = λ image. output (points_text (procedures_of image) (points_of image (procedures_of image)) (skipped_of image)) in
        let p = came (IsProgramOfFile sees name) (λ image t. t ≡ Ok (text image)) texts due in
        (p.a, program_of sees name p.a (bytes name) p.first, ok_is texts (text p.a) p.next)

    plan_tells : (q : PlanRequest) → IsPlanDue q sees (Ok texts) → Tells (Some (plan q)) sees texts
    plan_tells q due =
        let a = came (AreInputs sees q.program q.conf) (λ i. Then (IsFound i.image q.harts i.conf) (IsPlan q)) texts due in
        let f = came (IsFound (a.a).image q.harts (a.a).conf) (IsPlan q) texts a.next in
        let read = inputs_of sees q.program q.conf a.a (bytes q.program) a.first in
        ((a.a).image, read.holds_program, (a.a).conf, read.holds_conf, f.a, f.first, f.next)

    ask_tells : (q : AskRequest) → IsPaced q.counted → IsAskDue q sees (Ok texts) → Tells (Some (ask q)) sees texts
    ask_tells q paced due =
        let p = came (IsProgramOfFile sees q.counted.program) (IsAskOf q) texts due in
        let c = came (MeansConf shipped_metrics) (IsAskFor q p.a) texts p.next in
        let f = came (IsFound p.a q.counted.harts c.a) (IsAsk q p.a) texts c.next in
        let program = program_of sees q.counted.program p.a (bytes q.counted.program) p.first in
        (p.a, program, c.a, record { short = omega arith; spelled = c.first }, f.a, f.first, asked_at q program.0 p.a c.a f.a texts program.2 paced f.first f.next)

    file_is : (file : List ℕ) (x : Result (List ℕ) AsmFault) → Ok file ≡ or_bad_text x → x ≡ Ok file
    file_is file (Ok made) e = ap (λ (l : List ℕ). Ok l) (sym (ok_is file made e))
    file_is file (Err fault) e = absurd (cc)

    asm_tells : (name : List ℕ) → IsAsmDue name sees (Ok texts) → Tells (Some (asm name)) sees texts
    asm_tells name due =
        let f = came (IsElfFile sees name) (λ file t. t ≡ Ok (output file)) texts due in
        let b = came (IsProgramContent sees name) (λ text file. file ≡ file_of text) f.a f.first in
        let c = content_of sees 33554432 _ name b.a b.first in
        let is : texts ≡ output f.a = ok_is texts (output f.a) f.next in
        let file : elf_of b.a ≡ Ok f.a = file_is f.a (elf_of b.a) b.next in
        let out : elf_of b.a ≡ Ok texts.out = file ∙ ap (λ (t : Texts). Ok t.out) (sym is) in
        (b.a, c.told, out, meant_again b.a texts.out c.few out, ap (λ (t : Texts). t.log) is)

    relog_tells : (name : List ℕ) → IsRelogDue name sees (Ok texts) → Tells (Some (relog name)) sees texts
    relog_tells name due =
        let l = came (IsLog sees name) (λ log t. t ≡ Ok (output (spelled Two log.settings log.quanta))) texts due in
        let settings : Settings = l.a.settings in
        let quanta : List Quantum = l.a.quanta in
        let read_log = log_read sees name (bytes name) texts (λ log t. t ≡ Ok (output (spelled Two log.settings log.quanta))) l in
        let is : texts ≡ output (spelled Two settings quanta) = ok_is texts (output (spelled Two settings quanta)) l.next in
        (read_log.log, read_log.told, (settings, quanta), read_log.means, ap (λ (t : Texts). meaning_of t.out) is ∙ laws.logs Two settings quanta read_log.able, is)

    advised_is : (x : Result (List Verdict) ReportFault) → Ok texts ≡ advice_texts x → (verdicts : List Verdict) × (x ≡ Ok verdicts) × (texts ≡ output (advice verdicts))
    advised_is (Ok verdicts) e = (verdicts, refl, ok_is texts (output (advice verdicts)) e)
    advised_is (Err (fault.BadReport place)) e = absurd (cc)

    advise_tells : (name : List ℕ) → IsAdviseDue name sees (Ok texts) → Tells (Some (advise name)) sees texts
    advise_tells name due =
        let r = came (IsReportContent sees name) (λ report t. t ≡ advice_texts (verdicts_of report)) texts due in
        let c = content_of sees 33554432 _ name r.a r.first in
        let v = advised_is (verdicts_of r.a) r.next in
        (r.a, c.told, v.0, v.1, v.2)

-- ---- stress

stress_range : AreInRange stress_session.settings
stress_range = record {
  harts = (omega arith, omega arith);
  budget = (omega arith, omega arith);
  bins = (omega arith, omega arith);
  width = (omega arith, omega arith);
  instruments = (omega arith, omega arith);
}

stress_bytes : (q : StressRequest) → q.procs < 2 ^ 32 → IsOfBytes (stress_sight q) stress_session.program
stress_bytes q few b e =
    let is : b ≡ program_text q.procs q.seed = ok_is b (program_text q.procs q.seed) e in
    subst IsBytes (sym is) (program_bytes q.procs q.seed few)

stress_tells : AllLaws → (q : StressRequest) (sees : FileReading) (texts : Texts) → q.procs < 2 ^ 32 → IsStressDue q (Ok texts) → Tells (Some (stress q)) sees texts
stress_tells laws q sees texts few due =
    let k = asked_run laws (stress_sight q) stress_session (IsInOrder (stress_order q)) (summary_of q.procs) texts (stress_bytes q few) stress_range (λ i quanta o. o.whole) due in
    (k.r, k.asked, k.plain, k.is ∙ ap (λ (p : ReportParts). output (summary_text q.procs p)) k.parts)

-- ---- all

-- What is due for a request tells this.
pub tells : AllLaws → (sees : FileReading) → ((name : List ℕ) → IsOfBytes sees name) → (texts : Texts) (q : Option Request) → ((r : Request) → q ≡ Some r → IsRanged r) → IsDueFor q sees (Ok texts) → Tells q sees texts
tells laws sees bytes texts None range due = absurd (cc)
tells laws sees bytes texts (Some (run q)) range due = run_tells laws sees bytes texts q (range (run q) refl) due
tells laws sees bytes texts (Some (live q)) range due = live_tells laws sees bytes texts q (range (live q) refl) due
tells laws sees bytes texts (Some (replay q)) range due = replay_tells laws sees bytes texts q due
tells laws sees bytes texts (Some (visi q)) range due = visi_tells laws sees bytes texts q (range (visi q) refl) due
tells laws sees bytes texts (Some (direct q)) range due = direct_tells laws sees bytes texts q (range (direct q) refl) due
tells laws sees bytes texts (Some (stress q)) range due = stress_tells laws q sees texts (range (stress q) refl) due
tells laws sees bytes texts (Some (plan q)) range due = plan_tells laws sees bytes texts q due
tells laws sees bytes texts (Some (points name)) range due = points_tell laws sees bytes texts name due
tells laws sees bytes texts (Some (asm name)) range due = asm_tells laws sees bytes texts name due
tells laws sees bytes texts (Some (relog name)) range due = relog_tells laws sees bytes texts name due
tells laws sees bytes texts (Some (blocks q)) range due = blocks_tell laws sees bytes texts q due
tells laws sees bytes texts (Some (profile q)) range due = profile_tells laws sees bytes texts q (range (profile q) refl) due
tells laws sees bytes texts (Some (annotate q)) range due = annotate_tells laws sees bytes texts q due
tells laws sees bytes texts (Some (advise name)) range due = advise_tells laws sees bytes texts name due
tells laws sees bytes texts (Some (show q)) range due = show_tells laws.spelled sees texts q due
tells laws sees bytes texts (Some (diff q)) range due = diff_tells laws.spelled laws.profiles sees texts q due
tells laws sees bytes texts (Some (ask q)) range due = ask_tells laws sees bytes texts q (range (ask q) refl) due
