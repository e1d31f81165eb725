-- What `paradyn` tells with status 0: for each command what its texts say of the files that it names.
use Rattle.std.specs.Prelude.{◌≡◌, ◌⊎◌, IfSome, ℕ, true, false, List, [], Option, None, Some, Ok, replicate, slice_get}
use Rattle.advice.specs.Directives.{advice}
use Rattle.advice.specs.Reading.{verdicts_of}
use Rattle.advice.specs.declared.verdict.Verdict.{Verdict}
use Rattle.elf_write.specs.Made.{IsMeantAgain, elf_of}
use Rattle.code_points.specs.Points.{points_of}
use Rattle.code_points.specs.Procedures.{procedures_of, skipped_of}
use Rattle.command_words.specs.Requests.{Request, SessionRequest, run, live, replay, visi, direct, stress}
use Rattle.command_words.specs.Requests.{blocks, profile, annotate, points, plan, asm, relog, advise, show, diff, ask}
use Rattle.commands.specs.Asking.{shipped_metrics}
use Rattle.commands.specs.Blocks.{AreCounted, pace_of}
use Rattle.commands.specs.Differing.{diff_of}
use Rattle.commands.specs.Found.{AreFound}
use Rattle.commands.specs.Given.{inputs_with}
use Rattle.commands.specs.Output.{output}
use Rattle.commands.specs.Plans.{IsPlan}
use Rattle.commands.specs.Profiles.{AreAnnotation, chosen, profile_texts, starts_of}
use Rattle.commands.specs.Runnable.{IsConfOf, IsImageOf}
use Rattle.commands.specs.Showing.{view_of}
use Rattle.commands.specs.Runs.{IsByWorkers, IsInOrder, Order, stress_order, stress_session, stress_sight}
use Rattle.commands.specs.FileReadings.{FileReading}
use Rattle.commands.specs.declared.differing.ComparedFile.{ComparedFile}
use Rattle.commands.specs.declared.finding.Found.{Found}
use Rattle.commands.specs.declared.texts.Texts.{Texts}
use Rattle.directives.specs.Acts.{applied}
use Rattle.directives.specs.Meaning.{IsDirectives}
use Rattle.directives.specs.declared.directive.Directive.{Directive}
use Rattle.mdl_ast.specs.declared.items.Conf.{Conf}
use Rattle.mdl_shipped.specs.Shipped.{shipped_conf}
use Rattle.pn_types.specs.declared.image.Image.{Image}
use Rattle.pn_types.specs.declared.quantum.Quantum.{Quantum}
use Rattle.pn_types.specs.declared.settings.Settings.{Settings}
use Rattle.profile_reader.specs.Pairs.{profile_parts}
use Rattle.profile_reader.specs.Reading.{profile_in, profile_spelling}
use Rattle.profile_reader.specs.declared.profile.ReadProfile.{ReadProfile}
use Rattle.quanta_log.specs.Meaning.{meaning_of}
use Rattle.quanta_log.specs.Spelling.{spelled}
use Rattle.quanta_log.specs.declared.version.Version.TheVariants.{Two}
use Rattle.report.specs.Text.{report_text}
use Rattle.report.specs.Points.{points_text}
use Rattle.report.specs.declared.parts.ReportParts.{ReportParts}
use Rattle.report.specs.declared.parts.ShownPart.{ShownPart}
use Rattle.report_reader.specs.Reading.{report_in}
use Rattle.report_reader.specs.declared.whole_report.Report.{Report}
use Rattle.session.specs.Bins.{IsPartOf}
use Rattle.session_spec.specs.Feed.{told_at}
use Rattle.session_spec.specs.Inputs.{Inputs}
use Rattle.session_spec.specs.Opening.{bad_pick}
use Rattle.session_spec.specs.Work.{IsWhole}
use Rattle.stress_run.specs.Summary.{summary_text}
use Rattle.visi_run.specs.Feed.{feed_of}
use Rattle.visi_run.specs.Texts.{visi_text}
use Rattle.whole_run.specs.Recorded.{log_of}
use Rattle.word_counts.specs.Profiles.{IsProfile}
use Rattle.word_counts.specs.declared.profile.Profile.{Profile}
use Rattle.profile_text.specs.Laws.{DoLinesAddUp}
use Rattle.headline.specs.AskedFoci.{IsAskedAt}
use Rattle.headline.specs.Followed.{AreFollowed}
use Rattle.headline.specs.Honest.{IsHonest, end_of}

-- ---- a run

-- What a configuration spells, and what is made of it; what a session is given; its quanta; and what is printed of them.
pub record Run : Type 0 where
  pub spelled : Conf
  pub made : Conf
  pub inputs : Inputs
  pub quanta : List Quantum
  pub parts : ReportParts

-- The image is what the bytes in the file of a name mean.
abbrev pub IsProgramOf : FileReading → List ℕ → Image → Type 0
IsProgramOf sees name image = (bytes : List ℕ) × sees name (Ok bytes) × IsImageOf bytes image

-- The text in the file of a name spells the configuration.
abbrev pub IsConfigurationOf : FileReading → List ℕ → Conf → Type 0
IsConfigurationOf sees name conf = (text : List ℕ) × sees name (Ok text) × IsConfOf text conf

-- The files of these names hold the program and the configuration; of that, or what is made of it, a check finds no fault, and no wish
-- at tick 0 is refused. The quanta are a whole run: each could be taken when it came, and none can follow. What is printed of them is
-- honest.
pub record IsRunOf (sees : FileReading) (program conf : List ℕ) (r : Run) : Type 0 where
  pub holds_program : IsProgramOf sees program r.inputs.image
  pub holds_conf : IsConfigurationOf sees conf r.spelled
  pub found : Found
  pub accepted : AreFound r.inputs.image r.inputs.settings.harts r.made found
  pub given : r.inputs ≡ inputs_with r.inputs.image found r.inputs.settings
  pub opened : bad_pick r.inputs ≡ None
  pub whole : IsWhole r.inputs r.quanta
  pub honest : IsHonest r.inputs r.quanta r.parts

-- It has the settings and the order that are asked for.
abbrev pub IsAsked : FileReading → SessionRequest → Order → Run → Type 0
IsAsked sees s InOrder r = IsRunOf sees s.program s.conf r × (r.inputs.settings ≡ s.settings) × InOrder r.inputs r.quanta

-- The configuration is taken as it is spelled.
abbrev pub IsPlain : Run → Type 0
IsPlain r = r.made ≡ r.spelled

-- ---- its texts

abbrev pub report_of : Run → List ℕ
report_of r = report_text r.parts (skipped_of r.inputs.image)

-- The bytes mean the settings and the quanta of the run, and nothing else.
abbrev pub IsLogOf : List ℕ → Run → Type 0
IsLogOf bytes r = meaning_of bytes ≡ Ok (r.inputs.settings, r.quanta)

-- Each of a number of views was given all samples of the session. Those of a pair are, in place of its bins, what its plan measures.
pub record AreViews (views : ℕ) (r : Run) (text : List ℕ) : Type 0 where
  pub is : text ≡ visi_text r.parts.shown (replicate views (feed_of r.inputs r.quanta))
  pub samples : (n : ℕ) (part : ShownPart) → slice_get r.parts.shown n ≡ Some part →
      IsPartOf r.inputs (end_of r.inputs r.quanta) (record part { bins = told_at n (feed_of r.inputs r.quanta) })

-- The file of a name holds directives, and what is made of the configuration is what they make. What is printed follows them.
pub record IsDirectedBy (sees : FileReading) (name : List ℕ) (r : Run) : Type 0 where
  pub text : List ℕ
  pub told : sees name (Ok text)
  pub directives : List Directive
  pub spelled : IsDirectives text directives
  pub made : applied shipped_conf.items r.spelled.items directives ≡ Ok r.made.items
  pub followed : IfSome r.parts.search (AreFollowed r.spelled.items directives)

-- The bytes are read as a report or as a profile whose text they are, and this is compared of it.
abbrev pub IsComparedText : List ℕ → ComparedFile → Type 0
IsComparedText bytes c =
    ((r : Report) × (report_in bytes ≡ Ok r) × (report_text r.parts r.skipped ≡ bytes) × (c ≡ record { is_profile = false; parts = r.parts }))
    ⊎ ((p : ReadProfile) × (profile_in bytes ≡ Ok p) × (profile_spelling p ≡ bytes) × (c ≡ record { is_profile = true; parts = profile_parts p }))

-- ---- the commands

abbrev pub Tells : Option Request → FileReading → Texts → Type 0
Tells None sees texts = ⊥
Tells (Some (run q)) sees texts =
    (r : Run) × IsAsked sees q.session (IsInOrder q.order) r × IsPlain r × (texts.out ≡ report_of r)
    × (texts.log ≡ log_of r.inputs r.quanta) × IsLogOf texts.log r
Tells (Some (live q)) sees texts =
    (r : Run) × IsAsked sees q.session (IsByWorkers q.workers q.quantum) r × IsPlain r × (texts.out ≡ report_of r)
    × (texts.log ≡ log_of r.inputs r.quanta) × IsLogOf texts.log r
Tells (Some (replay q)) sees texts =
    (r : Run) × IsRunOf sees q.program q.conf r × IsPlain r × ((log : List ℕ) × sees q.log (Ok log) × IsLogOf log r)
    × (texts ≡ output (report_of r))
Tells (Some (visi q)) sees texts =
    (r : Run) × IsAsked sees q.session (IsInOrder q.order) r × IsPlain r × AreViews q.views r texts.out × (texts.log ≡ [])
Tells (Some (direct q)) sees texts =
    (r : Run) × IsAsked sees q.session (IsInOrder q.order) r × IsDirectedBy sees q.directives r × (texts ≡ output (report_of r))
Tells (Some (stress q)) sees texts =
    (r : Run) × IsAsked (stress_sight q) stress_session (IsInOrder (stress_order q)) r × IsPlain r
    × (texts ≡ output (summary_text q.procs r.parts))
-- the counts are those of positions of the program's own run
Tells (Some (blocks q)) sees texts = (image : Image) × IsProgramOf sees q.program image × AreCounted q image (Ok texts)
-- The profile is of the program's own run: no number of a word is above its executions, and where no tick is untold each is these. Its
-- lines add up to the ticks.
Tells (Some (profile q)) sees texts =
    (image : Image) × IsProgramOf sees q.source.counted.program image
    × (r : Profile) × IsProfile image (starts_of image q.source.also) q.source.counted.budget (pace_of q.source.counted) r
    × DoLinesAddUp image (procedures_of image) r × (texts ≡ profile_texts q image r)
Tells (Some (annotate q)) sees texts =
    (bytes : List ℕ) × sees q.source.counted.program (Ok bytes) × (image : Image) × IsImageOf bytes image
    × (name : Option (List ℕ)) × (Ok name ≡ chosen q.procedure image)
    × (r : Profile) × IsProfile image (starts_of image q.source.also) q.source.counted.budget (pace_of q.source.counted) r
    × AreAnnotation q.unit q bytes image name r texts
-- the procedures and points of the program
Tells (Some (points name)) sees texts =
    (image : Image) × IsProgramOf sees name image
    × (texts ≡ output (points_text (procedures_of image) (points_of image (procedures_of image)) (skipped_of image)))
-- the plan of the metric at the focus
Tells (Some (plan q)) sees texts =
    (image : Image) × IsProgramOf sees q.program image × (conf : Conf) × IsConfigurationOf sees q.conf conf
    × (found : Found) × AreFound image q.harts conf found × IsPlan q found (Ok texts)
-- an ELF file that means the program of the text
Tells (Some (asm name)) sees texts =
    (text : List ℕ) × sees name (Ok text) × (elf_of text ≡ Ok texts.out) × IsMeantAgain text texts.out × (texts.log ≡ [])
-- the log that means what the file's does, as it is written now
Tells (Some (relog name)) sees texts =
    (log : List ℕ) × sees name (Ok log)
    × (means : Settings × List Quantum) × (meaning_of log ≡ Ok means) × (meaning_of texts.out ≡ Ok means)
    × (texts ≡ output (spelled Two means.0 means.1))
-- what the verdicts of the report advise
Tells (Some (advise name)) sees texts =
    (report : List ℕ) × sees name (Ok report)
    × (verdicts : List Verdict) × (verdicts_of report ≡ Ok verdicts) × (texts ≡ output (advice verdicts))
-- The file is read as a report whose text it is, and that report is shown.
Tells (Some (show q)) sees texts =
    (bytes : List ℕ) × sees q.report (Ok bytes) × (r : Report) × (report_in bytes ≡ Ok r) × (report_text r.parts r.skipped ≡ bytes)
    × (texts ≡ output (view_of q r))
-- The files are the texts of two reports or of two profiles, and what differs between these is told.
Tells (Some (diff q)) sees texts =
    (old new : List ℕ) × sees q.old (Ok old) × sees q.new (Ok new)
    × (a b : ComparedFile) × IsComparedText old a × IsComparedText new b × (Ok texts ≡ diff_of a b)
-- The shipped metrics of the given names are asked for at foci of the program.
Tells (Some (ask q)) sees texts =
    (image : Image) × IsProgramOf sees q.counted.program image × (conf : Conf) × IsConfOf shipped_metrics conf
    × (found : Found) × AreFound image q.counted.harts conf found × IsAskedAt q image found texts
