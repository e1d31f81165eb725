-- What a command tells is of the kind of its request.
use Rattle.std.proofs.Common.{◌≡◌, inl, inr, ℕ, Bool, true, false, cond, List, [], Option, Some, None, Result, Ok, Err, refl, sym, subst}
use Rattle.std.specs.Option.{option_map_or}
use Rattle.command_words.specs.Requests.{Request, AnnotateRequest, PlanRequest, ProfileRequest, run, live, replay, plan, asm, points, relog, stress, blocks, visi, advise, direct, profile, annotate, show, diff, ask}
use Rattle.command_words.specs.declared.requests.AnnotationUnit.{AnnotationUnit}
use Rattle.command_words.specs.declared.requests.AnnotationUnit.TheVariants as unit
use Rattle.command_words.specs.declared.requests.ProfileShape.{ProfileShape}
use Rattle.command_words.specs.declared.requests.ProfileShape.TheVariants as shape
use Rattle.command_words.specs.declared.requests.ViewFormat.{ViewFormat}
use Rattle.command_words.specs.declared.requests.ViewFormat.TheVariants as format
use Rattle.code_points.specs.Points.{points_of}
use Rattle.code_points.specs.Procedures.{procedures_of, skipped_of}
use Rattle.commands.specs.Differing.{are_alike, diff_of}
use Rattle.commands.specs.FileReadings.{FileReading}
use Rattle.commands.specs.Output.{output}
use Rattle.commands.specs.Plans.{IsPlan, IsPlanAt, IsPlanText, IsSelected, metric_named, or_unknown}
use Rattle.commands.specs.Profiles.{AreAnnotation, callgrind_asked, lines_shown, shape_text, words_shown}
use Rattle.commands.specs.Showing.{view_in, view_of}
use Rattle.commands.specs.declared.differing.ComparedFile.{ComparedFile}
use Rattle.commands.specs.declared.finding.Found.{Found}
use Rattle.commands.specs.declared.texts.Texts.{Texts}
use Rattle.elf_write.specs.Layout.{elf_bytes}
use Rattle.elf_write.specs.Made.{file_or_fault}
use Rattle.mdl_plan.specs.Plans.{plan_of}
use Rattle.mdl_plan.specs.declared.fault.PlanFault.{PlanFault}
use Rattle.mdl_plan.specs.declared.fault.PlanFault.TheVariants.{NoConstraint, TooManySites, TooManyStmts}
use Rattle.pn_types.specs.declared.image.Image.{Image}
use Rattle.pn_types.specs.declared.plan.Plan.{Plan}
use Rattle.profile_text.specs.Callgrind.{callgrind_text}
use Rattle.refusals.specs.Refusals.{Then}
use Rattle.refusals.specs.declared.fault.Fault.TheVariants.{BadNewReport}
use Rattle.report_diff.specs.Diff.{diff_text}
use Rattle.report_reader.specs.declared.whole_report.Report.{Report}
use Rattle.resource_tree.specs.Foci.{canonical}
use Rattle.rv_asm.specs.Assembly.{assembled}
use Rattle.rv_asm.specs.declared.fault.AsmFault.{AsmFault}
use Rattle.word_counts.specs.declared.profile.Profile.{Profile}
use Rattle.headline.proofs.Steps.{came, ok_is}
use Rattle.headline.specs.Headline.{Tells}
use Rattle.pd_run.specs.Guards.{IsOfKind, kind_in_format, kind_in_shape, written_kind, log_kind}
use Rattle.pd_run.specs.declared.kinds.Kind.{Kind}
use Rattle.pd_run.specs.declared.kinds.Kind.TheVariants as kind
use Rattle.pd_run.proofs.Differing.{diff_begins}
use Rattle.pd_run.proofs.Fronts.{advice_begins, ask_begins, blocks_begin, callgrind_begins, csv_begins, elf_begins, html_begins, json_begins, lines_begin, log_begins, plan_begins, points_begin, report_begins, rows_begin, samples_begin, sources_begin, summary_begins, svg_begins, table_begins, view_begins}
use Rattle.pd_run.proofs.Starting.{Starts}

-- both texts of an answer
abbrev AreOf : Kind → Kind → Texts → Type 0
AreOf k l texts = IsOfKind k texts.out × IsOfKind l texts.log

-- a text alone
alone : (k l : Kind) (texts : Texts) (text : List ℕ) → texts ≡ output text → Starts k text → AreOf k l texts
alone k l texts text e h = subst (AreOf k l) (sym e) (h, inl refl)

begun : (k : Kind) (file text : List ℕ) → file ≡ text → Starts k text → IsOfKind k file
begun k file text e h = subst (IsOfKind k) (sym e) h

-- ---- formats, shapes and units

view_starts : (by : ViewFormat) (columns : ℕ) (r : Report) → Starts (kind_in_format by) (view_in by columns r)
view_starts format.Blocks columns r = inr (view_begins false columns r.parts)
view_starts format.Ascii columns r = inr (view_begins true columns r.parts)
view_starts format.Json columns r = inr (json_begins r.skipped r.parts)
view_starts format.Csv columns r = inr (csv_begins r.skipped r.parts)
view_starts format.Svg columns r = inr (svg_begins r.parts)
view_starts format.Html columns r = inr (html_begins r.parts)

shape_starts : (by : ProfileShape) (top : ℕ) (image : Image) (r : Profile) → Starts (kind_in_shape by) (shape_text by top image r)
shape_starts shape.Lines top image r = inr (lines_begin image (procedures_of image) r false)
shape_starts shape.Words top image r = inr (lines_begin image (procedures_of image) r true)
shape_starts shape.Table top image r = inr (table_begins image (procedures_of image) r top)

callgrind_starts : (q : ProfileRequest) (image : Image) (r : Profile) → Starts kind.Callgrind (callgrind_asked q image r)
callgrind_starts q image r = by q.callgrind
  where
    by : (o : Option (List ℕ)) → Starts kind.Callgrind (option_map_or (λ name. callgrind_text image (procedures_of image) r) o [])
    by None = inl refl
    by (Some name) = inr (callgrind_begins image (procedures_of image) r)

annotation_starts : (by : AnnotationUnit) (q : AnnotateRequest) (bytes : List ℕ) (image : Image) (name : Option (List ℕ)) (r : Profile) (texts : Texts) → AreAnnotation by q bytes image name r texts
    → AreOf kind.Annotation kind.Log texts
annotation_starts unit.Words q bytes image name r texts e = alone kind.Annotation kind.Log texts (words_shown q image name r) e (rows_begin image (procedures_of image) _ r _)
annotation_starts unit.Lines q bytes image name r texts (parts, are, e) =
    alone kind.Annotation kind.Log texts (lines_shown bytes parts image name r) e (sources_begin bytes parts.units _ image r _)

-- ---- plans, files of programs, and what differs

plan_starts : (name focus : List ℕ) (r : Result Plan PlanFault) (texts : Texts) → IsPlanText name focus r (Ok texts) → AreOf kind.Plan kind.Log texts
plan_starts name focus (Ok p) texts e = alone kind.Plan kind.Log texts _ (ok_is texts _ e) (inr (plan_begins name focus _ p))
plan_starts name focus (Err (NoConstraint axis)) texts e = absurd (cc)
plan_starts name focus (Err (TooManySites n)) texts e = absurd (cc)
plan_starts name focus (Err (TooManyStmts at)) texts e = absurd (cc)

planned_starts : (q : PlanRequest) (found : Found) (texts : Texts) → IsPlan q found (Ok texts) → AreOf kind.Plan kind.Log texts
planned_starts q found texts due =
    let m = came (λ m. m ≡ or_unknown (metric_named found.checked.metrics q.metric)) (λ m. Then (IsSelected found.tree q.focus) (IsPlanAt q.metric found m)) texts due in
    let f = came (IsSelected found.tree q.focus) (IsPlanAt q.metric found m.a) texts m.next in
    plan_starts q.metric (canonical found.tree f.a) (plan_of found.checked.constraints m.a f.a found.tree found.procs found.points) texts f.next

file_starts : (x : Result Image AsmFault) (file : List ℕ) → file_or_fault x ≡ Ok file → Starts kind.Elf file
file_starts (Ok image) file e = subst (Starts kind.Elf) (ok_is (elf_bytes image) file e) (inr (elf_begins image))
file_starts (Err fault) file e = absurd (cc)

differs : (a b : ComparedFile) (texts : Texts) → Ok texts ≡ diff_of a b → AreOf kind.Difference kind.Log texts
differs a b texts = by (are_alike a b)
  where
    by : (c : Bool) → Ok texts ≡ cond c (Ok (output (diff_text a.parts b.parts))) (Err (BadNewReport 0)) → AreOf kind.Difference kind.Log texts
    by true e = alone kind.Difference kind.Log texts (diff_text a.parts b.parts) (ok_is texts _ e) (diff_begins a.parts b.parts)
    by false e = absurd (cc)

-- ---- all

pub kinds_told : (sees : FileReading) (q : Request) (texts : Texts) → Tells (Some q) sees texts → IsOfKind (written_kind q) texts.out × IsOfKind (log_kind q) texts.log
kinds_told sees (run q) texts (r, asked, plain, out, log, means) = (begun kind.Report texts.out _ out (inr (report_begins r.parts _)), begun kind.Log texts.log _ log (inr (log_begins _ _)))
kinds_told sees (live q) texts (r, asked, plain, out, log, means) = (begun kind.Report texts.out _ out (inr (report_begins r.parts _)), begun kind.Log texts.log _ log (inr (log_begins _ _)))
kinds_told sees (replay q) texts (r, is, plain, log, e) = alone kind.Report kind.Log texts _ e (inr (report_begins r.parts _))
kinds_told sees (visi q) texts (r, asked, plain, views, none) = (begun kind.Samples texts.out _ views.is (inr (samples_begin r.parts.shown _)), inl none)
kinds_told sees (direct q) texts (r, asked, by, e) = alone kind.Report kind.Log texts _ e (inr (report_begins r.parts _))
kinds_told sees (stress q) texts (r, asked, plain, e) = alone kind.Summary kind.Log texts _ e (inr (summary_begins q.procs r.parts))
kinds_told sees (blocks q) texts (image, program, (counts, is, e)) = alone kind.Blocks kind.Log texts _ e (inr (blocks_begin _ counts))
kinds_told sees (profile q) texts (image, program, r, is, sums, e) =
    subst (AreOf (kind_in_shape q.shape) kind.Callgrind) (sym e) (shape_starts q.shape q.top image r, callgrind_starts q image r)
kinds_told sees (annotate q) texts (bytes, told, image, is, name, named, r, profiled, are) = annotation_starts q.unit q bytes image name r texts are
kinds_told sees (points name) texts (image, program, e) = alone kind.Points kind.Log texts _ e (inr (points_begin (procedures_of image) (points_of image (procedures_of image)) (skipped_of image)))
kinds_told sees (plan q) texts (image, program, conf, configuration, found, are, due) = planned_starts q found texts due
kinds_told sees (asm name) texts (text, told, made, meant, none) = (file_starts (assembled text) texts.out made, inl none)
kinds_told sees (relog name) texts (log, told, means, meant, again, e) = alone kind.Log kind.Log texts _ e (inr (log_begins means.0 means.1))
kinds_told sees (advise name) texts (report, told, verdicts, are, e) = alone kind.Directives kind.Log texts _ e (advice_begins verdicts)
kinds_told sees (show q) texts (bytes, told, r, read, spelled, e) = alone (kind_in_format q.format) kind.Log texts (view_of q r) e (view_starts q.format q.columns r)
kinds_told sees (diff q) texts (old, new, told, heard, a, b, x, y, e) = differs a b texts e
kinds_told sees (ask q) texts (image, program, conf, configuration, found, are, at) = alone kind.Configuration kind.Log texts _ at.is (inr (ask_begins q.metrics at.foci _ _ _))
