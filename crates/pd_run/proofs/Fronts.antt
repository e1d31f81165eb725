-- How the texts of commands begin.
use Rattle.std.proofs.Common.{inl, inr, ℕ, Bool, List, [], ◌∷◌, ◌++◌, Option, Some, None, refl}
use Rattle.std.specs.Prelude.{flat_map, reverse}
use Rattle.json.specs.Print.{escape_byte, print_from}
use Rattle.advice.specs.Advice.{hypotheses_of}
use Rattle.advice.specs.Directives.{advice, first_line, first_text, prune_line, prune_text, threshold_line, threshold_text}
use Rattle.advice.specs.declared.hypothesis.Hypothesis.{Hypothesis}
use Rattle.advice.specs.declared.verdict.Verdict.{Verdict}
use Rattle.elf_write.specs.Layout.{elf_bytes}
use Rattle.line_table.specs.declared.paths.UnitPaths.{UnitPaths}
use Rattle.line_table.specs.declared.registers.Row.{Row as LineRow}
use Rattle.pair_wishes.specs.Wishes.{ask_text}
use Rattle.pn_types.specs.declared.quantum.Quantum.{Quantum}
use Rattle.pn_types.specs.declared.settings.Settings.{Settings}
use Rattle.quanta_log.specs.Spelling.{head, spelled}
use Rattle.quanta_log.specs.declared.version.Version.TheVariants.{Two}
use Rattle.csv.specs.Writing.{fields_text, is_blank}
use Rattle.report_csv.specs.Cells.{line, names}
use Rattle.report_csv.specs.Report.{report_csv}
use Rattle.session_spec.specs.declared.data.LatestSample.{LatestSample}
use Rattle.source_text.specs.Text.{sourced_procedures}
use Rattle.stress_run.specs.Summary.{summary_text}
use Rattle.visi_run.specs.Texts.{visi_text}
use Rattle.block_count.specs.Texts.{blocks_text}
use Rattle.block_count.specs.declared.counts.Counts.{Counts}
use Rattle.block_count.specs.declared.block_head.BlockHead.{BlockHead}
use Rattle.report.specs.Points.{points_text}
use Rattle.report.specs.Text.{report_text}
use Rattle.report.specs.PlanTexts.{plan_text}
use Rattle.report.specs.declared.parts.ReportParts.{ReportParts}
use Rattle.report_view.specs.View.{report_view}
use Rattle.report_view.specs.Harts.{run_line}
use Rattle.report_picture.specs.Svg.{picture, report_svg, svg_head}
use Rattle.report_picture.specs.Html.{page, page_head, page_meta, report_html}
use Rattle.profile_text.specs.Lines.{profile_lines}
use Rattle.profile_text.specs.Table.{profile_table}
use Rattle.profile_text.specs.Callgrind.{callgrind_text}
use Rattle.profile_text.specs.Annotated.{annotated_rows}
use Rattle.profile_text.specs.Rows.{Row}
use Rattle.report_json.specs.Report.{report_json, report_line, report_value}
use Rattle.report.specs.declared.parts.ShownPart.{ShownPart}
use Rattle.pn_types.specs.declared.code.Point.{Point}
use Rattle.pn_types.specs.declared.code.Proc.{Proc}
use Rattle.pn_types.specs.declared.image.Image.{Image}
use Rattle.pn_types.specs.declared.plan.Plan.{Plan}
use Rattle.word_counts.specs.declared.profile.Profile.{Profile}
use Rattle.pd_run.specs.Guards.{beginnings_of}
use Rattle.pd_run.specs.declared.kinds.Kind.TheVariants as kind
use Rattle.pd_run.proofs.Starting.{Begins, Starts, any_more, each, joined}

-- ---- reports and what they show

pub report_begins : (parts : ReportParts) (skipped : ℕ) → Begins kind.Report (report_text parts skipped)
unfolding beginnings_of
report_begins parts skipped = refl

pub points_begin : (procs : List Proc) (points : List Point) (skipped : ℕ) → Begins kind.Points (points_text procs points skipped)
unfolding beginnings_of
points_begin procs points skipped = refl

pub plan_begins : (metric focus : List ℕ) (words : ℕ) (plan : Plan) → Begins kind.Plan (plan_text metric focus words plan)
unfolding beginnings_of
plan_begins metric focus words plan = refl

pub view_begins : (ascii : Bool) (columns : ℕ) (parts : ReportParts) → Begins kind.View (report_view ascii columns parts)
unfolding beginnings_of run_line
view_begins ascii columns parts = refl

pub lines_begin : (image : Image) (procs : List Proc) (r : Profile) (words : Bool) → Begins kind.Profile (profile_lines image procs r words)
unfolding beginnings_of
lines_begin image procs r words = refl

pub table_begins : (image : Image) (procs : List Proc) (r : Profile) (top : ℕ) → Begins kind.View (profile_table image procs r top)
unfolding beginnings_of
table_begins image procs r top = refl

pub callgrind_begins : (image : Image) (procs : List Proc) (r : Profile) → Begins kind.Callgrind (callgrind_text image procs r)
unfolding beginnings_of
callgrind_begins image procs r = refl

pub html_begins : (parts : ReportParts) → Begins kind.Html (report_html parts)
unfolding beginnings_of page page_head page_meta
html_begins parts = refl

pub json_begins : (skipped : ℕ) (parts : ReportParts) → Begins kind.Json (report_json skipped parts)
unfolding beginnings_of report_json report_line report_value print_from escape_byte
json_begins skipped parts = refl

pub svg_begins : (parts : ReportParts) → Begins kind.Svg (report_svg parts)
unfolding beginnings_of picture svg_head
svg_begins parts = refl

-- ---- procedures with their instructions

pub rows_begin : (image : Image) (procs : List Proc) (heads : List BlockHead) (r : Profile) (rows : List Row) → Starts kind.Annotation (annotated_rows image procs heads r 0 rows)
unfolding beginnings_of
rows_begin image procs heads r [] = inl refl
rows_begin image procs heads r (x ∷ xs) = inr refl

-- ---- the others

pub blocks_begin : (heads : List BlockHead) (r : Counts) → Begins kind.Blocks (blocks_text heads r)
unfolding beginnings_of
blocks_begin heads r = refl

pub sources_begin : (elf : List ℕ) (units : List UnitPaths) (rows : List LineRow) (image : Image) (r : Profile) (procs : List Row) → Starts kind.Annotation (sourced_procedures elf units rows image r 0 procs)
unfolding beginnings_of
sources_begin elf units rows image r [] = inl refl
sources_begin elf units rows image r (x ∷ xs) = inr refl

names_begin : Begins kind.Csv (line names)
unfolding beginnings_of line fields_text is_blank
names_begin = refl

pub csv_begins : (skipped : ℕ) (parts : ReportParts) → Begins kind.Csv (report_csv skipped parts)
unfolding report_csv
csv_begins skipped parts = any_more (beginnings_of kind.Csv) (line names) _ names_begin

pub samples_begin : (shown : List ShownPart) (lists : List (List LatestSample)) → Begins kind.Samples (visi_text shown lists)
unfolding beginnings_of
samples_begin shown lists = refl

pub summary_begins : (procs : ℕ) (parts : ReportParts) → Begins kind.Summary (summary_text procs parts)
unfolding beginnings_of
summary_begins procs parts = refl

pub log_begins : (settings : Settings) (quanta : List Quantum) → Begins kind.Log (spelled Two settings quanta)
unfolding beginnings_of spelled head
log_begins settings quanta = refl

pub elf_begins : (image : Image) → Begins kind.Elf (elf_bytes image)
unfolding beginnings_of elf_bytes
elf_begins image = refl

pub ask_begins : (metrics foci : List (List ℕ)) (limit from : ℕ) (until : Option ℕ) → Begins kind.Configuration (ask_text metrics foci limit from until)
unfolding beginnings_of
ask_begins metrics foci limit from until = refl

-- ---- directives

prune_starts : (h : Hypothesis) → Starts kind.Directives (prune_line h)
unfolding beginnings_of
prune_starts h = by h.threshold
  where
    by : (o : Option ℕ) → Starts kind.Directives (prune_text h.name o)
    by None = inr refl
    by (Some threshold) = inl refl

threshold_starts : (h : Hypothesis) → Starts kind.Directives (threshold_line h)
unfolding beginnings_of
threshold_starts h = by h.threshold
  where
    by : (o : Option ℕ) → Starts kind.Directives (threshold_text h.name o)
    by None = inl refl
    by (Some threshold) = inr refl

first_starts : (h : Hypothesis) → Starts kind.Directives (first_line h)
unfolding beginnings_of
first_starts h = by h.threshold
  where
    by : (o : Option ℕ) → Starts kind.Directives (first_text h.name o)
    by None = inl refl
    by (Some threshold) = inr refl

pub advice_begins : (vs : List Verdict) → Starts kind.Directives (advice vs)
advice_begins vs =
    let hs = hypotheses_of vs in
    joined kind.Directives (flat_map prune_line hs) (flat_map threshold_line hs ++ flat_map first_line (reverse hs)) (each kind.Directives prune_line prune_starts hs)
    (joined kind.Directives (flat_map threshold_line hs) (flat_map first_line (reverse hs)) (each kind.Directives threshold_line threshold_starts hs) (each kind.Directives first_line first_starts (reverse hs)))
