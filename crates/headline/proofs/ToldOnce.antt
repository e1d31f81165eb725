-- What texts can tell of files is one thing, where each file was seen to have one content.
use Rattle.std.proofs.Common.{◌≡◌, ◌⊎◌, ℕ, ◌≤◌, Bool, true, false, cond, Option, Some, None, Ok, Err, List, length, refl, sym, ap, ◌∙◌, subst, arith, inl, inr}
use Rattle.std.specs.Prelude.{nat_lt, replicate}
use Rattle.std.proofs.lemmas.Bool.{ltb-true}
use Rattle.advice.specs.Directives.{advice}
use Rattle.advice.specs.Reading.{verdicts_of}
use Rattle.advice.specs.declared.verdict.Verdict.{Verdict}
use Rattle.elf_write.specs.Made.{elf_of}
use Rattle.code_points.specs.Points.{points_of}
use Rattle.code_points.specs.Procedures.{procedures_of, skipped_of}
use Rattle.command_words.specs.Requests.{Request, SessionRequest, AnnotateRequest, AskRequest, BlocksRequest, PlanRequest, ProfileRequest, StressRequest, run, live, replay, plan, asm, points, relog, stress, blocks, visi, advise, direct, profile, annotate, show, diff, ask, request_of}
use Rattle.command_words.specs.declared.requests.AnnotationUnit.{AnnotationUnit}
use Rattle.command_words.specs.declared.requests.AnnotationUnit.TheVariants as unit
use Rattle.command_words.specs.declared.requests.TurnOrder.{TurnOrder}
use Rattle.commands.proofs.OneDue.{Laws, due_once}
use Rattle.commands.specs.Differing.{begins_profile, diff_of}
use Rattle.commands.specs.Due.{AreOne, IsDueFor, is_live}
use Rattle.commands.specs.FileReadings.{FileReading, IsContent, limited}
use Rattle.commands.specs.Found.{AreFound, resources_of}
use Rattle.commands.specs.Given.{inputs_with}
use Rattle.commands.specs.Inputs.{AreInputs, IsConfiguration, IsProgramOfFile, image_of}
use Rattle.commands.specs.Output.{output}
use Rattle.commands.specs.Profiles.{AreAnnotation, IsUnitShown, starts_of}
use Rattle.commands.specs.Blocks.{pace_of}
use Rattle.commands.specs.Runs.{IsInOrder, stress_order, stress_session, stress_sight}
use Rattle.commands.specs.Showing.{view_of}
use Rattle.commands.specs.declared.differing.ComparedFile.{ComparedFile}
use Rattle.commands.specs.declared.finding.Found.{Found}
use Rattle.commands.specs.declared.texts.Texts.{Texts}
use Rattle.directives.specs.Acts.{applied}
use Rattle.directives.specs.Meaning.{IsDirectives}
use Rattle.directives.specs.declared.directive.Directive.{Directive}
use Rattle.mdl_ast.specs.declared.items.Conf.{Conf}
use Rattle.mdl_ast.specs.declared.items.Item.{Item}
use Rattle.mdl_check.specs.declared.checked.Checked.{Checked}
use Rattle.mdl_parse.specs.Meaning.{IsConf}
use Rattle.mdl_shipped.specs.Shipped.{shipped_conf}
use Rattle.pn_types.specs.declared.code.Point.{Point}
use Rattle.pn_types.specs.declared.code.Proc.{Proc}
use Rattle.pn_types.specs.declared.image.Image.{Image}
use Rattle.pn_types.specs.declared.quantum.Quantum.{Quantum}
use Rattle.pn_types.specs.declared.settings.Settings.{Settings}
use Rattle.profile_reader.specs.Pairs.{profile_parts}
use Rattle.profile_reader.specs.Reading.{profile_spelling}
use Rattle.profile_reader.specs.declared.profile.ReadProfile.{ReadProfile}
use Rattle.quanta_log.specs.Meaning.{meaning_of}
use Rattle.quanta_log.specs.Spelling.{spelled}
use Rattle.quanta_log.specs.declared.version.Version.TheVariants.{Two}
use Rattle.refusals.proofs.Steps.{IsOne}
use Rattle.refusals.specs.declared.fault.Fault.{Fault}
use Rattle.report.specs.Points.{points_text}
use Rattle.report.specs.Text.{report_text}
use Rattle.report.specs.declared.parts.ReportParts.{ReportParts}
use Rattle.report_reader.specs.Reading.{report_in}
use Rattle.report_reader.specs.declared.whole_report.Report.{Report}
use Rattle.resource_tree.specs.Resources.{Resources}
use Rattle.session.specs.Parts.{parts_of}
use Rattle.session_spec.specs.Inputs.{Inputs}
use Rattle.stress_run.specs.Summary.{summary_text}
use Rattle.visi_run.specs.Feed.{feed_of}
use Rattle.visi_run.specs.Texts.{visi_text}
use Rattle.whole_run.specs.Seeded.{IsSeeded}
use Rattle.word_counts.specs.Profiles.{IsProfile}
use Rattle.word_counts.specs.declared.profile.Profile.{Profile}
use Rattle.headline.specs.Headline.{AreViews, IsAsked, IsComparedText, IsConfigurationOf, IsDirectedBy, IsLogOf, IsPlain, IsProgramOf, IsRunOf, Run, Tells, report_of}
use Rattle.headline.specs.Honest.{end_of}
use Rattle.headline.proofs.Asked.{asked_due}
use Rattle.headline.proofs.Steps.{ok_is}

-- each file was seen to have at most one content
abbrev pub IsSingle : FileReading → Type 0
IsSingle sees = (name x y : List ℕ) → sees name (Ok x) → sees name (Ok y) → x ≡ y

texts_same : (t u : Texts) → t.out ≡ u.out → t.log ≡ u.log → t ≡ u
texts_same t u out log =
    let with_out : List ℕ → Texts = λ o. record { out = o; log = t.log } in
    let with_log : List ℕ → Texts = λ l. record { out = u.out; log = l } in
    ap with_out out ∙ ap with_log log

output_same : (t u : Texts) (a b : List ℕ) → t ≡ output a → u ≡ output b → a ≡ b → t ≡ u
output_same t u a b e f same = e ∙ ap (λ (l : List ℕ). output l) same ∙ sym f

-- ---- runs

-- two runs with the same inputs and quanta, of which the same is printed
record IsSameRun (r s : Run) : Type 0 where
  inputs : r.inputs ≡ s.inputs
  quanta : r.quanta ≡ s.quanta
  parts : r.parts ≡ s.parts

report_same : (r s : Run) → IsSameRun r s → report_of r ≡ report_of s
report_same r s same =
    ap (λ (p : ReportParts). report_text p (skipped_of r.inputs.image)) same.parts ∙ ap (λ (i : Inputs). report_text s.parts (skipped_of i.image)) same.inputs

log_same : (r s : Run) → IsSameRun r s → spelled Two r.inputs.settings r.quanta ≡ spelled Two s.inputs.settings s.quanta
log_same r s same =
    ap (λ (i : Inputs). spelled Two i.settings r.quanta) same.inputs ∙ ap (λ (l : List Quantum). spelled Two s.inputs.settings l) same.quanta

views_same : (views : ℕ) (r s : Run) (t u : List ℕ) → IsSameRun r s → AreViews views r t → AreViews views s u → t ≡ u
views_same views r s t u same a b =
    a.is ∙ ap (λ (p : ReportParts). visi_text p.shown (replicate views (feed_of r.inputs r.quanta))) same.parts
    ∙ ap (λ (i : Inputs). visi_text s.parts.shown (replicate views (feed_of i r.quanta))) same.inputs
    ∙ ap (λ (l : List Quantum). visi_text s.parts.shown (replicate views (feed_of s.inputs l))) same.quanta ∙ sym b.is

limited_is : (most : ℕ) (fault : Fault) (bytes : List ℕ) → length bytes ≤ most → Ok bytes ≡ limited most fault bytes
limited_is most fault bytes short = by (nat_lt most (length bytes)) refl
  where
    by : (b : Bool) → nat_lt most (length bytes) ≡ b → Ok bytes ≡ cond b (Err fault) (Ok bytes)
    by true e = let more = ltb-true most (length bytes) e in absurd (omega arith)
    by false e = refl

-- no bytes are the text of a report and of a profile
never_both : (bytes : List ℕ) (r : Report) (p : ReadProfile) → report_text r.parts r.skipped ≡ bytes → profile_spelling p ≡ bytes → ⊥
unfolding profile_spelling
never_both bytes r p report written =
    let no : begins_profile (report_text r.parts r.skipped) ≡ false = refl in
    let yes : begins_profile (profile_spelling p) ≡ true = refl in
    let same : begins_profile (report_text r.parts r.skipped) ≡ begins_profile (profile_spelling p) = ap begins_profile (report ∙ sym written) in
    let both : true ≡ false = sym yes ∙ sym same ∙ no in
    absurd (cc)

module _ (laws : Laws) where
  abbrev made_of : Resources → List Proc → ℕ → List Point → Checked → Found
  made_of tree procs skipped places checked = record { tree = tree; procs = procs; skipped = skipped; points = places; checked = checked }

  found_once : (image : Image) (harts : ℕ) (conf : Conf) (f g : Found) → AreFound image harts conf f → AreFound image harts conf g → f ≡ g
  found_once image harts conf f g a b =
      let checked : f.checked ≡ g.checked =
      ok_is f.checked g.checked (laws.answer (resources_of image harts conf) shipped_conf.items conf.items (Ok f.checked) (Ok g.checked) a.checked b.checked) in
      ap (λ (x : Resources). made_of x f.procs f.skipped f.points f.checked) (a.tree ∙ sym b.tree)
      ∙ ap (λ (x : List Proc). made_of g.tree x f.skipped f.points f.checked) (a.procs ∙ sym b.procs)
      ∙ ap (λ (x : ℕ). made_of g.tree g.procs x f.points f.checked) (a.skipped ∙ sym b.skipped)
      ∙ ap (λ (x : List Point). made_of g.tree g.procs g.skipped x f.checked) (a.points ∙ sym b.points)
      ∙ ap (made_of g.tree g.procs g.skipped g.points) checked

  found_same : (x y : Image) (m n : ℕ) (c d : Conf) (f g : Found) → x ≡ y → m ≡ n → c ≡ d → AreFound x m c f → AreFound y n d g → f ≡ g
  found_same x y m n c d f g image harts conf a b =
      let one : AreFound y m c f = subst (λ (z : Image). AreFound z m c f) image a in
      let two : AreFound y n c f = subst (λ (z : ℕ). AreFound y z c f) harts one in
      found_once y n d f g (subst (λ (z : Conf). AreFound y n z f) conf two) b

  module _ (sees : FileReading) (single : IsSingle sees) where
    program_once : (name : List ℕ) (x y : Image) → IsProgramOf sees name x → IsProgramOf sees name y → x ≡ y
    program_once name x y (bytes, told, is) (others, heard, it) =
        ok_is x y (sym is.means ∙ ap image_of (single name bytes others told heard) ∙ it.means)

    conf_once : (name : List ℕ) (c d : Conf) → IsConfigurationOf sees name c → IsConfigurationOf sees name d → c ≡ d
    conf_once name c d (text, told, is) (other, heard, it) =
        laws.conf text c d is.spelled (subst (λ (t : List ℕ). IsConf t d) (single name other text heard told) it.spelled)

    -- ---- what runs

    inputs_same : (program conf : List ℕ) (r s : Run) → IsRunOf sees program conf r → IsRunOf sees program conf s → r.inputs.settings ≡ s.inputs.settings → r.made ≡ s.made → r.inputs ≡ s.inputs
    inputs_same program conf r s a b settings made =
        let image : r.inputs.image ≡ s.inputs.image = program_once program r.inputs.image s.inputs.image a.holds_program b.holds_program in
        let harts = ap (λ (x : Settings). x.harts) settings in
        let found : a.found ≡ b.found =
        found_same r.inputs.image s.inputs.image r.inputs.settings.harts s.inputs.settings.harts r.made s.made a.found b.found image harts made a.accepted b.accepted in
        a.given ∙ ap (λ (x : Image). inputs_with x a.found r.inputs.settings) image
        ∙ ap (λ (x : Found). inputs_with s.inputs.image x r.inputs.settings) found
        ∙ ap (λ (x : Settings). inputs_with s.inputs.image b.found x) settings ∙ sym b.given

    parts_same : (program conf : List ℕ) (r s : Run) → IsRunOf sees program conf r → IsRunOf sees program conf s → r.inputs ≡ s.inputs → r.quanta ≡ s.quanta → r.parts ≡ s.parts
    parts_same program conf r s a b inputs quanta =
        a.honest.parts ∙ ap (λ (i : Inputs). parts_of i (end_of i r.quanta)) inputs
        ∙ ap (λ (l : List Quantum). parts_of s.inputs (end_of s.inputs l)) quanta ∙ sym b.honest.parts

    asked_same : (q : SessionRequest) (order : TurnOrder) (r s : Run) → IsAsked sees q (IsInOrder order) r → IsAsked sees q (IsInOrder order) s → r.made ≡ s.made → IsSameRun r s
    asked_same q order r s a b made =
        let inputs = inputs_same q.program q.conf r s a.0 b.0 (a.1 ∙ sym b.1) made in
        let quanta = laws.seeded s.inputs order.seed order.quantum r.quanta s.quanta (subst (λ (i : Inputs). IsSeeded i order.seed order.quantum r.quanta) inputs a.2) b.2 in
        record { inputs = inputs; quanta = quanta; parts = parts_same q.program q.conf r s a.0 b.0 inputs quanta }

    plain_made : (program conf : List ℕ) (r s : Run) → IsRunOf sees program conf r → IsRunOf sees program conf s → IsPlain r → IsPlain s → r.made ≡ s.made
    plain_made program conf r s a b plain simple = plain ∙ conf_once conf r.spelled s.spelled a.holds_conf b.holds_conf ∙ sym simple

    plain_same : (q : SessionRequest) (order : TurnOrder) (r s : Run) → IsAsked sees q (IsInOrder order) r → IsAsked sees q (IsInOrder order) s → IsPlain r → IsPlain s → IsSameRun r s
    plain_same q order r s a b plain simple = asked_same q order r s a b (plain_made q.program q.conf r s a.0 b.0 plain simple)

    -- runs with the same log
    logged_same : (program conf : List ℕ) (r s : Run) → IsRunOf sees program conf r → IsRunOf sees program conf s → IsPlain r → IsPlain s
        → (log other : List ℕ) → log ≡ other → IsLogOf log r → IsLogOf other s → IsSameRun r s
    logged_same program conf r s a b plain simple log other one means meant =
        let same : ◌≡◌ {A = Settings × List Quantum} (r.inputs.settings, r.quanta) (s.inputs.settings, s.quanta) =
        ok_is (r.inputs.settings, r.quanta) (s.inputs.settings, s.quanta) (sym means ∙ ap meaning_of one ∙ meant) in
        let settings : r.inputs.settings ≡ s.inputs.settings = ap (λ (p : Settings × List Quantum). p.0) same in
        let quanta : r.quanta ≡ s.quanta = ap (λ (p : Settings × List Quantum). p.1) same in
        let inputs = inputs_same program conf r s a b settings (plain_made program conf r s a b plain simple) in
        record { inputs = inputs; quanta = quanta; parts = parts_same program conf r s a b inputs quanta }

    abbrev conf_of : List Item → Conf
    conf_of items = record { items = items }

    -- what directives make
    directed_made : (name : List ℕ) (r s : Run) → r.spelled ≡ s.spelled → IsDirectedBy sees name r → IsDirectedBy sees name s → r.made ≡ s.made
    directed_made name r s spelled a b =
        let text = single name b.text a.text b.told a.told in
        let directives : a.directives ≡ b.directives =
        laws.directives a.text a.directives b.directives a.spelled (subst (λ (t : List ℕ). IsDirectives t b.directives) text b.spelled) in
        let items : r.made.items ≡ s.made.items =
        ok_is r.made.items s.made.items
        (sym a.made ∙ ap (λ (c : Conf). applied shipped_conf.items c.items a.directives) spelled
        ∙ ap (λ (ds : List Directive). applied shipped_conf.items s.spelled.items ds) directives ∙ b.made) in
        ap conf_of items

    -- ---- what is due, for commands with a relation of their own

    -- what was seen, without what failed
    abbrev contents : FileReading
    contents name (Ok bytes) = sees name (Ok bytes)
    contents name (Err fault) = ⊥

    contents_once : (name : List ℕ) → IsOne (contents name)
    contents_once name (Ok x) (Ok y) a b = ap (λ (l : List ℕ). Ok l) (single name x y a b)
    contents_once name (Ok x) (Err g) a b = absurd b
    contents_once name (Err f) b a c = absurd a

    content_due : (most : ℕ) (fault : Fault) (name bytes : List ℕ) → sees name (Ok bytes) → length bytes ≤ most → IsContent contents most fault name (Ok bytes)
    content_due most fault name bytes told short = (Ok bytes, told, limited_is most fault bytes short)

    program_due : (name : List ℕ) (image : Image) → IsProgramOf sees name image → IsProgramOfFile contents name (Ok image)
    program_due name image (bytes, told, is) = (Ok bytes, content_due 33554432 _ name bytes told is.short, sym is.means)

    conf_due : (name : List ℕ) (conf : Conf) → IsConfigurationOf sees name conf → IsConfiguration contents name (Ok conf)
    conf_due name conf (text, told, is) = (Ok text, content_due 1048576 _ name text told is.short, is.spelled)

    inputs_due : (program name : List ℕ) (image : Image) (conf : Conf) → IsProgramOf sees program image → IsConfigurationOf sees name conf → AreInputs contents program name (Ok (record { image = image; conf = conf }))
    inputs_due program name image conf p c = (Ok image, program_due program image p, (Ok conf, conf_due name conf c, refl))

    unit_due : (by : AnnotationUnit) (q : AnnotateRequest) (bytes : List ℕ) (image : Image) (name : Option (List ℕ)) (r : Profile) (texts : Texts)
        → IsProfile image (starts_of image q.source.also) q.source.counted.budget (pace_of q.source.counted) r → AreAnnotation by q bytes image name r texts → IsUnitShown by q bytes image name (Ok texts)
    unit_due unit.Words q bytes image name r texts is e = (Ok r, is, ap (λ (t : Texts). Ok t) e)
    unit_due unit.Lines q bytes image name r texts is (parts, are, e) = (Ok parts, are, (Ok r, is, ap (λ (t : Texts). Ok t) e))

    -- for these what is told is due

    plan_due : (q : PlanRequest) (texts : Texts) → Tells (Some (plan q)) sees texts → IsDueFor (Some (plan q)) contents (Ok texts)
    plan_due q texts (image, p, conf, c, found, are, is) = (Ok (record { image = image; conf = conf }), inputs_due q.program q.conf image conf p c, (Ok found, are, is))

    ask_due : (q : AskRequest) (texts : Texts) → Tells (Some (ask q)) sees texts → IsDueFor (Some (ask q)) contents (Ok texts)
    ask_due q texts (image, p, conf, c, found, are, at) = (Ok image, program_due q.counted.program image p, (Ok conf, c.spelled, (Ok found, are, asked_due q image found texts at)))

    blocks_due : (q : BlocksRequest) (texts : Texts) → Tells (Some (blocks q)) sees texts → IsDueFor (Some (blocks q)) contents (Ok texts)
    blocks_due q texts (image, p, counted) = (Ok image, program_due q.program image p, counted)

    profile_due : (q : ProfileRequest) (texts : Texts) → Tells (Some (profile q)) sees texts → IsDueFor (Some (profile q)) contents (Ok texts)
    profile_due q texts (image, p, r, is, sums, e) = (Ok image, program_due q.source.counted.program image p, (Ok r, is, ap (λ (t : Texts). Ok t) e))

    annotate_due : (q : AnnotateRequest) (texts : Texts) → Tells (Some (annotate q)) sees texts → IsDueFor (Some (annotate q)) contents (Ok texts)
    annotate_due q texts (bytes, told, image, is, name, named, r, profiled, are) =
        (Ok bytes, content_due 33554432 _ q.source.counted.program bytes told is.short, (Ok image, sym is.means, (Ok name, named, unit_due q.unit q bytes image name r texts profiled are)))

    by_due : (words : List (List ℕ)) (asked : Option Request) → request_of words ≡ asked → is_live asked ≡ false → (t u : Texts) → IsDueFor asked contents (Ok t) → IsDueFor asked contents (Ok u) → t ≡ u
    by_due words asked e other t u a b =
        let due : (texts : Texts) → IsDueFor asked contents (Ok texts) → IsDueFor (request_of words) contents (Ok texts) =
        λ texts d. subst (λ (o : Option Request). IsDueFor o contents (Ok texts)) (sym e) d in
        let alike = due_once laws contents contents_once words (Ok t) (Ok u) (due t a) (due u b) in
        let no : is_live (request_of words) ≡ false = ap is_live e ∙ other in
        ok_is t u (subst (λ (l : Bool). AreOne l (Ok t) (Ok u)) no alike)

    -- ---- bytes that are compared

    compared_same : (bytes : List ℕ) (c d : ComparedFile) → IsComparedText bytes c → IsComparedText bytes d → c ≡ d
    compared_same bytes c d (inl (r, is, text, e)) (inl (s, it, spelling, f)) =
        e ∙ ap (λ (x : Report). record { is_profile = false; parts = x.parts }) (ok_is r s (sym is ∙ it)) ∙ sym f
    compared_same bytes c d (inr (r, is, text, e)) (inr (s, it, spelling, f)) =
        e ∙ ap (λ (x : ReadProfile). record { is_profile = true; parts = profile_parts x }) (ok_is r s (sym is ∙ it)) ∙ sym f
    compared_same bytes c d (inl (r, is, text, e)) (inr (s, it, spelling, f)) = absurd (never_both bytes r s text spelling)
    compared_same bytes c d (inr (r, is, text, e)) (inl (s, it, spelling, f)) = absurd (never_both bytes s r spelling text)

stress_single : (q : StressRequest) → IsSingle (stress_sight q)
stress_single q name x y a b = ok_is x y (a ∙ sym b)

module _ (laws : Laws) (sees : FileReading) (single : IsSingle sees) (words : List (List ℕ)) (t u : Texts) where
  told_by : (asked : Option Request) → request_of words ≡ asked → (is_live asked ≡ false) ⊎ (t.log ≡ u.log) → Tells asked sees t → Tells asked sees u → t ≡ u
  told_by None e sole a b = absurd a
  told_by (Some (run q)) e sole (r, asked, plain, out, log, means) (s, other, simple, gone, logged, meant) =
      let same = plain_same laws sees single q.session q.order r s asked other plain simple in
      texts_same t u (out ∙ report_same r s same ∙ sym gone) (log ∙ log_same r s same ∙ sym logged)
  told_by (Some (live q)) e (inl plays) a b = absurd (cc)
  told_by (Some (live q)) e (inr whole) (r, asked, plain, out, log, means) (s, other, simple, gone, logged, meant) =
      let same = logged_same laws sees single q.session.program q.session.conf r s asked.0 other.0 plain simple t.log u.log whole means meant in
      texts_same t u (out ∙ report_same r s same ∙ sym gone) whole
  told_by (Some (replay q)) e sole (r, is, plain, (log, told, means), out) (s, it, simple, (other, heard, meant), gone) =
      let same = logged_same laws sees single q.program q.conf r s is it plain simple log other (single q.log log other told heard) means meant in
      output_same t u (report_of r) (report_of s) out gone (report_same r s same)
  told_by (Some (visi q)) e sole (r, asked, plain, views, none) (s, other, simple, seen, never) =
      let same = plain_same laws sees single q.session q.order r s asked other plain simple in
      texts_same t u (views_same q.views r s t.out u.out same views seen) (none ∙ sym never)
  told_by (Some (direct q)) e sole (r, asked, by, out) (s, other, also, gone) =
      let spelled_same = conf_once laws sees single q.session.conf r.spelled s.spelled asked.0.holds_conf other.0.holds_conf in
      let made = directed_made laws sees single q.directives r s spelled_same by also in
      let same = asked_same laws sees single q.session q.order r s asked other made in
      output_same t u (report_of r) (report_of s) out gone (report_same r s same)
  told_by (Some (stress q)) e sole (r, asked, plain, out) (s, other, simple, gone) =
      let same = plain_same laws (stress_sight q) (stress_single q) stress_session (stress_order q) r s asked other plain simple in
      output_same t u (summary_text q.procs r.parts) (summary_text q.procs s.parts) out gone (ap (λ (p : ReportParts). summary_text q.procs p) same.parts)
  told_by (Some (blocks q)) e sole a b = by_due laws sees single words (Some (blocks q)) e refl t u (blocks_due laws sees single q t a) (blocks_due laws sees single q u b)
  told_by (Some (profile q)) e sole a b = by_due laws sees single words (Some (profile q)) e refl t u (profile_due laws sees single q t a) (profile_due laws sees single q u b)
  told_by (Some (annotate q)) e sole a b = by_due laws sees single words (Some (annotate q)) e refl t u (annotate_due laws sees single q t a) (annotate_due laws sees single q u b)
  told_by (Some (plan q)) e sole a b = by_due laws sees single words (Some (plan q)) e refl t u (plan_due laws sees single q t a) (plan_due laws sees single q u b)
  told_by (Some (ask q)) e sole a b = by_due laws sees single words (Some (ask q)) e refl t u (ask_due laws sees single q t a) (ask_due laws sees single q u b)
  told_by (Some (points name)) e sole (image, p, out) (other, q, gone) =
      let text : Image → Texts = λ x. output (points_text (procedures_of x) (points_of x (procedures_of x)) (skipped_of x)) in
      out ∙ ap text (program_once laws sees single name image other p q) ∙ sym gone
  told_by (Some (asm name)) e sole (text, told, file, again, none) (other, heard, made, meant, never) =
      texts_same t u (ok_is t.out u.out (sym file ∙ ap elf_of (single name text other told heard) ∙ made)) (none ∙ sym never)
  told_by (Some (relog name)) e sole (log, told, means, is, again, out) (other, heard, meant, it, anew, gone) =
      let same = ok_is means meant (sym is ∙ ap meaning_of (single name log other told heard) ∙ it) in
      out ∙ ap (λ (p : Settings × List Quantum). output (spelled Two p.0 p.1)) same ∙ sym gone
  told_by (Some (advise name)) e sole (bytes, told, verdicts, is, out) (other, heard, judged, it, gone) =
      let same = ok_is verdicts judged (sym is ∙ ap verdicts_of (single name bytes other told heard) ∙ it) in
      out ∙ ap (λ (l : List Verdict). output (advice l)) same ∙ sym gone
  told_by (Some (show q)) e sole (bytes, told, r, is, text, out) (other, heard, s, it, spelling, gone) =
      let same = ok_is r s (sym is ∙ ap report_in (single q.report bytes other told heard) ∙ it) in
      out ∙ ap (λ (x : Report). output (view_of q x)) same ∙ sym gone
  told_by (Some (diff q)) e sole (old, new, old_told, new_told, a, b, is, it, out) (old', new', old_heard, new_heard, c, d, was, became, gone) =
      let first = compared_same laws sees single old a c is (subst (λ (l : List ℕ). IsComparedText l c) (single q.old old' old old_heard old_told) was) in
      let second = compared_same laws sees single new b d it (subst (λ (l : List ℕ). IsComparedText l d) (single q.new new' new new_heard new_told) became) in
      ok_is t u (out ∙ ap (λ (x : ComparedFile). diff_of x b) first ∙ ap (λ (x : ComparedFile). diff_of c x) second ∙ sym gone)

  pub told_once : (is_live (request_of words) ≡ false) ⊎ (t.log ≡ u.log) → Tells (request_of words) sees t → Tells (request_of words) sees u → t ≡ u
  told_once = told_by (request_of words) refl
