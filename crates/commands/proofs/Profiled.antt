-- What comes of a profile is one thing.
use Rattle.std.proofs.Common.{◌≡◌, ℕ, List, Option, None, Some, Result, Ok, Err, true, false, Bool, cond, sym, subst, ap, ◌∙◌, sum, arith}
use Rattle.std.specs.List.{list_any}
use Rattle.block_count.specs.Counted.{IsFault}
use Rattle.block_count.specs.declared.counts.Counts.{Counts}
use Rattle.block_count.specs.Heads.{heads_of}
use Rattle.code_points.specs.Procedures.{procedures_of}
use Rattle.command_words.specs.Requests.{ProfileSource, ProfileRequest, AnnotateRequest}
use Rattle.command_words.specs.declared.requests.AnnotationUnit.{AnnotationUnit}
use Rattle.command_words.specs.declared.requests.AnnotationUnit.TheVariants as unit
use Rattle.line_table.specs.Meaning.{meaning_of, paths_meaning}
use Rattle.line_table.specs.declared.fault.LineFault.{LineFault}
use Rattle.line_table.specs.declared.paths.UnitPaths.{UnitPaths}
use Rattle.line_table.specs.declared.registers.LineTable.{LineTable}
use Rattle.pn_types.specs.declared.code.Proc.{Proc}
use Rattle.pn_types.specs.declared.image.Image.{Image}
use Rattle.profile_text.specs.Names.{is_named}
use Rattle.refusals.proofs.Steps.{IsOne, one_then}
use Rattle.refusals.specs.Refusals.{Then}
use Rattle.refusals.specs.declared.fault.Fault.{Fault}
use Rattle.refusals.specs.declared.fault.Fault.TheVariants.{FileFault, NoLines, NoProcedure}
use Rattle.rv_mem.specs.Start.{program_of}
use Rattle.word_counts.specs.Placing.{counts_of_words}
use Rattle.word_counts.specs.Profiles.{IsProfile}
use Rattle.word_counts.specs.declared.profile.Profile.{Profile}
use Rattle.word_flow.specs.HartEnds.{run_ends}
use Rattle.word_flow.specs.Laws.{run_numbers}
use Rattle.word_flow.specs.Numbers.{told_ticks}
use Rattle.commands.specs.Blocks.{pace_of}
use Rattle.commands.specs.Inputs.{begins_elf, image_of}
use Rattle.commands.specs.Output.{output}
use Rattle.commands.specs.Profiles.{AreProfileTexts, IsAnnotation, IsBytesAnnotation, IsProfiled, IsShown, IsUnitShown, both_parts, chosen, line_parts, lines_shown, or_no_lines, profile_texts, starts_of, words_shown}
use Rattle.commands.specs.declared.texts.Texts.{Texts}
use Rattle.commands.proofs.Counted.{counts_once}

abbrev made : Counts → List ℕ → ℕ → Profile
made counts numbers untold = record { counts = counts; numbers = numbers; untold = untold }

of_parts : (a b : Profile) → a.counts ≡ b.counts → a.numbers ≡ b.numbers → a.untold ≡ b.untold → a ≡ b
of_parts a b c n u =
    ap (λ (x : Counts). made x a.numbers a.untold) c ∙ ap (λ (x : List ℕ). made b.counts x a.untold) n ∙ ap (λ (x : ℕ). made b.counts b.numbers x) u

module _ (s : ProfileSource) (image : Image) where
  abbrev starts : List Proc
  starts = starts_of image s.also

  -- the numbers along a run, from counts
  abbrev numbers_along : List ℕ → Counts → List ℕ
  numbers_along turns counts =
      run_numbers image s.counted.harts turns (counts_of_words (heads_of image starts) counts.counts (program_of image).words image.text_at)

  abbrev told_along : List ℕ → List ℕ → ℕ
  told_along turns numbers = told_ticks (program_of image) (run_ends image s.counted.harts turns) numbers

  profile_is : (a b : Profile) → IsProfile image starts s.counted.budget (pace_of s.counted) a → IsProfile image starts s.counted.budget (pace_of s.counted) b → a ≡ b
  profile_is a b is it =
      let counts = counts_once image starts s.counted.budget (pace_of s.counted) a.counts b.counts is.counted it.counted in
      let turns : is.counted.turns ≡ it.counted.turns = is.counted.owned ∙ sym it.counted.owned in
      let numbers : a.numbers ≡ b.numbers =
      is.are ∙ ap (λ (ts : List ℕ). numbers_along ts a.counts) turns ∙ ap (λ (c : Counts). numbers_along it.counted.turns c) counts ∙ sym it.are in
      let told : told_along is.counted.turns a.numbers ≡ told_along it.counted.turns b.numbers =
      ap (λ (ts : List ℕ). told_along ts a.numbers) turns ∙ ap (λ (ns : List ℕ). told_along it.counted.turns ns) numbers in
      let ticks : sum a.counts.ticks ≡ sum b.counts.ticks = ap (λ (c : Counts). sum c.ticks) counts in
      of_parts a b counts numbers (omega (arith, is.all, it.all, told, ticks))

  pub profiled_once : IsOne (IsProfiled s image)
  profiled_once (Ok a) (Ok b) is it = ap (λ (r : Profile). Ok r) (profile_is a b is it)
  profiled_once (Ok a) (Err f) is (n, many, why) = absurd (omega (arith, is.counted.few, many.0, many.1))
  profiled_once (Err e) (Ok b) (n, many, why) it = absurd (omega (arith, it.counted.few, many.0, many.1))
  profiled_once (Err e) (Err f) (n, many, why) (m, more, because) = let same : n ≡ m = sym many.0 ∙ more.0 in cc

  -- no file is at fault
  pub profiled_spared : (name : List ℕ) → IsProfiled s image (Err (FileFault name)) → ⊥
  profiled_spared name (n, many, why) = absurd cc

  then_spared : (texts_of : Profile → Texts) (name : List ℕ) → Then (IsProfiled s image) (λ r texts. texts ≡ Ok (texts_of r)) (Err (FileFault name)) → ⊥
  then_spared texts_of name (Ok r, is, e) = cc
  then_spared texts_of name (Err f, is, e) = let same : f ≡ FileFault name = cc in profiled_spared name (subst (λ (g : Fault). IsProfiled s image (Err g)) same is)

-- ---- profile

pub profile_once : (q : ProfileRequest) (image : Image) → IsOne (AreProfileTexts q image)
profile_once q image =
    one_then (IsProfiled q.source image) (λ r texts. texts ≡ Ok (profile_texts q image r)) (profiled_once q.source image)
    (λ r a b e f. e ∙ sym f)

pub profile_spared : (q : ProfileRequest) (image : Image) (name : List ℕ) → AreProfileTexts q image (Err (FileFault name)) → ⊥
profile_spared q image name e = then_spared q.source image (profile_texts q image) name e

-- ---- annotate

shown_once : (text_of : Profile → List ℕ) (q : AnnotateRequest) (image : Image) → IsOne (IsShown text_of q image)
shown_once text_of q image =
    one_then (IsProfiled q.source image) (λ r texts. texts ≡ Ok (output (text_of r))) (profiled_once q.source image)
    (λ r a b e f. e ∙ sym f)

unit_once : (by : AnnotationUnit) (q : AnnotateRequest) (bytes : List ℕ) (image : Image) (name : Option (List ℕ)) → IsOne (IsUnitShown by q bytes image name)
unit_once unit.Words q bytes image name = shown_once (words_shown q image name) q image
unit_once unit.Lines q bytes image name =
    one_then (λ parts. parts ≡ line_parts bytes) (λ parts. IsShown (lines_shown bytes parts image name) q image) (λ a b e f. e ∙ sym f)
    (λ parts. shown_once (lines_shown bytes parts image name) q image)

annotation_is_one : (q : AnnotateRequest) (bytes : List ℕ) (image : Image) → IsOne (IsAnnotation q bytes image)
annotation_is_one q bytes image =
    one_then (λ name. name ≡ chosen q.procedure image) (IsUnitShown q.unit q bytes image) (λ a b e f. e ∙ sym f) (unit_once q.unit q bytes image)

pub annotation_once : (q : AnnotateRequest) (bytes : List ℕ) → IsOne (IsBytesAnnotation q bytes)
annotation_once q bytes =
    one_then (λ image. image ≡ image_of bytes) (IsAnnotation q bytes) (λ a b e f. e ∙ sym f) (annotation_is_one q bytes)

shown_spared : (text_of : Profile → List ℕ) (q : AnnotateRequest) (image : Image) (file : List ℕ) → IsShown text_of q image (Err (FileFault file)) → ⊥
shown_spared text_of q image file e = then_spared q.source image (λ r. output (text_of r)) file e

both_spared : (table : Result (Option LineTable) LineFault) (units : Result (Option (List UnitPaths)) LineFault) (file : List ℕ) → Err (FileFault file) ≡ both_parts (or_no_lines table) (or_no_lines units) → ⊥
both_spared (Err fault) units file e = cc
both_spared (Ok None) units file e = cc
both_spared (Ok (Some table)) (Err fault) file e = cc
both_spared (Ok (Some table)) (Ok None) file e = cc
both_spared (Ok (Some table)) (Ok (Some units)) file e = cc

either_lines_spared : (b : Bool) (bytes file : List ℕ) → Err (FileFault file) ≡ cond b (both_parts (or_no_lines (meaning_of bytes)) (or_no_lines (paths_meaning bytes))) (Err NoLines) → ⊥
either_lines_spared true bytes file e = both_spared (meaning_of bytes) (paths_meaning bytes) file e
either_lines_spared false bytes file e = cc

unit_spared : (by : AnnotationUnit) (q : AnnotateRequest) (bytes : List ℕ) (image : Image) (name : Option (List ℕ)) (file : List ℕ) → IsUnitShown by q bytes image name (Err (FileFault file)) → ⊥
unit_spared unit.Words q bytes image name file e = shown_spared (words_shown q image name) q image file e
unit_spared unit.Lines q bytes image name file (Ok parts, is, shown) = shown_spared (lines_shown bytes parts image name) q image file shown
unit_spared unit.Lines q bytes image name file (Err f, is, e) =
    let same : f ≡ FileFault file = cc in either_lines_spared (begins_elf bytes) bytes file (ap (λ (g : Fault). Err g) (sym same) ∙ is)

either_spared : (b : Bool) (name file : List ℕ) → Err (FileFault file) ≡ cond b (Ok (Some name)) (Err (NoProcedure name)) → ⊥
either_spared true name file e = cc
either_spared false name file e = cc

chosen_spared : (name : Option (List ℕ)) (image : Image) (file : List ℕ) → Err (FileFault file) ≡ chosen name image → ⊥
chosen_spared None image file e = cc
chosen_spared (Some name) image file e = either_spared (list_any (is_named name) (procedures_of image)) name file e

pub annotation_spared : (q : AnnotateRequest) (bytes : List ℕ) (image : Image) (file : List ℕ) → IsAnnotation q bytes image (Err (FileFault file)) → ⊥
annotation_spared q bytes image file (Ok name, is, shown) = unit_spared q.unit q bytes image name file shown
annotation_spared q bytes image file (Err f, is, e) = let same : f ≡ FileFault file = cc in chosen_spared q.procedure image file (ap (λ (g : Fault). Err g) (sym same) ∙ is)
