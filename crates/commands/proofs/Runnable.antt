-- What files hold, and a check accepts, can be run.
use Rattle.std.proofs.Common.{◌≡◌, inl, inr, ℕ, ◌<◌, ◌≤◌, ◌^◌, Bool, true, false, cond, Result, Ok, Err, List, [], ◌∷◌, length, sym, ap, ◌∙◌, subst, arith}
use Rattle.std.specs.List.{AllByRecursion}
use Rattle.std.specs.List.Sorted.{IsStrictlyIncreasing}
use Rattle.std.specs.Prelude.{map}
use Rattle.code_points.proofs.Ascending.{ascending, few_points}
use Rattle.code_points.proofs.LowObjects.{low_objects}
use Rattle.code_points.specs.Objects.{objects_of}
use Rattle.code_points.specs.Points.{points_of}
use Rattle.code_points.specs.Procedures.{AreModulesGood, AreProcsOf}
use Rattle.directives.proofs.Small.{small_after}
use Rattle.elf_form.proofs.AcceptedImages.{accepted, good_modules}
use Rattle.elf_form.proofs.Countable.{few_symbols}
use Rattle.elf_form.specs.Meaning.{meaning_of}
use Rattle.elf_form.specs.declared.fault.ElfFault.{ElfFault}
use Rattle.mdl_ast.specs.Small.{HasSmall}
use Rattle.mdl_ast.specs.declared.items.Conf.{Conf}
use Rattle.mdl_check.specs.Checking.{prefixes_of}
use Rattle.mdl_check.specs.Sound.{CheckedIsSound}
use Rattle.mdl_parse.proofs.SmallItems.{small_conf}
use Rattle.mdl_plan.specs.Fitting.{HasLowObjects}
use Rattle.mdl_shipped.proofs.ShippedSmall.{shipped_small}
use Rattle.mdl_shipped.specs.Shipped.{shipped_conf}
use Rattle.pn_types.specs.Images.{IsImage}
use Rattle.pn_types.specs.declared.code.Point.{Point}
use Rattle.pn_types.specs.declared.code.Proc.{Proc}
use Rattle.pn_types.specs.declared.image.Image.{Image}
use Rattle.pn_types.specs.declared.image.Symbol.{Symbol}
use Rattle.pn_types.specs.declared.limits.TheConstants.{SEGMENTS_TO}
use Rattle.resource_tree.proofs.Listed.{objects_low}
use Rattle.resource_tree.specs.Resources.{Resources}
use Rattle.rv_asm.proofs.AssembledImages.{assembled_is}
use Rattle.rv_asm.specs.Assembly.{assembled}
use Rattle.rv_asm.specs.declared.fault.AsmFault.{AsmFault}
use Rattle.rv_mem.specs.Start.{program_of}
use Rattle.commands.specs.Found.{AreFound, resources_of}
use Rattle.commands.specs.Given.{CanRun, IsUnscratched}
use Rattle.commands.specs.Inputs.{begins_elf, or_bad_elf, or_bad_text}
use Rattle.commands.specs.Runnable.{IsConfOf, IsImageOf, MakesOf}
use Rattle.commands.specs.declared.finding.Found.{Found}
use Rattle.commands.proofs.Directed.{applied_few}
use Rattle.commands.proofs.FewItems.{few_items}
use Rattle.commands.proofs.Given.{IsKnown, given}
use Rattle.commands.proofs.Procs.{are_procs}

-- ---- images

pub record IsGood (image : Image) : Type 0 where
  pub is : IsImage image
  pub unscratched : IsUnscratched image
  pub modules : AreModulesGood image

elf_ok : (r : Result Image ElfFault) (image : Image) → or_bad_elf r ≡ Ok image → r ≡ Ok image
elf_ok (Ok x) image e = cc
elf_ok (Err fault) image e = absurd (cc)

asm_ok : (r : Result Image AsmFault) (image : Image) → or_bad_text r ≡ Ok image → r ≡ Ok image
asm_ok (Ok x) image e = cc
asm_ok (Err fault) image e = absurd (cc)

-- what a file's bytes mean is an image without x31, whose modules have good names
pub good_image : (bytes : List ℕ) (image : Image) → IsImageOf bytes image → IsGood image
good_image bytes image h = by (begins_elf bytes) h.means
  where
    by : (b : Bool) → cond b (or_bad_elf (meaning_of bytes)) (or_bad_text (assembled bytes)) ≡ Ok image → IsGood image
    by true e =
        let m = elf_ok (meaning_of bytes) image e in
        let few = few_symbols bytes image m in
        let short = h.short in
        let a = accepted bytes image h.are m (omega arith) in
        record { is = a.image; unscratched = a.unscratched; modules = good_modules image a }
    by false e =
        let m = asm_ok (assembled bytes) image e in
        let short = h.short in
        let a = assembled_is bytes image m in
        record { is = a.sound (omega arith); unscratched = a.unscratched; modules = a.modules }

-- ---- objects

lower : (symbols : List Symbol) → AllByRecursion (λ s. s.at < SEGMENTS_TO) symbols → AllByRecursion (λ s. s.at < 2 ^ 31) symbols
lower [] h = tt
lower (s ∷ symbols) h = (omega (arith, h.0), lower symbols h.1)

-- ---- configurations

-- what is known of the items that were checked
record AreFine (c : Conf) : Type 0 where
  few : length c.items ≤ 4194304
  small : AllByRecursion HasSmall c.items

fine : (text : List ℕ) (conf made : Conf) → IsConfOf text conf → MakesOf conf made → AreFine made
fine text conf made h (inl e) =
    let few = few_items text conf h.spelled h.short in
    subst AreFine (sym e) (record { few = omega arith; small = small_conf text conf h.spelled })
fine text conf made h (inr m) =
    let few = few_items text conf h.spelled h.short in
    record {
      few = applied_few conf.items made.items m.0 few m.1;
      small = small_after shipped_conf.items conf.items m.0 made.items (small_conf text conf h.spelled) m.1;
    }

-- ---- the whole

pub can_run : CheckedIsSound → (bytes text : List ℕ) (image : Image) (conf made : Conf) (harts : ℕ) (found : Found) → IsImageOf bytes image →
    IsConfOf text conf → MakesOf conf made → AreFound image harts made found → CanRun image harts found
can_run check bytes text image conf made harts found program spelled makes are =
    let good = good_image bytes image program in
    let items = fine text conf made spelled makes in
    let procs : AreProcsOf image found.procs = subst (λ (ps : List Proc). AreProcsOf image ps) (sym are.procs) (are_procs image good.is) in
    let points : found.points ≡ points_of image found.procs = are.points ∙ ap (λ (ps : List Proc). points_of image ps) (sym are.procs) in
    let prefixes = prefixes_of shipped_conf.items made.items in
    let low : HasLowObjects found.tree =
    subst (λ (t : Resources). HasLowObjects t) (sym are.tree) (objects_low (2 ^ 31) prefixes (objects_of image) (lower (objects_of image) (low_objects image good.is image.symbols))) in
    let most = few_points image (program_of image) found.procs procs in
    let short = good.is.short in
    let known : IsKnown image made found = record {
      procs = procs;
      sound = check (resources_of image harts made) shipped_conf.items made.items found.checked are.checked shipped_small items.small;
      low = low;
      points = omega (arith, ap (λ (ps : List Point). length ps) points);
      ascending = subst (λ (ps : List Point). IsStrictlyIncreasing (map (λ p. p.at) ps)) (sym points) (ascending image (program_of image) found.procs procs);
      items = items.few;
    } in
    given image harts made found are good.is good.unscratched known
