-- What files hold, and a check accepts, is what a session can be given, with a program and metrics of 32 bits.
use Rattle.std.proofs.Common.{◌≡◌, inl, inr, ℕ, ◌<◌, ◌^◌, Bool, true, false, cond, Result, Ok, Err, List, refl, sym, subst}
use Rattle.std.specs.List.{AllByRecursion}
use Rattle.elf_form.specs.Meaning.{meaning_of}
use Rattle.elf_form.specs.declared.fault.ElfFault.{ElfFault}
use Rattle.mdl_ast.specs.declared.items.Conf.{Conf}
use Rattle.mdl_shipped.specs.Shipped.{shipped_conf}
use Rattle.pn_types.specs.Images.{text_of}
use Rattle.pn_types.specs.Settings.{AreInRange}
use Rattle.pn_types.specs.declared.image.Image.{Image}
use Rattle.pn_types.specs.declared.settings.Settings.{Settings}
use Rattle.rv_asm.specs.Assembly.{assembled}
use Rattle.rv_asm.specs.declared.fault.AsmFault.{AsmFault}
use Rattle.rv_word.specs.Names.{words_of}
use Rattle.commands.specs.Found.{AreFound, resources_of}
use Rattle.commands.specs.Given.{inputs_with}
use Rattle.commands.specs.Inputs.{begins_elf, or_bad_elf, or_bad_text}
use Rattle.commands.specs.Runnable.{FoundCanRun, IsConfOf, IsImageOf, MakesOf}
use Rattle.commands.specs.declared.finding.Found.{Found}
use Rattle.headline.proofs.Narrow.{IsNarrow, narrow_checked, narrow_conf}
use Rattle.headline.proofs.NarrowAfter.{narrow_after}
use Rattle.headline.proofs.Reports.{IsRunnable}
use Rattle.headline.proofs.ShippedNarrow.{shipped_narrow}
use Rattle.headline.proofs.NarrowWords.{asm_narrow, elf_narrow}

-- ---- the program's words

elf_ok : (r : Result Image ElfFault) (image : Image) → or_bad_elf r ≡ Ok image → r ≡ Ok image
elf_ok (Ok x) image e = cc
elf_ok (Err fault) image e = absurd (cc)

asm_ok : (r : Result Image AsmFault) (image : Image) → or_bad_text r ≡ Ok image → r ≡ Ok image
asm_ok (Ok x) image e = cc
asm_ok (Err fault) image e = absurd (cc)

narrow_words : (bytes : List ℕ) (image : Image) → IsImageOf bytes image → AllByRecursion (λ w. w < 2 ^ 32) (words_of (text_of image))
narrow_words bytes image h = by (begins_elf bytes) h.means
  where
    by : (b : Bool) → cond b (or_bad_elf (meaning_of bytes)) (or_bad_text (assembled bytes)) ≡ Ok image → AllByRecursion (λ w. w < 2 ^ 32) (words_of (text_of image))
    by true e = elf_narrow bytes image h.are (elf_ok (meaning_of bytes) image e)
    by false e = asm_narrow bytes image (asm_ok (assembled bytes) image e)

-- ---- what is run

narrow_items : (text : List ℕ) (conf made : Conf) → IsConfOf text conf → MakesOf conf made → AllByRecursion IsNarrow made.items
narrow_items text conf made h (inl e) = subst (λ (c : Conf). AllByRecursion IsNarrow c.items) (sym e) (narrow_conf text conf h.spelled)
narrow_items text conf made h (inr m) = narrow_after shipped_conf.items conf.items m.0 made.items (narrow_conf text conf h.spelled) m.1

pub runnable : FoundCanRun → (bytes text : List ℕ) (image : Image) (conf made : Conf) (found : Found) (settings : Settings) → IsImageOf bytes image → IsConfOf text conf → MakesOf conf made
    → AreFound image settings.harts made found → AreInRange settings → IsRunnable (inputs_with image found settings)
runnable can bytes text image conf made found settings program spelled makes are range =
    let given = can bytes text image conf made settings.harts found program spelled makes are settings range refl in
    let narrow = narrow_checked (resources_of image settings.harts made) shipped_conf.items made.items found.checked are.checked shipped_narrow (narrow_items text conf made spelled makes) in
    record {
      given = given;
      narrow = record { metrics = narrow.0; constraints = narrow.1 };
      program = record { image = given.image; narrow = narrow_words bytes image program; unscratched = given.unscratched };
    }
