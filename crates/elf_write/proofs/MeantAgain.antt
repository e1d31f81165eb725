-- What is written of a text's image means it again.
use Rattle.std.proofs.Common.{◌≡◌, ℕ, ◌<◌, ◌^◌, Ok, List, [], ◌∷◌, length, subst}
use Rattle.std.specs.List.{AllByRecursion}
use Rattle.elf_form.specs.Accepted.{IsAcceptedImage, IsNamed}
use Rattle.elf_form.specs.Symbols.{with_program_last}
use Rattle.elf_form.proofs.FoundSymbols.{last_named, last_again}
use Rattle.pn_types.specs.declared.image.Image.{Image}
use Rattle.pn_types.specs.declared.image.Symbol.{Symbol}
use Rattle.rv_asm.specs.Assembly.{assembled}
use Rattle.rv_asm.proofs.AssembledImages.{IsWhole, ArePut, assembled_is}
use Rattle.elf_write.specs.Made.{IsEntered}

are_named : (ss : List Symbol) → AllByRecursion IsWhole ss → AllByRecursion IsNamed ss
are_named [] all = tt
are_named (s ∷ ss) all = (record { name = all.0.name; source = all.0.source; at = all.0.at; size = all.0.size }, are_named ss all.1)

record Named (ss : List Symbol) : Type 0 where
  named : AllByRecursion IsNamed ss
  ordered : with_program_last ss ≡ ss

put_named : (ss : List Symbol) → ArePut ss → Named ss
put_named ss put = subst Named put.put (record { named = last_named put.declared (are_named put.declared put.whole); ordered = last_again put.declared })

-- the image of a text whose entry is a word of its text is one that an ELF file can have
pub assembled_accepted : (text : List ℕ) (image : Image) → assembled text ≡ Ok image → length text < 2 ^ 31 → IsEntered image → IsAcceptedImage image
assembled_accepted text image e short entry =
    let is = assembled_is text image e in
    let symbols = put_named image.symbols is.symbols in
    record { image = is.sound short; unscratched = is.unscratched; entry = entry; named = symbols.named; ordered = symbols.ordered }
