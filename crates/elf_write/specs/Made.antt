-- The ELF file of an assembly text.
use Rattle.std.specs.Prelude.{◌≡◌, ℕ, ◌+◌, true, Result, Ok, Err, List}
use Rattle.elf_form.specs.Meaning.{meaning_of}
use Rattle.elf_form.specs.Texts.{is_entry}
use Rattle.rv_asm.specs.declared.fault.AsmFault.{AsmFault}
use Rattle.rv_asm.specs.Assembly.{assembled}
use Rattle.elf_write.specs.Layout.{elf_bytes}
use Rattle.pn_types.specs.declared.image.Image.{Image}

abbrev pub file_or_fault : Result Image AsmFault → Result (List ℕ) AsmFault
file_or_fault (Ok image) = Ok (elf_bytes image)
file_or_fault (Err fault) = Err fault

-- the file of the program that a text stands for, or why it stands for none
abbrev pub elf_of : List ℕ → Result (List ℕ) AsmFault
elf_of text = file_or_fault (assembled text)

-- the entry of an image is the address of a word of its text; a label `_start` after the last word isn't
abbrev pub IsEntered : Image → Type 0
IsEntered image = is_entry image.entry (record { at = image.text_at; end = image.text_at + image.text_len }) ≡ true

-- an ELF file means the program that a text stands for, if that is entered in its text
abbrev pub IsMeantAgain : List ℕ → List ℕ → Type 0
IsMeantAgain text file = (image : Image) → assembled text ≡ Ok image → IsEntered image → meaning_of file ≡ Ok image
