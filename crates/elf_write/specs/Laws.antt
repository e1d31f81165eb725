-- What is written, read again.
use Rattle.std.specs.Prelude.{◌≡◌, ℕ, ◌≤◌, Ok, List, length}
use Rattle.elf_form.specs.Meaning.{meaning_of}
use Rattle.outside.specs.Outside.{IsBytes}
use Rattle.elf_form.specs.Accepted.{IsAcceptedImage, names_len}
use Rattle.elf_write.specs.Layout.{elf_bytes, CanWrite}
use Rattle.pn_types.specs.declared.image.Image.{Image}

-- what is written of an image that an ELF file can have means that image, if it can be written
abbrev pub IsReadAgain : Type 0
IsReadAgain = (i : Image) → IsAcceptedImage i → CanWrite i → meaning_of (elf_bytes i) ≡ Ok i

-- an image that some file means is such an image, if it can be written
abbrev pub IsFileAccepted : Type 0
IsFileAccepted = (file : List ℕ) (i : Image) → IsBytes file → meaning_of file ≡ Ok i → CanWrite i → IsAcceptedImage i

-- an image can be written if a file of at most 33,554,432 bytes means it, and its names have at most 67,108,864 bytes together
abbrev pub IsLoadedWritable : Type 0
IsLoadedWritable =
    (file : List ℕ) (i : Image) → IsBytes file → length file ≤ 33554432 → meaning_of file ≡ Ok i
    → names_len i.symbols ≤ 67108864 → CanWrite i
