-- What every image of an ELF file has.
use Rattle.std.specs.Prelude.{◌≡◌, ℕ, ◌+◌, ◌^◌, ◌<◌, not, ◌==◌, true, None, List, length, sum_by}
use Rattle.std.specs.List.{AllByRecursion, list_all}
use Rattle.rv_word.specs.Names.{words_of, scratch_in}
use Rattle.pn_types.specs.GoodNames.{is_good_name}
use Rattle.pn_types.specs.Images.{IsImage, text_of}
use Rattle.pn_types.specs.declared.image.Image.{Image}
use Rattle.pn_types.specs.declared.image.Symbol.{Symbol}
use Rattle.elf_form.specs.Texts.{is_entry}
use Rattle.elf_form.specs.Symbols.{with_program_last}

-- the name of a symbol has no zero byte, and its module is a good name
pub record IsNamed (s : Symbol) : Type 0 where
  pub name : list_all (λ byte. not (byte == 0)) s.name ≡ true
  pub source : is_good_name s.module ≡ true
  pub at : s.at < 2 ^ 64
  pub size : s.size < 2 ^ 64

-- an image whose text doesn't name x31, with the entry in its text; its symbols are named, those of `program` last
pub record IsAcceptedImage (i : Image) : Type 0 where
  pub image : IsImage i
  pub unscratched : scratch_in (words_of (text_of i)) i.text_at ≡ None
  pub entry : is_entry i.entry (record { at = i.text_at; end = i.text_at + i.text_len }) ≡ true
  pub named : AllByRecursion IsNamed i.symbols
  pub ordered : with_program_last i.symbols ≡ i.symbols

-- how many bytes the names of symbols have together
abbrev pub names_len : List Symbol → ℕ
names_len symbols = sum_by (λ s. length s.name) symbols
