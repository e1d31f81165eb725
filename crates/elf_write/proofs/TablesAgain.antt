-- The tables of what is written, read again.
use Rattle.std.proofs.Common.{◌≡◌, ℕ, zero, suc, ◌+◌, ◌*◌, ◌<◌, ◌^◌, List, [], ◌∷◌, ◌++◌, length, drop, refl, sym, ap, ◌∙◌, arith, append_assoc, length-append}
use Rattle.std.specs.List.{AllByRecursion}
use Rattle.std.proofs.lemmas.List.{drop_at, drop-drop, append-nil}
use Rattle.elf_form.specs.Fields.{table, program_header_of, section_header_of, symbol_entry_of}
use Rattle.elf_form.specs.declared.segment.ProgramHeader.{ProgramHeader}
use Rattle.elf_form.specs.declared.section.SectionHeader.{SectionHeader}
use Rattle.elf_form.specs.declared.symbol.SymbolEntry.{SymbolEntry}
use Rattle.elf_write.specs.Fields.{padded, words, doublewords}
use Rattle.elf_write.specs.Symbols.{Named, entry_bytes, entries_bytes, names_of}
use Rattle.elf_write.specs.Layout.{program_header, program_headers, segments_bytes, section_header, section_headers, null_section, text_section, symbol_section, string_section}
use Rattle.elf_write.specs.declared.places.Places.{Places}
use Rattle.elf_write.specs.declared.headers.Section.{Section}
use Rattle.elf_write.proofs.Lengths.{length-segments, padded_within}
use Rattle.elf_write.proofs.Entries.{length-entry, length-names}
use Rattle.elf_write.proofs.FieldsAgain.{program_read, program_at_front, program_from, section_read, section_at_front, section_from, Fits, entry_read, entry_at_front, entry_from, EntryFits}
use Rattle.pn_types.specs.declared.image.Image.{Image}
use Rattle.pn_types.specs.declared.image.Segment.{Segment}

-- a table whose entries are each read from the bytes from there on
module _ {A : Type 0} (read : List ℕ → ℕ → A) (from : (b : List ℕ) (at : ℕ) → read b at ≡ read (drop at b) 0) (size : ℕ) where
  pub table_from : (b : List ℕ) (n at : ℕ) → table read size b n at ≡ table read size (drop at b) n 0
  table_from b zero at = refl
  table_from b (suc n) at =
      let further : drop (0 + size) (drop at b) ≡ drop (at + size) b = drop-drop (0 + size) at b ∙ ap (λ k. drop (at + k) b) (omega arith) in
      ap (λ x. x ∷ table read size b n (at + size)) (from b at)
      ∙ ap (λ t. read (drop at b) 0 ∷ t) (table_from b n (at + size) ∙ ap (λ r. table read size r n 0) (sym further) ∙ sym (table_from (drop at b) n (0 + size)))

  pub table_cons : (x rest : List ℕ) (n : ℕ) → length x ≡ size → table read size (x ++ rest) (suc n) 0 ≡ read (x ++ rest) 0 ∷ table read size rest n 0
  table_cons x rest n len =
      let behind : drop (0 + size) (x ++ rest) ≡ rest = drop_at x rest (0 + size) (omega arith) in
      ap (λ t. read (x ++ rest) 0 ∷ t) (table_from (x ++ rest) n (0 + size) ∙ ap (λ r. table read size r n 0) behind)

-- ---- program headers

pub record SegmentFits (s : Segment) : Type 0 where
  pub at : s.at < 2 ^ 64
  pub size : s.size < 2 ^ 64

abbrev pub programs_read : ℕ → List Segment → List ProgramHeader
programs_read place [] = []
programs_read place (s ∷ ss) = program_read place s ∷ programs_read (place + length (padded s.bytes)) ss

length-program : (place : ℕ) (s : Segment) → length (program_header place s) ≡ 56
unfolding words doublewords
length-program place s = refl

pub length-programs : (place : ℕ) (ss : List Segment) → length (program_headers place ss) ≡ 56 * length ss
length-programs place [] = refl
length-programs place (s ∷ ss) =
    omega (arith, length-append (program_header place s) (program_headers (place + length (padded s.bytes)) ss), length-program place s, length-programs (place + length (padded s.bytes)) ss)

pub programs_again : (place : ℕ) (ss : List Segment) (rest : List ℕ) → place + length (segments_bytes ss) < 2 ^ 64 → AllByRecursion SegmentFits ss → table program_header_of 56 (program_headers place ss ++ rest) (length ss) 0 ≡ programs_read place ss
programs_again place [] rest below fit = refl
programs_again place (s ∷ ss) rest below fit =
    let next = place + length (padded s.bytes) in
    let more = program_headers next ss ++ rest in
    let one : program_header_of (program_header place s ++ more) 0 ≡ program_read place s =
    program_at_front place s more (omega arith) fit.0.at (omega (arith, length-segments s ss, (padded_within s.bytes).0)) fit.0.size in
    ap (λ b. table program_header_of 56 b (suc (length ss)) 0) (append_assoc (program_header place s) (program_headers next ss) rest)
    ∙ table_cons program_header_of program_from 56 (program_header place s) more (length ss) (length-program place s)
    ∙ ap (λ x. x ∷ table program_header_of 56 more (length ss) 0) one
    ∙ ap (λ t. program_read place s ∷ t) (programs_again next ss rest (omega (arith, length-segments s ss)) fit.1)

-- ---- symbols

pub record NamedFits (x : Named) : Type 0 where
  pub section : x.entry.section < 2 ^ 16
  pub value : x.entry.value < 2 ^ 64
  pub size : x.entry.size < 2 ^ 64

abbrev pub entries_read : ℕ → List Named → List SymbolEntry
entries_read place [] = []
entries_read place (x ∷ xs) = entry_read place x.entry ∷ entries_read (place + length x.name + 1) xs

pub entries_again : (place : ℕ) (xs : List Named) (rest : List ℕ) → place + length (names_of xs) < 2 ^ 32 → AllByRecursion NamedFits xs → table symbol_entry_of 24 (entries_bytes place xs ++ rest) (length xs) 0 ≡ entries_read place xs
entries_again place [] rest below fit = refl
entries_again place (x ∷ xs) rest below fit =
    let next = place + length x.name + 1 in
    let more = entries_bytes next xs ++ rest in
    let fits : EntryFits place x.entry = record { name = omega (arith, length-names x xs); section = fit.0.section; value = fit.0.value; size = fit.0.size } in
    ap (λ b. table symbol_entry_of 24 b (suc (length xs)) 0) (append_assoc (entry_bytes place x.entry) (entries_bytes next xs) rest)
    ∙ table_cons symbol_entry_of entry_from 24 (entry_bytes place x.entry) more (length xs) (length-entry place x.entry)
    ∙ ap (λ e. e ∷ table symbol_entry_of 24 more (length xs) 0) (entry_at_front place x.entry more fits)
    ∙ ap (λ t. entry_read place x.entry ∷ t) (entries_again next xs rest (omega (arith, length-names x xs)) fit.1)

-- ---- sections

pub length-section : (s : Section) → length (section_header s) ≡ 64
unfolding words doublewords section_header
length-section s = refl

abbrev pub sections_read : List Section → List SectionHeader
sections_read [] = []
sections_read (s ∷ ss) = section_read s ∷ sections_read ss

abbrev pub sections_bytes : List Section → List ℕ
sections_bytes [] = []
sections_bytes (s ∷ ss) = section_header s ++ sections_bytes ss

pub sections_again : (ss : List Section) → AllByRecursion Fits ss → table section_header_of 64 (sections_bytes ss) (length ss) 0 ≡ sections_read ss
sections_again [] fit = refl
sections_again (s ∷ ss) fit =
    table_cons section_header_of section_from 64 (section_header s) (sections_bytes ss) (length ss) (length-section s)
    ∙ ap (λ x. x ∷ table section_header_of 64 (sections_bytes ss) (length ss) 0) (section_at_front s (sections_bytes ss) fit.0)
    ∙ ap (λ t. section_read s ∷ t) (sections_again ss fit.1)

abbrev pub sections_of : Image → Places → List Section
sections_of i places = null_section ∷ text_section i places ∷ symbol_section i places ∷ string_section i places ∷ []

pub sections_written : (i : Image) (places : Places) → section_headers i places ≡ sections_bytes (sections_of i places)
unfolding section_headers
sections_written i places =
    let a = section_header null_section in
    let b = section_header (text_section i places) in
    let c = section_header (symbol_section i places) in
    let d = section_header (string_section i places) in
    append_assoc (a ++ b) c d ∙ append_assoc a b (c ++ d) ∙ ap (λ x. a ++ (b ++ (c ++ x))) (sym (append-nil d))

pub length-sections_bytes : (ss : List Section) → length (sections_bytes ss) ≡ 64 * length ss
length-sections_bytes [] = refl
length-sections_bytes (s ∷ ss) = omega (arith, length-append (section_header s) (sections_bytes ss), length-section s, length-sections_bytes ss)
