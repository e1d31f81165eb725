-- The parts of what is written, where they stand.
use Rattle.std.proofs.Common.{◌≡◌, ℕ, ◌+◌, ◌<◌, ◌^◌, List, ◌++◌, length, drop, refl, sym, ap, ◌∙◌, arith, append_assoc, length-append}
use Rattle.std.specs.List.{AllByRecursion}
use Rattle.std.proofs.lemmas.List.{drop_at, drop-drop}
use Rattle.elf_form.specs.Fields.{header_of, program_headers_of, section_headers_of, table, program_header_of, section_header_of}
use Rattle.elf_form.specs.Segments.{loads_from}
use Rattle.elf_form.specs.Meaning.{tables_of}
use Rattle.elf_write.specs.Fields.{padded, words, halves, doublewords}
use Rattle.elf_write.specs.Symbols.{symbol_table, string_table}
use Rattle.elf_write.specs.Layout.{file_header, program_headers, segments_bytes, segments_at, section_headers, places_of, symbols_at, strings_at, sections_at, elf_bytes, CanWrite}
use Rattle.elf_write.specs.declared.places.Places.{Places}
use Rattle.elf_write.proofs.Lengths.{padded_within, segments_below, few_segments, small_segments}
use Rattle.elf_write.proofs.Entries.{symbols_within}
use Rattle.elf_write.proofs.FieldsAgain.{header_read, header_at_front, section_from, program_from, Fits}
use Rattle.elf_write.proofs.TablesAgain.{table_from, programs_read, programs_again, length-programs, SegmentFits, sections_again, sections_of, sections_written, sections_read, length-sections_bytes}
use Rattle.pn_types.specs.Images.{IsImage}
use Rattle.pn_types.specs.declared.image.Image.{Image}

-- what stands after a part
pub behind_part : (f : List ℕ) (at : ℕ) (x rest : List ℕ) → drop at f ≡ x ++ rest → drop (at + length x) f ≡ rest
behind_part f at x rest e = sym (drop-drop (length x) at f) ∙ ap (λ r. drop (length x) r) e ∙ drop_at x rest (length x) refl

length-header : (entry segments : ℕ) (places : Places) → length (file_header entry segments places) ≡ 64
unfolding words halves doublewords
length-header entry segments places = refl

module _ (i : Image) where
  abbrev pub tail_strings : List ℕ
  tail_strings = padded (string_table i.symbols) ++ section_headers i (places_of i)

  abbrev pub tail_symbols : List ℕ
  tail_symbols = symbol_table i.symbols ++ tail_strings

  abbrev pub tail_segments : List ℕ
  tail_segments = segments_bytes i.segments ++ tail_symbols

  abbrev pub tail_programs : List ℕ
  tail_programs = program_headers (segments_at i.segments) i.segments ++ tail_segments

  pub file_parts : elf_bytes i ≡ file_header i.entry (length i.segments) (places_of i) ++ tail_programs
  unfolding elf_bytes
  file_parts =
      let h = file_header i.entry (length i.segments) (places_of i) in
      let p = program_headers (segments_at i.segments) i.segments in
      let s = segments_bytes i.segments in
      let y = symbol_table i.symbols in
      let n = padded (string_table i.symbols) in
      let x = section_headers i (places_of i) in
      append_assoc ((((h ++ p) ++ s) ++ y)) n x ∙ append_assoc ((h ++ p) ++ s) y (n ++ x) ∙ append_assoc (h ++ p) s (y ++ (n ++ x)) ∙ append_assoc h p (s ++ (y ++ (n ++ x)))

  pub at_programs : drop 64 (elf_bytes i) ≡ tail_programs
  at_programs = ap (λ f. drop 64 f) file_parts ∙ drop_at (file_header i.entry (length i.segments) (places_of i)) tail_programs 64 (length-header i.entry (length i.segments) (places_of i))

  pub at_segments : drop (segments_at i.segments) (elf_bytes i) ≡ tail_segments
  at_segments =
      ap (λ k. drop (64 + k) (elf_bytes i)) (sym (length-programs (segments_at i.segments) i.segments))
      ∙ behind_part (elf_bytes i) 64 (program_headers (segments_at i.segments) i.segments) tail_segments at_programs

  pub at_symbols : drop (symbols_at i) (elf_bytes i) ≡ tail_symbols
  at_symbols = behind_part (elf_bytes i) (segments_at i.segments) (segments_bytes i.segments) tail_symbols at_segments

  pub at_strings : drop (strings_at i) (elf_bytes i) ≡ tail_strings
  at_strings = behind_part (elf_bytes i) (symbols_at i) (symbol_table i.symbols) tail_strings at_symbols

  pub at_sections : drop (sections_at i) (elf_bytes i) ≡ section_headers i (places_of i)
  at_sections = behind_part (elf_bytes i) (strings_at i) (padded (string_table i.symbols)) (section_headers i (places_of i)) at_strings

  pub places_sections : (places_of i).sections ≡ sections_at i
  unfolding places_of
  places_sections = refl

  length-sections : length (section_headers i (places_of i)) ≡ 256
  length-sections = ap length (sections_written i (places_of i)) ∙ length-sections_bytes (sections_of i (places_of i))

  -- the length of the whole
  pub length-file : length (elf_bytes i) ≡ sections_at i + 256
  length-file =
      ap length file_parts
      ∙ omega (arith, length-append (file_header i.entry (length i.segments) (places_of i)) tail_programs, length-header i.entry (length i.segments) (places_of i), length-append (program_headers (segments_at i.segments) i.segments) tail_segments, length-programs (segments_at i.segments) i.segments, length-append (segments_bytes i.segments) tail_symbols, length-append (symbol_table i.symbols) tail_strings, length-append (padded (string_table i.symbols)) (section_headers i (places_of i)), length-sections)

  module _ (image : IsImage i) (named : CanWrite i) where
    pub sections_below : sections_at i < 2 ^ 63
    sections_below = omega (arith, segments_below i.segments (few_segments i image) (small_segments i image), symbols_within i.symbols, (padded_within (string_table i.symbols)).1, named, few_segments i image)

    module _ (entry : i.entry < 2 ^ 64) (segments : AllByRecursion SegmentFits i.segments) (sections : AllByRecursion Fits (sections_of i (places_of i))) where
      pub header_again : header_of (elf_bytes i) ≡ header_read i.entry (length i.segments) (places_of i)
      header_again =
          ap header_of file_parts ∙ header_at_front i.entry (length i.segments) (places_of i) tail_programs entry (few_segments i image) (omega (arith, places_sections, sections_below))

      pub tables_again : tables_of (elf_bytes i) ≡ record { entry = i.entry; loads = loads_from 0 (programs_read (segments_at i.segments) i.segments); sections = sections_read (sections_of i (places_of i)) }
      tables_again =
          let programs : table program_header_of 56 (elf_bytes i) (length i.segments) 64 ≡ programs_read (segments_at i.segments) i.segments =
          table_from program_header_of program_from 56 (elf_bytes i) (length i.segments) 64
          ∙ ap (λ r. table program_header_of 56 r (length i.segments) 0) at_programs
          ∙ programs_again (segments_at i.segments) i.segments tail_segments (omega (arith, segments_below i.segments (few_segments i image) (small_segments i image), few_segments i image)) segments in
          let headers : table section_header_of 64 (elf_bytes i) 4 (places_of i).sections ≡ sections_read (sections_of i (places_of i)) =
          table_from section_header_of section_from 64 (elf_bytes i) 4 (places_of i).sections
          ∙ ap (λ r. table section_header_of 64 r 4 0) (ap (λ k. drop k (elf_bytes i)) places_sections ∙ at_sections ∙ sections_written i (places_of i))
          ∙ sections_again (sections_of i (places_of i)) sections in
          ap (λ h. record { entry = h.entry; loads = loads_from 0 (program_headers_of (elf_bytes i) h); sections = section_headers_of (elf_bytes i) h }) header_again
          ∙ ap (λ p. record { entry = i.entry; loads = loads_from 0 p; sections = table section_header_of 64 (elf_bytes i) 4 (places_of i).sections }) programs
          ∙ ap (λ s. record { entry = i.entry; loads = loads_from 0 (programs_read (segments_at i.segments) i.segments); sections = s }) headers
