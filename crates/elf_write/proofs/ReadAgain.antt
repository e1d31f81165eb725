-- What is written means the image that was written.
use Rattle.std.proofs.Common.{◌≡◌, ℕ, ◌+◌, ◌-◌, ◌*◌, ◌/◌, ◌%◌, ◌<◌, ◌≤◌, ◌^◌, Bool, true, false, not, Some, None, Ok, List, [], ◌∷◌, ◌++◌, length, drop, take, refl, ap, ◌∙◌, arith}
use Rattle.std.specs.Prelude.{nat_lt, nat_le, ◌==◌, ◌&&◌, ◌||◌, if◌then◌else◌}
use Rattle.std.specs.List.{AllByRecursion, list_all}
use Rattle.std.proofs.lemmas.Bool.{le-ltb}
use Rattle.std.proofs.lemmas.Grind.{common_steps}
use Rattle.elf_form.specs.Fields.{field, header_of, table, symbol_entry_of}
use Rattle.elf_form.specs.Faults.{reaches_past}
use Rattle.elf_form.specs.Headers.{begins_as_elf, is_riscv64, has_bad_flags, has_short_tables, header_fault}
use Rattle.elf_form.specs.Segments.{segments_fault}
use Rattle.elf_form.specs.Texts.{text_range, text_fault}
use Rattle.elf_form.specs.Symbols.{symbols_fault, symbols_of, table_fault, section_bytes, is_short, entries_of as entries_read_of, is_ended, symbols_from, with_program_last}
use Rattle.elf_form.specs.Meaning.{Tables, tables_of, fault_with, image_with, unless_fault, meaning_with, meaning_of, start_of, length_of}
use Rattle.outside.specs.Outside.{IsBytes}
use Rattle.elf_form.specs.Accepted.{IsAcceptedImage}
use Rattle.elf_form.proofs.AcceptedImages.{accepted}
use Rattle.pn_types.specs.GoodNames.{program_module}
use Rattle.pn_types.specs.Images.{IsSegment}
use Rattle.pn_types.proofs.ImageLemmas.{text_range as text_lies}
use Rattle.elf_form.specs.declared.fault.ElfFault.TheVariants.{NotElf, Short, NotRiscv64, Flags, BadSymbols}
use Rattle.elf_form.specs.declared.section.SectionHeader.{SectionHeader}
use Rattle.elf_form.proofs.FaultLemmas.{behind}
use Rattle.elf_write.specs.Fields.{padded, words, halves, doublewords}
use Rattle.elf_write.specs.Symbols.{symbol_table, string_table, entries_of, names_of}
use Rattle.elf_write.specs.Layout.{segments_bytes, segments_at, symbols_at, strings_at, sections_at, place_from, places_of, symbol_section, string_section, elf_bytes, CanWrite}
use Rattle.elf_write.proofs.Lengths.{padded_within, length-segments}
use Rattle.elf_write.proofs.Entries.{length-entries}
use Rattle.elf_write.proofs.Rooms.{few_named}
use Rattle.elf_write.proofs.FieldsAgain.{Fits, header_read, section_read}
use Rattle.elf_write.proofs.TablesAgain.{SegmentFits, sections_of, sections_read, entries_read, entries_again, table_from}
use Rattle.elf_write.proofs.FieldsAgain.{entry_from}
use Rattle.elf_write.proofs.PartsAgain.{file_parts, at_segments, at_symbols, at_strings, length-file, sections_below, header_again, tables_again, tail_symbols, tail_strings}
use Rattle.elf_write.proofs.SegmentsAgain.{loads_read, loads_again, no_segments_fault, segments_again, where_not, take_padded}
use Rattle.elf_write.proofs.TextAgain.{range_again, no_text_fault}
use Rattle.elf_write.proofs.SymbolsAgain.{ended_again, symbols_again, entries_fit}
use Rattle.pn_types.specs.declared.image.Image.{Image}
use Rattle.pn_types.specs.declared.image.Segment.{Segment}

segments_fit : (ss : List Segment) → AllByRecursion IsSegment ss → AllByRecursion SegmentFits ss
segments_fit [] all = tt
segments_fit (s ∷ ss) all = (record { at = omega (arith, all.0.high); size = omega (arith, all.0.high) }, segments_fit ss all.1)

place_below : (address place : ℕ) (ss : List Segment) → place_from address place ss ≤ place + length (segments_bytes ss)
place_below address place [] = omega arith
place_below address place (s ∷ ss) = by (nat_le s.at address && nat_lt address (s.at + length s.bytes)) refl (place_below address (place + length (padded s.bytes)) ss)
  where
    by : (b : Bool) → (nat_le s.at address && nat_lt address (s.at + length s.bytes)) ≡ b → place_from address (place + length (padded s.bytes)) ss ≤ place + length (padded s.bytes) + length (segments_bytes ss) → (if nat_le s.at address && nat_lt address (s.at + length s.bytes) then place + (address - s.at) else place_from address (place + length (padded s.bytes)) ss) ≤ place + length (segments_bytes (s ∷ ss))
    by true is later = let lt : address < s.at + length s.bytes = grind (arith, common_steps) in rw is (omega (arith, lt, length-segments s ss, (padded_within s.bytes).0))
    by false is later = rw is (omega (arith, later, length-segments s ss))

or_true : (b : Bool) → (b || true) ≡ true
or_true true = refl
or_true false = refl

module _ (i : Image) (acc : IsAcceptedImage i) (named : CanWrite i) where
  f : List ℕ
  f = elf_bytes i

  text_below : i.text_at + i.text_len ≤ 0x60000000
  text_below = (text_lies i acc.image).high

  entry_below : i.entry < 2 ^ 64
  entry_below = let lt : i.entry < i.text_at + i.text_len = grind (arith, common_steps, acc.entry) in omega (arith, lt, text_below)

  sections_fit : AllByRecursion Fits (sections_of i (places_of i))
  unfolding places_of
  sections_fit =
      let below = sections_below i acc.image named in
      let text = place_below i.text_at (segments_at i.segments) i.segments in
      let names = (padded_within (string_table i.symbols)).0 in (
        record { kind = omega arith; flags = omega arith; address = omega arith; offset = omega arith; size = omega arith; link = omega arith; entry_size = omega arith },
        (
          record { kind = omega arith; flags = omega arith; address = omega (arith, text_below); offset = omega (arith, text, below); size = omega (arith, acc.image.short); link = omega arith; entry_size = omega arith },
          (
            record { kind = omega arith; flags = omega arith; address = omega arith; offset = omega (arith, below); size = omega (arith, below); link = omega arith; entry_size = omega arith },
            (record { kind = omega arith; flags = omega arith; address = omega arith; offset = omega (arith, below); size = omega arith; link = omega arith; entry_size = omega arith }, tt),
          ),
        ),
      )

  abbrev sections : List SectionHeader
  sections = sections_read (sections_of i (places_of i))

  abbrev t : Tables
  t = record { entry = i.entry; loads = loads_read 0 (segments_at i.segments) i.segments; sections = sections_read (sections_of i (places_of i)) }

  tables : tables_of (elf_bytes i) ≡ t
  tables =
      tables_again i acc.image named entry_below (segments_fit i.segments acc.image.mapped) sections_fit
      ∙ ap (λ ls. record { entry = i.entry; loads = ls; sections = sections_read (sections_of i (places_of i)) }) (loads_again 0 (segments_at i.segments) i.segments acc.image.mapped)

  header : header_of (elf_bytes i) ≡ header_read i.entry (length i.segments) (places_of i)
  header = header_again i acc.image named entry_below (segments_fit i.segments acc.image.mapped) sections_fit

  magic : field 4 (elf_bytes i) 0 ≡ 0x464c457f
  unfolding field words halves doublewords
  magic = ap (λ b. field 4 b 0) (file_parts i)

  no_header_fault : header_fault (elf_bytes i) ≡ None
  unfolding header_fault places_of
  no_header_fault =
      let b = elf_bytes i in
      let long : 64 ≤ length b = omega (arith, length-file i) in
      let elf : begins_as_elf b ≡ true = grind (arith, common_steps, magic, length-file i) in
      let riscv : is_riscv64 (header_of b) ≡ true = ap is_riscv64 header ∙ ap (λ x. x && true) (or_true (length i.segments == 0)) in
      let flags : has_bad_flags (header_of b) ≡ false = ap has_bad_flags header in
      let programs : reaches_past 64 (length i.segments * 56) (length b) ≡ false = grind (arith, common_steps, length-file i) in
      let rest : reaches_past (sections_at i) 256 (length b) ≡ false = grind (arith, common_steps, length-file i) in
      let tables : has_short_tables (header_of b) (length b) ≡ false = ap (λ h. has_short_tables h (length b)) header ∙ ap (λ x. x || reaches_past (sections_at i) 256 (length b)) programs ∙ rest in
      behind _ _ (where_not (not (begins_as_elf b)) NotElf (ap not elf))
      ∙ behind _ _ (where_not (nat_lt (length b) 64) (Short (length b)) (le-ltb (length b) 64 long))
      ∙ behind _ _ (where_not (not (is_riscv64 (header_of b))) NotRiscv64 (ap not riscv))
      ∙ behind _ _ (where_not (has_bad_flags (header_of b)) (Flags (header_of b).flags) flags)
      ∙ behind _ _ (where_not (has_short_tables (header_of b) (length b)) (Short (length b)) tables)

  places_symbols : (places_of i).symbols ≡ symbols_at i
  unfolding places_of
  places_symbols = refl

  places_strings : (places_of i).strings ≡ strings_at i
  unfolding places_of
  places_strings = refl

  abbrev symbol_header : SectionHeader
  symbol_header = section_read (symbol_section i (places_of i))

  abbrev string_header : SectionHeader
  string_header = section_read (string_section i (places_of i))

  strings : section_bytes (elf_bytes i) (section_read (string_section i (places_of i))) ≡ string_table i.symbols
  strings =
      ap (λ at. take (length (string_table i.symbols)) (drop at (elf_bytes i))) places_strings
      ∙ ap (λ r. take (length (string_table i.symbols)) r) (at_strings i) ∙ take_padded (string_table i.symbols) _

  names : string_table i.symbols ≡ names_of (entries_of i.symbols)
  unfolding string_table
  names = refl

  length-symbols : length (symbol_table i.symbols) ≡ 24 * length (entries_of i.symbols)
  unfolding symbol_table
  length-symbols = length-entries 0 (entries_of i.symbols)

  entries : entries_read_of (elf_bytes i) (section_read (symbol_section i (places_of i))) ≡ entries_read 0 (entries_of i.symbols)
  unfolding symbol_table
  entries =
      let count : length (symbol_table i.symbols) / 24 ≡ length (entries_of i.symbols) = omega (arith, length-symbols) in
      let at : drop (places_of i).symbols (elf_bytes i) ≡ symbol_table i.symbols ++ tail_strings i = ap (λ k. drop k (elf_bytes i)) places_symbols ∙ at_symbols i in
      ap (λ n. table symbol_entry_of 24 (elf_bytes i) n (places_of i).symbols) count
      ∙ table_from symbol_entry_of entry_from 24 (elf_bytes i) (length (entries_of i.symbols)) (places_of i).symbols
      ∙ ap (λ r. table symbol_entry_of 24 r (length (entries_of i.symbols)) 0) at
      ∙ entries_again 0 (entries_of i.symbols) (tail_strings i) (omega (arith, named, ap length names)) (entries_fit i.symbols acc.named)

  no_table_fault : table_fault (elf_bytes i) (section_read (symbol_section i (places_of i))) (Some (section_read (string_section i (places_of i)))) ≡ None
  no_table_fault =
      let b = elf_bytes i in
      let y = section_read (symbol_section i (places_of i)) in
      let n = section_read (string_section i (places_of i)) in
      let rem : length (symbol_table i.symbols) % 24 ≡ 0 = omega (arith, length-symbols) in
      let whole : not ((y.entry_size == 24) && (y.size % 24 == 0)) ≡ false = ap (λ k. not (k == 0)) rem in
      let symbols_fit : is_short (length b) y ≡ false = grind (arith, common_steps, places_symbols, length-file i) in
      let strings_fit : is_short (length b) n ≡ false = grind (arith, common_steps, places_strings, length-file i, (padded_within (string_table i.symbols)).0) in
      let ended : list_all (λ e. is_ended (section_bytes b n) e.name) (entries_read_of b y) ≡ true =
      ap (λ s. list_all (λ e. is_ended s e.name) (entries_read_of b y)) strings ∙ ap (λ es. list_all (λ e. is_ended (string_table i.symbols) e.name) es) entries
      ∙ ended_again (string_table i.symbols) 0 (entries_of i.symbols) names in
      behind _ _ (where_not (not ((y.entry_size == 24) && (y.size % 24 == 0))) BadSymbols whole)
      ∙ behind _ _ (where_not (is_short (length b) y || is_short (length b) n) (Short (length b)) (ap (λ x. x || is_short (length b) n) symbols_fit ∙ strings_fit))
      ∙ behind _ _ (where_not (not (list_all (λ e. is_ended (section_bytes b n) e.name) (entries_read_of b y))) BadSymbols (ap not ended))

  no_symbols_fault : symbols_fault (elf_bytes i) (sections_read (sections_of i (places_of i))) ≡ None
  unfolding symbols_fault
  no_symbols_fault = no_table_fault

  symbols : symbols_of (elf_bytes i) (sections_read (sections_of i (places_of i))) ≡ i.symbols
  unfolding symbols_of
  symbols =
      ap (λ s. with_program_last (symbols_from s program_module (entries_read_of (elf_bytes i) (section_read (symbol_section i (places_of i)))))) strings
      ∙ ap (λ es. with_program_last (symbols_from (string_table i.symbols) program_module es)) entries
      ∙ ap with_program_last (symbols_again (string_table i.symbols) i.symbols names acc.named ∙ acc.ordered) ∙ acc.ordered

  no_fault : fault_with (elf_bytes i) t ≡ None
  no_fault =
      let b = elf_bytes i in
      let here = at_segments i in
      let segments = no_segments_fault (length b) (segments_at i.segments) i.segments acc.image.mapped acc.image.few acc.image.apart acc.image.small (omega (arith, length-file i)) in
      let text = no_text_fault i (places_of i) b (tail_symbols i) (segments_at i.segments) here acc.image.positive acc.image.inside acc.image.short acc.image.start acc.image.whole acc.unscratched acc.entry in
      behind (header_fault b) _ no_header_fault ∙ behind (segments_fault (length b) t.loads) _ segments
      ∙ behind (text_fault b t.loads t.sections t.entry) _ text ∙ behind (symbols_fault b t.sections) _ no_symbols_fault

  same_image : image_with (elf_bytes i) t ≡ i
  same_image =
      let b = elf_bytes i in
      let len : i.text_at + i.text_len - i.text_at ≡ i.text_len = omega arith in
      ap (λ s. record { segments = s; text_at = start_of (text_range t.sections); text_len = length_of (text_range t.sections); entry = i.entry; symbols = symbols_of b t.sections }) (segments_again b (tail_symbols i) (segments_at i.segments) i.segments (at_segments i) acc.image.apart)
      ∙ ap (λ r. record { segments = i.segments; text_at = start_of r; text_len = length_of r; entry = i.entry; symbols = symbols_of b t.sections }) (range_again i (places_of i) acc.image.positive)
      ∙ ap (λ n. record { segments = i.segments; text_at = i.text_at; text_len = n; entry = i.entry; symbols = symbols_of b t.sections }) len
      ∙ ap (λ s. record { segments = i.segments; text_at = i.text_at; text_len = i.text_len; entry = i.entry; symbols = s }) symbols

  pub read_again : meaning_of (elf_bytes i) ≡ Ok i
  unfolding meaning_of meaning_with
  read_again = ap (λ u. unless_fault (fault_with (elf_bytes i) u) (image_with (elf_bytes i) u)) tables ∙ ap (λ o. unless_fault o (image_with (elf_bytes i) t)) no_fault ∙ ap Ok same_image

-- the image of a file, if it can be written
pub file_accepted : (file : List ℕ) (i : Image) → IsBytes file → meaning_of file ≡ Ok i → CanWrite i → IsAcceptedImage i
file_accepted file i bytes meant can = accepted file i bytes meant (few_named i can)
