-- The text: the smallest range that covers the sections of code; and the checks on it in their order (System V ABI:
-- sections).
use Rattle.std.specs.Prelude.{ℕ, ◌+◌, ◌-◌, ◌/◌, ◌%◌, ◌==◌, ◌&&◌, ◌||◌, not, min, max, nat_lt, nat_le, Bool, Option, Some, None, List, [], ◌∷◌, fold, filter, find, option_map, is_none}
use Rattle.std.specs.List.{list_any}
use Rattle.rv_word.specs.Names.{words_of, scratch_in}
use Rattle.elf_form.specs.Fields.{part}
use Rattle.elf_form.specs.Faults.{fault_where, first_fault}
use Rattle.elf_form.specs.Segments.{is_around}
use Rattle.elf_form.specs.declared.fault.ElfFault.{ElfFault}
use Rattle.elf_form.specs.declared.fault.ElfFault.TheVariants.{NoText, TwoTexts, TextUnaligned, TextTooLong, UsesScratch, BadEntry}
use Rattle.elf_form.specs.declared.section.SectionHeader.{SectionHeader}
use Rattle.elf_form.specs.declared.section.TextRange.{TextRange}
use Rattle.elf_form.specs.declared.load.Load.{Load}
use Rattle.pn_types.specs.declared.limits.TheConstants.{MAX_TEXT_LEN}

-- the flags SHF_ALLOC (0x2) and SHF_EXECINSTR (0x4) together: 0 none, 1 the first alone, 3 both
abbrev pub code_flags : SectionHeader → ℕ
code_flags s = s.flags / 2 % 4

-- an allocated executable section that isn't empty
abbrev pub is_text : SectionHeader → Bool
is_text s = (code_flags s == 3) && nat_lt 0 s.size

-- an allocated section that isn't executable and has bytes in the file: any type but SHT_NOBITS (8)
abbrev pub is_other : SectionHeader → Bool
is_other s = (code_flags s == 1) && nat_lt 0 s.size && not (s.kind == 8)

-- the smallest range that covers a range and a section
abbrev pub widened : Option TextRange → SectionHeader → Option TextRange
widened None s = Some (record { at = s.address; end = s.address + s.size })
widened (Some r) s = Some (record { at = min r.at s.address; end = max r.end (s.address + s.size) })

-- the smallest range that covers all sections of code
abbrev pub text_range : List SectionHeader → Option TextRange
text_range sections = fold widened None (filter is_text sections)

-- a section that is no code begins in the range
abbrev pub intrudes : TextRange → SectionHeader → Bool
intrudes r s = is_other s && nat_le r.at s.address && nat_lt s.address r.end

-- the bytes of the range, in the file part of a segment
abbrev pub range_bytes : List ℕ → TextRange → Option Load → List ℕ
range_bytes b r None = []
range_bytes b r (Some l) = part b (l.header.offset + (r.at - l.header.address)) (r.end - r.at)

-- the segment whose file part has the range
unfoldable pub segment_around : List Load → TextRange → Option Load
segment_around loads r = find (λ l. is_around l r) loads

-- the bytes of the text
abbrev pub text_bytes : List ℕ → List Load → TextRange → List ℕ
text_bytes b loads r = range_bytes b r (segment_around loads r)

-- the range isn't in the file part of one segment, or another section begins in it
unfoldable pub is_two_texts : List Load → List SectionHeader → TextRange → Bool
is_two_texts loads sections r = is_none (segment_around loads r) || list_any (intrudes r) sections

-- the entry is the address of a word of the text
abbrev pub is_entry : ℕ → TextRange → Bool
is_entry entry r = (entry % 4 == 0) && nat_le r.at entry && nat_lt entry r.end

-- the first fault of a text
abbrev pub range_fault : List ℕ → List Load → List SectionHeader → ℕ → Option TextRange → Option ElfFault
range_fault b loads sections entry None = Some NoText
range_fault b loads sections entry (Some r) =
    first_fault (fault_where (is_two_texts loads sections r) (TwoTexts r.at)
    ∷ fault_where (not (r.at % 4 == 0)) (TextUnaligned r.at)
    ∷ fault_where (not (r.end % 4 == 0)) (TextUnaligned r.end)
    ∷ fault_where (nat_lt MAX_TEXT_LEN (r.end - r.at)) (TextTooLong (r.end - r.at))
    ∷ option_map UsesScratch (scratch_in (words_of (text_bytes b loads r)) r.at)
    ∷ fault_where (not (is_entry entry r)) (BadEntry entry)
    ∷ [])

-- the first fault of the text of a file with these segments, sections and entry
unfoldable pub text_fault : List ℕ → List Load → List SectionHeader → ℕ → Option ElfFault
text_fault b loads sections entry = range_fault b loads sections entry (text_range sections)
