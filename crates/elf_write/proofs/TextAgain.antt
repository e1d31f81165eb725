-- The text of what is written, read again.
use Rattle.std.proofs.Common.{◌≡◌, ℕ, ◌+◌, ◌-◌, ◌%◌, ◌<◌, ◌≤◌, Bool, true, false, not, Some, None, List, [], ◌∷◌, ◌++◌, length, drop, take, refl, sym, ap, ◌∙◌, arith, append_assoc, length-drop}
use Rattle.std.specs.Prelude.{find, nat_lt, nat_le, ◌==◌, ◌&&◌, ◌||◌, if◌then◌else◌, option_map, is_none, replicate}
use Rattle.std.specs.List.{list_any}
use Rattle.std.proofs.lemmas.List.{drop-drop, take-append-le, drop-append-le}
use Rattle.std.proofs.lemmas.Bool.{lt-ltb, le-ltb}
use Rattle.std.proofs.lemmas.Grind.{common_steps}
use Rattle.rv_word.specs.Names.{words_of, scratch_in}
use Rattle.elf_form.specs.Fields.{part}
use Rattle.elf_form.specs.Segments.{is_around}
use Rattle.elf_form.specs.Texts.{intrudes, text_range, segment_around, range_bytes, text_bytes, is_two_texts, is_entry, range_fault, text_fault}
use Rattle.elf_form.specs.declared.load.Load.{Load}
use Rattle.elf_form.specs.declared.section.TextRange.{TextRange}
use Rattle.elf_form.specs.declared.fault.ElfFault.TheVariants.{TwoTexts, TextUnaligned, TextTooLong, UsesScratch, BadEntry}
use Rattle.elf_form.proofs.FaultLemmas.{behind}
use Rattle.elf_write.specs.Fields.{padded, padding}
use Rattle.elf_write.specs.Layout.{segments_bytes}
use Rattle.elf_write.specs.declared.places.Places.{Places}
use Rattle.elf_write.proofs.TablesAgain.{sections_read, sections_of}
use Rattle.elf_write.proofs.PartsAgain.{behind_part}
use Rattle.elf_write.proofs.SegmentsAgain.{load_read, loads_read, where_not}
use Rattle.pn_types.specs.Images.{has_byte, are_inside, bytes_in, text_of}
use Rattle.pn_types.specs.declared.image.Image.{Image}
use Rattle.pn_types.specs.declared.image.Segment.{Segment}

abbrev pub range_of : Image → TextRange
range_of i = record { at = i.text_at; end = i.text_at + i.text_len }

pub range_again : (i : Image) (places : Places) → 0 < i.text_len → text_range (sections_read (sections_of i places)) ≡ Some (range_of i)
range_again i places positive = let test : nat_lt 0 i.text_len ≡ true = lt-ltb 0 i.text_len positive in rw test refl

-- the segment whose bytes have the address of the text is around it
has_around : (s : Segment) (at len : ℕ) → has_byte s at ≡ true → nat_le (at + len) (s.at + length s.bytes) ≡ true → (nat_le s.at at && nat_le (at + len) (s.at + length s.bytes)) ≡ true
has_around s at len has inside = grind (arith, common_steps)

has_not_around : (s : Segment) (at len : ℕ) → 0 < len → has_byte s at ≡ false → (nat_le s.at at && nat_le (at + len) (s.at + length s.bytes)) ≡ false
has_not_around s at len positive has = grind (arith, common_steps)

-- the bytes of a range in the bytes of a segment
bytes_again : (f rest : List ℕ) (place : ℕ) (s : Segment) (at len : ℕ) → drop place f ≡ padded s.bytes ++ rest → has_byte s at ≡ true → nat_le (at + len) (s.at + length s.bytes) ≡ true → part f (place + (at - s.at)) len ≡ take len (drop (at - s.at) s.bytes)
unfolding padded
bytes_again f rest place s at len here has inside =
    let zeros : List ℕ = replicate (padding (length s.bytes)) 0 in
    let d : ℕ = at - s.at in
    let low : d ≤ length s.bytes = grind (arith, common_steps) in
    let high : len ≤ length (drop d s.bytes) = grind (arith, common_steps, length-drop d s.bytes) in
    ap (λ x. take len x)
    (sym (drop-drop d place f) ∙ ap (λ x. drop d x) (here ∙ append_assoc s.bytes zeros rest) ∙ drop-append-le d s.bytes (zeros ++ rest) low)
    ∙ take-append-le len (drop d s.bytes) (zeros ++ rest) high

pub record Around (f : List ℕ) (index place : ℕ) (ss : List Segment) (at len : ℕ) : Type 0 where
  pub load : Load
  pub first : find (λ l. is_around l (record { at = at; end = at + len })) (loads_read index place ss) ≡ Some load
  pub bytes : part f (load.header.offset + (at - load.header.address)) len ≡ bytes_in ss at len

pub around_again : (f rest : List ℕ) (index place : ℕ) (ss : List Segment) (at len : ℕ) → drop place f ≡ segments_bytes ss ++ rest → 0 < len → are_inside ss at len ≡ true → Around f index place ss at len
around_again f rest index place [] at len here positive inside = absurd (cc)
around_again f rest index place (s ∷ ss) at len here positive inside =
    let parted : drop place f ≡ padded s.bytes ++ (segments_bytes ss ++ rest) = here ∙ append_assoc (padded s.bytes) (segments_bytes ss) rest in
    let next = place + length (padded s.bytes) in
    by (has_byte s at) refl parted (around_again f rest (index + 1) next ss at len (behind_part f place (padded s.bytes) (segments_bytes ss ++ rest) parted) positive)
  where
    by : (b : Bool) → has_byte s at ≡ b → drop place f ≡ padded s.bytes ++ (segments_bytes ss ++ rest) → (are_inside ss at len ≡ true → Around f (index + 1) (place + length (padded s.bytes)) ss at len) → Around f index place (s ∷ ss) at len
    by true has parted later =
        let in' : nat_le (at + len) (s.at + length s.bytes) ≡ true = sym (ap (λ t. if t then nat_le (at + len) (s.at + length s.bytes) else are_inside ss at len) has) ∙ inside in
        record {
          load = load_read index place s;
          first = ap (λ t. if t then Some (load_read index place s) else find (λ l. is_around l (record { at = at; end = at + len })) (loads_read (index + 1) (place + length (padded s.bytes)) ss)) (has_around s at len has in');
          bytes = bytes_again f (segments_bytes ss ++ rest) place s at len parted has in' ∙ sym (ap (λ t. if t then take len (drop (at - s.at) s.bytes) else bytes_in ss at len) has);
        }
    by false has parted later =
        let a = later (sym (ap (λ t. if t then nat_le (at + len) (s.at + length s.bytes) else are_inside ss at len) has) ∙ inside) in
        record {
          load = a.load;
          first = ap (λ t. if t then Some (load_read index place s) else find (λ l. is_around l (record { at = at; end = at + len })) (loads_read (index + 1) (place + length (padded s.bytes)) ss)) (has_not_around s at len positive has) ∙ a.first;
          bytes = a.bytes ∙ sym (ap (λ t. if t then take len (drop (at - s.at) s.bytes) else bytes_in ss at len) has);
        }

-- no section but the text is in memory
pub none_intrudes : (i : Image) (places : Places) → list_any (intrudes (range_of i)) (sections_read (sections_of i places)) ≡ false
none_intrudes i places = refl

module _ (i : Image) (places : Places) (f rest : List ℕ) (place : ℕ) (here : drop place f ≡ segments_bytes i.segments ++ rest) (positive : 0 < i.text_len) (inside : are_inside i.segments i.text_at i.text_len ≡ true) where
  around : Around f 0 place i.segments i.text_at i.text_len
  around = around_again f rest 0 place i.segments i.text_at i.text_len here positive inside

  pub text_again : text_bytes f (loads_read 0 place i.segments) (range_of i) ≡ text_of i
  unfolding segment_around
  text_again =
      let len : i.text_at + i.text_len - i.text_at ≡ i.text_len = omega arith in
      ap (λ o. range_bytes f (range_of i) o) around.first
      ∙ ap (λ n. part f (around.load.header.offset + (i.text_at - around.load.header.address)) n) len ∙ around.bytes

  one_text : is_two_texts (loads_read 0 place i.segments) (sections_read (sections_of i places)) (range_of i) ≡ false
  unfolding is_two_texts segment_around
  one_text = ap (λ o. is_none o || list_any (intrudes (range_of i)) (sections_read (sections_of i places))) around.first ∙ none_intrudes i places

  pub no_text_fault : i.text_len ≤ 524288 → i.text_at % 4 ≡ 0 → (i.text_at + i.text_len) % 4 ≡ 0 → scratch_in (words_of (text_of i)) i.text_at ≡ None → is_entry i.entry (range_of i) ≡ true → text_fault f (loads_read 0 place i.segments) (sections_read (sections_of i places)) i.entry ≡ None
  unfolding text_fault
  no_text_fault short start whole unscratched entry =
      let loads = loads_read 0 place i.segments in
      let sections = sections_read (sections_of i places) in
      let r = range_of i in
      let a : not (r.at % 4 == 0) ≡ false = ap (λ n. not (n == 0)) start in
      let b : not (r.end % 4 == 0) ≡ false = ap (λ n. not (n == 0)) whole in
      let c : nat_lt 524288 (r.end - r.at) ≡ false = le-ltb 524288 (r.end - r.at) (omega arith) in
      let d : option_map UsesScratch (scratch_in (words_of (text_bytes f loads r)) r.at) ≡ None = ap (λ t. option_map UsesScratch (scratch_in (words_of t) r.at)) text_again ∙ ap (λ o. option_map UsesScratch o) unscratched in
      let e : not (is_entry i.entry r) ≡ false = ap not entry in
      ap (λ o. range_fault f loads sections i.entry o) (range_again i places positive)
      ∙ behind _ _ (where_not (is_two_texts loads sections r) (TwoTexts r.at) one_text)
      ∙ behind _ _ (where_not (not (r.at % 4 == 0)) (TextUnaligned r.at) a)
      ∙ behind _ _ (where_not (not (r.end % 4 == 0)) (TextUnaligned r.end) b)
      ∙ behind _ _ (where_not (nat_lt 524288 (r.end - r.at)) (TextTooLong (r.end - r.at)) c)
      ∙ behind _ _ d
      ∙ behind _ _ (where_not (not (is_entry i.entry r)) (BadEntry i.entry) e)
