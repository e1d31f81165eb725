-- Every image that a file means has what `IsAcceptedImage` says, where a number of 32 bits counts its symbols.
use Rattle.std.proofs.Common.{◌≡◌, ℕ, ◌+◌, ◌-◌, ◌%◌, ◌^◌, ◌<◌, ◌≤◌, true, Option, Some, None, Ok, List, [], ◌∷◌, length, refl, sym, ap, ◌∙◌, subst, arith, inr}
use Rattle.std.proofs.lemmas.List.{length-map}
use Rattle.std.specs.Prelude.{nat_lt}
use Rattle.std.specs.List.{All, AllByRecursion}
use Rattle.std.proofs.lemmas.List.Elements.{All-from_recursion}
use Rattle.pn_types.specs.GoodNames.{is_good_name}
use Rattle.pn_types.specs.declared.image.Symbol.{Symbol}
use Rattle.std.proofs.lemmas.Bool.{ltb-false}
use Rattle.std.proofs.lemmas.Grind.{common_steps}
use Rattle.rv_word.specs.Names.{words_of, scratch_in}
use Rattle.elf_form.specs.Faults.{first_fault, fault_where}
use Rattle.elf_form.specs.Fields.{header_of, program_headers_of}
use Rattle.elf_form.specs.Headers.{header_fault}
use Rattle.elf_form.specs.Segments.{load_faults, lowest_shared, overlap_fault, segments_fault, by_address, total_size, segment_of}
use Rattle.elf_form.specs.Texts.{text_range, text_fault, range_fault, is_entry}
use Rattle.elf_form.specs.Symbols.{symbols_of}
use Rattle.elf_form.specs.Meaning.{Tables, tables_of, fault_with, image_with, unless_fault, meaning_with, meaning_of, segments_of, start_of, length_of}
use Rattle.outside.specs.Outside.{IsBytes}
use Rattle.elf_form.specs.Accepted.{IsAcceptedImage, IsNamed}
use Rattle.elf_form.specs.declared.fault.ElfFault.{ElfFault}
use Rattle.elf_form.specs.declared.fault.ElfFault.TheVariants.{TooBig}
use Rattle.elf_form.specs.declared.load.Load.{Load}
use Rattle.elf_form.specs.declared.section.TextRange.{TextRange}
use Rattle.elf_form.proofs.FaultLemmas.{no_fault, fails}
use Rattle.elf_form.proofs.SortedLoads.{IsSound, HasMemory, have_memory, are_sound, are_few, are_apart, Ascend, ascending, all-fold, length-fold, total-fold, in-fold}
use Rattle.elf_form.proofs.FoundText.{range_positive, inside_again, are_mapped, apart_segments, sizes, text_found}
use Rattle.elf_form.proofs.FoundSymbols.{symbols_named}
use Rattle.pn_types.specs.declared.image.Image.{Image}

pub meant : (o : Option ElfFault) (image i : Image) → unless_fault o image ≡ Ok i → (o ≡ None) × (image ≡ i)
meant None image i h = (refl, cc)
meant (Some fault) image i h = absurd (cc)

none_overlap : (o : Option ℕ) → overlap_fault o ≡ None → o ≡ None
none_overlap None h = refl
none_overlap (Some a) h = absurd (cc)

pub record Loads (len : ℕ) (loads : List Load) : Type 0 where
  pub sound : AllByRecursion (IsSound len) (by_address loads)
  pub ascend : Ascend (by_address loads)
  pub few : length (by_address loads) ≤ 16
  pub small : total_size (by_address loads) ≤ 25165824

loads_found : (len : ℕ) (loads : List Load) → AllByRecursion HasMemory loads → segments_fault len loads ≡ None → Loads len loads
unfolding segments_fault
loads_found len loads memory h =
    let a = no_fault (first_fault (load_faults len 0 loads)) _ h in
    let o = no_fault (overlap_fault (lowest_shared loads)) _ a.1 in
    let s = no_fault (fault_where (nat_lt 25165824 (total_size loads)) (TooBig (total_size loads))) _ o.1 in
    record {
      sound = all-fold (IsSound len) [] loads tt (are_sound len 0 loads memory a.0);
      ascend = ascending loads memory (are_apart loads memory (none_overlap (lowest_shared loads) o.0));
      few = omega (arith, length-fold [] loads, are_few len 0 loads (omega arith) memory a.0);
      small = omega (arith, total-fold [] loads, ltb-false 25165824 (total_size loads) (fails _ _ s.0));
    }

-- the text's range, where there is no fault
ranged : (b : List ℕ) (t : Tables) (o : Option TextRange) → range_fault b t.loads t.sections t.entry o ≡ None → (r : TextRange) × (o ≡ Some r)
ranged b t None h = absurd (cc)
ranged b t (Some r) h = (r, refl)

entry_whole : (entry : ℕ) (r : TextRange) → is_entry entry r ≡ true → entry % 4 ≡ 0
entry_whole entry r h = grind (arith, common_steps)

accepted_with : (b : List ℕ) (t : Tables) (r : TextRange) → IsBytes b → length (symbols_of b t.sections) < 2 ^ 32 → AllByRecursion HasMemory t.loads → segments_fault (length b) t.loads ≡ None → text_range t.sections ≡ Some r → range_fault b t.loads t.sections t.entry (Some r) ≡ None → IsAcceptedImage (record { segments = segments_of b t.loads; text_at = r.at; text_len = r.end - r.at; entry = t.entry; symbols = symbols_of b t.sections })
unfolding segments_of
accepted_with b t r bytes few memory segments range text =
    let ls = loads_found (length b) t.loads memory segments in
    let positive = range_positive t.sections r range in
    let x = text_found b t.loads t.sections t.entry r text in
    let end' : r.at + (r.end - r.at) ≡ r.end = omega (arith, positive) in
    let inside = inside_again b r positive x.load (by_address t.loads) ls.ascend ls.sound (in-fold [] t.loads x.load (inr x.among)) x.around in
    let symbols = symbols_named b t.sections bytes in
    record {
      image = record {
        few = omega (arith, ls.few, length-map (by_address t.loads) (segment_of b));
        mapped = are_mapped b (length b) (by_address t.loads) ls.sound;
        apart = apart_segments b (by_address t.loads) ls.ascend;
        small = omega (arith, ls.small, sizes b (by_address t.loads));
        positive = omega (arith, positive);
        short = x.short;
        start = x.start;
        whole = ap (λ n. n % 4) end' ∙ x.end;
        inside = inside.0;
        entry = entry_whole t.entry r x.enters;
        symbols = few;
      };
      unscratched = ap (λ bs. scratch_in (words_of bs) r.at) inside.1 ∙ x.unscratched;
      entry = ap (λ n. is_entry t.entry (record { at = r.at; end = n })) end' ∙ x.enters;
      named = symbols.named;
      ordered = symbols.ordered;
    }

pub accepted : (b : List ℕ) (i : Image) → IsBytes b → meaning_of b ≡ Ok i → length i.symbols < 2 ^ 32 → IsAcceptedImage i
unfolding meaning_of meaning_with text_fault
accepted b i bytes h few =
    let t = tables_of b in
    let m = meant (fault_with b t) (image_with b t) i h in
    let a = no_fault (header_fault b) _ m.0 in
    let s = no_fault (segments_fault (length b) t.loads) _ a.1 in
    let x = no_fault (text_fault b t.loads t.sections t.entry) _ s.1 in
    let r = ranged b t (text_range t.sections) x.0 in
    let text = sym (ap (λ o. range_fault b t.loads t.sections t.entry o) r.1) ∙ x.0 in
    let same = ap (λ o. record { segments = segments_of b t.loads; text_at = start_of o; text_len = length_of o; entry = t.entry; symbols = symbols_of b t.sections }) (sym r.1) ∙ m.1 in
    let symbols : length (symbols_of b t.sections) < 2 ^ 32 = subst (λ (image : Image). length image.symbols < 2 ^ 32) (sym m.1) few in
    subst IsAcceptedImage same (accepted_with b t r.0 bytes symbols (have_memory 0 (program_headers_of b (header_of b))) s.0 r.1 text)

good_modules_of : (ss : List Symbol) → AllByRecursion IsNamed ss → AllByRecursion (λ s. is_good_name s.«module» ≡ true) ss
good_modules_of [] all = tt
good_modules_of (s ∷ ss) all = (all.0.source, good_modules_of ss all.1)

-- the modules of all symbols are good names
pub good_modules : (i : Image) → IsAcceptedImage i → All (λ s. is_good_name s.«module» ≡ true) i.symbols
good_modules i h = All-from_recursion (λ s. is_good_name s.«module» ≡ true) i.symbols (good_modules_of i.symbols h.named)
