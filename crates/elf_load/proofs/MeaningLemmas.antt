-- What the stages' faults say of a file's meaning.
use Rattle.std.proofs.Common.{◌≡◌, ℕ, ◌-◌, Option, Some, None, List, ◌∷◌, length, Result, Ok, Err, ap, sym, subst, ◌∙◌}
use Rattle.std.specs.Prelude.{IsErrAnd}
use Rattle.elf_form.specs.Faults.{first_fault}
use Rattle.elf_form.specs.Fields.{header_of, program_headers_of, section_headers_of}
use Rattle.elf_form.specs.Headers.{header_fault}
use Rattle.elf_form.specs.Segments.{segments_fault, loads_from}
use Rattle.elf_form.specs.Texts.{text_fault, text_range}
use Rattle.elf_form.specs.Symbols.{symbols_fault, symbols_of}
use Rattle.elf_form.specs.Meaning.{meaning_of, meaning_with, Tables, tables_of, fault_with, image_with, unless_fault, segments_of, start_of, length_of}
use Rattle.elf_form.specs.declared.fault.ElfFault.{ElfFault}
use Rattle.elf_form.specs.declared.fault.ElfError.{ElfError}
use Rattle.elf_form.specs.declared.fault.ElfError.TheVariants.{Fault, NoMemory}
use Rattle.elf_load.specs.Means.{Means, ElfRefuses}
use Rattle.elf_form.specs.declared.section.SectionHeader.{SectionHeader}
use Rattle.elf_form.specs.declared.section.TextRange.{TextRange}
use Rattle.elf_form.specs.declared.header.Header.{Header}
use Rattle.elf_form.specs.declared.load.Load.{Load}
use Rattle.pn_types.specs.declared.image.Image.{Image}
use Rattle.pn_types.specs.declared.image.Segment.{Segment}
use Rattle.pn_types.specs.declared.image.Symbol.{Symbol}
use Rattle.elf_form.proofs.FaultLemmas.{behind}

-- a refusal that is passed on
pub passed : (meaning : Result Image ElfFault) (result : Result Image ElfError) (error : ElfError) → IsErrAnd result (λ e. e ≡ error) → ElfRefuses error (λ fault. meaning ≡ Err fault) → Means result meaning
passed meaning (Ok image) error is m = absurd is
passed meaning (Err e) error is m = subst (λ e. ElfRefuses e (λ fault. meaning ≡ Err fault)) (sym is) m

-- a refusal says as much as its reason
pub refuses_more : {why also : ElfFault → Type 0} (error : ElfError) → ((fault : ElfFault) → why fault → also fault) → ElfRefuses error why → ElfRefuses error also
refuses_more (Fault fault) more refused = more fault refused
refuses_more NoMemory more refused = tt

-- the first check counts where it gives a fault
at_once : (check : Option ElfFault) (checks : List (Option ElfFault)) (fault : ElfFault) → check ≡ Some fault → first_fault (check ∷ checks) ≡ Some fault
at_once check checks fault h = ap (λ c. first_fault (c ∷ checks)) h

-- a fault of the header
pub header_meant : (b : List ℕ) (fault : ElfFault) → header_fault b ≡ Some fault → meaning_of b ≡ Err fault
unfolding meaning_of meaning_with
header_meant b fault h = ap (λ f. unless_fault f (image_with b (tables_of b))) (at_once (header_fault b) _ fault h)

meant : (b : List ℕ) (t : Tables) (fault : ElfFault) → fault_with b t ≡ Some fault → meaning_with b t ≡ Err fault
unfolding meaning_with
meant b t fault h = ap (λ f. unless_fault f (image_with b t)) h

-- the tables that were read are those of the file
pub tables_read : (b : List ℕ) (h : Header) (loads : List Load) (sections : List SectionHeader) → h ≡ header_of b → loads ≡ loads_from 0 (program_headers_of b h) → sections ≡ section_headers_of b h → meaning_with b (record { entry = h.entry; loads = loads; sections = sections }) ≡ meaning_of b
unfolding meaning_of
tables_read b h loads sections header is_loads is_sections =
    ap (λ ls. meaning_with b (record { entry = h.entry; loads = ls; sections = sections })) is_loads
    ∙ ap (λ ss. meaning_with b (record { entry = h.entry; loads = loads_from 0 (program_headers_of b h); sections = ss })) is_sections
    ∙ ap (λ g. meaning_with b (record { entry = g.entry; loads = loads_from 0 (program_headers_of b g); sections = section_headers_of b g })) header

module _ (b : List ℕ) (t : Tables) (header : header_fault b ≡ None) where
  pub segments_meant : (fault : ElfFault) → segments_fault (length b) t.loads ≡ Some fault → meaning_with b t ≡ Err fault
  segments_meant fault h = meant b t fault (behind (header_fault b) _ header ∙ at_once (segments_fault (length b) t.loads) _ fault h)

  module _ (segments : segments_fault (length b) t.loads ≡ None) where
    pub text_meant : (fault : ElfFault) → text_fault b t.loads t.sections t.entry ≡ Some fault → meaning_with b t ≡ Err fault
    text_meant fault h =
        meant b t fault (behind (header_fault b) _ header ∙ behind (segments_fault (length b) t.loads) _ segments ∙ at_once (text_fault b t.loads t.sections t.entry) _ fault h)

    module _ (text : text_fault b t.loads t.sections t.entry ≡ None) where
      pub symbols_meant : (fault : ElfFault) → symbols_fault b t.sections ≡ Some fault → meaning_with b t ≡ Err fault
      symbols_meant fault h =
          meant b t fault
          (behind (header_fault b) _ header ∙ behind (segments_fault (length b) t.loads) _ segments
          ∙ behind (text_fault b t.loads t.sections t.entry) _ text ∙ at_once (symbols_fault b t.sections) _ fault h)

      pub image_meant : symbols_fault b t.sections ≡ None → meaning_with b t ≡ Ok (image_with b t)
      unfolding meaning_with
      image_meant h =
          ap (λ f. unless_fault f (image_with b t))
          (behind (header_fault b) _ header ∙ behind (segments_fault (length b) t.loads) _ segments
          ∙ behind (text_fault b t.loads t.sections t.entry) _ text ∙ behind (symbols_fault b t.sections) _ h)

-- the image of parts that were made one by one
pub image_made : (b : List ℕ) (t : Tables) (r : TextRange) (segments : List Segment) (symbols : List Symbol) → text_range t.sections ≡ Some r → segments ≡ segments_of b t.loads → symbols ≡ symbols_of b t.sections → image_with b t ≡ record { segments = segments; text_at = r.at; text_len = r.end - r.at; entry = t.entry; symbols = symbols }
image_made b t r segments symbols range is_segments is_symbols =
    ap (λ o. record { segments = segments_of b t.loads; text_at = start_of o; text_len = length_of o; entry = t.entry; symbols = symbols_of b t.sections }) range
    ∙ ap (λ s. record { segments = s; text_at = r.at; text_len = r.end - r.at; entry = t.entry; symbols = symbols_of b t.sections }) (sym is_segments)
    ∙ ap (λ s. record { segments = segments; text_at = r.at; text_len = r.end - r.at; entry = t.entry; symbols = s }) (sym is_symbols)
