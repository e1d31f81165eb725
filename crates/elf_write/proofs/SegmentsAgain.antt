-- The segments of what is written, read again.
use Rattle.std.proofs.Common.{◌≡◌, ℕ, ◌+◌, ◌<◌, ◌≤◌, Bool, true, false, Some, None, List, [], ◌∷◌, ◌++◌, length, drop, take, map, refl, sym, ap, ◌∙◌, arith, append_assoc, min, max}
use Rattle.std.specs.Prelude.{replicate, fold, sum_by, nat_lt, nat_le, ◌||◌, if◌then◌else◌}
use Rattle.std.specs.List.{AllByRecursion}
use Rattle.std.proofs.lemmas.List.{append-nil, take_at}
use Rattle.std.proofs.lemmas.List.Sums.{sum_by-cons}
use Rattle.std.proofs.lemmas.Bool.{lt-ltb, le-ltb}
use Rattle.std.proofs.lemmas.Grind.{common_steps}
use Rattle.elf_form.specs.Fields.{part}
use Rattle.elf_form.specs.Faults.{fault_where, first_fault, reaches_past}
use Rattle.elf_form.specs.Segments.{loads_from, load_fault, load_faults, shared, shared_with, lowest_shared, lower, overlap_fault, total_size, segments_fault, segment_of, with_load, end_of, is_load}
use Rattle.elf_form.specs.Meaning.{segments_of}
use Rattle.pn_types.specs.Images.{IsSegment, AreApart}
use Rattle.elf_form.specs.declared.load.Load.{Load}
use Rattle.elf_form.specs.declared.fault.ElfFault.{ElfFault}
use Rattle.elf_form.specs.declared.fault.ElfFault.TheVariants.{Short, BadSegment, LowSegment, HighSegment, TooBig}
use Rattle.elf_form.proofs.FaultLemmas.{behind}
use Rattle.elf_write.specs.Fields.{padded, padding}
use Rattle.elf_write.specs.Layout.{segments_bytes}
use Rattle.elf_write.proofs.Lengths.{length-segments, padded_within}
use Rattle.elf_write.proofs.FieldsAgain.{program_read}
use Rattle.elf_write.proofs.TablesAgain.{programs_read}
use Rattle.elf_write.proofs.PartsAgain.{behind_part}
use Rattle.pn_types.specs.declared.image.Segment.{Segment}

abbrev pub load_read : ℕ → ℕ → Segment → Load
load_read index place s = record { index = index; header = program_read place s }

abbrev pub loads_read : ℕ → ℕ → List Segment → List Load
loads_read index place [] = []
loads_read index place (s ∷ ss) = load_read index place s ∷ loads_read (index + 1) (place + length (padded s.bytes)) ss

pub loads_again : (index place : ℕ) (ss : List Segment) → AllByRecursion IsSegment ss → loads_from index (programs_read place ss) ≡ loads_read index place ss
loads_again index place [] all = refl
loads_again index place (s ∷ ss) all =
    let load : is_load (program_read place s) ≡ true = lt-ltb 0 s.size all.0.positive in
    let rest = loads_from (index + 1) (programs_read (place + length (padded s.bytes)) ss) in
    ap (λ t. if t then load_read index place s ∷ rest else rest) load
    ∙ ap (λ r. load_read index place s ∷ r) (loads_again (index + 1) (place + length (padded s.bytes)) ss all.1)

-- ---- no fault

pub where_not : (test : Bool) (fault : ElfFault) → test ≡ false → fault_where test fault ≡ None
where_not test fault e = ap (λ t. fault_where t fault) e

no_load_fault : (len k : ℕ) (l : Load) → l.header.file_size ≤ l.header.memory_size → k < 16 → l.header.offset + l.header.file_size ≤ len → 0x10000 ≤ l.header.address → end_of l ≤ 0x60000000 → load_fault len k l ≡ None
no_load_fault len k l filled few within low high =
    let bad : (nat_lt l.header.memory_size l.header.file_size || nat_le 16 k) ≡ false = grind (arith, common_steps) in
    let past : reaches_past l.header.offset l.header.file_size len ≡ false = grind (arith, common_steps) in
    behind _ _ (where_not (nat_lt l.header.memory_size l.header.file_size || nat_le 16 k) (BadSegment l.index) bad)
    ∙ behind _ _ (where_not (reaches_past l.header.offset l.header.file_size len) (Short len) past)
    ∙ behind _ _ (where_not (nat_lt l.header.address 0x10000) (LowSegment l.header.address) (le-ltb l.header.address 0x10000 low))
    ∙ behind _ _ (where_not (nat_lt 0x60000000 (end_of l)) (HighSegment l.header.address) (le-ltb 0x60000000 (end_of l) high))

pub no_load_faults : (len index k place : ℕ) (ss : List Segment) → AllByRecursion IsSegment ss → k + length ss ≤ 16 → place + length (segments_bytes ss) ≤ len → first_fault (load_faults len k (loads_read index place ss)) ≡ None
no_load_faults len index k place [] all few within = refl
no_load_faults len index k place (s ∷ ss) all few within =
    let one = no_load_fault len k (load_read index place s) all.0.filled (omega arith) (omega (arith, length-segments s ss, (padded_within s.bytes).0)) all.0.low all.0.high in
    behind _ _ one ∙ no_load_faults len (index + 1) (k + 1) (place + length (padded s.bytes)) ss all.1 (omega arith) (omega (arith, length-segments s ss))

apart_shared : (l m : Load) → end_of l ≤ m.header.address → shared l m ≡ None
apart_shared l m h =
    let test : nat_lt (max l.header.address m.header.address) (min (end_of l) (end_of m)) ≡ false = le-ltb (max l.header.address m.header.address) (min (end_of l) (end_of m)) (omega arith) in
    ap (λ t. if t then Some (max l.header.address m.header.address) else None) test

none_with : (l : Load) (index place : ℕ) (ss : List Segment) → AllByRecursion (λ t. end_of l ≤ t.at) ss → shared_with l (loads_read index place ss) ≡ None
none_with l index place [] all = refl
none_with l index place (s ∷ ss) all =
    ap (λ o. lower o (shared_with l (loads_read (index + 1) (place + length (padded s.bytes)) ss))) (apart_shared l (load_read index place s) all.0)
    ∙ none_with l (index + 1) (place + length (padded s.bytes)) ss all.1

pub none_shared : (index place : ℕ) (ss : List Segment) → AreApart ss → lowest_shared (loads_read index place ss) ≡ None
none_shared index place [] apart = refl
none_shared index place (s ∷ ss) apart =
    ap (λ o. lower o (lowest_shared (loads_read (index + 1) (place + length (padded s.bytes)) ss))) (none_with (load_read index place s) (index + 1) (place + length (padded s.bytes)) ss apart.0)
    ∙ none_shared (index + 1) (place + length (padded s.bytes)) ss apart.1

total_again : (index place : ℕ) (ss : List Segment) → total_size (loads_read index place ss) ≡ sum_by (λ s. s.size) ss
total_again index place [] = refl
total_again index place (s ∷ ss) =
    sum_by-cons (λ l. l.header.memory_size) (load_read index place s) (loads_read (index + 1) (place + length (padded s.bytes)) ss)
    ∙ ap (λ n. s.size + n) (total_again (index + 1) (place + length (padded s.bytes)) ss) ∙ sym (sum_by-cons (λ t. t.size) s ss)

pub no_segments_fault : (len place : ℕ) (ss : List Segment) → AllByRecursion IsSegment ss → length ss ≤ 16 → AreApart ss → sum_by (λ s. s.size) ss ≤ 25165824 → place + length (segments_bytes ss) ≤ len → segments_fault len (loads_read 0 place ss) ≡ None
unfolding segments_fault
no_segments_fault len place ss all few apart small within =
    let loads = loads_read 0 place ss in
    behind _ _ (no_load_faults len 0 0 place ss all (omega arith) within) ∙ behind _ _ (ap overlap_fault (none_shared 0 place ss apart))
    ∙ behind _ _ (where_not (nat_lt 25165824 (total_size loads)) (TooBig (total_size loads)) (le-ltb 25165824 (total_size loads) (omega (arith, total_again 0 place ss))))

-- ---- the memory

with_load_last : (ms : List Load) (l : Load) → AllByRecursion (λ m. m.header.address ≤ l.header.address) ms → with_load ms l ≡ ms ++ l ∷ []
with_load_last [] l all = refl
with_load_last (m ∷ ms) l all =
    ap (λ t. if t then l ∷ m ∷ ms else m ∷ with_load ms l) (le-ltb l.header.address m.header.address all.0) ∙ ap (λ r. m ∷ r) (with_load_last ms l all.1)

-- each of the loads stands at or below each of the segments
abbrev AreBelow : List Load → List Segment → Type 0
AreBelow ms ss = AllByRecursion (λ m. AllByRecursion (λ t. m.header.address ≤ t.at) ss) ms

below_head : (ms : List Load) (s : Segment) (ss : List Segment) → AreBelow ms (s ∷ ss) → AllByRecursion (λ m. m.header.address ≤ s.at) ms
below_head [] s ss h = tt
below_head (m ∷ ms) s ss h = (h.0.0, below_head ms s ss h.1)

starts_below : (s : Segment) (ss : List Segment) → AllByRecursion (λ t. s.at + s.size ≤ t.at) ss → AllByRecursion (λ t. s.at ≤ t.at) ss
starts_below s [] h = tt
starts_below s (t ∷ ts) h = (omega (arith, h.0), starts_below s ts h.1)

below_more : (ms : List Load) (index place : ℕ) (s : Segment) (ss : List Segment) → AreBelow ms (s ∷ ss) → AllByRecursion (λ t. s.at ≤ t.at) ss → AreBelow (ms ++ load_read index place s ∷ []) ss
below_more [] index place s ss h own = (own, tt)
below_more (m ∷ ms) index place s ss h own = (h.0.1, below_more ms index place s ss h.1 own)

fold_ascending : (ms : List Load) (index place : ℕ) (ss : List Segment) → AreBelow ms ss → AreApart ss → fold with_load ms (loads_read index place ss) ≡ ms ++ loads_read index place ss
fold_ascending ms index place [] below apart = sym (append-nil ms)
fold_ascending ms index place (s ∷ ss) below apart =
    let l = load_read index place s in
    let rest = loads_read (index + 1) (place + length (padded s.bytes)) ss in
    ap (λ acc. fold with_load acc rest) (with_load_last ms l (below_head ms s ss below))
    ∙ fold_ascending (ms ++ l ∷ []) (index + 1) (place + length (padded s.bytes)) ss (below_more ms index place s ss below (starts_below s ss apart.0)) apart.1
    ∙ append_assoc ms (l ∷ []) rest

-- the bytes of a segment at the front of padded ones
pub take_padded : (bytes rest : List ℕ) → take (length bytes) (padded bytes ++ rest) ≡ bytes
unfolding padded
take_padded bytes rest =
    let zeros = replicate (padding (length bytes)) 0 in
    ap (λ x. take (length bytes) x) (append_assoc bytes zeros rest) ∙ take_at bytes (zeros ++ rest) (length bytes) refl

pub memory_again : (f rest : List ℕ) (index place : ℕ) (ss : List Segment) → drop place f ≡ segments_bytes ss ++ rest → map (segment_of f) (loads_read index place ss) ≡ ss
memory_again f rest index place [] at = refl
memory_again f rest index place (s ∷ ss) at =
    let here : drop place f ≡ padded s.bytes ++ (segments_bytes ss ++ rest) = at ∙ append_assoc (padded s.bytes) (segments_bytes ss) rest in
    let bytes : part f place (length s.bytes) ≡ s.bytes = ap (λ r. take (length s.bytes) r) here ∙ take_padded s.bytes (segments_bytes ss ++ rest) in
    ap (λ x. record { at = s.at; bytes = x; size = s.size } ∷ map (segment_of f) (loads_read (index + 1) (place + length (padded s.bytes)) ss)) bytes
    ∙ ap (λ r. s ∷ r) (memory_again f rest (index + 1) (place + length (padded s.bytes)) ss (behind_part f place (padded s.bytes) (segments_bytes ss ++ rest) here))

pub segments_again : (f rest : List ℕ) (place : ℕ) (ss : List Segment) → drop place f ≡ segments_bytes ss ++ rest → AreApart ss → segments_of f (loads_read 0 place ss) ≡ ss
unfolding segments_of
segments_again f rest place ss at apart = ap (λ ls. map (segment_of f) ls) (fold_ascending [] 0 place ss tt apart) ∙ memory_again f rest 0 place ss at
