-- A file has 24 bytes for each symbol.
use Rattle.std.proofs.Common.{◌≡◌, ℕ, zero, suc, ◌+◌, ◌*◌, ◌/◌, ◌%◌, ◌≤◌, ◌==◌, ◌&&◌, ◌||◌, not, Bool, true, false, Option, Some, None, Ok, List, [], ◌∷◌, ◌++◌, length, refl, ap, subst, arith}
use Rattle.std.specs.Prelude.{nat_lt, filter, if◌then◌else◌, option_map, option_to_list}
use Rattle.std.proofs.lemmas.Bool.{ltb-false}
use Rattle.std.proofs.lemmas.List.{length-append}
use Rattle.std.proofs.lemmas.List.Filters.{length-filter_both}
use Rattle.elf_form.specs.Faults.{fault_where, reaches_past}
use Rattle.elf_form.specs.Fields.{table, symbol_entry_of}
use Rattle.elf_form.specs.Headers.{header_fault}
use Rattle.elf_form.specs.Segments.{segments_fault}
use Rattle.elf_form.specs.Texts.{text_fault}
use Rattle.elf_form.specs.Symbols.{kind_of, is_file, name_at, module_of, symbol_of, symbols_from, is_of_program, with_program_last, symbols_of, symbols_in, symbol_table, table_symbols, strings_of, section_bytes, entries_of, is_short, table_fault, symbols_fault_of, symbols_fault}
use Rattle.elf_form.specs.Meaning.{tables_of, fault_with, image_with, meaning_with, meaning_of}
use Rattle.pn_types.specs.GoodNames.{program_module}
use Rattle.elf_form.specs.declared.fault.ElfFault.TheVariants.{BadSymbols, Short}
use Rattle.elf_form.specs.declared.section.SectionHeader.{SectionHeader}
use Rattle.elf_form.specs.declared.symbol.SymbolEntry.{SymbolEntry}
use Rattle.elf_form.proofs.FaultLemmas.{no_fault, fails}
use Rattle.elf_form.proofs.AcceptedImages.{meant}
use Rattle.pn_types.specs.declared.image.Image.{Image}
use Rattle.pn_types.specs.declared.image.Symbol.{Symbol}

table_len : (b : List ℕ) (n at : ℕ) → length (table symbol_entry_of 24 b n at) ≡ n
table_len b zero at = refl
table_len b (suc n) at = ap suc (table_len b n (at + 24))

one_at_most : (o : Option Symbol) → length (option_to_list o) ≤ 1
one_at_most None = omega arith
one_at_most (Some s) = omega arith

from_by : (file : Bool) (o : Option Symbol) (n : ℕ) (named without : List Symbol) → length named ≤ n → length without ≤ n → length (if file then named else option_to_list o ++ without) ≤ n + 1
from_by true o n named without h g = omega arith
from_by false o n named without h g =
    let e = length-append (option_to_list o) without in
    let k = one_at_most o in
    omega arith

-- entries have no more symbols than there are of them
pub from_len : (strings source : List ℕ) (es : List SymbolEntry) → length (symbols_from strings source es) ≤ length es
from_len strings source [] = omega arith
from_len strings source (e ∷ es) =
    let h = from_by (is_file e) (option_map (symbol_of strings source e) (kind_of e)) (length es) (symbols_from strings (module_of (name_at strings e.name)) es) (symbols_from strings source es) (from_len strings (module_of (name_at strings e.name)) es) (from_len strings source es) in
    omega arith

pub last_len : (ss : List Symbol) → length (with_program_last ss) ≡ length ss
last_len ss =
    let e = length-append (filter (λ (s : Symbol). not (is_of_program s)) ss) (filter is_of_program ss) in
    let g = length-filter_both is_of_program (λ (s : Symbol). not (is_of_program s)) (λ s. refl) ss in
    omega arith

inside_by : (some : Bool) (at size len : ℕ) → nat_lt 0 size ≡ some → (some && nat_lt len (at + size)) ≡ false → size ≤ len
inside_by true at size len e h = let g = ltb-false len (at + size) h in omega arith
inside_by false at size len e h = let g = ltb-false 0 size e in omega arith

inside : (at size len : ℕ) → reaches_past at size len ≡ false → size ≤ len
inside at size len h = inside_by (nat_lt 0 size) at size len refl h

or_left : (x y : Bool) → (x || y) ≡ false → x ≡ false
or_left true y h = h
or_left false y h = refl

table_few : (b : List ℕ) (symbols : SectionHeader) (o : Option SectionHeader) → table_fault b symbols o ≡ None → 24 * length (table_symbols b symbols o) ≤ length b
table_few b symbols None h = omega arith
table_few b symbols (Some strings) h =
    let sizes = no_fault (fault_where (not ((symbols.entry_size == 24) && (symbols.size % 24 == 0))) BadSymbols) _ h in
    let short = no_fault (fault_where (is_short (length b) symbols || is_short (length b) strings) (Short (length b))) _ sizes.1 in
    let test = fails (is_short (length b) symbols || is_short (length b) strings) (Short (length b)) short.0 in
    let size = inside symbols.offset symbols.size (length b) (or_left (is_short (length b) symbols) (is_short (length b) strings) test) in
    let entries = table_len b (symbols.size / 24) symbols.offset in
    let found = from_len (section_bytes b strings) program_module (entries_of b symbols) in
    let last = last_len (symbols_from (section_bytes b strings) program_module (entries_of b symbols)) in
    omega arith

all_few : (b : List ℕ) (sections : List SectionHeader) (o : Option SectionHeader) → symbols_fault_of b sections o ≡ None → 24 * length (symbols_in b sections o) ≤ length b
all_few b sections None h = omega arith
all_few b sections (Some symbols) h = table_few b symbols (strings_of sections symbols) h

symbols_few : (b : List ℕ) (sections : List SectionHeader) → symbols_fault b sections ≡ None → 24 * length (symbols_of b sections) ≤ length b
unfolding symbols_of symbols_fault
symbols_few b sections h = all_few b sections (symbol_table sections) h

-- a file has 24 bytes for each symbol
pub few_symbols : (b : List ℕ) (i : Image) → meaning_of b ≡ Ok i → 24 * length i.symbols ≤ length b
unfolding meaning_of meaning_with
few_symbols b i h =
    let t = tables_of b in
    let m = meant (fault_with b t) (image_with b t) i h in
    let a = no_fault (header_fault b) _ m.0 in
    let s = no_fault (segments_fault (length b) t.loads) _ a.1 in
    let x = no_fault (text_fault b t.loads t.sections t.entry) _ s.1 in
    let y = no_fault (symbols_fault b t.sections) _ x.1 in
    subst (λ (i : Image). 24 * length i.symbols ≤ length b) m.1 (symbols_few b t.sections y.0)
