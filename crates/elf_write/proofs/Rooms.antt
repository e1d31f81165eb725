-- How much room the names of symbols take in the string table.
use Rattle.std.proofs.Common.{◌≡◌, ℕ, ◌+◌, ◌*◌, ◌<◌, ◌≤◌, ◌^◌, cond, not, Bool, true, false, Ok, List, [], ◌∷◌, ◌++◌, length, map, refl, ap, arith}
use Rattle.std.specs.Prelude.{nat_le}
use Rattle.std.specs.List.{sum_by, filter, AllByRecursion}
use Rattle.std.specs.Str.{bytes_eq}
use Rattle.std.proofs.lemmas.Bool.{leb-true}
use Rattle.std.proofs.lemmas.Grind.{common_steps}
use Rattle.std.proofs.lemmas.List.{length-append, length-map}
use Rattle.std.proofs.lemmas.List.Filters.{length-filter_both, sum_by-filter_both}
use Rattle.std.proofs.lemmas.List.Sums.{sum_by-cons}
use Rattle.pn_types.specs.GoodNames.{program_module}
use Rattle.pn_types.specs.declared.image.Image.{Image}
use Rattle.pn_types.specs.declared.image.Symbol.{Symbol}
use Rattle.elf_form.specs.Symbols.{is_of_program}
use Rattle.elf_form.specs.Meaning.{meaning_of}
use Rattle.outside.specs.Outside.{IsBytes}
use Rattle.elf_form.specs.Accepted.{IsNamed, names_len}
use Rattle.elf_form.proofs.AcceptedImages.{accepted}
use Rattle.elf_form.proofs.Countable.{few_symbols}
use Rattle.elf_write.specs.Symbols.{entry_with, file_entry, entries_after, local_entries, locals_of, globals_of, entries_of, null_entry, names_of, string_table}
use Rattle.elf_write.specs.Layout.{CanWrite}
use Rattle.elf_write.proofs.Entries.{counted, length-names, names_of-append}

-- a symbol's name and its module, each with an end
abbrev pub name_room : Symbol → ℕ
name_room s = length s.name + length s.module + 2

entries_by : (same : Bool) (s : Symbol) → length (names_of (cond same (entry_with 0 s ∷ []) (file_entry s.module ∷ entry_with 0 s ∷ []))) ≤ name_room s
entries_by true s = omega (arith, length-names (entry_with 0 s) [])
entries_by false s = omega (arith, length-names (entry_with 0 s) [], length-names (file_entry s.module) (entry_with 0 s ∷ []))

locals_room : (source : List ℕ) (ss : List Symbol) → length (names_of (local_entries source ss)) ≤ sum_by name_room ss
locals_room source [] = omega arith
locals_room source (s ∷ ss) =
    let one = entries_by (bytes_eq s.module source) s in
    let rest = locals_room s.module ss in
    let both = ap (λ b. length b) (names_of-append (entries_after source s) (local_entries s.module ss)) in
    let parts = length-append (names_of (entries_after source s)) (names_of (local_entries s.module ss)) in
    let sum = sum_by-cons name_room s ss in
    omega arith

globals_room : (ss : List Symbol) → length (names_of (map (entry_with 16) ss)) ≤ sum_by name_room ss
globals_room [] = omega arith
globals_room (s ∷ ss) =
    let one = length-names (entry_with 16 s) (map (entry_with 16) ss) in
    let rest = globals_room ss in
    let sum = sum_by-cons name_room s ss in
    omega arith

pub strings_room : (symbols : List Symbol) → length (string_table symbols) ≤ 1 + sum_by name_room symbols
unfolding string_table
strings_room symbols =
    let null = length-names null_entry (locals_of symbols ++ globals_of symbols) in
    let both = ap (λ b. length b) (names_of-append (locals_of symbols) (globals_of symbols)) in
    let parts = length-append (names_of (locals_of symbols)) (names_of (globals_of symbols)) in
    let locals = locals_room program_module (filter (λ s. not (is_of_program s)) symbols) in
    let globals = globals_room (filter is_of_program symbols) in
    let all = sum_by-filter_both is_of_program (λ (s : Symbol). not (is_of_program s)) (λ s. refl) name_room symbols in
    omega arith

-- ---- each symbol has an entry, and each entry a byte

after_by : (same : Bool) (s : Symbol) → 1 ≤ length (cond same (entry_with 0 s ∷ []) (file_entry s.module ∷ entry_with 0 s ∷ []))
after_by true s = omega arith
after_by false s = omega arith

locals_many : (source : List ℕ) (ss : List Symbol) → length ss ≤ length (local_entries source ss)
locals_many source [] = omega arith
locals_many source (s ∷ ss) =
    let one = after_by (bytes_eq s.module source) s in
    let rest = locals_many s.module ss in
    let both = length-append (entries_after source s) (local_entries s.module ss) in
    omega arith

-- a number of 32 bits counts the symbols of an image that can be written
pub few_named : (i : Image) → CanWrite i → length i.symbols < 2 ^ 32
unfolding string_table
few_named i can =
    let symbols = i.symbols in
    let locals = locals_many program_module (filter (λ s. not (is_of_program s)) symbols) in
    let globals = length-map (filter is_of_program symbols) (entry_with 16) in
    let all = length-filter_both is_of_program (λ (s : Symbol). not (is_of_program s)) (λ s. refl) symbols in
    let both = length-append (locals_of symbols) (globals_of symbols) in
    let bytes = counted (entries_of symbols) in
    omega arith

-- ---- what is loaded can be written

module_short : (s : Symbol) → IsNamed s → length s.module ≤ 200
module_short s named =
    let good = named.source in
    let short : nat_le (length s.module) 200 ≡ true = grind (arith, common_steps) in
    leb-true (length s.module) 200 short

named_room : (ss : List Symbol) → AllByRecursion IsNamed ss → sum_by name_room ss ≤ names_len ss + 202 * length ss
named_room [] all = omega arith
named_room (s ∷ ss) all =
    let short = module_short s all.0 in
    let rest = named_room ss all.1 in
    let rooms = sum_by-cons name_room s ss in
    let names = sum_by-cons (λ (t : Symbol). length t.name) s ss in
    omega arith

pub loaded_fits : (file : List ℕ) (i : Image) → IsBytes file → length file ≤ 33554432 → meaning_of file ≡ Ok i → names_len i.symbols ≤ 67108864 → CanWrite i
loaded_fits file i bytes short meant names =
    let few = few_symbols file i meant in
    let room = strings_room i.symbols in
    let most = named_room i.symbols (accepted file i bytes meant (omega arith)).named in
    omega arith
