-- How many bytes the names of entries' symbols have.
use Rattle.std.proofs.Common.{◌≡◌, ℕ, ◌+◌, ◌<◌, ◌≤◌, Bool, true, false, not, Option, Some, None, List, [], ◌∷◌, ◌++◌, length, take, get_or, refl, ap, sym, ◌∙◌, arith}
use Rattle.std.specs.Prelude.{filter, if◌then◌else◌, option_map, option_to_list, sum_by, is_some, nat_le}
use Rattle.std.proofs.lemmas.Bool.{le-leb, lt-leb}
use Rattle.std.proofs.lemmas.List.{take_all}
use Rattle.std.proofs.lemmas.List.Sums.{sum_by-cons, sum_by-append, sum_by_more_le}
use Rattle.std.proofs.lemmas.List.Filters.{sum_by-filter_both}
use Rattle.elf_form.specs.Symbols.{kind_of, is_file, name_at, module_of, symbol_of, symbols_from, is_of_program, with_program_last}
use Rattle.elf_form.specs.Accepted.{names_len}
use Rattle.elf_form.specs.declared.symbol.SymbolEntry.{SymbolEntry}
use Rattle.pn_types.specs.GoodNames.{program_module}
use Rattle.pn_types.specs.declared.image.SymKind.{SymKind}
use Rattle.pn_types.specs.declared.image.Symbol.{Symbol}

abbrev pub kept_len : Option SymKind → ℕ → ℕ
kept_len None len = 0
kept_len (Some kind) len = len

-- the length of the name that an entry gives
abbrev pub entry_len : List ℕ → SymbolEntry → ℕ
entry_len strings e = if is_file e then 0 else kept_len (kind_of e) (length (name_at strings e.name))

kept : (strings source : List ℕ) (e : SymbolEntry) (o : Option SymKind) (more : List Symbol) → names_len (option_to_list (option_map (symbol_of strings source e) o) ++ more) ≡ kept_len o (length (name_at strings e.name)) + names_len more
kept strings source e None more = omega arith
kept strings source e (Some kind) more = sum_by-cons (λ s. length s.name) (symbol_of strings source e kind) more

by : (file : Bool) (n m : ℕ) (named without : List Symbol) → names_len named ≡ m → names_len without ≡ n + m → names_len (if file then named else without) ≡ (if file then 0 else n) + m
by true n m named without h g = omega arith
by false n m named without h g = g

pub entries_len : (strings source : List ℕ) (es : List SymbolEntry) → names_len (symbols_from strings source es) ≡ sum_by (entry_len strings) es
entries_len strings source [] = refl
entries_len strings source (e ∷ es) =
    let file = symbols_from strings (module_of (name_at strings e.name)) es in
    let rest = symbols_from strings source es in
    let one = kept strings source e (kind_of e) rest ∙ ap (λ n. kept_len (kind_of e) (length (name_at strings e.name)) + n) (entries_len strings source es) in
    by (is_file e) (kept_len (kind_of e) (length (name_at strings e.name))) (sum_by (entry_len strings) es) file (option_to_list (option_map (symbol_of strings source e) (kind_of e)) ++ rest) (entries_len strings (module_of (name_at strings e.name)) es) one
    ∙ sym (sum_by-cons (entry_len strings) e es)

pub last_len : (ss : List Symbol) → names_len (with_program_last ss) ≡ names_len ss
last_len ss =
    let e = sum_by-append (λ (s : Symbol). length s.name) (filter (λ (s : Symbol). not (is_of_program s)) ss) (filter is_of_program ss) in
    let g = sum_by-filter_both is_of_program (λ (s : Symbol). not (is_of_program s)) (λ s. refl) (λ (s : Symbol). length s.name) ss in
    omega arith

some_kept : (o : Option SymKind) (len : ℕ) → is_some o ≡ true → kept_len o len ≡ len
some_kept None len h = absurd (cc)
some_kept (Some kind) len h = refl

pub counted : (strings : List ℕ) (e : SymbolEntry) → is_file e ≡ false → is_some (kind_of e) ≡ true → entry_len strings e ≡ length (name_at strings e.name)
counted strings e file kind =
    ap (λ t. if t then 0 else kept_len (kind_of e) (length (name_at strings e.name))) file
    ∙ some_kept (kind_of e) (length (name_at strings e.name)) kind

-- the room is too small for the next name
pub too_long : (strings : List ℕ) (es : List SymbolEntry) (i room len limit : ℕ) (d : SymbolEntry) → i < length es → room + sum_by (entry_len strings) (take i es) ≡ limit → entry_len strings (get_or es i d) ≡ len → room < len → false ≡ nat_le (names_len (symbols_from strings program_module es)) limit
too_long strings es i room len limit d within so_far is less =
    let more = sum_by_more_le (entry_len strings) es i d within in
    let whole = entries_len strings program_module es in
    sym (lt-leb (names_len (symbols_from strings program_module es)) limit (omega arith))

-- there was room for each
pub short_enough : (strings : List ℕ) (es : List SymbolEntry) (i room limit : ℕ) → length es ≤ i → room + sum_by (entry_len strings) (take i es) ≡ limit → true ≡ nat_le (names_len (symbols_from strings program_module es)) limit
short_enough strings es i room limit all so_far =
    let whole = entries_len strings program_module es in
    let same = ap (λ xs. sum_by (entry_len strings) xs) (take_all i es all) in
    sym (le-leb (names_len (symbols_from strings program_module es)) limit (omega arith))
