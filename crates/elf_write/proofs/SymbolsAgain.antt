-- The symbols of what is written, read again.
use Rattle.std.proofs.Common.{◌≡◌, ℕ, ◌+◌, Bool, true, false, not, List, [], ◌∷◌, ◌++◌, length, drop, take, map, refl, sym, ap, ◌∙◌, arith, append_assoc, length-append}
use Rattle.std.specs.Prelude.{filter, ◌==◌, ◌&&◌, ◌||◌, if◌then◌else◌}
use Rattle.std.specs.List.{AllByRecursion, list_any, list_all, prefix_len, take_while}
use Rattle.std.specs.Str.{bytes_eq}
use Rattle.std.proofs.lemmas.List.{take_at}
use Rattle.std.proofs.lemmas.List.Folds.{list_any-append}
use Rattle.std.proofs.lemmas.Slice.Eq.{bytes_eq-Decides}
use Rattle.std.proofs.lemmas.Grind.{common_steps}
use Rattle.elf_form.specs.Symbols.{is_ended, name_at, module_of, symbols_from, is_of_program, with_program_last}
use Rattle.pn_types.specs.GoodNames.{is_name_byte, is_good_name, program_module}
use Rattle.elf_form.specs.Accepted.{IsNamed}
use Rattle.elf_form.proofs.FoundSymbols.{all_append, either}
use Rattle.elf_form.specs.declared.symbol.SymbolEntry.{SymbolEntry}
use Rattle.elf_write.specs.Symbols.{Named, type_of, entry_with, file_entry, entries_after, local_entries, locals_of, globals_of, entries_of, names_of}
use Rattle.elf_write.proofs.TablesAgain.{entries_read, NamedFits}
use Rattle.elf_write.proofs.PartsAgain.{behind_part}
use Rattle.pn_types.specs.declared.image.SymKind.{SymKind}
use Rattle.pn_types.specs.declared.image.SymKind.TheVariants.{Func, Object}
use Rattle.pn_types.specs.declared.image.Symbol.{Symbol}

-- ---- names

and_left : (a b : Bool) → (a && b) ≡ true → a ≡ true
and_left true b h = refl
and_left false b h = h

and_right : (a b : Bool) → (a && b) ≡ true → b ≡ true
and_right true b h = h
and_right false b h = absurd (cc)

abbrev HasNoZero : List ℕ → Type 0
HasNoZero name = list_all (λ byte. not (byte == 0)) name ≡ true

name_len : (name rest : List ℕ) → HasNoZero name → prefix_len (λ byte. not (byte == 0)) (name ++ 0 ∷ rest) ≡ length name
name_len [] rest h = refl
name_len (x ∷ xs) rest h =
    let first : not (x == 0) ≡ true = and_left (not (x == 0)) _ h in
    let later = name_len xs rest (and_right (not (x == 0)) _ h) in
    ap (λ t. if t then 1 + prefix_len (λ byte. not (byte == 0)) (xs ++ 0 ∷ rest) else 0) first ∙ omega (arith, later)

-- the strings from a name on
ahead : (strings : List ℕ) (place : ℕ) (x : Named) (xs : List Named) → drop place strings ≡ names_of (x ∷ xs) → drop place strings ≡ x.name ++ (0 ∷ names_of xs)
ahead strings place x xs h = h ∙ append_assoc x.name (0 ∷ []) (names_of xs)

-- the strings after a name
beyond : (strings : List ℕ) (place : ℕ) (x : Named) (xs : List Named) → drop place strings ≡ names_of (x ∷ xs) → drop (place + length x.name + 1) strings ≡ names_of xs
beyond strings place x xs h =
    let len : place + length x.name + 1 ≡ place + length (x.name ++ 0 ∷ []) = omega (arith, length-append x.name (0 ∷ [])) in
    ap (λ k. drop k strings) len ∙ behind_part strings place (x.name ++ 0 ∷ []) (names_of xs) h

name_again : (strings : List ℕ) (place : ℕ) (x : Named) (xs : List Named) → drop place strings ≡ names_of (x ∷ xs) → HasNoZero x.name → name_at strings place ≡ x.name
name_again strings place x xs h none =
    ap (λ r. take_while (λ byte. not (byte == 0)) r) (ahead strings place x xs h)
    ∙ ap (λ n. take n (x.name ++ 0 ∷ names_of xs)) (name_len x.name (names_of xs) none) ∙ take_at x.name (0 ∷ names_of xs) (length x.name) refl

or_true : (b : Bool) → (b || true) ≡ true
or_true true = refl
or_true false = refl

ended_one : (strings : List ℕ) (place : ℕ) (x : Named) (xs : List Named) → drop place strings ≡ names_of (x ∷ xs) → is_ended strings place ≡ true
ended_one strings place x xs h =
    ap (λ r. list_any (λ byte. byte == 0) r) (ahead strings place x xs h) ∙ list_any-append (λ byte. byte == 0) x.name (0 ∷ names_of xs) ∙ or_true (list_any (λ byte. byte == 0) x.name)

pub ended_again : (strings : List ℕ) (place : ℕ) (xs : List Named) → drop place strings ≡ names_of xs → list_all (λ e. is_ended strings e.name) (entries_read place xs) ≡ true
ended_again strings place [] h = refl
ended_again strings place (x ∷ xs) h =
    ap (λ t. t && list_all (λ e. is_ended strings e.name) (entries_read (place + length x.name + 1) xs)) (ended_one strings place x xs h)
    ∙ ended_again strings (place + length x.name + 1) xs (beyond strings place x xs h)

-- a good name has no zero byte
byte_no_zero : (x : ℕ) → is_name_byte x ≡ true → not (x == 0) ≡ true
byte_no_zero x h = grind (arith, common_steps)

bytes_no_zero : (name : List ℕ) → list_all is_name_byte name ≡ true → HasNoZero name
bytes_no_zero [] h = refl
bytes_no_zero (x ∷ xs) h =
    ap (λ t. t && list_all (λ byte. not (byte == 0)) xs) (byte_no_zero x (and_left (is_name_byte x) _ h)) ∙ bytes_no_zero xs (and_right (is_name_byte x) _ h)

good_no_zero : (name : List ℕ) → is_good_name name ≡ true → HasNoZero name
good_no_zero name h = bytes_no_zero name (and_right _ (list_all is_name_byte name) h)

-- ---- symbols

-- a symbol that is written as local, and one that is written as global
pub record IsLocal (s : Symbol) : Type 0 where
  pub name : list_all (λ byte. not (byte == 0)) s.name ≡ true
  pub source : is_good_name s.module ≡ true

pub record IsGlobal (s : Symbol) : Type 0 where
  pub name : list_all (λ byte. not (byte == 0)) s.name ≡ true
  pub source : s.module ≡ program_module

abbrev made : List ℕ → SymKind → Symbol → List ℕ → Symbol
made name kind s source = record { name = name; kind = kind; at = s.at; size = s.size; «module» = source }

global_step : (strings source : List ℕ) (place : ℕ) (s : Symbol) (kind : SymKind) (es : List SymbolEntry) → symbols_from strings source (record { name = place; info = 16 + type_of kind; section = 1; value = s.at; size = s.size } ∷ es) ≡ made (name_at strings place) kind s program_module ∷ symbols_from strings source es
global_step strings source place s Func es = refl
global_step strings source place s Object es = refl

local_step : (strings source : List ℕ) (place : ℕ) (s : Symbol) (kind : SymKind) (es : List SymbolEntry) → symbols_from strings source (record { name = place; info = 0 + type_of kind; section = 1; value = s.at; size = s.size } ∷ es) ≡ made (name_at strings place) kind s source ∷ symbols_from strings source es
local_step strings source place s Func es = refl
local_step strings source place s Object es = refl

same_symbol : (s : Symbol) (name source : List ℕ) → name ≡ s.name → source ≡ s.module → made name s.kind s source ≡ s
same_symbol s name source n m = ap (λ x. made x s.kind s source) n ∙ ap (λ x. made s.name s.kind s x) m

module _ (strings : List ℕ) where
  globals_again : (source : List ℕ) (place : ℕ) (gs : List Symbol) → drop place strings ≡ names_of (map (entry_with 16) gs) → AllByRecursion IsGlobal gs → symbols_from strings source (entries_read place (map (entry_with 16) gs)) ≡ gs
  globals_again source place [] h all = refl
  globals_again source place (g ∷ gs) h all =
      let next = place + length g.name + 1 in
      global_step strings source place g g.kind (entries_read next (map (entry_with 16) gs))
      ∙ ap (λ s. s ∷ symbols_from strings source (entries_read next (map (entry_with 16) gs))) (same_symbol g (name_at strings place) program_module (name_again strings place (entry_with 16 g) (map (entry_with 16) gs) h all.0.name) (sym all.0.source))
      ∙ ap (λ r. g ∷ r) (globals_again source next gs (beyond strings place (entry_with 16 g) (map (entry_with 16) gs) h) all.1)

  -- the entry of a local symbol after that of its source file
  own_step : (place : ℕ) (s : Symbol) (xs : List Named) → drop place strings ≡ names_of (entry_with 0 s ∷ xs) → IsLocal s → symbols_from strings s.module (entries_read place (entry_with 0 s ∷ xs)) ≡ s ∷ symbols_from strings s.module (entries_read (place + length s.name + 1) xs)
  own_step place s xs h is =
      let rest = entries_read (place + length s.name + 1) xs in
      local_step strings s.module place s s.kind rest
      ∙ ap (λ t. t ∷ symbols_from strings s.module rest) (same_symbol s (name_at strings place) s.module (name_again strings place (entry_with 0 s) xs h is.name) refl)

  file_step : (source : List ℕ) (place : ℕ) (s : Symbol) (xs : List Named) → drop place strings ≡ names_of (file_entry s.module ∷ xs) → IsLocal s → symbols_from strings source (entries_read place (file_entry s.module ∷ xs)) ≡ symbols_from strings s.module (entries_read (place + length s.module + 1) xs)
  file_step source place s xs h is =
      let name = name_again strings place (file_entry s.module) xs h (good_no_zero s.module is.source) in
      let good : module_of s.module ≡ s.module = ap (λ t. if t then s.module else program_module) is.source in
      ap (λ m. symbols_from strings m (entries_read (place + length s.module + 1) xs)) (ap module_of name ∙ good)

  pub all_again : (source : List ℕ) (place : ℕ) (ss gs : List Symbol) → drop place strings ≡ names_of (local_entries source ss ++ map (entry_with 16) gs) → AllByRecursion IsLocal ss → AllByRecursion IsGlobal gs → symbols_from strings source (entries_read place (local_entries source ss ++ map (entry_with 16) gs)) ≡ ss ++ gs
  all_again source place [] gs h locals globals = globals_again source place gs h globals
  all_again source place (s ∷ ss) gs h locals globals =
      let rest = local_entries s.module ss ++ map (entry_with 16) gs in
      let split : local_entries source (s ∷ ss) ++ map (entry_with 16) gs ≡ entries_after source s ++ rest = append_assoc (entries_after source s) (local_entries s.module ss) (map (entry_with 16) gs) in
      ap (λ xs. symbols_from strings source (entries_read place xs)) split
      ∙ one (bytes_eq s.module source) refl (h ∙ ap names_of split) (λ (p : ℕ) (k : drop p strings ≡ names_of rest). all_again s.module p ss gs k locals.1 globals)
    where
      one : (b : Bool) → bytes_eq s.module source ≡ b → drop place strings ≡ names_of (entries_after source s ++ (local_entries s.module ss ++ map (entry_with 16) gs)) → ((p : ℕ) → drop p strings ≡ names_of (local_entries s.module ss ++ map (entry_with 16) gs) → symbols_from strings s.module (entries_read p (local_entries s.module ss ++ map (entry_with 16) gs)) ≡ ss ++ gs) → symbols_from strings source (entries_read place (entries_after source s ++ (local_entries s.module ss ++ map (entry_with 16) gs))) ≡ s ∷ ss ++ gs
      one true is h later =
          let rest = local_entries s.module ss ++ map (entry_with 16) gs in
          let e : entries_after source s ++ rest ≡ entry_with 0 s ∷ rest = ap (λ t. (if t then entry_with 0 s ∷ [] else file_entry s.module ∷ entry_with 0 s ∷ []) ++ rest) is in
          let here : drop place strings ≡ names_of (entry_with 0 s ∷ rest) = h ∙ ap names_of e in
          let same : s.module ≡ source = (bytes_eq-Decides s.module source).0 is in
          ap (λ xs. symbols_from strings source (entries_read place xs)) e
          ∙ ap (λ m. symbols_from strings m (entries_read place (entry_with 0 s ∷ rest))) (sym same)
          ∙ own_step place s rest here locals.0
          ∙ ap (λ r. s ∷ r) (later (place + length s.name + 1) (beyond strings place (entry_with 0 s) rest here))
      one false is h later =
          let rest = local_entries s.module ss ++ map (entry_with 16) gs in
          let e : entries_after source s ++ rest ≡ file_entry s.module ∷ entry_with 0 s ∷ rest = ap (λ t. (if t then entry_with 0 s ∷ [] else file_entry s.module ∷ entry_with 0 s ∷ []) ++ rest) is in
          let first : drop place strings ≡ names_of (file_entry s.module ∷ entry_with 0 s ∷ rest) = h ∙ ap names_of e in
          let next = place + length s.module + 1 in
          let here : drop next strings ≡ names_of (entry_with 0 s ∷ rest) = beyond strings place (file_entry s.module) (entry_with 0 s ∷ rest) first in
          ap (λ xs. symbols_from strings source (entries_read place xs)) e
          ∙ file_step source place s (entry_with 0 s ∷ rest) first locals.0
          ∙ own_step next s rest here locals.0
          ∙ ap (λ r. s ∷ r) (later (next + length s.name + 1) (beyond strings next (entry_with 0 s) rest here))

-- ---- the symbols of an image

local_of : (s : Symbol) → IsNamed s → bytes_eq s.module program_module ≡ false → IsLocal s
local_of s named other = record { name = named.name; source = named.source }

global_of : (s : Symbol) → IsNamed s → bytes_eq s.module program_module ≡ true → IsGlobal s
global_of s named own = record { name = named.name; source = (bytes_eq-Decides s.module program_module).0 own }

are_local : (ss : List Symbol) → AllByRecursion IsNamed ss → AllByRecursion IsLocal (filter (λ s. not (is_of_program s)) ss)
are_local [] all = tt
are_local (s ∷ ss) all = by (bytes_eq s.module program_module) refl (are_local ss all.1)
  where
    by : (b : Bool) → bytes_eq s.module program_module ≡ b → AllByRecursion IsLocal (filter (λ t. not (is_of_program t)) ss) → AllByRecursion IsLocal (if not (bytes_eq s.module program_module) then s ∷ filter (λ t. not (is_of_program t)) ss else filter (λ t. not (is_of_program t)) ss)
    by true is rest = rw is rest
    by false is rest = rw is (local_of s all.0 is, rest)

are_global : (ss : List Symbol) → AllByRecursion IsNamed ss → AllByRecursion IsGlobal (filter is_of_program ss)
are_global [] all = tt
are_global (s ∷ ss) all = by (bytes_eq s.module program_module) refl (are_global ss all.1)
  where
    by : (b : Bool) → bytes_eq s.module program_module ≡ b → AllByRecursion IsGlobal (filter is_of_program ss) → AllByRecursion IsGlobal (if bytes_eq s.module program_module then s ∷ filter is_of_program ss else filter is_of_program ss)
    by true is rest = rw is (global_of s all.0 is, rest)
    by false is rest = rw is rest

-- the symbols that are read in the entries of symbols
pub symbols_again : (strings : List ℕ) (symbols : List Symbol) → strings ≡ names_of (entries_of symbols) → AllByRecursion IsNamed symbols → symbols_from strings program_module (entries_read 0 (entries_of symbols)) ≡ with_program_last symbols
symbols_again strings symbols h all =
    all_again strings program_module 1 (filter (λ s. not (is_of_program s)) symbols) (filter is_of_program symbols) (ap (λ r. drop 1 r) h) (are_local symbols all) (are_global symbols all)

-- ---- the numbers of entries fit their fields

one_fits : (binding : ℕ) (s : Symbol) → IsNamed s → NamedFits (entry_with binding s)
one_fits binding s h = record { section = omega arith; value = h.at; size = h.size }

after_fit : (source : List ℕ) (s : Symbol) → IsNamed s → AllByRecursion NamedFits (entries_after source s)
after_fit source s h =
    either NamedFits (bytes_eq s.module source) (entry_with 0 s ∷ []) (file_entry s.module ∷ entry_with 0 s ∷ []) (one_fits 0 s h, tt)
    (record { section = omega arith; value = omega arith; size = omega arith }, (one_fits 0 s h, tt))

locals_fit : (source : List ℕ) (ss : List Symbol) → AllByRecursion IsNamed ss → AllByRecursion NamedFits (local_entries source ss)
locals_fit source [] all = tt
locals_fit source (s ∷ ss) all = all_append NamedFits (entries_after source s) (local_entries s.module ss) (after_fit source s all.0) (locals_fit s.module ss all.1)

globals_fit : (ss : List Symbol) → AllByRecursion IsNamed ss → AllByRecursion NamedFits (map (entry_with 16) ss)
globals_fit [] all = tt
globals_fit (s ∷ ss) all = (one_fits 16 s all.0, globals_fit ss all.1)

kept : (p : Symbol → Bool) (ss : List Symbol) → AllByRecursion IsNamed ss → AllByRecursion IsNamed (filter p ss)
kept p [] all = tt
kept p (s ∷ ss) all = let rest = kept p ss all.1 in either IsNamed (p s) (s ∷ filter p ss) (filter p ss) (all.0, rest) rest

pub entries_fit : (symbols : List Symbol) → AllByRecursion IsNamed symbols → AllByRecursion NamedFits (entries_of symbols)
entries_fit symbols all =
    (record { section = omega arith; value = omega arith; size = omega arith }, all_append NamedFits (locals_of symbols) (globals_of symbols) (locals_fit program_module (filter (λ s. not (is_of_program s)) symbols) (kept (λ s. not (is_of_program s)) symbols all)) (globals_fit (filter is_of_program symbols) (kept is_of_program symbols all)))
