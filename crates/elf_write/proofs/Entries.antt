-- Entries that are appended to the tables.
use Rattle.std.proofs.Common.{◌≡◌, ℕ, ◌+◌, ◌*◌, ◌<◌, ◌≤◌, ◌^◌, List, [], ◌∷◌, ◌++◌, length, drop, get_or, refl, sym, ap, ◌∙◌, arith, append_assoc, length-append, true, false, not}
use Rattle.std.specs.Prelude.{filter}
use Rattle.std.specs.Str.{bytes_eq}
use Rattle.std.proofs.lemmas.List.{drop_more, append-nil}
use Rattle.elf_form.specs.Symbols.{is_of_program}
use Rattle.pn_types.specs.GoodNames.{program_module}
use Rattle.elf_write.specs.Symbols.{Named, entries_bytes, entry_bytes, entry_with, file_entry, null_entry, entries_after, local_entries, names_of, globals_of, entries_of, symbol_table, string_table}
use Rattle.elf_write.specs.Fields.{words, halves, doublewords}
use Rattle.elf_write.specs.declared.symbols.Entry.{Entry}
use Rattle.pn_types.specs.declared.image.Symbol.{Symbol}

pub names_of-append : (xs ys : List Named) → names_of (xs ++ ys) ≡ names_of xs ++ names_of ys
names_of-append [] ys = refl
names_of-append (x ∷ xs) ys = ap (λ r. (x.name ++ 0 ∷ []) ++ r) (names_of-append xs ys) ∙ sym (append_assoc (x.name ++ 0 ∷ []) (names_of xs) (names_of ys))

pub length-names : (x : Named) (xs : List Named) → length (names_of (x ∷ xs)) ≡ length x.name + 1 + length (names_of xs)
length-names x xs = omega (arith, length-append (x.name ++ 0 ∷ []) (names_of xs), length-append x.name (0 ∷ []))

pub entries_bytes-append : (place : ℕ) (xs ys : List Named) → entries_bytes place (xs ++ ys) ≡ entries_bytes place xs ++ entries_bytes (place + length (names_of xs)) ys
entries_bytes-append place [] ys = let e : place + 0 ≡ place = omega arith in ap (λ p. entries_bytes p ys) (sym e)
entries_bytes-append place (x ∷ xs) ys =
    let e : place + length x.name + 1 + length (names_of xs) ≡ place + length (names_of (x ∷ xs)) = omega (arith, length-names x xs) in
    ap (λ r. entry_bytes place x.entry ++ r) (entries_bytes-append (place + length x.name + 1) xs ys ∙ ap (λ p. entries_bytes (place + length x.name + 1) xs ++ entries_bytes p ys) e)
    ∙ sym (append_assoc (entry_bytes place x.entry) (entries_bytes (place + length x.name + 1) xs) (entries_bytes (place + length (names_of (x ∷ xs))) ys))

-- each name has a byte at least
pub counted : (xs : List Named) → length xs ≤ length (names_of xs)
counted [] = omega arith
counted (x ∷ xs) = omega (arith, length-names x xs, counted xs)

module _ (rest xs : List Named) where
  pub step_strings : (now then all : List ℕ) → then ≡ now ++ names_of xs → now ++ names_of (xs ++ rest) ≡ all → then ++ names_of rest ≡ all
  step_strings now then all e h = ap (λ r. r ++ names_of rest) e ∙ append_assoc now (names_of xs) (names_of rest) ∙ ap (λ r. now ++ r) (sym (names_of-append xs rest)) ∙ h

  pub step_symbols : (strings strings' now then all : List ℕ) → strings' ≡ strings ++ names_of xs → then ≡ now ++ entries_bytes (length strings) xs → now ++ entries_bytes (length strings) (xs ++ rest) ≡ all → then ++ entries_bytes (length strings') rest ≡ all
  step_symbols strings strings' now then all s e h =
      let place : length strings' ≡ length strings + length (names_of xs) = ap length s ∙ length-append strings (names_of xs) in
      ap (λ r. r ++ entries_bytes (length strings') rest) e
      ∙ ap (λ p. (now ++ entries_bytes (length strings) xs) ++ entries_bytes p rest) place
      ∙ append_assoc now (entries_bytes (length strings) xs) (entries_bytes (length strings + length (names_of xs)) rest)
      ∙ ap (λ r. now ++ r) (sym (entries_bytes-append (length strings) xs rest)) ∙ h

  -- there is room for the next names
  pub room : (now start all : List ℕ) → now ++ names_of (xs ++ rest) ≡ start ++ all → length start + length all < 2 ^ 32 → length now + length (names_of xs) < 2 ^ 32
  room now start all e h =
      omega (arith, ap length e, length-append now (names_of (xs ++ rest)), ap length (names_of-append xs rest), length-append (names_of xs) (names_of rest), length-append start all, h)

-- the entries from a symbol on
module _ (symbols : List Symbol) (i : ℕ) (s : Symbol) (in' : i < length symbols) (is : s ≡ get_or symbols i s) where
  here : drop i symbols ≡ s ∷ drop (i + 1) symbols
  here = drop_more symbols i s in' ∙ ap (λ t. t ∷ drop (i + 1) symbols) (sym is)

  pub local_more : (source next : List ℕ) → next ≡ s.module → bytes_eq s.module program_module ≡ false → local_entries source (filter (λ t. not (is_of_program t)) (drop i symbols)) ≡ entries_after source s ++ local_entries next (filter (λ t. not (is_of_program t)) (drop (i + 1) symbols))
  local_more source next is_next other =
      let first : local_entries source (filter (λ t. not (is_of_program t)) (s ∷ drop (i + 1) symbols)) ≡ entries_after source s ++ local_entries s.module (filter (λ t. not (is_of_program t)) (drop (i + 1) symbols)) = rw other refl in
      ap (λ ts. local_entries source (filter (λ t. not (is_of_program t)) ts)) here ∙ first
      ∙ ap (λ m. entries_after source s ++ local_entries m (filter (λ t. not (is_of_program t)) (drop (i + 1) symbols))) (sym is_next)

  pub local_skipped : (source : List ℕ) → bytes_eq s.module program_module ≡ true → local_entries source (filter (λ t. not (is_of_program t)) (drop i symbols)) ≡ local_entries source (filter (λ t. not (is_of_program t)) (drop (i + 1) symbols))
  local_skipped source own = ap (λ ts. local_entries source (filter (λ t. not (is_of_program t)) ts)) here ∙ rw own refl

  pub global_more : bytes_eq s.module program_module ≡ true → globals_of (drop i symbols) ≡ (entry_with 16 s ∷ []) ++ globals_of (drop (i + 1) symbols)
  global_more own = ap globals_of here ∙ rw own refl

  pub global_skipped : bytes_eq s.module program_module ≡ false → globals_of (drop i symbols) ≡ globals_of (drop (i + 1) symbols)
  global_skipped other = ap globals_of here ∙ rw other refl

-- what stands before a part of a list is no longer than the whole
pub fits : (now rest start all : List ℕ) → now ++ rest ≡ start ++ all → length start + length all < 2 ^ 32 → length now < 2 ^ 32
fits now rest start all e h = omega (arith, ap length e, length-append now rest, length-append start all, h)

-- a symbol whose module is another one comes after the entry of its source file
pub file_first : (source : List ℕ) (s : Symbol) (sym0 sym1 sym2 str0 str1 : List ℕ) → bytes_eq s.module source ≡ false → sym1 ≡ sym0 ++ entry_bytes (length str0) (file_entry s.module).entry → str1 ≡ str0 ++ (s.module ++ 0 ∷ []) → sym2 ≡ sym1 ++ entry_bytes (length str1) (entry_with 0 s).entry → sym2 ≡ sym0 ++ entries_bytes (length str0) (entries_after source s)
file_first source s sym0 sym1 sym2 str0 str1 other one name two =
    let place : length str1 ≡ length str0 + length s.module + 1 = omega (arith, ap length name, length-append str0 (s.module ++ 0 ∷ []), length-append s.module (0 ∷ [])) in
    let file = entry_bytes (length str0) (file_entry s.module).entry in
    let own = entry_bytes (length str0 + length s.module + 1) (entry_with 0 s).entry in
    let both : sym0 ++ entries_bytes (length str0) (entries_after source s) ≡ sym0 ++ (file ++ (own ++ [])) = rw other refl in
    two ∙ ap (λ x. x ++ entry_bytes (length str1) (entry_with 0 s).entry) one ∙ ap (λ p. (sym0 ++ file) ++ entry_bytes p (entry_with 0 s).entry) place
    ∙ append_assoc sym0 file own ∙ ap (λ x. sym0 ++ (file ++ x)) (sym (append-nil own)) ∙ sym both

-- the null entry, the local ones and the global ones
pub whole : (locals globals : List Named) (sym1 sym2 sym3 str1 str2 : List ℕ) → sym1 ≡ entry_bytes 0 null_entry.entry → str1 ≡ 0 ∷ [] → sym2 ≡ sym1 ++ entries_bytes (length str1) locals → str2 ≡ str1 ++ names_of locals → sym3 ≡ sym2 ++ entries_bytes (length str2) globals → sym3 ≡ entries_bytes 0 (null_entry ∷ locals ++ globals)
whole locals globals sym1 sym2 sym3 str1 str2 one zero two names three =
    let first = entry_bytes 0 null_entry.entry in
    let place : length str2 ≡ 1 + length (names_of locals) = omega (arith, ap length names, ap length zero, length-append str1 (names_of locals)) in
    three ∙ ap (λ x. x ++ entries_bytes (length str2) globals) (two ∙ ap (λ x. x ++ entries_bytes (length str1) locals) one ∙ ap (λ z. first ++ entries_bytes (length z) locals) zero)
    ∙ ap (λ p. (first ++ entries_bytes 1 locals) ++ entries_bytes p globals) place
    ∙ append_assoc first (entries_bytes 1 locals) (entries_bytes (1 + length (names_of locals)) globals)
    ∙ ap (λ x. first ++ x) (sym (entries_bytes-append 1 locals globals))

-- an entry has 24 bytes
pub length-entry : (place : ℕ) (e : Entry) → length (entry_bytes place e) ≡ 24
unfolding words halves doublewords
length-entry place e = refl

pub length-entries : (place : ℕ) (es : List Named) → length (entries_bytes place es) ≡ 24 * length es
length-entries place [] = refl
length-entries place (e ∷ es) =
    omega (arith, length-append (entry_bytes place e.entry) (entries_bytes (place + length e.name + 1) es), length-entry place e.entry, length-entries (place + length e.name + 1) es)

-- a symbol table has at most 24 times the bytes of its string table
pub symbols_within : (symbols : List Symbol) → length (symbol_table symbols) ≤ 24 * length (string_table symbols)
unfolding symbol_table string_table
symbols_within symbols = omega (arith, length-entries 0 (entries_of symbols), counted (entries_of symbols))
