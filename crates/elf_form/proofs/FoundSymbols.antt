-- The symbols of a file: their names, modules and numbers, and their order.
use Rattle.std.proofs.Common.{◌≡◌, ℕ, zero, suc, ◌+◌, ◌/◌, ◌<◌, ◌^◌, Bool, true, false, not, Option, Some, None, List, [], ◌∷◌, ◌++◌, drop, refl, sym, ap, ◌∙◌, subst, arith}
use Rattle.std.specs.Prelude.{filter, ◌==◌, ◌&&◌, if◌then◌else◌, option_map, option_to_list}
use Rattle.std.specs.List.{AllByRecursion, list_all, take_while}
use Rattle.std.proofs.lemmas.List.{append-nil, get_or-drop}
use Rattle.std.proofs.lemmas.List.Sums.{take_while-cons}
use Rattle.byteorder.specs.Numbers.{little_from-lt}
use Rattle.elf_form.specs.Fields.{field, table, symbol_entry_of}
use Rattle.elf_form.specs.Symbols.{kind_of, is_file, is_local, name_at, module_of, symbol_of, symbols_from, is_of_program, with_program_last, symbols_of, symbols_in, symbol_table, table_symbols, strings_of, section_bytes, entries_of}
use Rattle.pn_types.specs.GoodNames.{is_good_name, program_module}
use Rattle.outside.specs.Outside.{IsBytes}
use Rattle.elf_form.specs.Accepted.{IsNamed}
use Rattle.elf_form.specs.declared.section.SectionHeader.{SectionHeader}
use Rattle.elf_form.specs.declared.symbol.SymbolEntry.{SymbolEntry}
use Rattle.pn_types.specs.declared.image.SymKind.{SymKind}
use Rattle.pn_types.specs.declared.image.Symbol.{Symbol}

field_fits : (b : List ℕ) (n at : ℕ) → IsBytes b → field n b at < 256 ^ n
unfolding field
field_fits b n at bytes = little_from-lt 0 n (drop at b) (λ k. subst (λ x. x < 256) (sym (get_or-drop at b k 0)) (bytes (at + k)))

-- an entry's numbers fit their fields
pub record NumbersFit (e : SymbolEntry) : Type 0 where
  pub value : e.value < 2 ^ 64
  pub size : e.size < 2 ^ 64

entries_fit : (b : List ℕ) (n at : ℕ) → IsBytes b → AllByRecursion NumbersFit (table symbol_entry_of 24 b n at)
entries_fit b zero at bytes = tt
entries_fit b (suc n) at bytes =
    (record { value = omega (arith, field_fits b 8 (at + 8) bytes); size = omega (arith, field_fits b 8 (at + 16) bytes) }, entries_fit b n (at + 24) bytes)

-- ---- names and modules

abbrev IsModule : List ℕ → Type 0
IsModule name = is_good_name name ≡ true

is_module : (name : List ℕ) → IsModule (module_of name)
is_module name = by (is_good_name name) refl
  where
    by : (b : Bool) → is_good_name name ≡ b → IsModule (if is_good_name name then name else program_module)
    by true is = rw is is
    by false is = rw is refl

if_module : (b : Bool) (source : List ℕ) → IsModule source → IsModule (if b then source else program_module)
if_module true source h = h
if_module false source h = refl

no_zero : (xs : List ℕ) → list_all (λ byte. not (byte == 0)) (take_while (λ byte. not (byte == 0)) xs) ≡ true
no_zero [] = refl
no_zero (x ∷ xs) = by (not (x == 0)) refl (no_zero xs)
  where
    by : (b : Bool) → not (x == 0) ≡ b → list_all (λ byte. not (byte == 0)) (take_while (λ byte. not (byte == 0)) xs) ≡ true → list_all (λ byte. not (byte == 0)) (take_while (λ byte. not (byte == 0)) (x ∷ xs)) ≡ true
    by true is later =
        let e : take_while (λ byte. not (byte == 0)) (x ∷ xs) ≡ x ∷ take_while (λ byte. not (byte == 0)) xs = take_while-cons (λ byte. not (byte == 0)) x xs ∙ ap (λ t. if t then x ∷ take_while (λ byte. not (byte == 0)) xs else []) is in
        ap (λ r. list_all (λ byte. not (byte == 0)) r) e ∙ ap (λ t. t && list_all (λ byte. not (byte == 0)) (take_while (λ byte. not (byte == 0)) xs)) is ∙ later
    by false is later =
        let e : take_while (λ byte. not (byte == 0)) (x ∷ xs) ≡ [] = take_while-cons (λ byte. not (byte == 0)) x xs ∙ ap (λ t. if t then x ∷ take_while (λ byte. not (byte == 0)) xs else []) is in
        ap (λ r. list_all (λ byte. not (byte == 0)) r) e

module _ {A : Type 0} (P : A → Type 0) where
  pub all_append : (xs ys : List A) → AllByRecursion P xs → AllByRecursion P ys → AllByRecursion P (xs ++ ys)
  all_append [] ys p q = q
  all_append (x ∷ xs) ys p q = (p.0, all_append xs ys p.1 q)

  pub either : (b : Bool) (xs ys : List A) → AllByRecursion P xs → AllByRecursion P ys → AllByRecursion P (if b then xs else ys)
  either true xs ys p q = p
  either false xs ys p q = q

  all_kept : (p : A → Bool) (xs : List A) → AllByRecursion P xs → AllByRecursion P (filter p xs)
  all_kept p [] all = tt
  all_kept p (x ∷ xs) all = let rest = all_kept p xs all.1 in either (p x) (x ∷ filter p xs) (filter p xs) (all.0, rest) rest

kept_named : (strings source : List ℕ) (e : SymbolEntry) (o : Option SymKind) → IsModule source → NumbersFit e → AllByRecursion IsNamed (option_to_list (option_map (symbol_of strings source e) o))
kept_named strings source e None m fit = tt
kept_named strings source e (Some kind) m fit = (record { name = no_zero (drop e.name strings); source = if_module (is_local e) source m; at = fit.value; size = fit.size }, tt)

are_named : (strings source : List ℕ) (es : List SymbolEntry) → IsModule source → AllByRecursion NumbersFit es → AllByRecursion IsNamed (symbols_from strings source es)
are_named strings source [] m fit = tt
are_named strings source (e ∷ es) m fit =
    either IsNamed (is_file e) (symbols_from strings (module_of (name_at strings e.name)) es) (option_to_list (option_map (symbol_of strings source e) (kind_of e)) ++ symbols_from strings source es)
    (are_named strings (module_of (name_at strings e.name)) es (is_module (name_at strings e.name)) fit.1)
    (all_append IsNamed (option_to_list (option_map (symbol_of strings source e) (kind_of e))) (symbols_from strings source es) (kept_named strings source e (kind_of e) m fit.0) (are_named strings source es m fit.1))

pub last_named : (ss : List Symbol) → AllByRecursion IsNamed ss → AllByRecursion IsNamed (with_program_last ss)
last_named ss all = all_append IsNamed (filter (λ s. not (is_of_program s)) ss) (filter is_of_program ss) (all_kept IsNamed (λ s. not (is_of_program s)) ss all) (all_kept IsNamed is_of_program ss all)

-- ---- order

module _ {A : Type 0} where
  filter-append : (p : A → Bool) (xs ys : List A) → filter p (xs ++ ys) ≡ filter p xs ++ filter p ys
  filter-append p [] ys = refl
  filter-append p (x ∷ xs) ys = by (p x) (filter-append p xs ys)
    where
      by : (b : Bool) → filter p (xs ++ ys) ≡ filter p xs ++ filter p ys → (if b then x ∷ filter p (xs ++ ys) else filter p (xs ++ ys)) ≡ (if b then x ∷ filter p xs else filter p xs) ++ filter p ys
      by true e = ap (λ r. x ∷ r) e
      by false e = e

  filter-same : (p : A → Bool) (xs : List A) → filter p (filter p xs) ≡ filter p xs
  filter-same p [] = refl
  filter-same p (x ∷ xs) = by (p x) refl (filter-same p xs)
    where
      by : (b : Bool) → p x ≡ b → filter p (filter p xs) ≡ filter p xs → filter p (if p x then x ∷ filter p xs else filter p xs) ≡ (if p x then x ∷ filter p xs else filter p xs)
      by true is e = rw is (ap (λ t. if t then x ∷ filter p (filter p xs) else filter p (filter p xs)) is ∙ ap (λ r. x ∷ r) e)
      by false is e = rw is e

  filter-other : (p q : A → Bool) (xs : List A) → ((x : A) → q x ≡ true → p x ≡ false) → filter p (filter q xs) ≡ []
  filter-other p q [] h = refl
  filter-other p q (x ∷ xs) h = by (q x) refl (filter-other p q xs h)
    where
      by : (b : Bool) → q x ≡ b → filter p (filter q xs) ≡ [] → filter p (if q x then x ∷ filter q xs else filter q xs) ≡ []
      by true is e = rw is (ap (λ t. if t then x ∷ filter p (filter q xs) else filter p (filter q xs)) (h x is) ∙ e)
      by false is e = rw is e

not_true : (b : Bool) → not b ≡ true → b ≡ false
not_true true h = sym h
not_true false h = refl

pub last_again : (ss : List Symbol) → with_program_last (with_program_last ss) ≡ with_program_last ss
last_again ss =
    let p = λ (s : Symbol). not (is_of_program s) in
    let q = λ (s : Symbol). is_of_program s in
    let a : filter p (filter p ss ++ filter q ss) ≡ filter p ss = filter-append p (filter p ss) (filter q ss) ∙ ap (λ x. x ++ filter p (filter q ss)) (filter-same p ss) ∙ ap (λ x. filter p ss ++ x) (filter-other p q ss (λ s h. ap not h)) ∙ append-nil (filter p ss) in
    let b : filter q (filter p ss ++ filter q ss) ≡ filter q ss = filter-append q (filter p ss) (filter q ss) ∙ ap (λ x. x ++ filter q (filter q ss)) (filter-other q p ss (λ s h. not_true (is_of_program s) h)) ∙ filter-same q ss in
    ap (λ x. x ++ filter q (filter p ss ++ filter q ss)) a ∙ ap (λ x. filter p ss ++ x) b

-- ---- the symbols of a file

pub record Named (ss : List Symbol) : Type 0 where
  pub named : AllByRecursion IsNamed ss
  pub ordered : with_program_last ss ≡ ss

none_named : Named []
none_named = record { named = tt; ordered = refl }

table_named : (b : List ℕ) (symbols : SectionHeader) (o : Option SectionHeader) → IsBytes b → Named (table_symbols b symbols o)
table_named b symbols None bytes = none_named
table_named b symbols (Some strings) bytes =
    let ss = symbols_from (section_bytes b strings) program_module (entries_of b symbols) in
    record { named = last_named ss (are_named (section_bytes b strings) program_module (entries_of b symbols) refl (entries_fit b (symbols.size / 24) symbols.offset bytes)); ordered = last_again ss }

all_named : (b : List ℕ) (sections : List SectionHeader) (o : Option SectionHeader) → IsBytes b → Named (symbols_in b sections o)
all_named b sections None bytes = none_named
all_named b sections (Some symbols) bytes = table_named b symbols (strings_of sections symbols) bytes

pub symbols_named : (b : List ℕ) (sections : List SectionHeader) → IsBytes b → Named (symbols_of b sections)
unfolding symbols_of
symbols_named b sections bytes = all_named b sections (symbol_table sections) bytes
