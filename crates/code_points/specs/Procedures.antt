-- Which function symbols of an image are procedures.
use Rattle.std.specs.Prelude.{ℕ, ◌≡◌, ◌+◌, ◌-◌, ◌%◌, ◌^◌, ◌<◌, ◌≤◌, ◌==◌, ◌&&◌, not, nat_lt, nat_le, Bool, true, false, if◌then◌else◌, Some, List, [], ◌∷◌, ◌++◌, length, slice_get}
use Rattle.std.specs.List.{filter, list_any, All, AllAdjacentBelow}
use Rattle.std.specs.Str.{bytes_eq}
use Rattle.pn_types.specs.GoodNames.{is_good_name}
use Rattle.pn_types.specs.declared.code.Proc.{Proc}
use Rattle.pn_types.specs.declared.image.Image.{Image}
use Rattle.pn_types.specs.declared.image.Symbol.{Symbol}
use Rattle.pn_types.specs.declared.image.SymKind.{SymKind}
use Rattle.pn_types.specs.declared.image.SymKind.TheVariants.{Func, Object}

-- a function's kind
abbrev pub is_func : SymKind → Bool
is_func Func = true
is_func Object = false

-- a symbol put before those of its address and above
abbrev pub insert_by_address : Symbol → List Symbol → List Symbol
insert_by_address s [] = s ∷ []
insert_by_address s (t ∷ ts) = if nat_le s.at t.at then s ∷ (t ∷ ts) else t ∷ insert_by_address s ts

-- symbols by ascending address, ties in their order
abbrev pub by_address : List Symbol → List Symbol
by_address [] = []
by_address (s ∷ ss) = insert_by_address s (by_address ss)

-- the function symbols by ascending address, ties in the order of the image's symbols
abbrev pub functions_of : Image → List Symbol
functions_of image = by_address (filter (λ s. is_func s.kind) image.symbols)

-- a good name, and at least one whole word, all in the text
abbrev pub can_be_procedure : Image → Symbol → Bool
can_be_procedure image s =
    is_good_name s.name && (s.at % 4 == 0) && (s.size % 4 == 0) && nat_lt 0 s.size && nat_le image.text_at s.at
    && nat_le (s.at + s.size) (image.text_at + image.text_len)

-- an address of the symbol is one of the procedure's
abbrev pub overlaps : Symbol → Proc → Bool
overlaps s p = nat_lt s.at (p.start + p.len) && nat_lt p.start (s.at + s.size)

-- the symbol has the procedure's module and name
abbrev pub is_namesake : Symbol → Proc → Bool
is_namesake s p = bytes_eq s.«module» p.«module» && bytes_eq s.name p.name

-- whether a function symbol is a procedure, where these are the procedures before it
abbrev pub is_kept : Image → List Proc → Symbol → Bool
is_kept image kept s = can_be_procedure image s && not (list_any (overlaps s) kept) && not (list_any (is_namesake s) kept)

-- the procedure that a function symbol names
abbrev pub proc_of : Symbol → Proc
proc_of s = record { name = s.name; «module» = s.«module»; start = s.at; len = s.size }

-- these procedures, and after them those of the function symbols, each judged by the ones before it
abbrev pub kept_of : Image → List Proc → List Symbol → List Proc
kept_of image kept [] = kept
kept_of image kept (s ∷ ss) = kept_of image (if is_kept image kept s then kept ++ proc_of s ∷ [] else kept) ss

-- the procedures of an image, by ascending address
abbrev pub procedures_of : Image → List Proc
procedures_of image = kept_of image [] (functions_of image)

-- how many function symbols are no procedures
abbrev pub skipped_of : Image → ℕ
skipped_of image = length (functions_of image) - length (procedures_of image)

-- the modules of all symbols are good names
abbrev pub AreModulesGood : Image → Type 0
AreModulesGood image = All (λ s. is_good_name s.«module» ≡ true) image.symbols

-- a good name, and at least one whole word, all in the text
pub record IsProcOf (image : Image) (p : Proc) : Type 0 where
  pub name : is_good_name p.name ≡ true
  pub start : p.start % 4 ≡ 0
  pub words : p.len % 4 ≡ 0
  pub some : 0 < p.len
  pub behind : image.text_at ≤ p.start
  pub before : p.start + p.len ≤ image.text_at + image.text_len

-- each ends where the next starts, or before
abbrev pub Ascend : List Proc → Type 0
Ascend procs = AllAdjacentBelow (λ p q. p.start + p.len ≤ q.start) procs (length procs)

-- no two agree in module and name
abbrev pub AreDistinct : List Proc → Type 0
AreDistinct procs =
    (j k : ℕ) (p q : Proc) → slice_get procs j ≡ Some p → slice_get procs k ≡ Some q → p.«module» ≡ q.«module» → p.name ≡ q.name → j ≡ k

-- Procedures of the image by ascending address, of which none overlap and no two agree in module and name; a number of 32
-- bits counts them. Their modules are good names where those of all symbols are.
pub record AreProcsOf (image : Image) (procs : List Proc) : Type 0 where
  pub each : All (IsProcOf image) procs
  pub ascend : Ascend procs
  pub distinct : AreDistinct procs
  pub few : length procs < 2 ^ 32
  pub modules : AreModulesGood image → All (λ p. is_good_name p.«module» ≡ true) procs
