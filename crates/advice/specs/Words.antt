-- The words of a line, and what each may be.
use Rattle.std.specs.Prelude.{ℕ, zero, suc, ◌==◌, ◌&&◌, ◌||◌, nat_le, if◌then◌else◌, is_some, bytes_eq, Bool, true, false, Option, None, List, [], ◌∷◌, codes, length, slice_get}
use Rattle.std.specs.List.{slice_split}
use Rattle.std.specs.Option.{option_and_then, unwrap_or}
use Rattle.pn_text.specs.Lines.{is_none}
use Rattle.pn_text.specs.Numbers.{decimal_from, at_most}
use Rattle.pn_text.specs.Words.{is_name}
use Rattle.pn_types.specs.GoodNames.{is_good_name}

-- the parts of a text between separators
abbrev pub parts : ℕ → List ℕ → List (List ℕ)
parts separator text = slice_split (λ byte. byte == separator) text

-- words stand between spaces
abbrev pub words : List ℕ → List (List ℕ)
words line = parts 32 line

-- ---- numbers

-- the number that 1 to 20 digits spell, if it is below 2 ^ 64
abbrev pub decimal_number : List ℕ → Option ℕ
decimal_number text =
    if nat_le 1 (length text) && nat_le (length text) 20 then option_and_then (at_most 18446744073709551615) (decimal_from 0 text) else None

abbrev pub is_number : List ℕ → Bool
is_number text = is_some (decimal_number text)

-- ---- foci

-- good names, and no more of them than this
abbrev pub are_names : ℕ → List (List ℕ) → Bool
are_names most [] = true
are_names zero (name ∷ names) = false
are_names (suc most) (name ∷ names) = is_good_name name && are_names most names

-- what stands between slashes: nothing, a hierarchy, and names below it
abbrev pub are_branch : List ℕ → ℕ → List (List ℕ) → Bool
are_branch root most (first ∷ name ∷ names) = is_none first && bytes_eq name root && are_names most names
are_branch root most other = false

-- a part of a focus: a hierarchy with at most `most` names below it, each after a slash
abbrev pub is_branch : List ℕ → ℕ → List ℕ → Bool
is_branch root most text = are_branch root most (parts 47 text)

-- a module and a procedure, a hart, an object
abbrev pub are_branches : List (List ℕ) → Bool
are_branches (code ∷ machine ∷ object ∷ []) =
    is_branch (codes "Code") 2 code && is_branch (codes "Machine") 1 machine && is_branch (codes "SyncObject") 1 object
are_branches other = false

-- a focus in its canonical form, for some tree: all three hierarchies, with commas between them
abbrev pub is_focus : List ℕ → Bool
is_focus text = are_branches (parts 44 text)

-- ---- forms

-- a word is as a form's word says: this in capitals stands for a kind of words, and any other for itself
abbrev pub is_as : List ℕ → List ℕ → Bool
is_as form word =
    if bytes_eq form (codes "NUMBER") then is_number word
    else if bytes_eq form (codes "PARENT") then bytes_eq word (codes "none") || is_number word
    else if bytes_eq form (codes "NAME") then is_name word
    else if bytes_eq form (codes "FOCUS") then is_focus word
    else bytes_eq form word

-- words are as a form's words say; `ANYTHING` stands for one word or more
abbrev pub are_as : List (List ℕ) → List (List ℕ) → Bool
are_as [] [] = true
are_as [] (word ∷ words) = false
are_as (form ∷ forms) [] = false
are_as (form ∷ forms) (word ∷ words) = bytes_eq form (codes "ANYTHING") || (is_as form word && are_as forms words)

-- a line has a form
abbrev pub has_form : List ℕ → List ℕ → Bool
has_form form line = are_as (words form) (words line)

-- ---- the words of a line by their places

abbrev pub word_at : ℕ → List ℕ → List ℕ
word_at place line = unwrap_or (slice_get (words line) place) []

abbrev pub number_at : ℕ → List ℕ → ℕ
number_at place line = unwrap_or (decimal_number (word_at place line)) 0
