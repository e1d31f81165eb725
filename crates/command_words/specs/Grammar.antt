-- The words of a command: positional words, options with a value each, and `--` before words that are all positional.
-- They are split at a first `--`, options are paired with their values, and then words and names are held against the form
-- of the command.
use Rattle.std.specs.Prelude.{ℕ, ◌==◌, ◌++◌, ◌&&◌, not, if◌then◌else◌, Bool, true, List, [], ◌∷◌, Option, Some, None, codes, drop, find, length, map, option_map, take}
use Rattle.std.specs.List.{after_first, before_first, filter_map, list_all, list_any, zip}
use Rattle.std.specs.Option.{option_and_then}
use Rattle.std.specs.Str.{bytes_eq}

abbrev pub Text : Type 0
Text = List ℕ

-- ---- what a word is

pub data Kind : Type 0 where
  -- `--` alone
  end_of_options : Kind
  -- `--NAME`, or `--NAME=VALUE`
  option : Text → Option Text → Kind
  -- another word that begins with `-` and isn't `-` alone
  other_flag : Kind
  -- any other word
  plain : Kind

abbrev pub is_equals : ℕ → Bool
is_equals c = c == 61

-- what follows `--`: the name ends before the first `=`, and the value is what stands after it
abbrev pub option_kind : Text → Kind
option_kind text = option (before_first is_equals text) (if list_any is_equals text then Some (after_first is_equals text) else None)

abbrev pub begins : Text → Text → Bool
begins front word = bytes_eq (take (length front) word) front

-- whether the word is the `--` after which all words are positional
abbrev pub is_separator : Text → Bool
is_separator word = bytes_eq word (codes "--")

abbrev pub kind_of : Text → Kind
kind_of word =
    if is_separator word then end_of_options
    else if begins (codes "--") word then option_kind (drop 2 word)
    else if begins (codes "-") word && not (bytes_eq word (codes "-")) then other_flag
    else plain

-- ---- options with their values

pub data Item : Type 0 where
  -- a positional word
  positional : Text → Item
  -- an option's name and its value
  valued : Text → Text → Item

-- An option that has no value in its own word takes the next word, which must be there and mustn't begin with `-`, unless
-- it is `-` alone.
abbrev pub with_next : Text → List Item → Option (List Item)
with_next name [] = None
with_next name (positional word ∷ items) = Some (valued name word ∷ items)
with_next name (valued other value ∷ items) = None

-- a word before the items of the words after it
abbrev pub with_word : Kind → Text → List Item → Option (List Item)
with_word plain word items = Some (positional word ∷ items)
with_word (option name (Some value)) word items = Some (valued name value ∷ items)
with_word (option name None) word items = with_next name items
with_word other_flag word items = None
with_word end_of_options word items = None

-- The items of words among which no `--` stands; none where a word is refused.
abbrev pub items_of : List Text → Option (List Item)
items_of [] = Some []
items_of (word ∷ words) = option_and_then (with_word (kind_of word) word) (items_of words)

-- names with values
abbrev pub NamedValues : Type 0
NamedValues = List (Text × Text)

abbrev pub word_in : Item → Option Text
word_in (positional word) = Some word
word_in (valued name value) = None

abbrev pub option_in : Item → Option (Text × Text)
option_in (positional word) = None
option_in (valued name value) = Some (name, value)

-- ---- what a command takes

-- a command's own word, its positional words by name and in order, and the names of its options
pub record Form : Type 0 where
  pub word : Text
  pub places : List Text
  pub options : List Text

abbrev pub is_among : List Text → Text → Bool
is_among names name = list_any (bytes_eq name) names

-- no name stands twice
abbrev pub each_once : List Text → Bool
each_once [] = true
each_once (name ∷ names) = not (is_among names name) && each_once names

-- There are exactly as many positional words as the command has, and each option is one of its own and given once.
abbrev pub fits : Form → List Text → List Text → Bool
fits form words names = (length words == length form.places) && list_all (is_among form.options) names && each_once names

-- the positional words by their names, and the options
abbrev pub taken_by : Form → List Text → NamedValues → Option NamedValues
taken_by form words options = if fits form words (map (λ o. o.0) options) then Some (zip form.places words ++ options) else None

-- What the words of a command give, those after the command's own. Those after a first `--` are positional.
abbrev pub taken_of : Form → List Text → Option NamedValues
taken_of form words =
    option_and_then (λ items. taken_by form (filter_map word_in items ++ after_first is_separator words) (filter_map option_in items))
    (items_of (before_first is_separator words))

-- ---- values by name

-- the value of each name, where it was given
abbrev pub Given : Type 0
Given = Text → Option Text

abbrev pub is_named : Text → Text × Text → Bool
is_named name t = bytes_eq t.0 name

abbrev pub given_in : NamedValues → Given
given_in taken name = option_map (λ t. t.1) (find (is_named name) taken)
