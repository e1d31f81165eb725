-- For proofs alone: the grammar as a machine that takes the words one at a time.
use Rattle.std.specs.Prelude.{◌++◌, if◌then◌else◌, List, [], ◌∷◌, Option, Some, None, Bool, find}
use Rattle.std.specs.List.{list_any, list_all}
use Rattle.std.specs.Str.{bytes_eq}
use Rattle.command_words.specs.Grammar.{Text, Form, NamedValues, is_named, Kind, end_of_options, option, other_flag, plain, kind_of}

abbrev pub has : Text → NamedValues → Bool
has name taken = list_any (is_named name) taken

-- at the end each place has its word
abbrev pub ended : Form → NamedValues → Option NamedValues
ended form taken = if list_all (λ place. has place taken) form.places then Some taken else None

-- after `--` each word takes the next place
abbrev pub behind : Form → List Text → NamedValues → List Text → Option NamedValues
behind form places taken [] = ended form taken
behind form [] taken (word ∷ words) = None
behind form (place ∷ places) taken (word ∷ words) = if has place taken then None else behind form places (taken ++ (place, word) ∷ []) words

-- a plain word takes the next place
abbrev pub by_place : List Text → Text → NamedValues → (List Text → NamedValues → Option Text → Option NamedValues) → Option NamedValues
by_place [] word taken next = None
by_place (place ∷ places) word taken next = if has place taken then None else next places (taken ++ (place, word) ∷ []) None

-- an option of the command takes its value, which may be the next word; an option is given at most once
abbrev pub by_option : Option Text → Option Text → NamedValues → (NamedValues → Option Text → Option NamedValues) → Option NamedValues
by_option None value taken next = None
by_option (Some name) (Some value) taken next = if has name taken then None else next (taken ++ (name, value) ∷ []) None
by_option (Some name) None taken next = next taken (Some name)

-- the command's option of this name
abbrev pub option_named : List Text → Text → Option Text
option_named options name = find (λ o. bytes_eq o name) options

abbrev pub by_kind : Form → Kind → Text → List Text → NamedValues → Option NamedValues → (List Text → NamedValues → Option Text → Option NamedValues) → Option NamedValues
by_kind form end_of_options word places taken rest next = rest
by_kind form (option name value) word places taken rest next = by_option (option_named form.options name) value taken (next places)
by_kind form other_flag word places taken rest next = None
by_kind form plain word places taken rest next = by_place places word taken next

-- the next word as the value of an option
abbrev pub by_value : Kind → Text → Text → NamedValues → Option NamedValues → Option NamedValues
by_value plain name word taken next = if has name taken then None else next
by_value end_of_options name word taken next = None
by_value (option other value) name word taken next = None
by_value other_flag name word taken next = None

-- What words give, from the places that are left, what was taken, and the option that awaits its value.
abbrev pub read : Form → List Text → NamedValues → Option Text → List Text → Option NamedValues
read form places taken None [] = ended form taken
read form places taken (Some name) [] = None
read form places taken (Some name) (word ∷ words) = by_value (kind_of word) name word taken (read form places (taken ++ (name, word) ∷ []) None words)
read form places taken None (word ∷ words) =
    by_kind form (kind_of word) word places taken (behind form places taken words) (λ ps t awaiting. read form ps t awaiting words)

-- What the words of a command give, those after the command's own.
abbrev pub machine_takes : Form → List Text → Option NamedValues
machine_takes form words = read form form.places [] None words
