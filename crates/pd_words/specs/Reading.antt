-- What the words after a command's own give it.
use Rattle.std.specs.Prelude.{ℕ, ◌+◌, ◌==◌, ◌++◌, ◌&&◌, ◌||◌, if◌then◌else◌, Bool, true, false, List, [], ◌∷◌, Option, Some, None, drop, length, slice_get}
use Rattle.std.specs.List.{list_all}
use Rattle.std.specs.Option.{option_and_then, is_none, is_some}
use Rattle.command_words.specs.Grammar.{Text, NamedValues, Kind, end_of_options, option, other_flag, plain, given_in, is_among, kind_of}
use Rattle.pd_words.specs.Options.{TypedWord, TypedCommand, has_no_value, is_file_name, is_joined, option_lettered, option_named, command_places}

-- How far words are read: the values by the names of their words, in their order; how many places are taken; the option that awaits
-- its value; and whether `--` was passed, behind which all words are positional.
pub record Reading : Type 0 where
  pub given : NamedValues
  pub taken : ℕ
  pub awaiting : Option TypedWord
  pub behind : Bool

abbrev pub nothing_read : Reading
nothing_read = record { given = []; taken = 0; awaiting = None; behind = false }

-- ---- values

-- the name of a file isn't empty
abbrev pub lacks_name : TypedWord → Text → Bool
lacks_name word value = is_file_name word.value && length value == 0

abbrev pub with_given : Reading → TypedWord → Text → Option Reading
with_given reading word value =
    if lacks_name word value then None
    else Some (record reading { given = reading.given ++ ((word.name, value) ∷ []); awaiting = None })

-- an option is given once
abbrev pub with_option : Reading → TypedWord → Text → Option Reading
with_option reading word value =
    if is_some (given_in reading.given word.name) then None else with_given reading word value

-- a positional word takes the next place; the place of words that are joined takes all that follow
abbrev pub with_next_taken : Reading → TypedWord → Reading
with_next_taken reading place = if is_joined place.meaning then reading else record reading { taken = reading.taken + 1 }

abbrev pub with_placed : TypedCommand → Reading → Text → Option Reading
with_placed command reading value =
    option_and_then (λ place. with_given (with_next_taken reading place) place value) (slice_get (command_places command) reading.taken)

-- ---- options

-- An option that stands alone has no value; another has it in its own word, or awaits it.
abbrev pub met : Reading → TypedWord → Option Text → Option Reading
met reading word None = if has_no_value word.value then with_option reading word [] else Some (record reading { awaiting = Some word })
met reading word (Some value) = if has_no_value word.value then None else with_option reading word value

abbrev pub with_typed : TypedCommand → Reading → Text → Option Text → Option Reading
with_typed command reading name value = option_and_then (λ word. met reading word value) (option_named command name)

-- what is behind the letter of an option: nothing, or its value, before which `=` may stand
abbrev pub value_behind : Text → Option Text
value_behind [] = None
value_behind (sign ∷ rest) = Some (if sign == 61 then rest else sign ∷ rest)

-- letters: those of options that stand alone, and perhaps that of another one with its value
abbrev pub with_letters : TypedCommand → Reading → Text → Option Reading
with_letters command reading [] = Some reading
with_letters command reading (letter ∷ rest) =
    option_and_then (λ word.
    if has_no_value word.value then option_and_then (λ next. with_letters command next rest) (with_option reading word [])
    else met reading word (value_behind rest))
    (option_lettered command (letter ∷ []))

-- ---- words

-- a word where no option awaits its value
abbrev pub read_kind : TypedCommand → Reading → Kind → Text → Option Reading
read_kind command reading end_of_options word = Some (record reading { behind = true })
read_kind command reading (option name value) word = with_typed command reading name value
read_kind command reading other_flag word = with_letters command reading (drop 1 word)
read_kind command reading plain word = with_placed command reading word

-- a word where an option awaits its value: it is the value, unless it begins with `-` and is longer
abbrev pub read_awaited : Reading → TypedWord → Kind → Text → Option Reading
read_awaited reading awaiting end_of_options word = None
read_awaited reading awaiting (option name value) word = None
read_awaited reading awaiting other_flag word = None
read_awaited reading awaiting plain word = with_option reading awaiting word

abbrev pub read_before : TypedCommand → Reading → Option TypedWord → Text → Option Reading
read_before command reading None word = read_kind command reading (kind_of word) word
read_before command reading (Some awaiting) word = read_awaited reading awaiting (kind_of word) word

abbrev pub read_word : TypedCommand → Reading → Text → Option Reading
read_word command reading word =
    if reading.behind then with_placed command reading word else read_before command reading reading.awaiting word

abbrev pub read_words : TypedCommand → Reading → List Text → Option Reading
read_words command reading [] = Some reading
read_words command reading (word ∷ words) = option_and_then (λ next. read_words command next words) (read_word command reading word)

-- ---- the end

abbrev pub is_filled : TypedCommand → NamedValues → TypedWord → Bool
is_filled command given place = is_among command.optional place.name || is_some (given_in given place.name)

-- at the end no option awaits its value, and each place is taken that may not be left out
abbrev pub can_end : TypedCommand → Reading → Bool
can_end command reading = is_none reading.awaiting && list_all (is_filled command reading.given) (command_places command)

abbrev pub read_end : TypedCommand → Reading → Option NamedValues
read_end command reading = if can_end command reading then Some reading.given else None

-- What the words after a command's own give it; nothing where one of them is wrong.
unfoldable pub given_to : TypedCommand → List Text → Option NamedValues
given_to command words = option_and_then (read_end command) (read_words command nothing_read words)
