-- The words of `pd`: the table of positional words and options, and the table of commands.
use Rattle.std.specs.Prelude.{Bool, true, false, List, [], ◌∷◌, ◌++◌, ◌&&◌, not, Option, Some, None, codes, find}
use Rattle.std.specs.List.{filter}
use Rattle.std.specs.Option.{option_map_or}
use Rattle.std.specs.Str.{bytes_eq}
use Rattle.command_words.specs.Grammar.{Text, is_among}

-- ---- positional words and options

-- what the value of a word can be
pub data Value : Type 0 where
  -- there is none: the option stands alone
  alone : Value
  -- the name of a file, which isn't empty
  file_name : Value
  -- any text; what else it has to be, the words of `paradyn` say
  any_text : Value

-- what a word stands for in the words of `paradyn`
pub data Meaning : Type 0 where
  -- a positional word
  one_place : Meaning
  -- a positional word, for which there are one or more here: they have commas between
  joined_place : Meaning
  -- the option of this name, though the word is positional here
  option_by_place : Text → Meaning
  -- the option of the same name
  same_option : Meaning
  -- the option of this name with this value
  option_valued : Text → Text → Meaning
  -- nothing: it is about `pd` itself
  own_option : Meaning

-- A positional word or an option: its name, which stands after `--`; the letter of an option's short form, which stands after `-`.
pub record TypedWord : Type 0 where
  pub name : Text
  pub letter : Option Text
  pub value : Value
  pub meaning : Meaning

abbrev pub word_with : Value → Meaning → Text → TypedWord
word_with value meaning name = record { name = name; letter = None; value = value; meaning = meaning }

abbrev pub file_place : Text → TypedWord
file_place = word_with file_name one_place

abbrev pub text_place : Text → TypedWord
text_place = word_with any_text one_place

abbrev pub text_places : Text → TypedWord
text_places = word_with any_text joined_place

abbrev pub place_for : Text → Text → TypedWord
place_for name option = word_with any_text (option_by_place option) name

abbrev pub text_option : Text → TypedWord
text_option = word_with any_text same_option

abbrev pub file_option : Text → TypedWord
file_option = word_with file_name same_option

-- `--table` is `--show=table`
abbrev pub choice : Text → Text → Text → TypedWord
choice name option value = word_with alone (option_valued option value) name

-- `--svg FILE` is `--format=svg`, and FILE takes what is printed
abbrev pub file_choice : Text → Text → Text → TypedWord
file_choice name option value = word_with file_name (option_valued option value) name

abbrev pub own_file : Text → TypedWord
own_file = word_with file_name own_option

abbrev pub own_flag : Text → TypedWord
own_flag = word_with alone own_option

abbrev pub with_letter : Text → TypedWord → TypedWord
with_letter letter word = record word { letter = Some letter }

-- The positional words, each after those that stand before it in commands, and the options.
unfoldable pub typed_words : List TypedWord
typed_words =
    file_place (codes "PROGRAM")
    ∷ file_place (codes "CONF")
    ∷ file_place (codes "LOG")
    ∷ file_place (codes "TEXT")
    ∷ text_place (codes "METRIC")
    ∷ text_place (codes "FOCUS")
    ∷ text_place (codes "N")
    ∷ text_place (codes "SEED")
    ∷ file_place (codes "REPORT")
    ∷ file_place (codes "OLD")
    ∷ file_place (codes "NEW")
    ∷ text_places (codes "METRICS")
    ∷ file_place (codes "DIRECTIVES")
    ∷ text_place (codes "SHELL")
    ∷ place_for (codes "PROCEDURE") (codes "procedure")
    ∷ with_letter (codes "n") (text_option (codes "harts"))
    ∷ with_letter (codes "s") (text_option (codes "seed"))
    ∷ text_option (codes "workers")
    ∷ text_option (codes "views")
    ∷ text_option (codes "quantum")
    ∷ text_option (codes "budget")
    ∷ text_option (codes "bins")
    ∷ text_option (codes "width")
    ∷ text_option (codes "instruments")
    ∷ text_option (codes "start")
    ∷ text_option (codes "also")
    ∷ choice (codes "table") (codes "show") (codes "table")
    ∷ choice (codes "words") (codes "show") (codes "words")
    ∷ text_option (codes "show")
    ∷ text_option (codes "top")
    ∷ choice (codes "source") (codes "by") (codes "lines")
    ∷ text_option (codes "by")
    ∷ text_option (codes "columns")
    ∷ choice (codes "ascii") (codes "format") (codes "ascii")
    ∷ choice (codes "json") (codes "format") (codes "json")
    ∷ choice (codes "csv") (codes "format") (codes "csv")
    ∷ file_choice (codes "svg") (codes "format") (codes "svg")
    ∷ file_choice (codes "html") (codes "format") (codes "html")
    ∷ text_option (codes "format")
    ∷ text_option (codes "each")
    ∷ text_option (codes "under")
    ∷ text_option (codes "from")
    ∷ text_option (codes "until")
    ∷ file_option (codes "callgrind")
    ∷ file_option (codes "log")
    ∷ with_letter (codes "o") (own_file (codes "output"))
    ∷ own_flag (codes "force")
    ∷ with_letter (codes "q") (own_flag (codes "quiet"))
    ∷ []

-- ---- commands

-- who does what a command asks for
pub data Server : Type 0 where
  -- the top call, by the words of `paradyn`
  by_paradyn : Server
  -- the check of what would mislead
  by_check : Server
  -- nobody: it prints a text of its own
  by_text : Server

-- A command: its own word, the names of its positional words and options, and those that may be left out of its positional words.
pub record TypedCommand : Type 0 where
  pub word : Text
  pub server : Server
  pub names : List Text
  pub optional : List Text

-- each command that `paradyn` serves has these too
abbrev pub own_names : List Text
own_names = codes "output" ∷ codes "force" ∷ codes "quiet" ∷ []

abbrev pub served_by_paradyn : Text → List Text → TypedCommand
served_by_paradyn word names = record { word = word; server = by_paradyn; names = names ++ own_names; optional = [] }

abbrev pub check_command : Text → List Text → TypedCommand
check_command word names = record { word = word; server = by_check; names = names; optional = [] }

abbrev pub text_command : Text → List Text → TypedCommand
text_command word names = record { word = word; server = by_text; names = names; optional = [] }

abbrev pub without_last : List Text → TypedCommand → TypedCommand
without_last names command = record command { optional = names }

unfoldable pub typed_commands : List TypedCommand
typed_commands =
    served_by_paradyn (codes "run") (codes "PROGRAM" ∷ codes "CONF" ∷ codes "harts" ∷ codes "seed" ∷ codes "quantum"
    ∷ codes "budget" ∷ codes "bins" ∷ codes "width" ∷ codes "instruments" ∷ codes "start" ∷ codes "log" ∷ [])
    ∷ without_last (codes "CONF" ∷ []) (check_command (codes "check") (codes "PROGRAM" ∷ codes "CONF" ∷ codes "harts" ∷ []))
    ∷ served_by_paradyn (codes "profile") (codes "PROGRAM" ∷ codes "harts" ∷ codes "seed" ∷ codes "quantum" ∷ codes "budget"
    ∷ codes "also" ∷ codes "table" ∷ codes "words" ∷ codes "show" ∷ codes "top" ∷ codes "callgrind" ∷ [])
    ∷ without_last (codes "PROCEDURE" ∷ []) (served_by_paradyn (codes "annotate") (codes "PROGRAM" ∷ codes "PROCEDURE" ∷ codes "harts" ∷ codes "seed" ∷ codes "quantum"
    ∷ codes "budget" ∷ codes "also" ∷ codes "source" ∷ codes "by" ∷ []))
    ∷ served_by_paradyn (codes "show") (codes "REPORT" ∷ codes "columns" ∷ codes "ascii" ∷ codes "json" ∷ codes "csv" ∷ codes "svg"
    ∷ codes "html" ∷ codes "format" ∷ [])
    ∷ served_by_paradyn (codes "diff") (codes "OLD" ∷ codes "NEW" ∷ [])
    ∷ served_by_paradyn (codes "ask") (codes "PROGRAM" ∷ codes "METRICS" ∷ codes "each" ∷ codes "under" ∷ codes "from" ∷ codes "until"
    ∷ codes "instruments" ∷ codes "harts" ∷ codes "seed" ∷ codes "quantum" ∷ codes "budget" ∷ [])
    ∷ served_by_paradyn (codes "live") (codes "PROGRAM" ∷ codes "CONF" ∷ codes "harts" ∷ codes "workers" ∷ codes "quantum"
    ∷ codes "budget" ∷ codes "bins" ∷ codes "width" ∷ codes "instruments" ∷ codes "start" ∷ codes "log" ∷ [])
    ∷ served_by_paradyn (codes "replay") (codes "PROGRAM" ∷ codes "CONF" ∷ codes "LOG" ∷ [])
    ∷ served_by_paradyn (codes "asm") (codes "TEXT" ∷ [])
    ∷ served_by_paradyn (codes "points") (codes "PROGRAM" ∷ [])
    ∷ served_by_paradyn (codes "plan") (codes "PROGRAM" ∷ codes "CONF" ∷ codes "METRIC" ∷ codes "FOCUS" ∷ codes "harts" ∷ [])
    ∷ served_by_paradyn (codes "blocks") (codes "PROGRAM" ∷ codes "harts" ∷ codes "seed" ∷ codes "quantum" ∷ codes "budget" ∷ [])
    ∷ served_by_paradyn (codes "visi") (codes "PROGRAM" ∷ codes "CONF" ∷ codes "harts" ∷ codes "seed" ∷ codes "views"
    ∷ codes "quantum" ∷ codes "budget" ∷ codes "bins" ∷ codes "width" ∷ codes "instruments" ∷ codes "start" ∷ [])
    ∷ served_by_paradyn (codes "advise") (codes "REPORT" ∷ [])
    ∷ served_by_paradyn (codes "direct") (codes "PROGRAM" ∷ codes "CONF" ∷ codes "DIRECTIVES" ∷ codes "harts" ∷ codes "seed"
    ∷ codes "quantum" ∷ codes "budget" ∷ codes "bins" ∷ codes "width" ∷ codes "instruments" ∷ codes "start" ∷ [])
    ∷ served_by_paradyn (codes "relog") (codes "LOG" ∷ [])
    ∷ served_by_paradyn (codes "stress") (codes "N" ∷ codes "SEED" ∷ [])
    ∷ text_command (codes "man") ([])
    ∷ text_command (codes "completions") (codes "SHELL" ∷ [])
    ∷ []

abbrev pub command_of_word : Text → Option TypedCommand
command_of_word word = find (λ command. bytes_eq command.word word) typed_commands

-- ---- the words of a command

abbrev pub is_positional : Meaning → Bool
is_positional one_place = true
is_positional joined_place = true
is_positional (option_by_place option) = true
is_positional same_option = false
is_positional (option_valued option value) = false
is_positional own_option = false

abbrev pub has_no_value : Value → Bool
has_no_value alone = true
has_no_value file_name = false
has_no_value any_text = false

abbrev pub is_file_name : Value → Bool
is_file_name alone = false
is_file_name file_name = true
is_file_name any_text = false

abbrev pub is_joined : Meaning → Bool
is_joined one_place = false
is_joined joined_place = true
is_joined (option_by_place option) = false
is_joined same_option = false
is_joined (option_valued option value) = false
is_joined own_option = false

abbrev pub takes_place : TypedCommand → TypedWord → Bool
takes_place command word = is_among command.names word.name && is_positional word.meaning

abbrev pub has_typed_option : TypedCommand → TypedWord → Bool
has_typed_option command word = is_among command.names word.name && not (is_positional word.meaning)

-- the positional words of a command, in their order
unfoldable pub command_places : TypedCommand → List TypedWord
command_places command = filter (takes_place command) typed_words

unfoldable pub option_named : TypedCommand → Text → Option TypedWord
option_named command name = find (λ word. has_typed_option command word && bytes_eq word.name name) typed_words

abbrev pub has_letter : Text → TypedWord → Bool
has_letter letter word = option_map_or (λ own. bytes_eq own letter) word.letter false

unfoldable pub option_lettered : TypedCommand → Text → Option TypedWord
option_lettered command letter = find (λ word. has_typed_option command word && has_letter letter word) typed_words
