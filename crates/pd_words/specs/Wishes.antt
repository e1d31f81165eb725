-- What becomes of a person's words.
use Rattle.std.specs.Prelude.{◌≤◌, ⊤, ℕ, ◌&&◌, ◌++◌, if◌then◌else◌, Bool, false, List, [], ◌∷◌, Option, Some, None, codes, is_some, map, string_bytes, option_map, unwrap_or, IsSome}
use Rattle.std.specs.List.{filter, filter_map, join_by}
use Rattle.std.specs.Option.{is_none, option_and_then, option_map_or}
use Rattle.command_words.specs.Grammar.{Text, NamedValues, given_in, is_named}
use Rattle.command_words.specs.Numbers.{harts_option, number_given}
use Rattle.command_words.specs.Requests.{request_of}
use Rattle.pn_types.specs.declared.limits.TheConstants.{MAX_HARTS}
use Rattle.pd_words.specs.Options.{Meaning, Server, TypedCommand, TypedWord, by_check, by_paradyn, by_text, command_of_word, joined_place, one_place, option_by_place, option_valued, own_option, same_option, typed_words}
use Rattle.pd_words.specs.Reading.{given_to}
use Rattle.pd_words.specs.declared.wishes.CheckWords.{CheckWords}
use Rattle.pd_words.specs.declared.wishes.Serving.{Serving}
use Rattle.pd_words.specs.declared.wishes.Wish.{Wish}
use Rattle.pd_words.specs.declared.wishes.Wish.TheVariants.{Print, Serve, Check, Wrong}

-- ---- on a screen

-- the words, and a table asked for
abbrev pub with_table : List Text → List Text
with_table [] = []
with_table (word ∷ words) = word ∷ (codes "--show=table" ∷ words)

-- On a screen a profile is shown as a table, where no other shape is asked for; no other command has a shape.
abbrev pub for_screen : Bool → List Text → List Text
for_screen is_screen words = if is_screen && is_some (request_of (with_table words)) then with_table words else words

-- ---- the words of `paradyn`

abbrev pub option_text : Text → Text → Text
option_text name value = codes "--" ++ name ++ codes "=" ++ value

-- the option of `paradyn` that a word with a value stands for
abbrev pub option_meant : TypedWord → Meaning → Text → Option Text
option_meant word one_place value = None
option_meant word joined_place value = None
option_meant word (option_by_place name) value = Some (option_text name value)
option_meant word same_option value = Some (option_text word.name value)
option_meant word (option_valued name own) value = Some (option_text name own)
option_meant word own_option value = None

abbrev pub served_option : NamedValues → TypedWord → Option Text
served_option given word = option_and_then (option_meant word word.meaning) (given_in given word.name)

-- the values of the words that are joined
abbrev pub joined_values : NamedValues → Text → Text
joined_values given name = join_by (λ pair. pair.1) (codes ",") (filter (is_named name) given)

-- the positional word of `paradyn` that a word with a value stands for
abbrev pub place_meant : NamedValues → TypedWord → Meaning → Text → Option Text
place_meant given word one_place value = Some value
place_meant given word joined_place value = Some (joined_values given word.name)
place_meant given word (option_by_place name) value = None
place_meant given word same_option value = None
place_meant given word (option_valued name own) value = None
place_meant given word own_option value = None

abbrev pub served_place : NamedValues → TypedWord → Option Text
served_place given word = option_and_then (place_meant given word word.meaning) (given_in given word.name)

-- The words of `paradyn` for what is given to a command.
unfoldable pub served_words : TypedCommand → NamedValues → List Text
served_words command given =
    (command.word ∷ filter_map (served_option given) typed_words) ++ (codes "--" ∷ filter_map (served_place given) typed_words)

-- ---- what is asked for

-- Words that are served, the file that takes what is printed, whether it may be written over whatever it is, and whether nothing is
-- to be said but what is wrong.
pub record ServingAsked : Type 0 where
  pub words : List Text
  pub output : Option Text
  pub force : Bool
  pub quiet : Bool

-- The program and the configuration of which it is to be said what would mislead, and for how many harts.
pub record CheckAsked : Type 0 where
  pub program : Text
  pub conf : Option Text
  pub harts : ℕ

pub data Asked : Type 0 where
  -- to serve words
  serve : ServingAsked → Asked
  -- to say what would mislead in a run
  check : CheckAsked → Asked
  -- nothing but a text, as help, or what is wrong
  text_alone : Asked

-- the files that are to take what is printed
abbrev pub outputs_given : NamedValues → List Text
outputs_given given = filter_map (given_in given) (codes "output" ∷ codes "svg" ∷ codes "html" ∷ [])

abbrev pub serving_asked : Bool → NamedValues → List Text → Option Text → Asked
serving_asked is_screen given words output = serve (record {
  words = for_screen (is_screen && is_none output) words;
  output = output;
  force = is_some (given_in given (codes "force"));
  quiet = is_some (given_in given (codes "quiet"));
})

-- one file at most takes what is printed
abbrev pub by_outputs : Bool → NamedValues → List Text → List Text → Asked
by_outputs is_screen given words [] = serving_asked is_screen given words None
by_outputs is_screen given words (output ∷ []) = serving_asked is_screen given words (Some output)
by_outputs is_screen given words (output ∷ other ∷ others) = text_alone

unfoldable pub serving_of : Bool → TypedCommand → NamedValues → Asked
serving_of is_screen command given =
    let words = served_words command given in
    if is_some (request_of words) then by_outputs is_screen given words (outputs_given given) else text_alone

abbrev pub check_for : NamedValues → ℕ → Asked
check_for given harts = check (record {
  program = unwrap_or (given_in given (codes "PROGRAM")) [];
  conf = given_in given (codes "CONF");
  harts = harts;
})

unfoldable pub check_of : NamedValues → Asked
check_of given =
    option_map_or (check_for given) (number_given (given_in given) harts_option) text_alone

abbrev pub by_server : Bool → TypedCommand → Server → NamedValues → Asked
by_server is_screen command by_paradyn given = serving_of is_screen command given
by_server is_screen command by_check given = check_of given
by_server is_screen command by_text given = text_alone

-- what the words after a command's own ask for
unfoldable pub command_asked : Bool → TypedCommand → List Text → Asked
command_asked is_screen command words =
    option_map_or (by_server is_screen command command.server) (given_to command words) text_alone

unfoldable pub asked_of_pd : Bool → List Text → Asked
asked_of_pd is_screen [] = text_alone
asked_of_pd is_screen (word ∷ words) =
    option_map_or (λ command. command_asked is_screen command words) (command_of_word word) text_alone

-- words that are served as they are
abbrev pub as_they_are : Bool → List Text → Asked
as_they_are is_screen words =
    serve (record { words = for_screen is_screen words; output = None; force = false; quiet = false })

-- What a person's words ask for: those that `paradyn` takes itself are served as they are.
unfoldable pub pd_meaning : Bool → List Text → Asked
pd_meaning is_screen words =
    if is_some (request_of words) then as_they_are is_screen words else asked_of_pd is_screen words

-- ---- what the code says

abbrev pub served_by : Serving → List Text
served_by serving = map string_bytes serving.words.items

abbrev pub serving_meant : Serving → ServingAsked
serving_meant serving = record {
  words = served_by serving;
  output = option_map string_bytes serving.output;
  force = serving.force;
  quiet = serving.quiet;
}

abbrev pub check_meant : CheckWords → CheckAsked
check_meant words = record { program = string_bytes words.program; conf = option_map string_bytes words.conf; harts = words.harts }

abbrev pub meaning : Wish → Asked
meaning (Print text) = text_alone
meaning (Serve serving) = serve (serving_meant serving)
meaning (Check words) = check (check_meant words)
meaning (Wrong text) = text_alone

-- Where words are served, they are a request; where a run is checked before, a machine can have as many harts.
abbrev pub CanBeServed : Wish → Type 0
CanBeServed (Print text) = ⊤
CanBeServed (Serve serving) = IsSome (request_of (served_by serving))
CanBeServed (Check words) = (1 ≤ words.harts) × (words.harts ≤ MAX_HARTS)
CanBeServed (Wrong text) = ⊤
