-- Words that begin with no word of a command that begins threads ask for none.
use Rattle.std.proofs.Common.{◌≡◌, ◌||◌, Bool, true, false, cond, List, [], ◌∷◌, Option, Some, None, refl}
use Rattle.std.specs.Prelude.{⊤, codes, find, option_map}
use Rattle.std.specs.Option.{option_and_then}
use Rattle.std.specs.Str.{bytes_eq}
use Rattle.command_words.specs.Commands.{commands, form_of}
use Rattle.command_words.specs.Grammar.{Text, Given, given_in, taken_of}
use Rattle.command_words.specs.Numbers.{number_between, number_given, harts_option, top_option, columns_option, instruments_option}
use Rattle.command_words.specs.Requests.{Request, begins_threaded, IsUnthreaded, place_in, request_from, request_of, session_of, order_of, blocks_of, profile_source, shape_given, unit_given, format_given, each_given, interval_given}
use Rattle.command_words.specs.declared.commands.CommandName.{CommandName}
use Rattle.command_words.specs.declared.commands.CommandName.TheVariants.{Run, Live, Replay, Asm, Points, Plan, Stress, Relog, Blocks, Visi, Advise, Direct, Profile, Annotate, Show, Diff, Ask}

abbrev pub AskUnthreaded : Option Request → Type 0
AskUnthreaded None = ⊤
AskUnthreaded (Some r) = IsUnthreaded r

mapped : {A : Type 0} (f : A → Request) (o : Option A) → ((a : A) → AskUnthreaded (Some (f a))) → AskUnthreaded (option_map f o)
mapped f None h = tt
mapped f (Some a) h = h a

chained : {A : Type 0} (f : A → Option Request) (o : Option A) → ((a : A) → AskUnthreaded (f a)) → AskUnthreaded (option_and_then f o)
chained f None h = tt
chained f (Some a) h = h a

module _ (given : Given) where
  run_begins_none : AskUnthreaded (request_from Run given)
  run_begins_none =
      chained _ (session_of given) (λ session. mapped _ (order_of given) (λ order. tt))

  plan_begins_none : AskUnthreaded (request_from Plan given)
  plan_begins_none = mapped _ (number_given given harts_option) (λ harts. tt)

  stress_begins_none : AskUnthreaded (request_from Stress given)
  stress_begins_none =
      chained _ (number_between 1 200 (place_in given (codes "procs"))) (λ procs. mapped _ (number_between 0 4294967295 (place_in given (codes "seed"))) (λ seed. tt))

  blocks_begin_none : AskUnthreaded (request_from Blocks given)
  blocks_begin_none = mapped _ (blocks_of given) (λ r. tt)

  profile_begins_none : AskUnthreaded (request_from Profile given)
  profile_begins_none =
      chained _ (profile_source given) (λ source. chained _ (shape_given given) (λ shape. mapped _ (number_given given top_option) (λ top. tt)))

  annotate_begins_none : AskUnthreaded (request_from Annotate given)
  annotate_begins_none = chained _ (profile_source given) (λ source. mapped _ (unit_given given) (λ by. tt))

  show_begins_none : AskUnthreaded (request_from Show given)
  show_begins_none = chained _ (number_given given columns_option) (λ columns. mapped _ (format_given given) (λ format. tt))

  ask_begins_none : AskUnthreaded (request_from Ask given)
  ask_begins_none =
      chained _ (blocks_of given) (λ counted. chained _ (each_given given) (λ each. chained _ (interval_given given)
      (λ interval. mapped _ (number_given given instruments_option) (λ limit. tt))))

  direct_begins_none : AskUnthreaded (request_from Direct given)
  direct_begins_none =
      chained _ (session_of given) (λ session. mapped _ (order_of given) (λ order. tt))

module _ (word : Text) (words : List Text) (other : bytes_eq (codes "live") word || bytes_eq (codes "visi") word ≡ false) where
  abbrev asked_as : CommandName → Option Request
  asked_as name = option_and_then (λ taken. request_from name (given_in taken)) (taken_of (form_of name) words)

  by : (name : CommandName) → ((given : Given) → AskUnthreaded (request_from name given)) → AskUnthreaded (asked_as name)
  by name h = chained _ (taken_of (form_of name) words) (λ taken. h (given_in taken))

  threaded : (a b : Bool) → a || b ≡ false → b ≡ true → ⊥
  threaded true b e f = absurd (cc)
  threaded false b e f = absurd (cc)

  named : (name : CommandName) → bytes_eq (form_of name).word word ≡ true → AskUnthreaded (asked_as name)
  named Run e = by Run run_begins_none
  named Live e = absurd (cc)
  named Visi e = absurd (threaded (bytes_eq (codes "live") word) (bytes_eq (codes "visi") word) other e)
  named Advise e = by Advise (λ given. tt)
  named Direct e = by Direct direct_begins_none
  named Replay e = by Replay (λ given. tt)
  named Asm e = by Asm (λ given. tt)
  named Points e = by Points (λ given. tt)
  named Plan e = by Plan plan_begins_none
  named Stress e = by Stress stress_begins_none
  named Relog e = by Relog (λ given. tt)
  named Blocks e = by Blocks blocks_begin_none
  named Profile e = by Profile profile_begins_none
  named Annotate e = by Annotate annotate_begins_none
  named Show e = by Show show_begins_none
  named Diff e = by Diff (λ given. tt)
  named Ask e = by Ask ask_begins_none

  either : (name : CommandName) (rest : Option CommandName) (b : Bool) → bytes_eq (form_of name).word word ≡ b → AskUnthreaded (option_and_then asked_as rest)
      → AskUnthreaded (option_and_then asked_as (cond b (Some name) rest))
  either name rest true e h = named name e
  either name rest false e h = h

  among : (names : List CommandName) → AskUnthreaded (option_and_then asked_as (find (λ name. bytes_eq (form_of name).word word) names))
  among [] = tt
  among (name ∷ names) =
      either name (find (λ name. bytes_eq (form_of name).word word) names) (bytes_eq (form_of name).word word) refl (among names)

pub unthreaded : (words : List Text) → begins_threaded words ≡ false → AskUnthreaded (request_of words)
unthreaded [] e = tt
unthreaded (word ∷ words) e = among word words e commands
