-- The request that words give, from what clap's matches hold.
use Rattle.std.proofs.Common.{◌≡◌, ap, sym, ◌∙◌, List, [], ◌∷◌, Option, Some, drop, map, string_bytes}
use Rattle.std.specs.Prelude.{String, slice_get}
use Rattle.std.specs.Option.{option_and_then}
use Rattle.clap.specs.declared.parser.matches.ArgMatches.{ArgMatches}
use Rattle.command_words.specs.Asked.{AreMatches, given_by}
use Rattle.command_words.specs.Grammar.{Text, NamedValues, given_in, taken_of}
use Rattle.command_words.specs.Commands.{form_of, command_named}
use Rattle.command_words.specs.Requests.{request_from, request_of}
use Rattle.command_words.specs.declared.commands.CommandName.{CommandName}

request_reads-from : (word : Text) (words : List Text) (name : CommandName) (m : ArgMatches) → command_named word ≡ Some name → AreMatches (form_of name) words m → request_of (word ∷ words) ≡ request_from name (given_by m)
request_reads-from word words name m named holds =
    ap (λ (o : Option CommandName). option_and_then (λ name. option_and_then (λ taken. request_from name (given_in taken)) (taken_of (form_of name) words)) o) named
    ∙ ap (λ (o : Option NamedValues). option_and_then (λ taken. request_from name (given_in taken)) o) holds.reads
    ∙ ap (request_from name) (λ i n. sym (holds.given n) i)

pub request_reads : {Z : Type 0} (words : List (String Z)) (first : String Z) (name : CommandName) (m : ArgMatches) → slice_get words 0 ≡ Some first → command_named (string_bytes first) ≡ Some name →
    AreMatches (form_of name) (drop 1 (map string_bytes words)) m → request_of (map string_bytes words) ≡ request_from name (given_by m)
request_reads [] first name m e named holds = absurd (cc)
request_reads (word ∷ words) first name m e named holds =
    let same : word ≡ first = cc in
    request_reads-from (string_bytes word) (map string_bytes words) name m (ap (λ w. command_named (string_bytes w)) same ∙ named) holds
