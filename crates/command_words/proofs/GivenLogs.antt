-- The name of a log, from the values of the walk.
use Rattle.std.proofs.Common.{◌≡◌, List, ◌∷◌, refl, ap, sym, ◌∙◌, Option, None, Some}
use Rattle.std.specs.Option.{option_and_then}
use Rattle.command_words.specs.Grammar.{Text, Form, NamedValues, given_in, taken_of}
use Rattle.command_words.specs.Commands.{form_of, command_named}
use Rattle.command_words.specs.Requests.{Request, request_from}
use Rattle.command_words.specs.Logs.{log_from, log_given, log_of}
use Rattle.command_words.specs.Walks.{Values, value_of, values_of}
use Rattle.command_words.specs.declared.commands.CommandName.{CommandName}
use Rattle.command_words.proofs.Agreeing.{Same}
use Rattle.command_words.proofs.CommandsChecked.{values_for}

-- the log that values of a form give
abbrev pub log_with : CommandName → Form → Option Values → Option Text
log_with command form None = None
log_with command form (Some values) = log_from command (value_of form values)

from_same : (command : CommandName) (form : Form) (v : Option Values) (t : Option NamedValues) → Same form v t → option_and_then (λ taken. log_from command (given_in taken)) t ≡ log_with command form v
from_same command form None None h = refl
from_same command form None (Some t) h = absurd h
from_same command form (Some v) None h = absurd h
from_same command form (Some v) (Some t) agree = ap (log_from command) (λ i n. sym (agree n) i)

log_is_for : (others : List Text) (command : CommandName) (form : Form) → form ≡ form_of command → option_and_then (λ taken. log_from command (given_in taken)) (taken_of (form_of command) others) ≡ log_with command form (values_of form others)
log_is_for others command form e =
    from_same command (form_of command) (values_of (form_of command) others) (taken_of (form_of command) others) (values_for command others)
    ∙ ap (λ (f : Form). log_with command f (values_of f others)) (sym e)

pub log_is : (words : List Text) (word : Text) (others : List Text) (command : CommandName) (form : Form) (v : Option Values) → words ≡ word ∷ others → Some command ≡ command_named word → form ≡ form_of command → v ≡ values_of form others →
    log_of words ≡ log_with command form v
log_is words word others command form v e f g h =
    ap log_of e
    ∙ ap (λ (o : Option CommandName). option_and_then (λ name. option_and_then (λ taken. log_from name (given_in taken)) (taken_of (form_of name) others)) o) (sym f)
    ∙ log_is_for others command form g
    ∙ ap (log_with command form) (sym h)

-- without a request there is no log
pub none_asked : (command : CommandName) (form : Form) (values : Values) → None ≡ request_from command (value_of form values) → log_with command form (Some values) ≡ None
none_asked command form values e = ap (λ (o : Option Request). option_and_then (λ request. log_given (value_of form values)) o) (sym e)

-- with one it is the value of `log` or of `callgrind`
pub some_asked : (command : CommandName) (form : Form) (values : Values) (request : Request) → Some request ≡ request_from command (value_of form values) → log_with command form (Some values) ≡ log_given (value_of form values)
some_asked command form values request e = ap (λ (o : Option Request). option_and_then (λ request. log_given (value_of form values)) o) (sym e)
