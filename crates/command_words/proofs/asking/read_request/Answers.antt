use Rattle.std.proofs.Common.{sym, ap, ◌∙◌, rules}
use Rattle.command_words.specs.Commands.{command_named}
use Rattle.command_words.proofs.Reading.{request_reads}
use Rattle.command_words.proofs.asking.read_request.Goals as goal

pub returns-in-Some-request_from-clause-request : goal.returns-in-Some-request_from-clause-request
returns-in-Some-request_from-clause-request c =
    request_reads c.args.words.now c.in-Some.first.now c.in-Some-of_word.name c.in_ok-matches.matches (search (rules, c.in-Some.ensures.value)) (sym (c.in-Some-of_word.ensures ∙ ap command_named c.as_str.ensures.value)) c.in_ok-matches.ensures.taken
    ∙ sym c.in-Some-request_from.ensures.request

pub returns-clause-request : goal.returns-clause-request
returns-clause-request c = λ _.
    request_reads c.args.words.now c.in-Some.first.now c.in-Some-of_word.name c.in_ok-matches.matches (search (rules, c.in-Some.ensures.value)) (sym (c.in-Some-of_word.ensures ∙ ap command_named c.as_str.ensures.value)) c.in_ok-matches.ensures.taken
    ∙ sym c.in-None.ensures.request
