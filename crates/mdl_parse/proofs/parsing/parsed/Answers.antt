use Rattle.std.proofs.Common.{map, sym, ap, subst, ◌∙◌}
use Rattle.mdl_parse.specs.declared.refusal.Stop.{Stop}
use Rattle.mdl_parse.specs.WordsInText.{placed_word}
use Rattle.mdl_parse.specs.Lexing.{ending_of}
use Rattle.mdl_parse.specs.Items.{items_at}
use Rattle.mdl_parse.specs.Meaning.{most_conditions, Faults}
use Rattle.mdl_parse.specs.Gives.{Stops}
use Rattle.mdl_parse.proofs.Exact.{stopped, conf_read, fault_read}
use Rattle.mdl_parse.proofs.SmallItems.{small_conf}
use Rattle.mdl_parse.proofs.parsing.parsed.Goals as goal

pub returns-in-Some-clause-fault : goal.returns-in-Some-clause-fault
returns-in-Some-clause-fault c =
    let words = c.new-words.ensures ∙ ap (map (placed_word c.args.text.now)) c.requires.all in
    fault_read c.args.text.now c.in-Ok.items c.items.new.self (ending_of c.args.ending) c.in-Some.fault
    c.requires.end (ap (items_at most_conditions) (sym words) ∙ c.in-Ok.ensures) (sym c.in-Some.is ∙ c.unread.ensures)

pub returns-in-None-clause-conf : goal.returns-in-None-clause-conf
returns-in-None-clause-conf c =
    let words = c.new-words.ensures ∙ ap (map (placed_word c.args.text.now)) c.requires.all in
    conf_read c.args.text.now c.in-Ok.items c.items.new.self (ending_of c.args.ending)
    c.requires.end (ap (items_at most_conditions) (sym words) ∙ c.in-Ok.ensures) (sym c.in-None.is ∙ c.unread.ensures)

pub returns-in-None-clause-small : goal.returns-in-None-clause-small
returns-in-None-clause-small c = small_conf c.args.text.now (record { items = c.in-Ok.items }) (returns-in-None-clause-conf c)

pub returns-in-Err-Refused-clause-fault : goal.returns-in-Err-Refused-clause-fault
returns-in-Err-Refused-clause-fault c =
    let words = c.new-words.ensures ∙ ap (map (placed_word c.args.text.now)) c.requires.all in
    let read = subst (λ (e : Stop). Stops e c.items.new.self (items_at most_conditions c.new-words.result)) c.in-Err-Refused.field-0-is c.in-Err-Refused.ensures in
    subst (Faults c.args.text.now) (sym c.fault.ensures)
    (stopped c.args.text.now c.in-Err-Refused.why c.items.new.self (ending_of c.args.ending) c.requires.end (ap (items_at most_conditions) (sym words) ∙ read))
