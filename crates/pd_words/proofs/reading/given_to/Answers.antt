use Rattle.std.proofs.Common.{◌∙◌, ◌+◌, Bool, None, Option, Some, ap, cond, drop, map, sym}
use Rattle.std.specs.Prelude.{string_bytes}
use Rattle.std.specs.Option.{option_and_then}
use Rattle.command_words.specs.Grammar.{Text}
use Rattle.pd_words.specs.Reading.{Reading, given_to, read_end, read_word, read_words}
use Rattle.pd_words.specs.Seen.{command_seen, reading_seen}
use Rattle.pd_words.proofs.ReadWords.{none_follows, word_left}
use Rattle.pd_words.proofs.reading.given_to.Goals as goal

pub returns-then-not-branch : goal.returns-then-not-branch
unfolding given_to
returns-then-not-branch c =
    let command = command_seen c.args.command.now in
    let reading = reading_seen c.loop-word.reading in
    sym (ap (λ (o : Option Reading). option_and_then (read_end command) o)
    (c.loop-word.invariant ∙ word_left command reading string_bytes c.args.words.now c.loop-word.word-index _ c.loop-word-test.true
    ∙ ap (λ (o : Option Reading). option_and_then (λ next. read_words command next (map string_bytes (drop (c.loop-word.word-index + 1) c.args.words.now))) o)
    (ap (λ (t : Text). read_word command reading t) (ap string_bytes (sym c.word-item.is) ∙ sym c.as_str.ensures.value)
    ∙ c.in_ok-word.ensures ∙ ap (λ (b : Bool). cond b (Some (reading_seen c.word.new.self)) None) c.if-not-branch.true)))

pub loop-word-preserved : goal.loop-word-preserved
loop-word-preserved c =
    let command = command_seen c.args.command.now in
    let reading = reading_seen c.loop-word.reading in
    c.loop-word.invariant ∙ word_left command reading string_bytes c.args.words.now c.loop-word.word-index _ c.loop-word-test.true
    ∙ ap (λ (o : Option Reading). option_and_then (λ next. read_words command next (map string_bytes (drop (c.loop-word.word-index + 1) c.args.words.now))) o)
    (ap (λ (t : Text). read_word command reading t) (ap string_bytes (sym c.word-item.is) ∙ sym c.as_str.ensures.value)
    ∙ c.in_ok-word.ensures ∙ ap (λ (b : Bool). cond b (Some (reading_seen c.word.new.self)) None) c.if-not-branch.false)

pub returns-then-is_whole : goal.returns-then-is_whole
unfolding given_to
returns-then-is_whole c =
    let command = command_seen c.args.command.now in
    let reading = reading_seen c.loop-word.reading in
    sym (ap (λ (o : Option Reading). option_and_then (read_end command) o)
    (c.loop-word.invariant ∙ none_follows command reading string_bytes c.args.words.now c.loop-word.word-index c.loop-word-test.false)
    ∙ ap (λ (b : Bool). cond b (Some reading.given) None) (sym c.is_whole.ensures ∙ c.if-is_whole.true))

pub returns : goal.returns
unfolding given_to
returns c =
    let command = command_seen c.args.command.now in
    let reading = reading_seen c.loop-word.reading in
    sym (ap (λ (o : Option Reading). option_and_then (read_end command) o)
    (c.loop-word.invariant ∙ none_follows command reading string_bytes c.args.words.now c.loop-word.word-index c.loop-word-test.false)
    ∙ ap (λ (b : Bool). cond b (Some reading.given) None) (sym c.is_whole.ensures ∙ c.if-is_whole.false))
