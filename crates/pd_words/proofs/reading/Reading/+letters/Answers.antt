use Rattle.std.proofs.Common.{rules, ◌≡◌, ◌∙◌, ◌<◌, [], Bool, None, Option, Some, ap, cond, length, subst, sym}
use Rattle.std.specs.Prelude.{IfOk, option_map, if◌then◌else◌}
use Rattle.std.specs.Option.{option_and_then}
use Rattle.command_words.specs.Grammar.{Text}
use Rattle.pd_words.specs.Options.{TypedWord}
use Rattle.pd_words.specs.Reading.{Reading, met, value_behind, with_letters, with_option}
use Rattle.pd_words.specs.Seen.{command_seen, reading_seen, row_seen}
use Rattle.pd_words.proofs.Letters.{after_letter, none_left, one_letter, shorter}
use Rattle.pd_words.proofs.reading.Reading.+letters.Goals as goal

pub returns-in_default : goal.returns-in_default
returns-in_default t c =
    none_left (command_seen c.args.command.now) (reading_seen c.args.self.now) c.args.letters.now c.in_default.ensures
    ∙ ap (λ (b : Bool). cond b (Some (reading_seen c.args.self.now)) None) (sym c.is_empty.ensures)

pub returns-in_default-option_lettered : goal.returns-in_default-option_lettered
returns-in_default-option_lettered t c =
    let command = command_seen c.args.command.now in
    let reading = reading_seen c.args.self.now in
    one_letter command reading c.args.letters.now c.in-Some.letter.now c.in-Some.rest.now c.in-Some.ensures
    ∙ ap (λ (o : Option TypedWord). option_and_then (after_letter command reading c.in-Some.rest.now) o)
    (sym c.option_lettered.ensures ∙ ap (option_map row_seen) c.in_default-option_lettered.is)

pub returns-then-not-is_alone : goal.returns-then-not-is_alone
returns-then-not-is_alone t c =
    let command = command_seen c.args.command.now in
    let reading = reading_seen c.args.self.now in
    let rest = c.in-Some.rest.now in
    let word = row_seen c.in-Some-option_lettered.word in
    let at =
    one_letter command reading c.args.letters.now c.in-Some.letter.now rest c.in-Some.ensures
    ∙ ap (λ (o : Option TypedWord). option_and_then (after_letter command reading rest) o)
    (sym c.option_lettered.ensures ∙ ap (option_map row_seen) c.in-Some-option_lettered.is) in
    let same =
    ap (λ (v : Option Text). met reading word v) c.value_behind.ensures
    ∙ ap (λ (b : Bool). cond b (option_and_then (λ next. with_letters command next rest) (with_option reading word [])) (met reading word (value_behind rest))) c.if-not-is_alone.ensures
    ∙ sym at in
    subst (λ (z : Option Reading). IfOk c.meet.result (λ good. z ≡ (if good then Some (reading_seen c.meet.new.self) else None))) same c.meet.ensures

pub returns-then-not-branch : goal.returns-then-not-branch
returns-then-not-branch t c =
    let command = command_seen c.args.command.now in
    let reading = reading_seen c.args.self.now in
    let rest = c.in-Some.rest.now in
    let word = row_seen c.in-Some-option_lettered.word in
    one_letter command reading c.args.letters.now c.in-Some.letter.now rest c.in-Some.ensures
    ∙ ap (λ (o : Option TypedWord). option_and_then (after_letter command reading rest) o)
    (sym c.option_lettered.ensures ∙ ap (option_map row_seen) c.in-Some-option_lettered.is)
    ∙ sym (ap (λ (b : Bool). cond b (option_and_then (λ next. with_letters command next rest) (with_option reading word [])) (met reading word (value_behind rest))) c.if-not-is_alone.ensures)
    ∙ ap (λ (o : Option Reading). option_and_then (λ next. with_letters command next rest) o)
    (c.in_ok-option.ensures ∙ ap (λ (b : Bool). cond b (Some (reading_seen c.option.new.self)) None) c.if-not-branch.true)

pub letters-requires : goal.letters-requires
letters-requires t c =
    let less : length c.in-Some.rest.now < length c.args.letters.now = shorter c.args.letters.now c.in-Some.letter.now c.in-Some.rest.now c.in-Some.ensures in
    (search rules, tt)

pub returns : goal.returns
returns t c =
    let command = command_seen c.args.command.now in
    let reading = reading_seen c.args.self.now in
    let rest = c.in-Some.rest.now in
    let word = row_seen c.in-Some-option_lettered.word in
    let same =
    one_letter command reading c.args.letters.now c.in-Some.letter.now rest c.in-Some.ensures
    ∙ ap (λ (o : Option TypedWord). option_and_then (after_letter command reading rest) o)
    (sym c.option_lettered.ensures ∙ ap (option_map row_seen) c.in-Some-option_lettered.is)
    ∙ sym (ap (λ (b : Bool). cond b (option_and_then (λ next. with_letters command next rest) (with_option reading word [])) (met reading word (value_behind rest))) c.if-not-is_alone.ensures)
    ∙ ap (λ (o : Option Reading). option_and_then (λ next. with_letters command next rest) o)
    (c.in_ok-option.ensures ∙ ap (λ (b : Bool). cond b (Some (reading_seen c.option.new.self)) None) c.if-not-branch.false) in
    subst (λ (z : Option Reading). IfOk c.letters.result (λ good. z ≡ (if good then Some (reading_seen c.letters.new.self) else None))) (sym same) c.letters.ensures
