use Rattle.std.proofs.Common.{rules, None, Some, map, ap, sym, ◌∙◌}
use Rattle.std.specs.Prelude.{string_bytes, option_map}
use Rattle.command_words.specs.Asked.{asked}
use Rattle.command_words.specs.Walked.{form_seen, values_seen}
use Rattle.command_words.proofs.GivenLogs.{log_is, none_asked, some_asked}
use Rattle.command_words.proofs.logging.log_name.Goals as goal

pub returns-in_err-values : goal.returns-in_err-values
returns-in_err-values c =
    ap (λ o. option_map (λ s. s.now) o) c.from_residual-in_err-values.ensures
    ∙ sym (log_is (map string_bytes c.args.words.now) (string_bytes c.in_ok-first.first.now) (map string_bytes c.in_ok-first.others.now) c.in_ok-command.command (form_seen c.form-form.result) None
    (ap (map string_bytes) c.in_ok-first.ensures.cases.0) (search rules) c.form-form.ensures c.in_err-values.ensures)

pub returns-in_err-request_from : goal.returns-in_err-request_from
returns-in_err-request_from c =
    ap (λ o. option_map (λ s. s.now) o) c.from_residual-in_err-request_from.ensures
    ∙ sym (log_is (map string_bytes c.args.words.now) (string_bytes c.in_ok-first.first.now) (map string_bytes c.in_ok-first.others.now) c.in_ok-command.command (form_seen c.form-form.result) (Some (values_seen c.in_ok-values.values))
    (ap (map string_bytes) c.in_ok-first.ensures.cases.0) (search rules) c.form-form.ensures c.in_ok-values.ensures
    ∙ none_asked c.in_ok-command.command (form_seen c.form-form.result) (values_seen c.in_ok-values.values) c.in_err-request_from.ensures.request)

pub returns : goal.returns
returns c =
    c.log_given.ensures
    ∙ sym (log_is (map string_bytes c.args.words.now) (string_bytes c.in_ok-first.first.now) (map string_bytes c.in_ok-first.others.now) c.in_ok-command.command (form_seen c.form-form.result) (Some (values_seen c.in_ok-values.values))
    (ap (map string_bytes) c.in_ok-first.ensures.cases.0) (search rules) c.form-form.ensures c.in_ok-values.ensures
    ∙ some_asked c.in_ok-command.command (form_seen c.form-form.result) (values_seen c.in_ok-values.values) (asked c.in_ok-request_from.field-0) c.in_ok-request_from.ensures.request)
