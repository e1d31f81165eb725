use Rattle.std.proofs.Common.{◌≡◌, Some, Ok, rules}
use Rattle.pn_text.specs.Tokens.{lexeme_at}
use Rattle.pn_text.proofs.LexemeLens.{lexeme_stands}
use Rattle.pn_text.proofs.lexeme.first_lexeme.Goals as goal

number_first : (c : goal.In_ok-ok_or) → lexeme_at c.args.place c.args.text.now ≡ Ok (Some c.in_ok-ok_or.field-0)
unfolding lexeme_at
number_first c = search rules

pub returns-then-is_digit-clause-len : goal.returns-then-is_digit-clause-len
returns-then-is_digit-clause-len c =
    let stands = lexeme_stands c.args.place c.args.text.now c.in_ok-ok_or.field-0 (number_first c) in
    (stands.some, stands.inside)

other_first : (c : goal.In_ok-ok_or-2) → lexeme_at c.args.place c.args.text.now ≡ Ok (Some c.in_ok-ok_or-2.field-0)
unfolding lexeme_at
other_first c = search rules

pub returns-clause-len : goal.returns-clause-len
returns-clause-len c =
    let stands = lexeme_stands c.args.place c.args.text.now c.in_ok-ok_or-2.field-0 (other_first c) in
    (stands.some, stands.inside)
