use Rattle.std.proofs.Common.{◌==◌, ℕ, List, [], Option, Bor, ◌+◌, sym, ap, ◌∙◌}
use Rattle.std.specs.Option.{option_map_or}
use Rattle.std.proofs.lemmas.List.{take_rest}
use Rattle.advice.specs.Words.{parts}
use Rattle.advice.proofs.Parts.{split_at_place, split_whole}
use Rattle.advice.proofs.pieces.Pieces.next.Goals as goal

-- the parts where this is left
abbrev parts_in : ℕ → Option (Bor (List ℕ)) → List (List ℕ)
parts_in separator rest = option_map_or (λ text. parts separator text.now) rest []

pub returns-in-Some : goal.returns-in-Some
returns-in-Some c =
    let separator = c.self.inside.separator in
    let text = c.in_ok-text.text.now in
    rw (take_rest text (c.in-Some.end + 1))
    (sym c.self.view_is ∙ ap (parts_in separator) c.in_ok-text.was ∙ split_at_place (λ byte. byte == separator) text c.in-Some.end (sym c.in-Some.ensures))

pub returns-in-None : goal.returns-in-None
returns-in-None c =
    let separator = c.self.inside.separator in
    sym c.self.view_is ∙ ap (parts_in separator) c.in_ok-text.was ∙ split_whole (λ byte. byte == separator) c.in_ok-text.text.now (sym c.in-None.ensures)
