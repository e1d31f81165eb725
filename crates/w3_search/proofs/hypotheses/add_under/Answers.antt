use Rattle.std.proofs.Common.{ℕ, List, Option, false, bytes_eq, sym, ap, ◌∙◌}
use Rattle.std.specs.Option.{option_map_or}
use Rattle.first_places.specs.Numbers.{numbers_under, with_number}
use Rattle.w3_search.proofs.hypotheses.add_under.Goals as goal

pub returns-in_ok-add_number : goal.returns-in_ok-add_number
returns-in_ok-add_number c name =
    let old = numbers_under (λ key. key.items) (λ own. own.items) name c.args.under.now.entries in
    let n = c.args.number in
    c.in_ok-add_number.ensures.added.numbers name
    ∙ ap (λ (own : List ℕ). with_number (bytes_eq name own) n old) c.bytes.ensures
    ∙ ap (λ (o : Option (List ℕ)). with_number (option_map_or (bytes_eq name) o false) n old) (sym c.in-Some.is)
