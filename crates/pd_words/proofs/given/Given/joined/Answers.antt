use Rattle.std.proofs.Common.{◌≡◌, ◌∙◌, ◌∷◌, [], Bor, List, ap, map, subst, ℕ}
use Rattle.std.specs.Prelude.{string_bytes, IfOk}
use Rattle.std.specs.List.{filter, join_by}
use Rattle.std.specs.Str.{bytes_eq}
use Rattle.command_words.specs.Grammar.{Text}
use Rattle.pd_words.specs.declared.given.NamedValue.{NamedValue}
use Rattle.pd_words.proofs.Mapped.{joined_found}
use Rattle.pd_words.proofs.given.Given.joined.Goals as goal

pub returns : goal.returns
returns c =
    let name = c.args.name.now in
    let same =
    ap (λ (values : List (Bor Text)). join_by (λ (s : Bor Text). s.now) (44 ∷ []) values)
    (c.as_slice.ensures.value ∙ c.in_ok-values.ensures
    ∙ ap (λ (values : List NamedValue). map (λ (pair : NamedValue). pair.value) (filter (λ (pair : NamedValue). bytes_eq pair.name.now name) values)) c.deref.ensures.value)
    ∙ joined_found c.args.self.now.values.items name in
    subst (λ (z : List ℕ). IfOk c.join.result (λ text. string_bytes text ≡ z)) same c.join.ensures.ok
