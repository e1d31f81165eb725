use Rattle.std.proofs.Common.{◌∙◌, List, ap, find, sym}
use Rattle.std.specs.Prelude.{option_map}
use Rattle.std.specs.Str.{bytes_eq}
use Rattle.pd_words.specs.declared.given.NamedValue.{NamedValue}
use Rattle.pd_words.proofs.Mapped.{value_found}
use Rattle.pd_words.proofs.given.Given.value.Goals as goal

pub returns-in-Some : goal.returns-in-Some
returns-in-Some c = ap (option_map (λ (pair : NamedValue). pair.value.now)) (sym c.in-Some.is ∙ c.first_named.ensures ∙ ap (λ (values : List NamedValue). find (λ (pair : NamedValue). bytes_eq pair.name.now c.args.name.now) values) c.deref.ensures.value) ∙ value_found c.args.self.now.values.items c.args.name.now

pub returns-in-None : goal.returns-in-None
returns-in-None c = ap (option_map (λ (pair : NamedValue). pair.value.now)) (sym c.in-None.is ∙ c.first_named.ensures ∙ ap (λ (values : List NamedValue). find (λ (pair : NamedValue). bytes_eq pair.name.now c.args.name.now) values) c.deref.ensures.value) ∙ value_found c.args.self.now.values.items c.args.name.now
