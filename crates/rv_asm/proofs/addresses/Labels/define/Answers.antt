use Rattle.std.proofs.Common.{◌∙◌, ℕ, List, ◌++◌, ◌∷◌, [], ap, is_some}
use Rattle.std.specs.List.{zip}
use Rattle.rv_asm.specs.Registers.{named}
use Rattle.rv_asm.proofs.Entries.{defined_before, defined_last}
use Rattle.rv_asm.proofs.addresses.Labels.define.Goals as goal

pub returns-in-Ok-clause-before : goal.returns-in-Ok-clause-before
returns-in-Ok-clause-before c =
    let name = c.args.name.now in
    c.in-Ok.ensures.before
    ∙ defined_before name c.self.inside.names c.self.inside.addresses.items c.self.invariant
    ∙ ap (λ (labels : List (List ℕ × ℕ)). is_some (named name labels)) c.self.view_is

pub returns-in-Ok-clause-defined : goal.returns-in-Ok-clause-defined
returns-in-Ok-clause-defined c =
    let name = c.args.name.now in
    let names = c.self.inside.names in
    ap (λ (ns : List (List ℕ)). zip ns c.push.new.self.items) c.in-Ok.ensures.pushed
    ∙ ap (zip (names ++ name ∷ [])) c.in_ok-push.ensures.items
    ∙ defined_last names c.self.inside.addresses.items name c.args.at c.self.invariant
    ∙ ap (λ (labels : List (List ℕ × ℕ)). labels ++ (name, c.args.at) ∷ []) c.self.view_is
