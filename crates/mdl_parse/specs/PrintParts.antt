-- For proofs alone: parts of lines.
use Rattle.std.specs.Prelude.{ℕ, List, [], ◌∷◌, codes, if◌then◌else◌}
use Rattle.pn_text.specs.Words.{Word, NameWord, FocusPath, SignWord}
use Rattle.pn_text.specs.declared.token.Sign.TheVariants.{Comma}
use Rattle.mdl_ast.specs.declared.metric.Constraint.{Constraint}
use Rattle.mdl_parse.specs.Grammar.{keyword}

-- a name after the first one
abbrev pub others_words : List ℕ → List Word
others_words name = SignWord Comma ∷ NameWord name ∷ []

-- what a constraint is
abbrev pub constraint_kind : Constraint → List Word
constraint_kind c =
    keyword (codes "constraint") ∷ NameWord c.name ∷ FocusPath c.path ∷ keyword (codes "is")
    ∷ keyword (if c.replace then codes "replace" else codes "counter") ∷ []
