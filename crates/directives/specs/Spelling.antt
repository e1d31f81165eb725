-- The grammar: the words of a directive, by cases on what it does.
use Rattle.std.specs.Prelude.{List, [], ◌∷◌, codes}
use Rattle.pn_text.specs.Words.{Word, NameWord, NumberWord, SignWord}
use Rattle.pn_text.specs.declared.token.Sign.TheVariants.{Semicolon}
use Rattle.mdl_parse.specs.Grammar.{keyword}
use Rattle.mdl_parse.specs.WordsInText.{TreeWord, starts}
use Rattle.directives.specs.declared.directive.Directive.{Directive}
use Rattle.directives.specs.declared.directive.DirectiveAct.{DirectiveAct}
use Rattle.directives.specs.declared.directive.DirectiveAct.TheVariants.{Prune, PruneAxis, Threshold, First}

abbrev pub act_words : DirectiveAct → List Word
act_words (Prune name) = keyword (codes "prune") ∷ NameWord name ∷ SignWord Semicolon ∷ []
act_words (PruneAxis name axis) = keyword (codes "prune") ∷ NameWord name ∷ keyword (codes "axis") ∷ NameWord axis ∷ SignWord Semicolon ∷ []
act_words (Threshold name threshold) = keyword (codes "threshold") ∷ NameWord name ∷ NumberWord threshold ∷ SignWord Semicolon ∷ []
act_words (First name) = keyword (codes "first") ∷ NameWord name ∷ SignWord Semicolon ∷ []

-- The words of a directive; its line is that of the first.
abbrev pub directive_words : Directive → List TreeWord
directive_words d = starts d.line (act_words d.act)
