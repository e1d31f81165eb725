-- The grammar of the items of a configuration, and of the whole.
use Rattle.std.specs.Prelude.{ℕ, List, [], ◌∷◌, ◌++◌, Option, Some, None, codes, if◌then◌else◌}
use Rattle.std.specs.List.{flat_map}
use Rattle.pn_text.specs.Words.{Word, NameWord, NumberWord, QuotedWord, FocusPath, SignWord}
use Rattle.pn_text.specs.declared.token.Sign.TheVariants.{OpenBrace, CloseBrace, Semicolon}
use Rattle.mdl_ast.specs.declared.items.Conf.{Conf}
use Rattle.mdl_ast.specs.declared.items.Item.{Item}
use Rattle.mdl_ast.specs.declared.items.Item.TheVariants as item
use Rattle.mdl_ast.specs.declared.items.Include.{Include}
use Rattle.mdl_ast.specs.declared.items.SyncDecl.{SyncDecl}
use Rattle.mdl_ast.specs.declared.items.Hypothesis.{Hypothesis}
use Rattle.mdl_ast.specs.declared.items.SearchDecl.{SearchDecl}
use Rattle.mdl_ast.specs.declared.items.PhaseDecl.{PhaseDecl}
use Rattle.mdl_ast.specs.declared.items.Wish.{Wish}
use Rattle.mdl_ast.specs.declared.metric.Metric.{Metric}
use Rattle.mdl_ast.specs.declared.metric.Constraint.{Constraint}
use Rattle.mdl_parse.specs.WordsInText.{TreeWord, other_words, starts}
use Rattle.mdl_parse.specs.Grammar.{keyword, names_words, blocks_tree_words}

-- ---- metrics and constraints

abbrev pub reference_words : List ℕ → List Word
reference_words name = keyword (codes "constraint") ∷ NameWord name ∷ SignWord Semicolon ∷ []

abbrev pub initially_words : Option ℕ → List Word
initially_words None = []
initially_words (Some n) = keyword (codes "initially") ∷ NumberWord n ∷ []

abbrev pub metric_head : Metric → List Word
metric_head m =
    keyword (codes "metric") ∷ NameWord m.name ∷ SignWord OpenBrace ∷ keyword (codes "units") ∷ QuotedWord m.units ∷ SignWord Semicolon
    ∷ (flat_map reference_words m.constraints
    ++ (keyword (codes "base") ∷ keyword (codes "is") ∷ keyword (if m.timer then codes "timer" else codes "counter")
    ∷ initially_words m.initially))

abbrev pub metric_tree_words : Metric → List TreeWord
metric_tree_words m = starts m.line (metric_head m) ++ (blocks_tree_words m.blocks ++ other_words (SignWord CloseBrace ∷ []))

abbrev pub constraint_head : Constraint → List Word
constraint_head c =
    keyword (codes "constraint") ∷ NameWord c.name ∷ FocusPath c.path ∷ keyword (codes "is")
    ∷ keyword (if c.replace then codes "replace" else codes "counter") ∷ initially_words c.initially

abbrev pub constraint_tree_words : Constraint → List TreeWord
constraint_tree_words c = starts c.line (constraint_head c) ++ blocks_tree_words c.blocks

-- ---- hypotheses

abbrev pub parent_words : Option (List ℕ) → List Word
parent_words None = []
parent_words (Some name) = keyword (codes "parent") ∷ NameWord name ∷ SignWord Semicolon ∷ []

-- the axes, which aren't written where there are none
abbrev pub axes_words : List (List ℕ) → List Word
axes_words [] = []
axes_words (name ∷ names) = keyword (codes "axes") ∷ (names_words (name ∷ names) ++ (SignWord Semicolon ∷ []))

abbrev pub hypothesis_words : Hypothesis → List Word
hypothesis_words h =
    keyword (codes "hypothesis") ∷ NameWord h.name ∷ SignWord OpenBrace
    ∷ (parent_words h.parent
    ++ (keyword (codes "metric") ∷ NameWord h.metric ∷ SignWord Semicolon
    ∷ keyword (codes "threshold") ∷ NumberWord h.threshold ∷ SignWord Semicolon
    ∷ (axes_words h.axes ++ (SignWord CloseBrace ∷ []))))

-- ---- the other items

abbrev pub include_words : Include → List Word
include_words i = keyword (codes "include") ∷ keyword (if i.metrics then codes "metrics" else codes "hypotheses") ∷ SignWord Semicolon ∷ []

abbrev pub sync_words : SyncDecl → List Word
sync_words s = keyword (codes "sync") ∷ NameWord s.name ∷ SignWord Semicolon ∷ []

abbrev pub search_words : SearchDecl → List Word
search_words s =
    keyword (codes "search") ∷ SignWord OpenBrace ∷ keyword (codes "window") ∷ NumberWord s.window ∷ SignWord Semicolon
    ∷ keyword (codes "cost") ∷ NumberWord s.cost ∷ SignWord Semicolon
    ∷ keyword (codes "observed") ∷ NumberWord s.observed ∷ SignWord Semicolon
    ∷ SignWord CloseBrace ∷ []

abbrev pub phase_words : PhaseDecl → List Word
phase_words p = keyword (codes "phase") ∷ NameWord p.name ∷ keyword (codes "at") ∷ NumberWord p.at ∷ SignWord Semicolon ∷ []

abbrev pub wish_words : Wish → List Word
wish_words w =
    keyword (codes "at") ∷ NumberWord w.at ∷ keyword (if w.show then codes "show" else codes "drop") ∷ NameWord w.metric ∷ FocusPath w.focus
    ∷ SignWord Semicolon ∷ []

-- ---- the whole

abbrev pub item_tree_words : Item → List TreeWord
item_tree_words (item.Include i) = starts i.line (include_words i)
item_tree_words (item.Sync s) = starts s.line (sync_words s)
item_tree_words (item.Metric m) = metric_tree_words m
item_tree_words (item.Constraint c) = constraint_tree_words c
item_tree_words (item.Hypothesis h) = starts h.line (hypothesis_words h)
item_tree_words (item.Search s) = starts s.line (search_words s)
item_tree_words (item.Phase p) = starts p.line (phase_words p)
item_tree_words (item.Wish w) = starts w.line (wish_words w)

-- The words of a configuration, with the lines that it holds.
abbrev pub conf_tree_words : Conf → List TreeWord
conf_tree_words c = flat_map item_tree_words c.items
