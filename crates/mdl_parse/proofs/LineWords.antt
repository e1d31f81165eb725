-- The lines of a configuration hold its words.
use Rattle.std.proofs.Common.{◌≡◌, ℕ, ◌+◌, List, [], ◌∷◌, ◌++◌, map, refl, sym, ap, ap₂, ◌∙◌, codes, if◌then◌else◌}
use Rattle.std.specs.List.{flat_map}
use Rattle.std.proofs.lemmas.Grind.{flat_map-append}
use Rattle.std.proofs.lemmas.List.{append_assoc, append-nil}
use Rattle.pn_text.specs.Words.{Word, NameWord, NumberWord, QuotedWord, SignWord}
use Rattle.pn_text.specs.declared.token.Sign.TheVariants.{OpenBrace, CloseBrace, CloseCode, Semicolon}
use Rattle.mdl_ast.specs.declared.action.Statement.{Statement}
use Rattle.mdl_ast.specs.declared.block.Insertion.{Insertion}
use Rattle.mdl_ast.specs.declared.block.Block.{Block}
use Rattle.mdl_ast.specs.declared.metric.Metric.{Metric}
use Rattle.mdl_ast.specs.declared.metric.Constraint.{Constraint}
use Rattle.mdl_ast.specs.declared.items.Hypothesis.{Hypothesis}
use Rattle.mdl_ast.specs.declared.items.Item.{Item}
use Rattle.mdl_ast.specs.declared.items.Item.TheVariants as item
use Rattle.mdl_parse.specs.WordsInText.{TreeWord, other_words, starts}
use Rattle.mdl_parse.specs.Grammar.{keyword, statement_words, statement_tree_words, insertion_head, insertion_tree_words, block_head, block_tree_words, blocks_tree_words}
use Rattle.mdl_parse.specs.ItemGrammar.{reference_words, initially_words, metric_head, metric_tree_words, constraint_head, constraint_tree_words, parent_words, axes_words, hypothesis_words, include_words, sync_words, search_words, phase_words, wish_words, item_tree_words}
use Rattle.mdl_parse.specs.Printing.{LevelLine, reference_line, insertion_line, close_line, block_lines, base_words, metric_lines, constraint_lines, some_line, hypothesis_lines, item_lines}
use Rattle.mdl_parse.proofs.Relining.{plain_words, goes_words, starts_words, plain_words-append}
use Rattle.mdl_parse.proofs.LinePieces.{line_words}

pub line_words-append : (a b : List LevelLine) → line_words (a ++ b) ≡ line_words a ++ line_words b
line_words-append a b = flat_map-append (λ line. line.1) a b

-- ---- statements, insertions and blocks

statements_same : (stmts : List Statement) → plain_words (flat_map statement_tree_words stmts) ≡ flat_map statement_words stmts
statements_same [] = refl
statements_same (s ∷ stmts) =
    plain_words-append (statement_tree_words s) (flat_map statement_tree_words stmts)
    ∙ ap₂ (λ (x y : List Word). x ++ y) (starts_words s.line (statement_words s)) (statements_same stmts)

-- a head, parts, and words that close
around_same : (line : ℕ) (head : List Word) (inner : List TreeWord) (words close : List Word) → plain_words inner ≡ words → plain_words (starts line head ++ (inner ++ other_words close)) ≡ head ++ (words ++ close)
around_same line head inner words close e =
    plain_words-append (starts line head) (inner ++ other_words close)
    ∙ ap₂ (λ (x y : List Word). x ++ y) (starts_words line head)
    (plain_words-append inner (other_words close) ∙ ap₂ (λ (x y : List Word). x ++ y) e (goes_words close))

insertions_same : (level : ℕ) (insertions : List Insertion) → line_words (map (insertion_line level) insertions) ≡ plain_words (flat_map insertion_tree_words insertions)
insertions_same level [] = refl
insertions_same level (i ∷ insertions) =
    ap₂ (λ (x y : List Word). x ++ y)
    (sym (around_same i.line (insertion_head i) (flat_map statement_tree_words i.stmts) (flat_map statement_words i.stmts) (SignWord CloseCode ∷ []) (statements_same i.stmts)))
    (insertions_same level insertions)
    ∙ sym (plain_words-append (insertion_tree_words i) (flat_map insertion_tree_words insertions))

block_same : (level : ℕ) (b : Block) → line_words (block_lines level b) ≡ plain_words (block_tree_words b)
block_same level b =
    let lines = map (insertion_line (level + 1)) b.insertions in
    ap (λ (t : List Word). block_head b ++ t) (line_words-append lines (close_line level ∷ []) ∙ ap (λ (t : List Word). t ++ (SignWord CloseBrace ∷ [])) (insertions_same (level + 1) b.insertions))
    ∙ sym (around_same b.line (block_head b) (flat_map insertion_tree_words b.insertions) (plain_words (flat_map insertion_tree_words b.insertions)) (SignWord CloseBrace ∷ []) refl)

blocks_same : (level : ℕ) (blocks : List Block) → line_words (flat_map (block_lines level) blocks) ≡ plain_words (flat_map block_tree_words blocks)
blocks_same level [] = refl
blocks_same level (b ∷ blocks) =
    line_words-append (block_lines level b) (flat_map (block_lines level) blocks)
    ∙ ap₂ (λ (x y : List Word). x ++ y) (block_same level b) (blocks_same level blocks)
    ∙ sym (plain_words-append (block_tree_words b) (flat_map block_tree_words blocks))

-- ---- metrics and constraints

abbrev open_brace : List Word
open_brace = SignWord OpenBrace ∷ []

abbrev close_brace : List Word
close_brace = SignWord CloseBrace ∷ []

blocks_tree_same : (blocks : List Block) → plain_words (blocks_tree_words blocks) ≡ open_brace ++ (plain_words (flat_map block_tree_words blocks) ++ close_brace)
blocks_tree_same blocks = ap (λ (t : List Word). open_brace ++ t)
    (plain_words-append (flat_map block_tree_words blocks) (other_words close_brace) ∙ ap (λ (t : List Word). plain_words (flat_map block_tree_words blocks) ++ t) (goes_words close_brace))

references_same : (names : List (List ℕ)) → line_words (map reference_line names) ≡ flat_map reference_words names
references_same [] = refl
references_same (name ∷ names) = ap (λ (t : List Word). reference_words name ++ t) (references_same names)

-- the words of a metric after its units
metric_tail : (references kind initially blocks : List Word) → references ++ ((kind ++ (initially ++ open_brace)) ++ (blocks ++ (close_brace ++ close_brace))) ≡ (references ++ (kind ++ initially)) ++ ((open_brace ++ (blocks ++ close_brace)) ++ close_brace)
metric_tail references kind initially blocks = simp (append_assoc)

metric_same : (m : Metric) → line_words (metric_lines m) ≡ plain_words (metric_tree_words m)
metric_same m =
    let front = keyword (codes "metric") ∷ NameWord m.name ∷ SignWord OpenBrace ∷ keyword (codes "units") ∷ QuotedWord m.units ∷ SignWord Semicolon ∷ [] in
    let kind = take_kind m in
    let blocks = plain_words (flat_map block_tree_words m.blocks) in
    let references = map reference_line m.constraints in
    let lines = flat_map (block_lines 2) m.blocks in
    ap (λ (t : List Word). front ++ t)
    (line_words-append references ((1, base_words m) ∷ (lines ++ (close_line 1 ∷ close_line 0 ∷ [])))
    ∙ ap₂ (λ (x y : List Word). x ++ (base_words m ++ y)) (references_same m.constraints)
    (line_words-append lines (close_line 1 ∷ close_line 0 ∷ []) ∙ ap (λ (t : List Word). t ++ (close_brace ++ close_brace)) (blocks_same 2 m.blocks))
    ∙ metric_tail (flat_map reference_words m.constraints) kind (initially_words m.initially) blocks)
    ∙ sym (around_same m.line (metric_head m) (blocks_tree_words m.blocks) (open_brace ++ (blocks ++ close_brace)) close_brace (blocks_tree_same m.blocks))
  where
    take_kind : Metric → List Word
    take_kind m = keyword (codes "base") ∷ keyword (codes "is") ∷ keyword (if m.timer then codes "timer" else codes "counter") ∷ []

constraint_same : (c : Constraint) → line_words (constraint_lines c) ≡ plain_words (constraint_tree_words c)
constraint_same c =
    let lines = flat_map (block_lines 1) c.blocks in
    ap (λ (t : List Word). (constraint_head c ++ open_brace) ++ t) (line_words-append lines (close_line 0 ∷ []) ∙ ap (λ (t : List Word). t ++ close_brace) (blocks_same 1 c.blocks))
    ∙ append_assoc (constraint_head c) open_brace (plain_words (flat_map block_tree_words c.blocks) ++ close_brace)
    ∙ sym (plain_words-append (starts c.line (constraint_head c)) (blocks_tree_words c.blocks)
    ∙ ap₂ (λ (x y : List Word). x ++ y) (starts_words c.line (constraint_head c)) (blocks_tree_same c.blocks))

-- ---- the other items

some_same : (level : ℕ) (words : List Word) → line_words (some_line level words) ≡ words
some_same level [] = refl
some_same level (w ∷ words) = append-nil (w ∷ words)

hypothesis_same : (h : Hypothesis) → line_words (hypothesis_lines h) ≡ hypothesis_words h
hypothesis_same h =
    let tested : List LevelLine = (1, keyword (codes "metric") ∷ NameWord h.metric ∷ SignWord Semicolon ∷ []) ∷ (1, keyword (codes "threshold") ∷ NumberWord h.threshold ∷ SignWord Semicolon ∷ []) ∷ [] in
    let ends = some_line 1 (axes_words h.axes) ++ (close_line 0 ∷ []) in
    ap (λ (t : List Word). (keyword (codes "hypothesis") ∷ NameWord h.name ∷ SignWord OpenBrace ∷ []) ++ t)
    (line_words-append (some_line 1 (parent_words h.parent)) (tested ++ ends)
    ∙ ap₂ (λ (x y : List Word). x ++ (line_words tested ++ y)) (some_same 1 (parent_words h.parent))
    (line_words-append (some_line 1 (axes_words h.axes)) (close_line 0 ∷ []) ∙ ap (λ (t : List Word). t ++ close_brace) (some_same 1 (axes_words h.axes))))

one_same : (line : ℕ) (words : List Word) → line_words ((0, words) ∷ []) ≡ plain_words (starts line words)
one_same line words = append-nil words ∙ sym (starts_words line words)

item_same : (i : Item) → line_words (item_lines i) ≡ plain_words (item_tree_words i)
item_same (item.Include i) = one_same i.line (include_words i)
item_same (item.Sync s) = one_same s.line (sync_words s)
item_same (item.Metric m) = metric_same m
item_same (item.Constraint c) = constraint_same c
item_same (item.Hypothesis h) = hypothesis_same h ∙ sym (starts_words h.line (hypothesis_words h))
item_same (item.Search s) = sym (starts_words s.line (search_words s))
item_same (item.Phase p) = one_same p.line (phase_words p)
item_same (item.Wish w) = one_same w.line (wish_words w)

pub items_same : (items : List Item) → line_words (flat_map item_lines items) ≡ plain_words (flat_map item_tree_words items)
items_same [] = refl
items_same (i ∷ items) =
    line_words-append (item_lines i) (flat_map item_lines items)
    ∙ ap₂ (λ (x y : List Word). x ++ y) (item_same i) (items_same items)
    ∙ sym (plain_words-append (item_tree_words i) (flat_map item_tree_words items))
