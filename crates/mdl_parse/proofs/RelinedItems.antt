-- The items of a configuration take the lines of other words.
use Rattle.std.proofs.Common.{◌≡◌, ℕ, List, [], ◌∷◌, ◌++◌, map, refl, sym, ap, ap₂, subst, ◌∙◌}
use Rattle.std.specs.List.{flat_map}
use Rattle.pn_text.specs.Words.{Word, SignWord}
use Rattle.pn_text.specs.declared.token.Sign.TheVariants.{OpenBrace, CloseBrace, CloseCode}
use Rattle.mdl_ast.specs.declared.action.Statement.{Statement}
use Rattle.mdl_ast.specs.declared.block.Insertion.{Insertion}
use Rattle.mdl_ast.specs.declared.block.Block.{Block}
use Rattle.mdl_ast.specs.declared.metric.Constraint.{Constraint}
use Rattle.mdl_ast.specs.declared.items.Item.TheVariants as item
use Rattle.mdl_parse.specs.WordsInText.{PlacedWord, TreeWord, other_words, starts, Spells}
use Rattle.mdl_parse.specs.Steps.{line_at}
use Rattle.mdl_parse.specs.Grammar.{statement_words, statement_tree_words, insertion_head, insertion_tree_words, block_head, block_tree_words, blocks_tree_words}
use Rattle.mdl_parse.specs.ItemGrammar.{metric_head, metric_tree_words, constraint_head, constraint_tree_words, hypothesis_words, include_words, sync_words, search_words, phase_words, wish_words, item_tree_words}
use Rattle.mdl_parse.specs.Shapes.{StatementShaped, InsertionShaped, BlockShaped, BlocksShaped, ItemShaped}
use Rattle.mdl_parse.specs.ButLines.{statement_but_line, insertion_but_lines, block_but_lines, metric_but_lines, constraint_but_lines, item_but_lines}
use Rattle.mdl_parse.proofs.Rules.{Spells-append}
use Rattle.mdl_parse.proofs.Relining.{words_at, plain_words, goes_words, starts_words, plain_words-append, goes_spelled, starts_spelled, halves, Relines, each, all_relined}

statement_relined : Relines statement_tree_words statement_but_line StatementShaped
statement_relined s front e = record {
  again = record { line = line_at front; conds = s.conds; act = s.act };
  spelled = starts_spelled (statement_words s) front (e ∙ starts_words s.line (statement_words s));
  same = refl;
  shaped = λ n h. h;
}

-- ---- a head, parts, and words that close

abbrev around : ℕ → List Word → List TreeWord → List Word → List TreeWord
around line head inner close = starts line head ++ (inner ++ other_words close)

around_words : (line : ℕ) (head : List Word) (inner : List TreeWord) (close : List Word) → plain_words (around line head inner close) ≡ head ++ (plain_words inner ++ close)
around_words line head inner close =
    plain_words-append (starts line head) (inner ++ other_words close)
    ∙ ap₂ (λ (x y : List Word). x ++ y) (starts_words line head)
    (plain_words-append inner (other_words close) ∙ ap (λ (t : List Word). plain_words inner ++ t) (goes_words close))

around_spelled : (head : List Word) (inner : List TreeWord) (close : List Word) (f g h : List PlacedWord) → words_at f ≡ head → Spells inner g → words_at h ≡ close → Spells (around (line_at f) head inner close) (f ++ (g ++ h))
around_spelled head inner close f g h first spelled last =
    Spells-append (starts (line_at f) head) (inner ++ other_words close) f (g ++ h) (starts_spelled head f first)
    (Spells-append inner (other_words close) g h spelled (goes_spelled close h last))

insertion_relined : Relines insertion_tree_words insertion_but_lines InsertionShaped
insertion_relined i front e =
    let close = SignWord CloseCode ∷ [] in
    let inner = flat_map statement_tree_words i.stmts in
    let h = halves (insertion_head i) (plain_words inner ++ close) front (e ∙ around_words i.line (insertion_head i) inner close) in
    let k = halves (plain_words inner) close h.second h.second_words in
    let x = all_relined statement_tree_words statement_but_line StatementShaped statement_relined i.stmts k.first k.first_words in
    let whole : front ≡ h.first ++ (k.first ++ k.second) = h.whole ∙ ap (λ (t : List PlacedWord). h.first ++ t) k.whole in
    record {
      again = record { line = line_at h.first; prepend = i.prepend; kind = i.kind; constrained = i.constrained; stmts = x.again };
      spelled = subst (Spells (around (line_at h.first) (insertion_head i) (flat_map statement_tree_words x.again) close)) (sym whole)
          (around_spelled (insertion_head i) (flat_map statement_tree_words x.again) close h.first k.first k.second h.first_words x.spelled k.second_words);
      same = ap (λ (t : List Statement). record { line = 0; prepend = i.prepend; kind = i.kind; constrained = i.constrained; stmts = t }) x.same;
      shaped = λ n s. x.shaped n s;
    }

block_relined : Relines block_tree_words block_but_lines BlockShaped
block_relined b front e =
    let close = SignWord CloseBrace ∷ [] in
    let inner = flat_map insertion_tree_words b.insertions in
    let h = halves (block_head b) (plain_words inner ++ close) front (e ∙ around_words b.line (block_head b) inner close) in
    let k = halves (plain_words inner) close h.second h.second_words in
    let x = all_relined insertion_tree_words insertion_but_lines InsertionShaped insertion_relined b.insertions k.first k.first_words in
    let whole : front ≡ h.first ++ (k.first ++ k.second) = h.whole ∙ ap (λ (t : List PlacedWord). h.first ++ t) k.whole in
    record {
      again = record { line = line_at h.first; set = b.set; insertions = x.again };
      spelled = subst (Spells (around (line_at h.first) (block_head b) (flat_map insertion_tree_words x.again) close)) (sym whole)
          (around_spelled (block_head b) (flat_map insertion_tree_words x.again) close h.first k.first k.second h.first_words x.spelled k.second_words);
      same = ap (λ (t : List Insertion). record { line = 0; set = b.set; insertions = t }) x.same;
      shaped = λ n s. (s.0, x.shaped n s.1);
    }

-- ---- the blocks of a metric or a constraint

abbrev open_brace : List Word
open_brace = SignWord OpenBrace ∷ []

abbrev close_brace : List Word
close_brace = SignWord CloseBrace ∷ []

blocks_words : (blocks : List Block) → plain_words (blocks_tree_words blocks) ≡ open_brace ++ (plain_words (flat_map block_tree_words blocks) ++ close_brace)
blocks_words blocks = ap (λ (t : List Word). open_brace ++ t)
    (plain_words-append (flat_map block_tree_words blocks) (other_words close_brace) ∙ ap (λ (t : List Word). plain_words (flat_map block_tree_words blocks) ++ t) (goes_words close_brace))

blocks_relined : Relines blocks_tree_words (map block_but_lines) BlocksShaped
blocks_relined blocks front e =
    let inner = flat_map block_tree_words blocks in
    let h = halves open_brace (plain_words inner ++ close_brace) front (e ∙ blocks_words blocks) in
    let k = halves (plain_words inner) close_brace h.second h.second_words in
    let x = all_relined block_tree_words block_but_lines BlockShaped block_relined blocks k.first k.first_words in
    let whole : front ≡ h.first ++ (k.first ++ k.second) = h.whole ∙ ap (λ (t : List PlacedWord). h.first ++ t) k.whole in
    record {
      again = x.again;
      spelled = subst (Spells (blocks_tree_words x.again)) (sym whole)
          (Spells-append (other_words open_brace) (flat_map block_tree_words x.again ++ other_words close_brace) h.first (k.first ++ k.second) (goes_spelled open_brace h.first h.first_words)
          (Spells-append (flat_map block_tree_words x.again) (other_words close_brace) k.first k.second x.spelled (goes_spelled close_brace k.second k.second_words)));
      same = x.same;
      shaped = x.shaped;
    }

-- ---- items

metric_relined : Relines metric_tree_words metric_but_lines (λ n m. BlocksShaped n m.blocks)
metric_relined m front e =
    let inner = blocks_tree_words m.blocks in
    let h = halves (metric_head m) (plain_words inner ++ close_brace) front (e ∙ around_words m.line (metric_head m) inner close_brace) in
    let k = halves (plain_words inner) close_brace h.second h.second_words in
    let x = blocks_relined m.blocks k.first k.first_words in
    let whole : front ≡ h.first ++ (k.first ++ k.second) = h.whole ∙ ap (λ (t : List PlacedWord). h.first ++ t) k.whole in
    record {
      again = record { line = line_at h.first; name = m.name; units = m.units; constraints = m.constraints; timer = m.timer; initially = m.initially; blocks = x.again };
      spelled = subst (Spells (around (line_at h.first) (metric_head m) (blocks_tree_words x.again) close_brace)) (sym whole)
          (around_spelled (metric_head m) (blocks_tree_words x.again) close_brace h.first k.first k.second h.first_words x.spelled k.second_words);
      same = ap (λ (t : List Block). record { line = 0; name = m.name; units = m.units; constraints = m.constraints; timer = m.timer; initially = m.initially; blocks = t }) x.same;
      shaped = λ n s. x.shaped n s;
    }

constraint_words : (c : Constraint) → plain_words (constraint_tree_words c) ≡ constraint_head c ++ plain_words (blocks_tree_words c.blocks)
constraint_words c = plain_words-append (starts c.line (constraint_head c)) (blocks_tree_words c.blocks)
    ∙ ap (λ (t : List Word). t ++ plain_words (blocks_tree_words c.blocks)) (starts_words c.line (constraint_head c))

constraint_relined : Relines constraint_tree_words constraint_but_lines (λ n c. BlocksShaped n c.blocks)
constraint_relined c front e =
    let h = halves (constraint_head c) (plain_words (blocks_tree_words c.blocks)) front (e ∙ constraint_words c) in
    let x = blocks_relined c.blocks h.second h.second_words in
    record {
      again = record { line = line_at h.first; name = c.name; path = c.path; replace = c.replace; initially = c.initially; blocks = x.again };
      spelled = subst (Spells (starts (line_at h.first) (constraint_head c) ++ blocks_tree_words x.again)) (sym h.whole)
          (Spells-append (starts (line_at h.first) (constraint_head c)) (blocks_tree_words x.again) h.first h.second (starts_spelled (constraint_head c) h.first h.first_words) x.spelled);
      same = ap (λ (t : List Block). record { line = 0; name = c.name; path = c.path; replace = c.replace; initially = c.initially; blocks = t }) x.same;
      shaped = λ n s. x.shaped n s;
    }

item_relined : Relines item_tree_words item_but_lines ItemShaped
item_relined (item.Include i) front e = record {
  again = item.Include (record { line = line_at front; metrics = i.metrics });
  spelled = starts_spelled (include_words i) front (e ∙ starts_words i.line (include_words i));
  same = refl;
  shaped = λ n h. h;
}
item_relined (item.Sync s) front e = record {
  again = item.Sync (record { line = line_at front; name = s.name });
  spelled = starts_spelled (sync_words s) front (e ∙ starts_words s.line (sync_words s));
  same = refl;
  shaped = λ n h. h;
}
item_relined (item.Metric m) front e =
    let x = metric_relined m front e in
    record { again = item.Metric x.again; spelled = x.spelled; same = ap item.Metric x.same; shaped = x.shaped }
item_relined (item.Constraint c) front e =
    let x = constraint_relined c front e in
    record { again = item.Constraint x.again; spelled = x.spelled; same = ap item.Constraint x.same; shaped = x.shaped }
item_relined (item.Hypothesis h) front e = record {
  again = item.Hypothesis (record { line = line_at front; name = h.name; parent = h.parent; metric = h.metric; threshold = h.threshold; axes = h.axes });
  spelled = starts_spelled (hypothesis_words h) front (e ∙ starts_words h.line (hypothesis_words h));
  same = refl;
  shaped = λ n k. k;
}
item_relined (item.Search s) front e = record {
  again = item.Search (record { line = line_at front; window = s.window; cost = s.cost; observed = s.observed });
  spelled = starts_spelled (search_words s) front (e ∙ starts_words s.line (search_words s));
  same = refl;
  shaped = λ n h. h;
}
item_relined (item.Phase p) front e = record {
  again = item.Phase (record { line = line_at front; name = p.name; at = p.at });
  spelled = starts_spelled (phase_words p) front (e ∙ starts_words p.line (phase_words p));
  same = refl;
  shaped = λ n h. h;
}
item_relined (item.Wish w) front e = record {
  again = item.Wish (record { line = line_at front; at = w.at; show = w.show; metric = w.metric; focus = w.focus });
  spelled = starts_spelled (wish_words w) front (e ∙ starts_words w.line (wish_words w));
  same = refl;
  shaped = λ n h. h;
}

pub items_relined : Relines (flat_map item_tree_words) (map item_but_lines) (each ItemShaped)
items_relined = all_relined item_tree_words item_but_lines ItemShaped item_relined
