-- What a text spells has small statements.
use Rattle.std.proofs.Common.{ℕ, List, [], ◌∷◌, ◌++◌, sym, ap, ◌∙◌}
use Rattle.std.specs.List.{flat_map, AllByRecursion}
use Rattle.std.proofs.lemmas.Bool.{leb-true}
use Rattle.pn_text.specs.Words.{Word, is_word}
use Rattle.mdl_ast.specs.Small.{greatest_number, IsSmallRight, IsSmallAction, IsSmall, AreSmall, HasSmall}
use Rattle.mdl_ast.specs.declared.action.Action.{Action}
use Rattle.mdl_ast.specs.declared.action.Action.TheVariants.{Up, Down, Put, Start, Stop}
use Rattle.mdl_ast.specs.declared.action.Condition.{Condition}
use Rattle.mdl_ast.specs.declared.action.RightSide.{RightSide}
use Rattle.mdl_ast.specs.declared.action.RightSide.TheVariants.{Number, Value}
use Rattle.mdl_ast.specs.declared.action.Statement.{Statement}
use Rattle.mdl_ast.specs.declared.block.Block.{Block}
use Rattle.mdl_ast.specs.declared.block.Insertion.{Insertion}
use Rattle.mdl_ast.specs.declared.items.Conf.{Conf}
use Rattle.mdl_ast.specs.declared.items.Item.{Item}
use Rattle.mdl_ast.specs.declared.items.Item.TheVariants as item
use Rattle.mdl_parse.specs.WordsInText.{PlacedWord, TreeWord, Starts, Goes, IsWord, AreWords, Spells, plain_word, other_words, starts, placed_words}
use Rattle.mdl_parse.specs.Grammar.{left_words, right_word, condition_words, action_words, statement_words, statement_tree_words, insertion_head, insertion_tree_words, block_head, block_tree_words, blocks_tree_words}
use Rattle.mdl_parse.specs.ItemGrammar.{metric_head, constraint_head, item_tree_words, conf_tree_words}
use Rattle.mdl_parse.specs.Meaning.{IsConf}
use Rattle.mdl_parse.specs.Shapes.{StatementShaped, InsertionShaped, BlockShaped, BlocksShaped, ItemShaped}
use Rattle.mdl_parse.proofs.Unique.{text_words}

abbrev TreeWordIsWord : TreeWord → Type 0
TreeWordIsWord tree_word = IsWord (plain_word tree_word)

tree_words_are_words : (tree_words : List TreeWord) (words_ahead : List PlacedWord) → Spells tree_words words_ahead → AreWords words_ahead → AllByRecursion TreeWordIsWord tree_words
tree_words_are_words [] words_ahead s w = tt
tree_words_are_words (tree_word ∷ tree_words) [] s w = absurd s
tree_words_are_words (Starts line word ∷ tree_words) (placed ∷ words_ahead) s w = (ap is_word (sym s.0.0) ∙ w.0, tree_words_are_words tree_words words_ahead s.1 w.1)
tree_words_are_words (Goes word ∷ tree_words) (placed ∷ words_ahead) s w = (ap is_word (sym s.0) ∙ w.0, tree_words_are_words tree_words words_ahead s.1 w.1)

-- ---- lists

front : {X : Type 0} (P : X → Type 0) (a b : List X) → AllByRecursion P (a ++ b) → AllByRecursion P a
front P [] b h = tt
front P (x ∷ a) b h = (h.0, front P a b h.1)

back : {X : Type 0} (P : X → Type 0) (a b : List X) → AllByRecursion P (a ++ b) → AllByRecursion P b
back P [] b h = h
back P (x ∷ a) b h = back P a b h.1

-- what the words of each element give
each : {X Y : Type 0} (P : Y → Type 0) (f : X → List Y) (Q R : X → Type 0) → ((x : X) → AllByRecursion P (f x) → Q x → R x)
    → (xs : List X) → AllByRecursion P (flat_map f xs) → AllByRecursion Q xs → AllByRecursion R xs
each P f Q R one [] h q = tt
each P f Q R one (x ∷ xs) h q = (one x (front P (f x) (flat_map f xs) h) q.0, each P f Q R one xs (back P (f x) (flat_map f xs) h) q.1)

-- the same where nothing else is known of the elements
each_alone : {X Y : Type 0} (P : Y → Type 0) (f : X → List Y) (R : X → Type 0) → ((x : X) → AllByRecursion P (f x) → R x)
    → (xs : List X) → AllByRecursion P (flat_map f xs) → AllByRecursion R xs
each_alone P f R one [] h = tt
each_alone P f R one (x ∷ xs) h = (one x (front P (f x) (flat_map f xs) h), each_alone P f R one xs (back P (f x) (flat_map f xs) h))

-- ---- statements

goes_words : (words : List Word) → AllByRecursion TreeWordIsWord (other_words words) → AllByRecursion IsWord words
goes_words [] h = tt
goes_words (word ∷ words) h = (h.0, goes_words words h.1)

starts_words : (line : ℕ) (words : List Word) → AllByRecursion TreeWordIsWord (starts line words) → AllByRecursion IsWord words
starts_words line [] h = tt
starts_words line (word ∷ words) h = (h.0, goes_words words h.1)

small_right : (right : RightSide) → IsWord (right_word right) → IsSmallRight right
small_right (Number n) h = leb-true n greatest_number h
small_right Value h = tt

small_condition : (c : Condition) → AllByRecursion IsWord (condition_words c) → IsSmallRight c.right
small_condition c h = small_right c.right (back IsWord (left_words c.left) _ h.1.1).1.0

small_action : (a : Action) → AllByRecursion IsWord (action_words a) → IsSmallAction a
small_action (Up var) h = tt
small_action (Down var) h = tt
small_action (Put var n) h = leb-true n greatest_number h.1.1.0
small_action (Start var) h = tt
small_action (Stop var) h = tt

small_statement : (s : Statement) → AllByRecursion TreeWordIsWord (statement_tree_words s) → StatementShaped 16 s → IsSmall s
small_statement s h shaped =
    let words = starts_words s.line (statement_words s) h in
    record {
      few = shaped.0;
      rights = each_alone IsWord condition_words (λ c. IsSmallRight c.right) small_condition s.conds (front IsWord (flat_map condition_words s.conds) (action_words s.act) words);
      act = small_action s.act (back IsWord (flat_map condition_words s.conds) (action_words s.act) words);
    }

-- ---- blocks

small_insertion : (i : Insertion) → AllByRecursion TreeWordIsWord (insertion_tree_words i) → InsertionShaped 16 i → AllByRecursion IsSmall i.stmts
small_insertion i h shaped =
    each TreeWordIsWord statement_tree_words (StatementShaped 16) IsSmall small_statement i.stmts
    (front TreeWordIsWord (flat_map statement_tree_words i.stmts) _ (back TreeWordIsWord (starts i.line (insertion_head i)) _ h)) shaped

small_block : (b : Block) → AllByRecursion TreeWordIsWord (block_tree_words b) → BlockShaped 16 b → AllByRecursion (λ i. AllByRecursion IsSmall i.stmts) b.insertions
small_block b h shaped =
    each TreeWordIsWord insertion_tree_words (InsertionShaped 16) (λ i. AllByRecursion IsSmall i.stmts) small_insertion b.insertions
    (front TreeWordIsWord (flat_map insertion_tree_words b.insertions) _ (back TreeWordIsWord (starts b.line (block_head b)) _ h)) shaped.1

small_blocks : (blocks : List Block) → AllByRecursion TreeWordIsWord (blocks_tree_words blocks) → BlocksShaped 16 blocks → AreSmall blocks
small_blocks blocks h shaped =
    each TreeWordIsWord block_tree_words (BlockShaped 16) (λ b. AllByRecursion (λ i. AllByRecursion IsSmall i.stmts) b.insertions) small_block blocks
    (front TreeWordIsWord (flat_map block_tree_words blocks) _ h.1) shaped

-- ---- items

small_item : (i : Item) → AllByRecursion TreeWordIsWord (item_tree_words i) → ItemShaped 16 i → HasSmall i
small_item (item.Include i) h shaped = tt
small_item (item.Sync s) h shaped = tt
small_item (item.Metric m) h shaped = small_blocks m.blocks (front TreeWordIsWord (blocks_tree_words m.blocks) _ (back TreeWordIsWord (starts m.line (metric_head m)) _ h)) shaped
small_item (item.Constraint c) h shaped = small_blocks c.blocks (back TreeWordIsWord (starts c.line (constraint_head c)) _ h) shaped
small_item (item.Hypothesis x) h shaped = tt
small_item (item.Search s) h shaped = tt
small_item (item.Phase p) h shaped = tt
small_item (item.Wish w) h shaped = tt

pub small_conf : (text : List ℕ) (c : Conf) → IsConf text c → AllByRecursion HasSmall c.items
small_conf text c is =
    each TreeWordIsWord item_tree_words (ItemShaped 16) HasSmall small_item c.items
    (tree_words_are_words (conf_tree_words c) (placed_words text) is.spelled.words (text_words text)) is.spelled.shaped
