-- The readers of insertions and blocks.
use Rattle.std.proofs.Common.{◌≡◌, ℕ, Bool, true, false, List, [], ◌∷◌, ◌++◌, Option, Some, None, Ok, refl, sym, ap, ◌∙◌, codes, cond}
use Rattle.std.specs.Prelude.{is_some}
use Rattle.std.specs.List.{flat_map}
use Rattle.std.proofs.lemmas.List.{append_assoc}
use Rattle.pn_text.specs.Words.{Word, NameWord, SignWord}
use Rattle.pn_text.specs.declared.token.Sign.TheVariants.{OpenBracket, CloseBracket, OpenBrace, CloseBrace, OpenCode, CloseCode, Comma}
use Rattle.mdl_ast.specs.declared.action.VarName.TheVariants.{Named, TheMetric}
use Rattle.mdl_ast.specs.declared.action.Condition.{Condition}
use Rattle.mdl_ast.specs.declared.action.Action.{Action}
use Rattle.mdl_ast.specs.declared.action.Action.TheVariants as act
use Rattle.mdl_ast.specs.declared.action.Statement.{Statement}
use Rattle.mdl_ast.specs.declared.block.Set.{Set}
use Rattle.mdl_ast.specs.declared.block.Set.TheVariants as set
use Rattle.mdl_ast.specs.declared.block.EventKind.{EventKind}
use Rattle.mdl_ast.specs.declared.block.Insertion.{Insertion}
use Rattle.mdl_parse.specs.WordsInText.{PlacedWord, TreeWord, Starts, Goes, other_words, IsWord}
use Rattle.mdl_parse.specs.Picks.{is_sign, is_var, is_insertion}
use Rattle.mdl_parse.specs.Steps.{◌>>=◌, is_first, option_at, many_at}
use Rattle.mdl_parse.specs.Readers.{keyword_at, whole_at}
use Rattle.mdl_parse.specs.Parts.{statement_at, flag_at, insertion_at, another_at, names_at, named_at, set_at, block_at, blocks_at}
use Rattle.mdl_parse.specs.Grammar.{keyword, statement_tree_words, flag_words, event_name, insertion_tree_words, names_words, set_words, block_tree_words, blocks_tree_words}
use Rattle.mdl_parse.specs.Shapes.{StatementShaped, InsertionShaped, HasNames, SetShaped, BlockShaped, BlocksShaped, is_keyword}
use Rattle.mdl_parse.proofs.Rules.{StartsAs, never}
use Rattle.mdl_parse.proofs.Readers.{Reads, closed, any, plainly, one as one_word, pair_ok}
use Rattle.mdl_parse.proofs.Options.{option_reads, option_on, option_ok, option_tree_words, of_kind, either_reads}
use Rattle.mdl_parse.proofs.Loops.{Loop, loops}
use Rattle.mdl_parse.proofs.Repeats.{many_reads, all_ok, always}
use Rattle.mdl_parse.proofs.Bounded.{lined_reads}
use Rattle.mdl_parse.proofs.Combine.{both, both_open, bind_assoc, bind_id, made}
use Rattle.mdl_parse.proofs.LeafRules.{keyword_reads, sign_reads, start_reads, name_reads, keyword-is}
use Rattle.mdl_parse.proofs.ChoiceRules.{choice_reads, choice_word, event_reads, whole_reads, is_named, whole_word}
use Rattle.mdl_parse.proofs.StatementRules.{statement_reads, goes-append, goes-flat_map}

pub goes_behind : (a b : List Word) (rest : List TreeWord) → other_words (a ++ b) ++ rest ≡ other_words a ++ (other_words b ++ rest)
goes_behind a b rest = ap (λ (t : List TreeWord). t ++ rest) (goes-append a b) ∙ append_assoc (other_words a) (other_words b) rest

-- ---- statements of an insertion

statement_starts : (line : ℕ) (conds : List Condition) (a : Action) → StartsAs is_var true (statement_tree_words (record { line = line; conds = conds; act = a }))
statement_starts line [] (act.Up (Named name)) = refl
statement_starts line [] (act.Up TheMetric) = refl
statement_starts line [] (act.Down (Named name)) = refl
statement_starts line [] (act.Down TheMetric) = refl
statement_starts line [] (act.Put (Named name) n) = refl
statement_starts line [] (act.Put TheMetric n) = refl
statement_starts line [] (act.Start var) = refl
statement_starts line [] (act.Stop var) = refl
statement_starts line (c ∷ conds) a = refl

pub statements_start : (n : ℕ) (s : Statement) → StatementShaped n s → StartsAs is_var true (statement_tree_words s)
statements_start n s h = statement_starts s.line s.conds s.act

pub statements_reads : Reads (λ n. many_at is_var (statement_at n)) (flat_map statement_tree_words) (all_ok StatementShaped) (always is_var)
statements_reads = many_reads is_var statement_at statement_tree_words StatementShaped statement_reads statements_start

pub statements_loop : (n : ℕ) → Loop is_var (statement_at n)
statements_loop n = loops is_var statement_at statement_tree_words StatementShaped statement_reads statements_start n

-- ---- a keyword that may be there

abbrev pub flag_on : List ℕ → Bool → Word → Bool
flag_on text true = never
flag_on text false = is_keyword text

pub flag_reads : (text : List ℕ) → IsWord (keyword text) → Reads (λ n. flag_at text) (λ b. other_words (flag_words text b)) any (flag_on text)
unfolding flag_at option_at
flag_reads text good = made (option_reads (is_keyword text) (λ n. keyword_at text) (one_word (λ x. keyword text)) any (keyword_reads text good) (λ n a h. keyword-is text))
    is_some (λ n. flag_at text) (λ b. other_words (flag_words text b)) any (flag_on text)
    (λ n words_ahead. same words_ahead (is_first (is_keyword text) words_ahead)) tree_words (λ n a h. on a) (λ n a h. tt) back (λ n k b le h. tt)
  where
    same : (words_ahead : List PlacedWord) (b : Bool) → cond b (keyword_at text words_ahead >>= λ x. Ok (true, x.1)) (Ok (false, words_ahead)) ≡ (cond b (keyword_at text words_ahead >>= λ x. Ok (Some x.0, x.1)) (Ok (None, words_ahead)) >>= λ x. Ok (is_some x.0, x.1))
    same words_ahead true = sym (bind_assoc (keyword_at text words_ahead) (λ x. Ok (Some x.0, x.1)) (λ x. Ok (is_some x.0, x.1)))
    same words_ahead false = refl

    tree_words : (n : ℕ) (a : Option (Unit {0})) → option_ok any n a → other_words (flag_words text (is_some a)) ≡ option_tree_words (one_word (λ x. keyword text)) a
    tree_words n None h = refl
    tree_words n (Some x) h = refl

    on : (a : Option (Unit {0})) → flag_on text (is_some a) ≡ option_on (is_keyword text) a
    on None = refl
    on (Some x) = refl

    back : (n : ℕ) (b : Bool) → Unit {0} → (a : Option (Unit {0})) × option_ok any n a × (is_some a ≡ b)
    back n true h = (Some tt, tt, refl)
    back n false h = (None, tt, refl)

-- ---- insertions

pub insertion_reads : Reads insertion_at insertion_tree_words InsertionShaped closed
unfolding insertion_at
insertion_reads = made (lined_reads _ _ _ _
    (both (choice_reads (codes "prepend") (codes "append") refl refl) (both event_reads (both_open (flag_reads (codes "constrained") refl)
    (both (sign_reads OpenCode) (both_open statements_reads (sign_reads CloseCode) (λ n a b h. refl))) first)))
    (λ n p h. tt))
    (λ p. record { line = p.0; prepend = p.1.0; kind = p.1.1.0; constrained = p.1.1.1.0; stmts = p.1.1.1.1.1.0 }) insertion_at insertion_tree_words InsertionShaped closed
    (λ n words_ahead. simp bind_assoc)
    (λ n p h. tree_words p.0 p.1.0 p.1.1.0 p.1.1.1.0 p.1.1.1.1.1.0) (λ n a h. refl) (λ n p h. h.1.1.1.1.0)
    (λ n i h. ((i.line, (i.prepend, (i.kind, (i.constrained, (tt, (i.stmts, tt)))))), (tt, (tt, (tt, (tt, (h, tt))))), refl))
    (λ n k i le h. statements_reads.wider n k i.stmts le h)
  where
    first : (n : ℕ) (a : Bool) (b : Unit {0} × (List Statement × Unit {0})) → pair_ok any (pair_ok (all_ok StatementShaped) any) n b → StartsAs (flag_on (codes "constrained") a) false (Goes (SignWord OpenCode) ∷ (flat_map statement_tree_words b.1.0 ++ (Goes (SignWord CloseCode) ∷ [])))
    first n true b h = refl
    first n false b h = refl

    tree_words : (line : ℕ) (prepend : Bool) (kind : EventKind) (constrained : Bool) (stmts : List Statement)
        → insertion_tree_words (record { line = line; prepend = prepend; kind = kind; constrained = constrained; stmts = stmts })
        ≡ Starts line (choice_word (codes "prepend") (codes "append") prepend) ∷ Goes (keyword (event_name kind)) ∷ (other_words (flag_words (codes "constrained") constrained)
        ++ (Goes (SignWord OpenCode) ∷ (flat_map statement_tree_words stmts ++ (Goes (SignWord CloseCode) ∷ []))))
    tree_words line prepend kind true stmts = refl
    tree_words line prepend kind false stmts = refl

pub insertion_starts : (n : ℕ) (i : Insertion) → InsertionShaped n i → StartsAs is_insertion true (insertion_tree_words i)
insertion_starts n i h = go i.prepend
  where
    go : (prepend : Bool) → is_insertion (choice_word (codes "prepend") (codes "append") prepend) ≡ true
    go true = refl
    go false = refl

pub insertions_reads : Reads (λ n. many_at is_insertion (insertion_at n)) (flat_map insertion_tree_words) (all_ok InsertionShaped) (always is_insertion)
insertions_reads = many_reads is_insertion insertion_at insertion_tree_words InsertionShaped insertion_reads insertion_starts

pub insertions_loop : (n : ℕ) → Loop is_insertion (insertion_at n)
insertions_loop n = loops is_insertion insertion_at insertion_tree_words InsertionShaped insertion_reads insertion_starts n

-- ---- names

abbrev pub another_words : List ℕ → List Word
another_words name = SignWord Comma ∷ NameWord name ∷ []

abbrev pub another_tree_words : List ℕ → List TreeWord
another_tree_words name = other_words (another_words name)

pub another_reads : Reads (λ n. another_at) another_tree_words any closed
unfolding another_at
another_reads = made (both (sign_reads Comma) name_reads) (λ p. p.1) (λ n. another_at) another_tree_words any closed
    (λ n words_ahead. simp bind_assoc) (λ n a h. refl) (λ n a h. refl) (λ n a h. tt) (λ n b h. ((tt, b), (tt, tt), refl)) (λ n k b le h. tt)

pub others_reads : Reads (λ n. many_at (is_sign Comma) another_at) (flat_map another_tree_words) (all_ok any) (always (is_sign Comma))
others_reads = many_reads (is_sign Comma) (λ n. another_at) another_tree_words any another_reads (λ n a h. refl)

pub names_loop : Loop (is_sign Comma) another_at
names_loop = loops (is_sign Comma) (λ n. another_at) another_tree_words any another_reads (λ n a h. refl) 0

abbrev pub names_tree_words : List (List ℕ) → List TreeWord
names_tree_words names = other_words (names_words names)

pub all_any : {A : Type 0} (n : ℕ) (names : List A) → all_ok any n names
all_any n [] = tt
all_any n (name ∷ names) = (tt, all_any n names)

pub names_reads : Reads (λ n. names_at) names_tree_words (plainly HasNames) (always (is_sign Comma))
unfolding names_at
names_reads = made (both name_reads others_reads) (λ p. p.0 ∷ p.1) (λ n. names_at) names_tree_words (plainly HasNames) (always (is_sign Comma))
    (λ n words_ahead. simp bind_assoc) (λ n p h. ap (λ (t : List TreeWord). Goes (NameWord p.0) ∷ t) (goes-flat_map another_words p.1)) (λ n a h. refl) (λ n a h. tt) back (λ n k b le h. h)
  where
    back : (n : ℕ) (b : List (List ℕ)) → HasNames b → (a : List ℕ × List (List ℕ)) × (Unit {0} × all_ok any n a.1) × (a.0 ∷ a.1 ≡ b)
    back n [] h = absurd h
    back n (name ∷ names) h = ((name, names), (tt, all_any n names), refl)

-- ---- sets

abbrev set_tree_words : Set → List TreeWord
set_tree_words s = other_words (set_words s)

abbrev OfSet : Bool → ℕ → Set → Type 0
OfSet b = of_kind is_named (plainly SetShaped) b

named_reads : Reads (λ n. named_at) set_tree_words (OfSet true) closed
unfolding named_at
named_reads = made (both (sign_reads OpenBracket) (both_open names_reads (sign_reads CloseBracket) (λ n a b h. refl))) (λ p. set.Names p.1.0) (λ n. named_at) set_tree_words (OfSet true) closed
    (λ n words_ahead. simp bind_assoc) (λ n p h. ap (λ (t : List TreeWord). Goes (SignWord OpenBracket) ∷ t) (goes-append (names_words p.1.0) (SignWord CloseBracket ∷ []))) (λ n a h. refl) (λ n p h. (refl, h.1.0)) back (λ n k b le h. h)
  where
    back : (n : ℕ) (b : Set) → OfSet true n b → (a : Unit {0} × (List (List ℕ) × Unit {0})) × (Unit {0} × (HasNames a.1.0 × Unit {0})) × (set.Names a.1.0 ≡ b)
    back n (set.Names names) h = ((tt, (names, tt)), (tt, (h.1, tt)), refl)
    back n b h = absurd (let e = h.0 in cc)

wholly_reads : Reads (λ n. whole_at) set_tree_words (OfSet false) closed
wholly_reads = made whole_reads (λ s. s) (λ n. whole_at) set_tree_words (OfSet false) closed
    (λ n words_ahead. bind_id (whole_at words_ahead)) tree_words (λ n a h. refl) (λ n a h. h) (λ n b h. (b, h, refl)) (λ n k b le h. h)
  where
    tree_words : (n : ℕ) (a : Set) → OfSet false n a → set_tree_words a ≡ one_word whole_word a
    tree_words n set.Focus h = refl
    tree_words n set.All h = refl
    tree_words n (set.Names names) h = absurd (let e = h.0 in cc)

pub set_reads : Reads (λ n. set_at) set_tree_words (plainly SetShaped) closed
unfolding set_at
set_reads = either_reads (is_sign OpenBracket) is_named named_reads wholly_reads starts
  where
    starts : (n : ℕ) (a : Set) → SetShaped a → StartsAs (is_sign OpenBracket) (is_named a) (set_tree_words a)
    starts n set.Focus h = refl
    starts n set.All h = refl
    starts n (set.Names names) h = refl

-- ---- blocks

pub block_reads : Reads block_at block_tree_words BlockShaped closed
unfolding block_at
block_reads = made (both (start_reads (codes "foreach") refl) (both (keyword_reads (codes "func") refl) (both (keyword_reads (codes "in") refl) (both set_reads
    (both (sign_reads OpenBrace) (both_open insertions_reads (sign_reads CloseBrace) (λ n a b h. refl)))))))
    (λ p. record { line = p.0; set = p.1.1.1.0; insertions = p.1.1.1.1.1.0 }) block_at block_tree_words BlockShaped closed
    (λ n words_ahead. simp bind_assoc)
    (λ n p h. tree_words p.0 p.1.1.1.0 p.1.1.1.1.1.0) (λ n a h. refl) (λ n p h. (h.1.1.1.0, h.1.1.1.1.1.0))
    (λ n b h. ((b.line, (tt, (tt, (b.set, (tt, (b.insertions, tt)))))), (tt, (tt, (tt, (h.0, (tt, (h.1, tt)))))), refl))
    (λ n k b le h. (h.0, insertions_reads.wider n k b.insertions le h.1))
  where
    tree_words : (line : ℕ) (s : Set) (insertions : List Insertion) → block_tree_words (record { line = line; set = s; insertions = insertions })
        ≡ Starts line (keyword (codes "foreach")) ∷ Goes (keyword (codes "func")) ∷ Goes (keyword (codes "in"))
        ∷ (set_tree_words s ++ (Goes (SignWord OpenBrace) ∷ (flat_map insertion_tree_words insertions ++ (Goes (SignWord CloseBrace) ∷ []))))
    tree_words line s insertions = ap (λ (t : List TreeWord). Starts line (keyword (codes "foreach")) ∷ Goes (keyword (codes "func")) ∷ Goes (keyword (codes "in")) ∷ t)
        (goes_behind (set_words s) (SignWord OpenBrace ∷ []) (flat_map insertion_tree_words insertions ++ (Goes (SignWord CloseBrace) ∷ [])))

pub all_blocks_reads : Reads (λ n. many_at (is_keyword (codes "foreach")) (block_at n)) (flat_map block_tree_words) (all_ok BlockShaped) (always (is_keyword (codes "foreach")))
all_blocks_reads = many_reads (is_keyword (codes "foreach")) block_at block_tree_words BlockShaped block_reads (λ n b h. refl)

pub blocks_loop : (n : ℕ) → Loop (is_keyword (codes "foreach")) (block_at n)
blocks_loop n = loops (is_keyword (codes "foreach")) block_at block_tree_words BlockShaped block_reads (λ n b h. refl) n

pub blocks_reads : Reads blocks_at blocks_tree_words BlocksShaped closed
unfolding blocks_at
blocks_reads = made (both (sign_reads OpenBrace) (both_open all_blocks_reads (sign_reads CloseBrace) (λ n a b h. refl))) (λ p. p.1.0) blocks_at blocks_tree_words BlocksShaped closed
    (λ n words_ahead. simp bind_assoc) (λ n p h. refl) (λ n a h. refl) (λ n p h. h.1.0) (λ n b h. ((tt, (b, tt)), (tt, (h, tt)), refl)) (λ n k b le h. all_blocks_reads.wider n k b le h)
