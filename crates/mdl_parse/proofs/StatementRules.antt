-- The readers of statements.
use Rattle.std.proofs.Common.{◌≡◌, ℕ, false, List, [], ◌∷◌, ◌++◌, Ok, Err, refl, ap, ◌∙◌, arith}
use Rattle.std.specs.List.{flat_map}
use Rattle.pn_text.specs.Words.{Word}
use Rattle.mdl_ast.specs.declared.action.Condition.{Condition}
use Rattle.mdl_ast.specs.declared.action.Action.{Action}
use Rattle.mdl_ast.specs.declared.action.Action.TheVariants as act
use Rattle.mdl_parse.specs.WordsInText.{PlacedWord, TreeWord, Goes, other_words, starts}
use Rattle.mdl_parse.specs.Steps.{Read, ◌>>=◌}
use Rattle.mdl_parse.specs.Parts.{conditions_at, statement_at}
use Rattle.mdl_parse.specs.Grammar.{condition_words, action_words, statement_tree_words}
use Rattle.mdl_parse.specs.Shapes.{ActionShaped, StatementShaped, is_if}
use Rattle.mdl_parse.proofs.Rules.{StartsAs, first-Misses}
use Rattle.mdl_parse.proofs.Readers.{Reads, closed, plainly, pair_at, pair_tree_words, pair_ok, pair_on}
use Rattle.mdl_parse.proofs.Bounded.{few, lined_at, lined_reads, IsUnlined, on_line}
use Rattle.mdl_parse.proofs.Combine.{both_open, bind_assoc, made}
use Rattle.mdl_parse.proofs.ConditionRules.{condition_tree_words, conditions_reads}
use Rattle.mdl_parse.proofs.ActionRules.{action_tree_words, opening_action_at, action_reads, action_opens}

-- ---- statements

pub goes-append : (a b : List Word) → other_words (a ++ b) ≡ other_words a ++ other_words b
goes-append [] b = refl
goes-append (x ∷ a) b = ap (λ (t : List TreeWord). Goes x ∷ t) (goes-append a b)

pub starts-goes : (line : ℕ) (words : List Word) → starts line words ≡ on_line line (other_words words)
starts-goes line [] = refl
starts-goes line (x ∷ words) = refl

pub goes-flat_map : {A : Type 0} (words : A → List Word) (parts : List A) → other_words (flat_map words parts) ≡ flat_map (λ a. other_words (words a)) parts
goes-flat_map words [] = refl
goes-flat_map words (a ∷ parts) = goes-append (words a) (flat_map words parts) ∙ ap (λ (t : List TreeWord). other_words (words a) ++ t) (goes-flat_map words parts)

statement_unlined : (conds : List Condition) (a : Action) → IsUnlined (flat_map condition_tree_words conds ++ action_tree_words a)
statement_unlined [] (act.Up var) = tt
statement_unlined [] (act.Down var) = tt
statement_unlined [] (act.Put var n) = tt
statement_unlined [] (act.Start var) = tt
statement_unlined [] (act.Stop var) = tt
statement_unlined (c ∷ conds) a = tt

pub statement_reads : Reads statement_at statement_tree_words StatementShaped closed
unfolding statement_at
statement_reads = made (lined_reads r m ok (pair_on closed) (both_open conditions_reads action_reads first) (λ n p h. statement_unlined p.0 p.1))
    (λ p. record { line = p.0; conds = p.1.0; act = p.1.1 }) statement_at statement_tree_words StatementShaped closed
    same
    (λ n p h. tree_words p.0 p.1.0 p.1.1) (λ n a h. refl) (λ n p h. h) (λ n s h. ((s.line, (s.conds, s.act)), h, refl)) (λ n k s le h. (omega (arith, h.0), h.1))
  where
    r : ℕ → List PlacedWord → Read (List Condition × Action)
    r = pair_at conditions_at (λ n. opening_action_at)

    m : List Condition × Action → List TreeWord
    m = pair_tree_words (flat_map condition_tree_words) action_tree_words

    ok : ℕ → List Condition × Action → Type 0
    ok = pair_ok few (plainly ActionShaped)

    first : (n : ℕ) (a : List Condition) (b : Action) → ActionShaped b → StartsAs is_if false (action_tree_words b)
    first n a (act.Up var) h = h.0
    first n a (act.Down var) h = h.0
    first n a (act.Put var k) h = h.0
    first n a (act.Start var) h = refl
    first n a (act.Stop var) h = refl

    tree_words : (line : ℕ) (conds : List Condition) (a : Action) → statement_tree_words (record { line = line; conds = conds; act = a }) ≡ on_line line (flat_map condition_tree_words conds ++ action_tree_words a)
    tree_words line conds a = starts-goes line (flat_map condition_words conds ++ action_words a)
        ∙ ap (on_line line) (goes-append (flat_map condition_words conds) (action_words a) ∙ ap (λ (t : List TreeWord). t ++ action_tree_words a) (goes-flat_map condition_words conds))

    same : (n : ℕ) (words_ahead : List PlacedWord) → statement_at n words_ahead ≡ (lined_at r n words_ahead >>= λ x. Ok (record { line = x.0.0; conds = x.0.1.0; act = x.0.1.1 }, x.1))
    same n words_ahead = go (conditions_at n words_ahead) refl
      where
        go : (c : Read (List Condition)) → conditions_at n words_ahead ≡ c → statement_at n words_ahead ≡ (lined_at r n words_ahead >>= λ x. Ok (record { line = x.0.0; conds = x.0.1.0; act = x.0.1.1 }, x.1))
        go (Err s) e = rw e refl
        go (Ok x) e =
            let h = first-Misses is_if x.1 (conditions_reads.sound n words_ahead x.0 x.1 e).ends in
            rw (e, action_opens x.1 h) (simp bind_assoc)
