-- The readers of conditions.
use Rattle.std.proofs.Common.{◌≡◌, ℕ, Bool, true, false, List, [], ◌∷◌, ◌++◌, refl, codes}
use Rattle.std.specs.List.{flat_map}
use Rattle.pn_types.specs.declared.compare.Cmp.{Cmp}
use Rattle.pn_types.specs.declared.compare.Cmp.TheVariants.{Eq}
use Rattle.pn_text.specs.Words.{Word, DollarMetric, SignWord}
use Rattle.pn_text.specs.declared.token.Sign.TheVariants.{OpenBracket, CloseBracket, OpenParen, CloseParen}
use Rattle.mdl_ast.specs.declared.action.VarName.{VarName}
use Rattle.mdl_ast.specs.declared.action.VarName.TheVariants.{Named, TheMetric}
use Rattle.mdl_ast.specs.declared.action.LeftName.{LeftName}
use Rattle.mdl_ast.specs.declared.action.LeftName.TheVariants.{Variable, Argument}
use Rattle.mdl_ast.specs.declared.action.RightSide.{RightSide}
use Rattle.mdl_ast.specs.declared.action.RightSide.TheVariants.{Value}
use Rattle.mdl_ast.specs.declared.action.Condition.{Condition}
use Rattle.mdl_parse.specs.WordsInText.{PlacedWord, TreeWord, Goes, other_words}
use Rattle.mdl_parse.specs.Picks.{is_arg}
use Rattle.mdl_parse.specs.Shapes.{is_if}
use Rattle.mdl_parse.specs.Parts.{argument_at, variable_at, left_at, condition_at, conditions_at}
use Rattle.mdl_parse.specs.Grammar.{keyword, left_words, right_word, cmp_sign, condition_words}
use Rattle.mdl_parse.proofs.Rules.{StartsAs, all_placed_as, placed_spell, placed_are_words}
use Rattle.mdl_parse.proofs.Readers.{Reads, Completed, closed, any}
use Rattle.mdl_parse.proofs.Options.{of_kind, either_reads}
use Rattle.mdl_parse.proofs.Repeats.{always}
use Rattle.mdl_parse.proofs.Bounded.{bounded_reads, few}
use Rattle.mdl_parse.proofs.Combine.{both, bind_assoc, made}
use Rattle.mdl_parse.proofs.LeafRules.{keyword_reads, sign_reads, arg_reads, number_reads, is_keyword-true}
use Rattle.mdl_parse.proofs.ChoiceRules.{var_reads, right_reads, cmp_reads}

-- ---- the left side of a condition

abbrev left_tree_words : LeftName → List TreeWord
left_tree_words left = other_words (left_words left)

abbrev is_argument : LeftName → Bool
is_argument (Variable var) = false
is_argument (Argument n) = true

argument_reads : Reads (λ n. argument_at) left_tree_words (of_kind is_argument any true) closed
unfolding argument_at
argument_reads = made (both arg_reads (both (sign_reads OpenBracket) (both number_reads (sign_reads CloseBracket))))
    (λ p. Argument p.1.1.0) (λ n. argument_at) left_tree_words (of_kind is_argument any true) closed
    (λ n words_ahead. simp bind_assoc)
    (λ n a h. refl) (λ n a h. refl) (λ n a h. (refl, tt)) back (λ n k b le h. h)
  where
    back : (n : ℕ) (b : LeftName) → of_kind is_argument any true n b → (a : Unit {0} × (Unit {0} × (ℕ × Unit {0}))) × (Unit {0} × (Unit {0} × (Unit {0} × Unit {0}))) × (Argument a.1.1.0 ≡ b)
    back n (Argument k) h = ((tt, (tt, (k, tt))), (tt, (tt, (tt, tt))), refl)
    back n b h = absurd (let e = h.0 in cc)

variable_reads : Reads (λ n. variable_at) left_tree_words (of_kind is_argument any false) closed
unfolding variable_at
variable_reads = made var_reads (λ v. Variable v) (λ n. variable_at) left_tree_words (of_kind is_argument any false) closed
    (λ n words_ahead. refl) (λ n a h. refl) (λ n a h. refl) (λ n a h. (refl, tt)) back (λ n k b le h. h)
  where
    back : (n : ℕ) (b : LeftName) → of_kind is_argument any false n b → (a : VarName) × Unit {0} × (Variable a ≡ b)
    back n (Variable var) h = (var, tt, refl)
    back n b h = absurd (let e = h.0 in cc)

left_reads : Reads (λ n. left_at) left_tree_words any closed
unfolding left_at
left_reads = either_reads is_arg is_argument argument_reads variable_reads starts
  where
    starts : (n : ℕ) (a : LeftName) → Unit {0} → StartsAs is_arg (is_argument a) (left_tree_words a)
    starts n (Variable (Named name)) h = refl
    starts n (Variable TheMetric) h = refl
    starts n (Argument k) h = refl

-- ---- conditions

abbrev pub condition_tree_words : Condition → List TreeWord
condition_tree_words c = other_words (condition_words c)

pub condition_reads : Reads (λ n. condition_at) condition_tree_words any closed
unfolding condition_at
condition_reads = made (both (keyword_reads (codes "if") refl) (both (sign_reads OpenParen) (both left_reads (both cmp_reads (both right_reads (sign_reads CloseParen))))))
    (λ p. record { left = p.1.1.0; cmp = p.1.1.1.0; right = p.1.1.1.1.0 }) (λ n. condition_at) condition_tree_words any closed
    (λ n words_ahead. simp bind_assoc)
    (λ n p h. tree_words p.1.1.0 p.1.1.1.0 p.1.1.1.1.0) (λ n a h. refl) (λ n a h. tt)
    (λ n c h. ((tt, (tt, (c.left, (c.cmp, (c.right, tt))))), (tt, (tt, (tt, (tt, (tt, tt))))), refl)) (λ n k b le h. tt)
  where
    tree_words : (left : LeftName) (cmp : Cmp) (right : RightSide) → condition_tree_words (record { left = left; cmp = cmp; right = right })
        ≡ Goes (keyword (codes "if")) ∷ Goes (SignWord OpenParen) ∷ (left_tree_words left ++ (Goes (SignWord (cmp_sign cmp)) ∷ Goes (right_word right) ∷ Goes (SignWord CloseParen) ∷ []))
    tree_words (Variable var) cmp right = refl
    tree_words (Argument n) cmp right = refl

-- what may follow an `if`
abbrev behind_if : List Word
behind_if = SignWord OpenParen ∷ DollarMetric ∷ SignWord (cmp_sign Eq) ∷ right_word Value ∷ SignWord CloseParen ∷ []

-- an `if` begins a condition
pub condition_opens : (x : PlacedWord) → is_if x.word ≡ true → Completed condition_tree_words any 0 (x ∷ [])
condition_opens x h = record {
  whole = record { left = Variable TheMetric; cmp = Eq; right = Value };
  tail = all_placed_as (other_words behind_if);
  shaped = tt;
  spelled = (is_keyword-true (codes "if") x.word h, placed_spell (other_words behind_if));
  words = placed_are_words (other_words behind_if) (refl, (refl, (refl, (refl, (refl, tt)))));
}

pub conditions_reads : Reads conditions_at (flat_map condition_tree_words) few (always is_if)
conditions_reads = bounded_reads is_if condition_at condition_tree_words condition_reads (λ c. refl) condition_opens
