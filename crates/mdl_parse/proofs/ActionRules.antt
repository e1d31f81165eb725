-- The readers of changes and actions.
use Rattle.std.proofs.Common.{◌≡◌, ℕ, ◌||◌, Bool, true, false, List, [], ◌∷◌, ◌++◌, Option, Some, None, Ok, refl, sym, ap, ◌∙◌, codes, if◌then◌else◌}
use Rattle.pn_text.specs.Words.{Word, NumberWord, SignWord}
use Rattle.pn_text.specs.declared.token.Sign.TheVariants.{OpenParen, CloseParen, Semicolon, Assign, PlusPlus, MinusMinus}
use Rattle.mdl_ast.specs.declared.action.VarName.{VarName}
use Rattle.mdl_ast.specs.declared.action.VarName.TheVariants.{TheMetric}
use Rattle.mdl_ast.specs.declared.action.Action.{Action}
use Rattle.mdl_ast.specs.declared.action.Action.TheVariants as act
use Rattle.mdl_parse.specs.declared.change.Change.{Change}
use Rattle.mdl_parse.specs.declared.change.Change.TheVariants.{Up, Down, Put}
use Rattle.mdl_parse.specs.Actions.{action_of_change, timed}
use Rattle.mdl_parse.specs.WordsInText.{PlacedWord, TreeWord, Goes, other_words}
use Rattle.mdl_parse.specs.Picks.{is_sign, var_of}
use Rattle.mdl_parse.specs.Steps.{Read, ◌>>=◌, is_first, leaf_at}
use Rattle.mdl_parse.specs.Readers.{sign_at, var_at, step_at}
use Rattle.mdl_parse.specs.Parts.{put_at, change_at, changed_at, timed_at, action_at}
use Rattle.mdl_parse.specs.Grammar.{var_word, action_words}
use Rattle.mdl_parse.specs.Shapes.{BeginsStatement, ActionShaped, is_if, is_timing}
use Rattle.mdl_parse.proofs.Rules.{StartsAs}
use Rattle.mdl_parse.proofs.Readers.{Reads, closed, any, plainly, one as one_word, leaf_reads}
use Rattle.mdl_parse.proofs.Options.{of_kind, either_reads}
use Rattle.mdl_parse.proofs.Combine.{both, bind_assoc, bind_id, made}
use Rattle.mdl_parse.proofs.LeafRules.{sign_reads, number_reads}
use Rattle.mdl_parse.proofs.ChoiceRules.{choice_reads, choice_word, var_reads, var_picked, var_again, step_reads, is_put, step_word}

-- ---- changes

abbrev change_tree_words : Change → List TreeWord
change_tree_words Up = Goes (SignWord PlusPlus) ∷ []
change_tree_words Down = Goes (SignWord MinusMinus) ∷ []
change_tree_words (Put n) = Goes (SignWord Assign) ∷ Goes (NumberWord n) ∷ []

put_reads : Reads (λ n. put_at) change_tree_words (of_kind is_put any true) closed
unfolding put_at
put_reads = made (both (sign_reads Assign) number_reads) (λ p. Put p.1) (λ n. put_at) change_tree_words (of_kind is_put any true) closed
    (λ n words_ahead. simp bind_assoc) (λ n a h. refl) (λ n a h. refl) (λ n a h. (refl, tt)) back (λ n k b le h. h)
  where
    back : (n : ℕ) (b : Change) → of_kind is_put any true n b → (a : Unit {0} × ℕ) × (Unit {0} × Unit {0}) × (Put a.1 ≡ b)
    back n (Put k) h = ((tt, k), (tt, tt), refl)
    back n b h = absurd (let e = h.0 in cc)

single_reads : Reads (λ n. step_at) change_tree_words (of_kind is_put any false) closed
single_reads = made step_reads (λ c. c) (λ n. step_at) change_tree_words (of_kind is_put any false) closed
    (λ n words_ahead. bind_id (step_at words_ahead)) tree_words (λ n a h. refl) (λ n a h. h) (λ n b h. (b, h, refl)) (λ n k b le h. h)
  where
    tree_words : (n : ℕ) (a : Change) → of_kind is_put any false n a → change_tree_words a ≡ one_word step_word a
    tree_words n Up h = refl
    tree_words n Down h = refl
    tree_words n (Put k) h = absurd (let e = h.0 in cc)

change_reads : Reads (λ n. change_at) change_tree_words any closed
unfolding change_at
change_reads = either_reads (is_sign Assign) is_put put_reads single_reads starts
  where
    starts : (n : ℕ) (a : Change) → Unit {0} → StartsAs (is_sign Assign) (is_put a) (change_tree_words a)
    starts n Up h = refl
    starts n Down h = refl
    starts n (Put k) h = refl

-- ---- actions

abbrev pub action_tree_words : Action → List TreeWord
action_tree_words a = other_words (action_words a)

abbrev is_timed : Action → Bool
is_timed (act.Start var) = true
is_timed (act.Stop var) = true
is_timed a = false

-- a variable with which a statement may begin
abbrev opening_of : Word → Option VarName
opening_of w = if is_if w || is_timing w then None else var_of w

opening_reads : Reads (λ n. leaf_at opening_of) (one_word var_word) (plainly BeginsStatement) closed
opening_reads = leaf_reads opening_of var_word BeginsStatement picked (λ v h. rw (h.0, h.1) (var_again v)) TheMetric (refl, refl) refl
  where
    picked : (w : Word) (v : VarName) → opening_of w ≡ Some v → (w ≡ var_word v) × BeginsStatement v
    picked w v e = go (is_if w) (is_timing w) refl refl e
      where
        go : (a b : Bool) → is_if w ≡ a → is_timing w ≡ b → (if a || b then None else var_of w) ≡ Some v → (w ≡ var_word v) × BeginsStatement v
        go true b i t e = absurd cc
        go false true i t e = absurd cc
        go false false i t e = let same = var_picked w v e in (same, (ap is_if (sym same) ∙ i, ap is_timing (sym same) ∙ t))

opening_changed_at : List PlacedWord → Read Action
opening_changed_at words_ahead = leaf_at opening_of words_ahead >>= λ var. change_at var.1 >>= λ change. sign_at Semicolon change.1 >>= λ end. Ok (action_of_change var.0 change.0, end.1)

changed_reads : Reads (λ n. opening_changed_at) action_tree_words (of_kind is_timed (plainly ActionShaped) false) closed
unfolding opening_changed_at
changed_reads = made (both opening_reads (both change_reads (sign_reads Semicolon))) (λ p. action_of_change p.0 p.1.0)
    (λ n. opening_changed_at) action_tree_words (of_kind is_timed (plainly ActionShaped) false) closed
    (λ n words_ahead. simp bind_assoc) (λ n p h. tree_words p.0 p.1.0) (λ n a h. refl) (λ n p h. shaped p.0 p.1.0 h.0) back (λ n k b le h. h)
  where
    tree_words : (var : VarName) (change : Change) → action_tree_words (action_of_change var change) ≡ Goes (var_word var) ∷ (change_tree_words change ++ (Goes (SignWord Semicolon) ∷ []))
    tree_words var Up = refl
    tree_words var Down = refl
    tree_words var (Put n) = refl

    shaped : (var : VarName) (change : Change) → BeginsStatement var → (is_timed (action_of_change var change) ≡ false) × ActionShaped (action_of_change var change)
    shaped var Up h = (refl, h)
    shaped var Down h = (refl, h)
    shaped var (Put n) h = (refl, h)

    back : (n : ℕ) (b : Action) → of_kind is_timed (plainly ActionShaped) false n b → (a : VarName × (Change × Unit {0})) × (BeginsStatement a.0 × (Unit {0} × Unit {0})) × (action_of_change a.0 a.1.0 ≡ b)
    back n (act.Up var) h = ((var, (Up, tt)), (h.1, (tt, tt)), refl)
    back n (act.Down var) h = ((var, (Down, tt)), (h.1, (tt, tt)), refl)
    back n (act.Put var k) h = ((var, (Put k, tt)), (h.1, (tt, tt)), refl)
    back n b h = absurd (let e = h.0 in cc)

timed_reads : Reads (λ n. timed_at) action_tree_words (of_kind is_timed (plainly ActionShaped) true) closed
unfolding timed_at
timed_reads = made (both (choice_reads (codes "start") (codes "stop") refl refl) (both (sign_reads OpenParen) (both var_reads (both (sign_reads CloseParen) (sign_reads Semicolon)))))
    (λ p. timed p.0 p.1.1.0) (λ n. timed_at) action_tree_words (of_kind is_timed (plainly ActionShaped) true) closed
    (λ n words_ahead. simp bind_assoc) (λ n p h. tree_words p.0 p.1.1.0) (λ n a h. refl) (λ n p h. shaped p.0 p.1.1.0) back (λ n k b le h. h)
  where
    tree_words : (start : Bool) (var : VarName) → action_tree_words (timed start var)
        ≡ Goes (choice_word (codes "start") (codes "stop") start) ∷ Goes (SignWord OpenParen) ∷ Goes (var_word var) ∷ Goes (SignWord CloseParen) ∷ Goes (SignWord Semicolon) ∷ []
    tree_words true var = refl
    tree_words false var = refl

    shaped : (start : Bool) (var : VarName) → (is_timed (timed start var) ≡ true) × ActionShaped (timed start var)
    shaped true var = (refl, tt)
    shaped false var = (refl, tt)

    back : (n : ℕ) (b : Action) → of_kind is_timed (plainly ActionShaped) true n b → (a : Bool × (Unit {0} × (VarName × (Unit {0} × Unit {0})))) × (Unit {0} × (Unit {0} × (Unit {0} × (Unit {0} × Unit {0})))) × (timed a.0 a.1.1.0 ≡ b)
    back n (act.Start var) h = ((true, (tt, (var, (tt, tt)))), (tt, (tt, (tt, (tt, tt)))), refl)
    back n (act.Stop var) h = ((false, (tt, (var, (tt, tt)))), (tt, (tt, (tt, (tt, tt)))), refl)
    back n b h = absurd (let e = h.0 in cc)

-- an action that no `if` begins
pub opening_action_at : List PlacedWord → Read Action
opening_action_at words_ahead = if is_first is_timing words_ahead then timed_at words_ahead else opening_changed_at words_ahead

pub action_reads : Reads (λ n. opening_action_at) action_tree_words (plainly ActionShaped) closed
unfolding opening_action_at
action_reads = either_reads is_timing is_timed timed_reads changed_reads starts
  where
    starts : (n : ℕ) (a : Action) → ActionShaped a → StartsAs is_timing (is_timed a) (action_tree_words a)
    starts n (act.Up var) h = h.1
    starts n (act.Down var) h = h.1
    starts n (act.Put var k) h = h.1
    starts n (act.Start var) h = refl
    starts n (act.Stop var) h = refl

-- after all conditions no `if` stands
pub action_opens : (words_ahead : List PlacedWord) → is_first is_if words_ahead ≡ false → action_at words_ahead ≡ opening_action_at words_ahead
unfolding action_at changed_at opening_action_at opening_changed_at leaf_at
action_opens words_ahead h = go (is_first is_timing words_ahead) refl
  where
    var_same : (words_ahead : List PlacedWord) → is_first is_if words_ahead ≡ false → is_first is_timing words_ahead ≡ false → var_at words_ahead ≡ leaf_at opening_of words_ahead
    var_same [] h t = refl
    var_same (placed ∷ words_ahead) h t = rw (h, t) refl

    go : (b : Bool) → is_first is_timing words_ahead ≡ b → action_at words_ahead ≡ opening_action_at words_ahead
    go true t = rw t refl
    go false t = rw (t, var_same words_ahead h t) refl
