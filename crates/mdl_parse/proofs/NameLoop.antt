-- The loop over names between commas, and that over conditions.
use Rattle.std.proofs.Common.{◌≡◌, ℕ, suc, ◌-◌, ◌≤◌, ◌≢◌, Bool, true, false, List, [], ◌∷◌, ◌++◌, length, Ok, Err, refl, sym, ap, subst, ◌∙◌, arith, length-append}
use Rattle.pn_text.specs.declared.token.Sign.TheVariants.{Comma}
use Rattle.mdl_ast.specs.declared.action.Condition.{Condition}
use Rattle.mdl_parse.specs.declared.refusal.Stop.{Stop as Answered}
use Rattle.mdl_parse.specs.declared.refusal.Stop.TheVariants.{NoMemory, Refused}
use Rattle.mdl_parse.specs.declared.refusal.Refusal.TheVariants.{TooDeep}
use Rattle.mdl_parse.specs.WordsInText.{PlacedWord}
use Rattle.mdl_parse.specs.Picks.{is_sign}
use Rattle.mdl_parse.specs.Shapes.{is_if}
use Rattle.mdl_parse.specs.Steps.{Read, ◌>>=◌, stop, is_first, many_at}
use Rattle.mdl_parse.specs.Readers.{name_at}
use Rattle.mdl_parse.specs.Parts.{another_at, names_at, condition_at, conditions_at}
use Rattle.mdl_parse.specs.Gives.{Stops}
use Rattle.mdl_parse.proofs.Loops.{with_front, front_more, front_all, front_stops, stops_whole}
use Rattle.mdl_parse.proofs.Bounded.{bounded_none, bounded_deep, bounded_step, bounded_stops}
use Rattle.mdl_parse.proofs.ConditionRules.{condition_tree_words, condition_reads, condition_opens}

pub names_begin : (words_ahead : List PlacedWord) (name : List ℕ) (rest : List PlacedWord) (front : List (List ℕ)) → name_at words_ahead ≡ Ok (name, rest) → front ≡ name ∷ [] → names_at words_ahead ≡ with_front front (many_at (is_sign Comma) another_at rest)
unfolding names_at
names_begin words_ahead name rest front e f = rw (e, f) refl

pub names_stop : (words_ahead : List PlacedWord) (e : Answered) (rest : List PlacedWord) → Stops e rest (name_at words_ahead) → Stops e rest (names_at words_ahead)
unfolding names_at
names_stop words_ahead NoMemory rest h = tt
names_stop words_ahead (Refused why) rest h = rw h refl

-- ---- conditions

-- one more is allowed
abbrev Left : ℕ → List Condition → List PlacedWord → Read (List Condition)
Left most front words_ahead = conditions_at (most - length front) words_ahead

left_more : (most : ℕ) (front : List Condition) → length front ≤ most → length front ≢ most → most - length front ≡ suc (most - suc (length front))
left_more most front le ne = omega arith

pub conditions_more : (most : ℕ) (whole : Read (List Condition)) (front next : List Condition) (words_ahead : List PlacedWord) (a : Condition) (rest : List PlacedWord) (test : Bool) →
    test ≡ is_first is_if words_ahead → test ≡ true → length front ≤ most → length front ≢ most → whole ≡ with_front front (Left most front words_ahead) → condition_at words_ahead ≡ Ok (a, rest) → next ≡ front ++ (a ∷ []) →
    whole ≡ with_front next (Left most next rest)
conditions_more most whole front next words_ahead a rest test t h le ne e k i =
    let here : Left most front words_ahead ≡ (conditions_at (most - suc (length front)) rest >>= λ xs. Ok (a ∷ xs.0, xs.1)) =
    ap (λ (n : ℕ). conditions_at n words_ahead) (left_more most front le ne) ∙ bounded_step is_if condition_at condition_tree_words condition_reads (λ c. refl) condition_opens (most - suc (length front)) words_ahead a rest (sym t ∙ h) k in
    let len : suc (length front) ≡ length next = omega (arith, ap length i, length-append front (a ∷ [])) in
    let more = front_more front a whole (Left most front words_ahead) (conditions_at (most - suc (length front)) rest) e here in
    subst (λ (n : ℕ). whole ≡ with_front next (conditions_at (most - n) rest)) len (subst (λ (t : List Condition). whole ≡ with_front t (conditions_at (most - suc (length front)) rest)) (sym i) more)

pub conditions_few : (most : ℕ) (front next : List Condition) (a : Condition) → length front ≤ most → length front ≢ most → next ≡ front ++ (a ∷ []) → length next ≤ most
conditions_few most front next a le ne i = omega (arith, ap length i, length-append front (a ∷ []))

pub conditions_all : (most : ℕ) (whole : Read (List Condition)) (front given : List Condition) (words_ahead : List PlacedWord) (test : Bool) →
    test ≡ is_first is_if words_ahead → test ≡ false → whole ≡ with_front front (Left most front words_ahead) → given ≡ front → whole ≡ Ok (given, words_ahead)
conditions_all most whole front given words_ahead test t h e i =
    rw i (front_all front whole (Left most front words_ahead) words_ahead e (bounded_none is_if condition_at condition_tree_words condition_reads (λ c. refl) condition_opens (most - length front) words_ahead (sym t ∙ h)))

pub conditions_deep : (most : ℕ) (whole : Read (List Condition)) (front : List Condition) (words_ahead : List PlacedWord) (test : Bool) →
    test ≡ is_first is_if words_ahead → test ≡ true → length front ≡ most → whole ≡ with_front front (Left most front words_ahead) → whole ≡ Err (stop TooDeep words_ahead)
conditions_deep most whole front words_ahead test t h l e =
    let none : most - length front ≡ 0 = omega arith in
    front_stops front whole (Left most front words_ahead) (stop TooDeep words_ahead) e (ap (λ (n : ℕ). conditions_at n words_ahead) none ∙ bounded_deep is_if condition_at condition_tree_words condition_reads (λ c. refl) condition_opens words_ahead (sym t ∙ h))

pub conditions_stop : (most : ℕ) (whole : Read (List Condition)) (front : List Condition) (words_ahead : List PlacedWord) (test : Bool) (e : Answered) (rest : List PlacedWord) →
    test ≡ is_first is_if words_ahead → test ≡ true → length front ≤ most → length front ≢ most → whole ≡ with_front front (Left most front words_ahead) → Stops e rest (condition_at words_ahead) → Stops e rest whole
conditions_stop most whole front words_ahead test e rest t h le ne i k =
    stops_whole (condition_at words_ahead) (Left most front words_ahead) whole front e rest
    (λ s q. ap (λ (n : ℕ). conditions_at n words_ahead) (left_more most front le ne) ∙ bounded_stops is_if condition_at condition_tree_words condition_reads (λ c. refl) condition_opens (most - suc (length front)) words_ahead s (sym t ∙ h) q) i k
