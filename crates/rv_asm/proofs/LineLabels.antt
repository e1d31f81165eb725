-- The labels of a line, one by one.
use Rattle.std.proofs.Common.{◌≡◌, ℕ, zero, suc, ◌<◌, ◌≤◌, ◌==◌, cond, Bool, true, false, Option, Some, None, List, [], ◌∷◌, ◌++◌, length, map, refl, ap, sym, ◌∙◌, arith, append-nil}
use Rattle.std.specs.Option.{option_and_then}
use Rattle.rv_asm.specs.Bytes.{skip_blanks, after_name, word_of, is_name}
use Rattle.rv_asm.specs.Tokens.{after_sign}
use Rattle.rv_asm.proofs.ShorterOperands.{skip_shorter, behind_shorter}
use Rattle.rv_asm.specs.Parsing.{label_at, labels_in, labels_of, more_labels}

behind_colon : (colon named : Bool) (bytes word : List ℕ) (found : List ℕ × List ℕ) → option_and_then (λ (rest : List ℕ). cond named (Some (word, skip_blanks rest)) None) (cond colon (Some bytes) None) ≡ Some found → length found.1 ≤ length bytes
behind_colon false named bytes word found e = cc
behind_colon true false bytes word found e = cc
behind_colon true true bytes word found e =
    let same : (word, skip_blanks bytes) ≡ found = cc in
    let rest : skip_blanks bytes ≡ found.1 = ap (λ (p : List ℕ × List ℕ). p.1) same in
    let h = skip_shorter bytes in
    let g : length (skip_blanks bytes) ≡ length found.1 = ap length rest in
    omega arith

behind_label : (named : Bool) (behind word : List ℕ) (found : List ℕ × List ℕ) → option_and_then (λ (rest : List ℕ). cond named (Some (word, skip_blanks rest)) None) (after_sign 58 behind) ≡ Some found → length found.1 < length behind
behind_label named [] word found e = cc
behind_label named (byte ∷ bytes) word found e =
    let h = behind_colon (byte == 58) named bytes word found e in
    omega arith

-- a label is taken from the text
pub label_shorter : (text : List ℕ) (found : List ℕ × List ℕ) → label_at text ≡ Some found → length found.1 < length text
unfolding label_at
label_shorter text found e =
    let h = behind_label (is_name (word_of text)) (after_name text) (word_of text) found e in
    let g = behind_shorter text in
    omega arith

same_more : (f g : List ℕ → List (List ℕ) × List ℕ) (text : List ℕ) (found : Option (List ℕ × List ℕ)) → ((label : List ℕ × List ℕ) → found ≡ Some label → f label.1 ≡ g label.1) → more_labels f text found ≡ more_labels g text found
same_more f g text None h = refl
same_more f g text (Some label) h = ap (λ (p : List (List ℕ) × List ℕ). (label.0 ∷ p.0, p.1)) (h label refl)

none_more : (f : List ℕ → List (List ℕ) × List ℕ) (text : List ℕ) (found : Option (List ℕ × List ℕ)) → ((label : List ℕ × List ℕ) → found ≡ Some label → length label.1 < 0) → more_labels f text found ≡ ([], text)
none_more f text None h = refl
none_more f text (Some label) h = let g = h label refl in absurd (omega arith)

-- more room than bytes finds no more labels
labels_enough : (n m : ℕ) (text : List ℕ) → length text ≤ n → length text ≤ m → labels_in n text ≡ labels_in m text
labels_enough zero zero text hn hm = refl
labels_enough zero (suc m) text hn hm = sym (none_more (labels_in m) text (label_at text) (λ label e. let h = label_shorter text label e in omega arith))
labels_enough (suc n) zero text hn hm = none_more (labels_in n) text (label_at text) (λ label e. let h = label_shorter text label e in omega arith)
labels_enough (suc n) (suc m) text hn hm =
    same_more (labels_in n) (labels_in m) text (label_at text)
    (λ label e. let h = label_shorter text label e in labels_enough n m label.1 (omega arith) (omega arith))

labels_from : (n : ℕ) (text : List ℕ) (found : List ℕ × List ℕ) → length text ≡ n → label_at text ≡ Some found → labels_in n text ≡ (found.0 ∷ (labels_of found.1).0, (labels_of found.1).1)
unfolding labels_of
labels_from zero text found len e = let h = label_shorter text found e in absurd (omega arith)
labels_from (suc n) text found len e =
    let h = label_shorter text found e in
    rw (e, labels_enough n (length found.1) found.1 (omega arith) (omega arith)) refl

labels_first : (text : List ℕ) → labels_of text ≡ labels_in (length text) text
unfolding labels_of
labels_first text = refl

-- a label first
pub labels_step : (text : List ℕ) (found : List ℕ × List ℕ) → label_at text ≡ Some found → labels_of text ≡ (found.0 ∷ (labels_of found.1).0, (labels_of found.1).1)
labels_step text found e = labels_first text ∙ labels_from (length text) text found refl e

labels_none : (n : ℕ) (text : List ℕ) → label_at text ≡ None → labels_in n text ≡ ([], text)
labels_none zero text e = refl
labels_none (suc n) text e = rw e refl

-- no label first
pub labels_end : (text : List ℕ) → label_at text ≡ None → labels_of text ≡ ([], text)
labels_end text e = labels_first text ∙ labels_none (length text) text e

pushed : {X : Type 0} (f : X → List ℕ) (before : List X) (name : X) (more : List (List ℕ)) → map f (before ++ (name ∷ [])) ++ more ≡ map f before ++ (f name ∷ more)
pushed f [] name more = refl
pushed f (x ∷ xs) name more = ap (λ (ns : List (List ℕ)). f x ∷ ns) (pushed f xs name more)

-- the labels so far and those after stay the same
pub label_pushed : {X : Type 0} (f : X → List ℕ) (before after : List X) (name : X) (rest behind text : List ℕ) → after ≡ before ++ (name ∷ []) → Some (f name, behind) ≡ label_at rest → (map f before ++ (labels_of rest).0, (labels_of rest).1) ≡ labels_of text → (map f after ++ (labels_of behind).0, (labels_of behind).1) ≡ labels_of text
label_pushed f before after name rest behind text e h i =
    ap (λ ns. (map f ns ++ (labels_of behind).0, (labels_of behind).1)) e
    ∙ ap (λ (ns : List (List ℕ)). (ns, (labels_of behind).1)) (pushed f before name (labels_of behind).0)
    ∙ ap (λ (p : List (List ℕ) × List ℕ). (map f before ++ p.0, p.1)) (sym (labels_step rest (f name, behind) (sym h)))
    ∙ i

-- with no label left they are all
pub labels_done : {X : Type 0} (f : X → List ℕ) (names : List X) (rest text : List ℕ) → None ≡ label_at rest → (map f names ++ (labels_of rest).0, (labels_of rest).1) ≡ labels_of text → (map f names, rest) ≡ labels_of text
labels_done f names rest text h i =
    ap (λ (ns : List (List ℕ)). (ns, rest)) (sym (append-nil (map f names)))
    ∙ ap (λ (p : List (List ℕ) × List ℕ). (map f names ++ p.0, p.1)) (sym (labels_end rest (sym h)))
    ∙ i
