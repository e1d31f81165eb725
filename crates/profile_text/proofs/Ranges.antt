-- The words of a range of addresses, and their numbers.
use Rattle.std.proofs.Common.{◌≡◌, ℕ, zero, suc, ◌+◌, ◌*◌, ◌<◌, ◌≤◌, List, [], ◌∷◌, length, get_or, take, drop, Bool, true, false, cond, refl, ap, sym, ◌∙◌, arith}
use Rattle.std.specs.Prelude.{sum, sum_by}
use Rattle.std.specs.List.{filter}
use Rattle.std.proofs.lemmas.Bool.Decides.{nat_tests}
use Rattle.std.proofs.lemmas.List.Sums.{sum_by-cons}
use Rattle.rv_word.specs.Memory.{in_range}
use Rattle.word_flow.specs.Numbers.{sum_at}
use Rattle.profile_text.specs.NumberedWords.{with_numbers}
use Rattle.profile_text.specs.declared.numbered_word.NumberedWord.{NumberedWord}

abbrev word : ℕ → ℕ → ℕ → NumberedWord
word a w n = record { at = a; word = w; number = n }

-- the words that pass a test of their addresses
abbrev pub words_at : (ℕ → Bool) → List NumberedWord → List NumberedWord
words_at p xs = filter (λ x. p x.at) xs

-- ---- the words of a range

after : (s l a : ℕ) (ws ns : List ℕ) → s + l ≤ a → words_at (in_range s l) (with_numbers a ws ns) ≡ []
after s l a [] ns h = refl
after s l a (w ∷ ws) [] h = refl
after s l a (w ∷ ws) (n ∷ ns) h =
    let e : in_range s l a ≡ false = grind (arith, nat_tests) in
    let rest = words_at (in_range s l) (with_numbers (a + 4) ws ns) in
    ap (λ b. cond b (word a w n ∷ rest) rest) e ∙ after s l (a + 4) ws ns (omega arith)

inside : (m s l a : ℕ) (ws ns : List ℕ) → s ≤ a → s + l ≡ a + 4 * m → words_at (in_range s l) (with_numbers a ws ns) ≡ take m (with_numbers a ws ns)
inside zero s l a ws ns b h = after s l a ws ns (omega arith)
inside (suc m) s l a [] ns b h = refl
inside (suc m) s l a (w ∷ ws) [] b h = refl
inside (suc m) s l a (w ∷ ws) (n ∷ ns) b h =
    let e : in_range s l a ≡ true = grind (arith, nat_tests) in
    let rest = words_at (in_range s l) (with_numbers (a + 4) ws ns) in
    ap (λ c. cond c (word a w n ∷ rest) rest) e ∙ ap (λ z. word a w n ∷ z) (inside m s l (a + 4) ws ns (omega arith) (omega arith))

pub take-nil : (m : ℕ) → ◌≡◌ {A = List NumberedWord} [] (take m [])
take-nil zero = refl
take-nil (suc m) = refl

-- the m words from place k on
pub range : (k m s l a : ℕ) (ws ns : List ℕ) → s ≡ a + 4 * k → l ≡ 4 * m
    → words_at (in_range s l) (with_numbers a ws ns) ≡ take m (drop k (with_numbers a ws ns))
range zero m s l a ws ns e f = inside m s l a ws ns (omega arith) (omega arith)
range (suc k) m s l a [] ns e f = take-nil m
range (suc k) m s l a (w ∷ ws) [] e f = take-nil m
range (suc k) m s l a (w ∷ ws) (n ∷ ns) e f =
    let t : in_range s l a ≡ false = grind (arith, nat_tests) in
    let rest = words_at (in_range s l) (with_numbers (a + 4) ws ns) in
    ap (λ b. cond b (word a w n ∷ rest) rest) t ∙ range k m s l (a + 4) ws ns (omega arith) f

-- ---- as many words as numbers

nil : {A : Type 0} (xs : List A) → length xs ≡ 0 → xs ≡ []
nil [] e = refl
nil (x ∷ xs) e = absurd (omega arith)

pub length-with_numbers : (a : ℕ) (ws ns : List ℕ) → length ns ≡ length ws → length (with_numbers a ws ns) ≡ length ws
length-with_numbers a [] ns e = refl
length-with_numbers a (w ∷ ws) [] e = absurd (omega arith)
length-with_numbers a (w ∷ ws) (n ∷ ns) e = ap suc (length-with_numbers (a + 4) ws ns (omega arith))

pub number_there : (k a : ℕ) (d : NumberedWord) (ws ns : List ℕ) → length ns ≡ length ws → k < length ws
    → (get_or (with_numbers a ws ns) k d).number ≡ get_or ns k 0
number_there k a d [] ns e l = absurd (omega arith)
number_there k a d (w ∷ ws) [] e l = absurd (omega arith)
number_there zero a d (w ∷ ws) (n ∷ ns) e l = refl
number_there (suc k) a d (w ∷ ws) (n ∷ ns) e l = number_there k (a + 4) d ws ns (omega arith) (omega arith)

pub address_there : (k a : ℕ) (d : NumberedWord) (ws ns : List ℕ) → length ns ≡ length ws → k < length ws
    → (get_or (with_numbers a ws ns) k d).at ≡ a + 4 * k
address_there k a d [] ns e l = absurd (omega arith)
address_there k a d (w ∷ ws) [] e l = absurd (omega arith)
address_there zero a d (w ∷ ws) (n ∷ ns) e l = omega arith
address_there (suc k) a d (w ∷ ws) (n ∷ ns) e l =
    let h = address_there k (a + 4) d ws ns (omega arith) (omega arith) in
    omega arith

-- ---- sums

pub sum-with_numbers : (a : ℕ) (ws ns : List ℕ) → length ns ≡ length ws → sum_by (λ x. x.number) (with_numbers a ws ns) ≡ sum ns
sum-with_numbers a [] ns e = ap sum (sym (nil ns e))
sum-with_numbers a (w ∷ ws) [] e = absurd (omega arith)
sum-with_numbers a (w ∷ ws) (n ∷ ns) e =
    sum_by-cons (λ (x : NumberedWord). x.number) (word a w n) (with_numbers (a + 4) ws ns)
    ∙ ap (λ s. n + s) (sum-with_numbers (a + 4) ws ns (omega arith)) ∙ sym (sum_by-cons (λ (x : ℕ). x) n ns)

one : (b : Bool) (x : NumberedWord) (xs : List NumberedWord) → sum_by (λ x. x.number) (cond b (x ∷ xs) xs) ≡ cond b x.number 0 + sum_by (λ x. x.number) xs
one true x xs = sum_by-cons (λ (x : NumberedWord). x.number) x xs
one false x xs = omega arith

pub sum_at-with_numbers : (p : ℕ → Bool) (a : ℕ) (ws ns : List ℕ) → length ns ≡ length ws
    → sum_at p ns a ≡ sum_by (λ x. x.number) (words_at p (with_numbers a ws ns))
sum_at-with_numbers p a [] ns e = ap (λ z. sum_at p z a) (nil ns e)
sum_at-with_numbers p a (w ∷ ws) [] e = absurd (omega arith)
sum_at-with_numbers p a (w ∷ ws) (n ∷ ns) e =
    ap (λ s. cond (p a) n 0 + s) (sum_at-with_numbers p (a + 4) ws ns (omega arith))
    ∙ sym (one (p a) (word a w n) (words_at p (with_numbers (a + 4) ws ns)))
