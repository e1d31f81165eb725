-- A line with its LF is compared by its last byte and the bytes before it.
use Rattle.std.proofs.Common.{◌≡◌, ℕ, ◌==◌, ◌&&◌, Bool, true, false, List, [], ◌∷◌, ◌++◌, bytes_eq, refl, sym, ap, ◌∙◌, arith}
use Rattle.std.proofs.lemmas.Bool.{eq-eqb, ne_eqb}

never : (b : Bool) → false ≡ (b && false)
never true = refl
never false = refl

swapped : (a b c : Bool) → (a && (b && c)) ≡ (b && (a && c))
swapped true b c = refl
swapped false b c = never b

sooner : (a b : Bool) → a ≡ b → (a && true) ≡ (b && true)
sooner a b e = ap (λ (x : Bool). x && true) e

same_test : (a b : ℕ) → (a == b) ≡ (b == a)
same_test a b = grind arith

both_false : (a b c : Bool) → c ≡ false → (a && c) ≡ (b && false)
both_false true b c e = e ∙ never b
both_false false b c e = never b

shorter : (front : List ℕ) (last : ℕ) → bytes_eq [] (front ++ last ∷ []) ≡ false
shorter [] last = refl
shorter (byte ∷ front) last = refl

longer : (line : List ℕ) (last : ℕ) → bytes_eq (line ++ last ∷ []) [] ≡ false
longer [] last = refl
longer (byte ∷ line) last = refl

line_end : (line front : List ℕ) (last : ℕ) → bytes_eq (line ++ 10 ∷ []) (front ++ last ∷ []) ≡ ((last == 10) && bytes_eq line front)
line_end [] [] last = sooner (10 == last) (last == 10) (same_test 10 last)
line_end [] (byte ∷ front) last = both_false (10 == byte) (last == 10) (bytes_eq [] (front ++ last ∷ [])) (shorter front last)
line_end (byte ∷ line) [] last = both_false (byte == last) (last == 10) (bytes_eq (line ++ 10 ∷ []) []) (longer line 10)
line_end (byte ∷ line) (other ∷ front) last =
    ap (λ (b : Bool). (byte == other) && b) (line_end line front last) ∙ swapped (byte == other) (last == 10) (bytes_eq line front)

-- ---- a text with a last byte

pub ends_line : (line front text : List ℕ) (last : ℕ) (r : Bool) → text ≡ front ++ last ∷ [] → last ≡ 10 → r ≡ bytes_eq line front → r ≡ bytes_eq (line ++ 10 ∷ []) text
ends_line line front text last r is lf same =
    same
    ∙ ap (λ (b : Bool). b && bytes_eq line front) (sym (eq-eqb last 10 lf))
    ∙ sym (line_end line front last)
    ∙ ap (bytes_eq (line ++ 10 ∷ [])) (sym is)

pub ends_otherwise : (line front text : List ℕ) (last : ℕ) → text ≡ front ++ last ∷ [] → (last ≡ 10 → ⊥) → (last == 10) ≡ bytes_eq (line ++ 10 ∷ []) text
ends_otherwise line front text last is other =
    let no : (last == 10) ≡ false = ne_eqb last 10 other in
    no
    ∙ ap (λ (b : Bool). b && bytes_eq line front) (sym no)
    ∙ sym (line_end line front last)
    ∙ ap (bytes_eq (line ++ 10 ∷ [])) (sym is)
