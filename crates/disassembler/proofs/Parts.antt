-- The parts of a line are read where they were written.
use Rattle.std.proofs.Common.{◌≡◌, ℕ, zero, suc, ◌+◌, ◌-◌, ◌*◌, ◌^◌, ◌<◌, ◌≤◌, ◌==◌, ◌&&◌, nat_lt, cond, Bool, true, false, Option, Some, None, List, [], ◌∷◌, ◌++◌, length, take, drop, codes, bytes_eq, refl, ap, ◌∙◌, arith}
use Rattle.std.proofs.Math.Seq.{take-append_seam, drop-append_seam}
use Rattle.std.proofs.lemmas.Bool.{and_parts, eqb-true}
use Rattle.std.proofs.lemmas.Bool.Decides.{nat_tests}
use Rattle.std.proofs.lemmas.Fmt.{digits_is_IsNumeral}
use Rattle.std.specs.Char.{digit_value}
use Rattle.std.specs.Fmt.{decimal, digits}
use Rattle.std.specs.List.{prefix_len, list_all}
use Rattle.std.specs.Option.{option_map_or, option_and_then}
use Rattle.std.specs.Str.Parse.{AllDigits, digits_value_after}
use Rattle.rv_asm.specs.Bytes.{is_blank, is_name_byte, skip_blanks, word_of, after_name}
use Rattle.rv_asm.specs.Numbers.{digit_of, below, digits_from, digits_of, size_of, wrapped}
use Rattle.rv_asm.specs.Registers.{register_of}
use Rattle.rv_asm.specs.Tokens.{sign_at, register_at, name_at, number_at, signed_at, sized_at, pointer_at}
use Rattle.rv_asm.specs.declared.number.Number.{Number}
use Rattle.disassembler.specs.Operands.{usual_name, signed_text, label_of}

-- no byte of a name stands first
abbrev pub IsEnd : List ℕ → Type 0
IsEnd rest = prefix_len is_name_byte rest ≡ 0

-- no blank stands first
abbrev pub IsStart : List ℕ → Type 0
IsStart text = prefix_len is_blank text ≡ 0

-- bytes of names
abbrev pub IsWord : List ℕ → Type 0
IsWord word = list_all is_name_byte word ≡ true

-- ---- blanks and words

pub start_stays : (text : List ℕ) → IsStart text → skip_blanks text ≡ text
unfolding skip_blanks
start_stays text h = ap (λ n. drop n text) h

pub space_skipped : (text : List ℕ) → IsStart text → skip_blanks (32 ∷ text) ≡ text
unfolding skip_blanks
space_skipped text h =
    let one : 1 + prefix_len is_blank text ≡ 1 = ap (λ n. 1 + n) h in
    ap (λ n. drop n (32 ∷ text)) one

whole_word : (word rest : List ℕ) → IsWord word → IsEnd rest → prefix_len is_name_byte (word ++ rest) ≡ length word
whole_word [] rest w e = e
whole_word (x ∷ xs) rest w e =
    let parts = and_parts (is_name_byte x) (list_all is_name_byte xs) w in
    let later : prefix_len is_name_byte (xs ++ rest) ≡ length xs = whole_word xs rest parts.1 e in
    ap (λ b. cond b (1 + prefix_len is_name_byte (xs ++ rest)) 0) parts.0 ∙ omega (arith, later)

pub word_first : (word rest : List ℕ) → IsWord word → IsEnd rest → word_of (word ++ rest) ≡ word
unfolding word_of
word_first word rest w e = ap (λ n. take n (word ++ rest)) (whole_word word rest w e) ∙ take-append_seam word rest

pub word_behind : (word rest : List ℕ) → IsWord word → IsEnd rest → after_name (word ++ rest) ≡ rest
unfolding after_name
word_behind word rest w e = ap (λ n. drop n (word ++ rest)) (whole_word word rest w e) ∙ drop-append_seam word rest

-- a byte of a name is no blank
name_byte_blank : (x : ℕ) → is_name_byte x ≡ true → is_blank x ≡ false
name_byte_blank x h = grind (arith, nat_tests)

pub word_starts : (word rest : List ℕ) → IsWord word → 0 < length word → IsStart (word ++ rest)
word_starts [] rest w some = absurd (omega arith)
word_starts (x ∷ xs) rest w some =
    ap (λ b. cond b (1 + prefix_len is_blank (xs ++ rest)) 0) (name_byte_blank x (and_parts (is_name_byte x) (list_all is_name_byte xs) w).0)

-- ---- registers

-- the usual name of a register is a word that is read as this register
abbrev is_read : ℕ → Bool
is_read r = (list_all is_name_byte (usual_name r) && nat_lt 0 (length (usual_name r))) && option_map_or (λ n. n == r) (register_of (usual_name r)) false

abbrev below_all : (ℕ → Bool) → ℕ → Bool
below_all p zero = true
below_all p (suc n) = p n && below_all p n

below_each : (p : ℕ → Bool) (n r : ℕ) → below_all p n ≡ true → r < n → p r ≡ true
below_each p zero r all l = absurd (omega arith)
below_each p (suc n) r all l = by (r == n) refl (below_each p n r (and_parts (p n) (below_all p n) all).1)
  where
    by : (b : Bool) → (r == n) ≡ b → (r < n → p r ≡ true) → p r ≡ true
    by true is rest = ap p (eqb-true r n is) ∙ (and_parts (p n) (below_all p n) all).0
    by false is rest = rest (grind (arith, nat_tests))

all_read : below_all is_read 32 ≡ true
unfolding usual_name register_of
all_read = refl

found_same : (o : Option ℕ) (r : ℕ) → option_map_or (λ n. n == r) o false ≡ true → o ≡ Some r
found_same None r h = absurd (cc)
found_same (Some n) r h = ap Some (eqb-true n r h)

pub record IsName (r : ℕ) : Type 0 where
  pub word : IsWord (usual_name r)
  pub some : 0 < length (usual_name r)
  pub number : register_of (usual_name r) ≡ Some r

pub usual_is : (r : ℕ) → r < 32 → IsName r
usual_is r l =
    let all = and_parts (list_all is_name_byte (usual_name r) && nat_lt 0 (length (usual_name r))) (option_map_or (λ n. n == r) (register_of (usual_name r)) false) (below_each is_read 32 r all_read l) in
    let front = and_parts (list_all is_name_byte (usual_name r)) (nat_lt 0 (length (usual_name r))) all.0 in
    record { word = front.0; some = lt-from (length (usual_name r)) front.1; number = found_same (register_of (usual_name r)) r all.1 }
  where
    lt-from : (n : ℕ) → nat_lt 0 n ≡ true → 0 < n
    lt-from n h = grind (arith, nat_tests)

pub register_read : (r : ℕ) (text rest : List ℕ) → r < 32 → IsEnd rest → skip_blanks text ≡ usual_name r ++ rest → register_at text ≡ Some (r, rest)
unfolding register_at
register_read r text rest l e is =
    let name = usual_is r l in
    rw (is, word_first (usual_name r) rest name.word e, name.number, word_behind (usual_name r) rest name.word e) refl

pub name_start : (r : ℕ) (rest : List ℕ) → r < 32 → IsStart (usual_name r ++ rest)
name_start r rest l = let name = usual_is r l in word_starts (usual_name r) rest name.word name.some

-- ---- digits

digit_read : (base c : ℕ) → base ≤ 16 → digit_value c < base → option_and_then (below base) (digit_of c) ≡ Some (digit_value c)
digit_read base c low h = grind (arith, nat_tests)

digit_byte : (base c : ℕ) → base ≤ 16 → digit_value c < base → is_name_byte c ≡ true
digit_byte base c low h = grind (arith, nat_tests)

digits_read : (base n : ℕ) (ds : List ℕ) → base ≤ 16 → AllDigits base ds → digits_from base n ds ≡ Some (digits_value_after base n ds)
digits_read base n [] low all = refl
digits_read base n (c ∷ cs) low all = rw (digit_read base c low all.0) (digits_read base (n * base + digit_value c) cs low all.1)

digits_word : (base : ℕ) (ds : List ℕ) → base ≤ 16 → AllDigits base ds → IsWord ds
digits_word base [] low all = refl
digits_word base (c ∷ cs) low all = rw (digit_byte base c low all.0) (digits_word base cs low all.1)

-- ---- numbers

-- the number of 64 bits with its sign
abbrev pub number_of : ℕ → Number
number_of n = cond (nat_lt n (2 ^ 63)) (record { negative = false; size = n }) (record { negative = true; size = 2 ^ 64 - n })

pub number_wrapped : (n : ℕ) → n < 2 ^ 64 → wrapped (number_of n) ≡ n
unfolding wrapped
number_wrapped n l = by (nat_lt n (2 ^ 63)) refl
  where
    by : (b : Bool) → nat_lt n (2 ^ 63) ≡ b → wrapped (cond b (record { negative = false; size = n }) (record { negative = true; size = 2 ^ 64 - n })) ≡ n
    by true is = omega arith
    by false is = let high : 2 ^ 63 ≤ n = grind (arith, nat_tests) in omega arith

decimal_digit : (c d : ℕ) → digit_value d < 10 → ((c == 48) && ((d == 120) && true)) ≡ false
decimal_digit c d h = grind (arith, nat_tests)

-- no decimal digits are those of a hexadecimal number
not_hex : (ds : List ℕ) → AllDigits 10 ds → bytes_eq (take 2 ds) (codes "0x") ≡ false
not_hex [] all = refl
not_hex (c ∷ []) all = by (c == 48)
  where
    by : (b : Bool) → (b && false) ≡ false
    by true = refl
    by false = refl
not_hex (c ∷ d ∷ ds) all = decimal_digit c d all.1.0

digits_all : (base : ℕ) (ds : List ℕ) → base ≤ 16 → (0 < length ds) × AllDigits base ds → digits_of base ds ≡ Some (digits_value_after base 0 ds)
digits_all base [] low all = absurd (omega arith)
digits_all base (c ∷ cs) low all = digits_read base 0 (c ∷ cs) low all.1

size_decimal : (m : ℕ) → m < 2 ^ 64 → size_of (decimal m) ≡ Some m
unfolding size_of
size_decimal m l =
    let is = digits_is_IsNumeral 10 false (omega arith) (omega arith) m (omega arith) in
    rw (not_hex (decimal m) is.0.1, digits_all 10 (decimal m) (omega arith) is.0, is.1) (ap Some (omega arith))

size_hex : (m : ℕ) → m < 2 ^ 64 → size_of (codes "0x" ++ digits 16 false m) ≡ Some m
unfolding size_of
size_hex m l =
    let is = digits_is_IsNumeral 16 false (omega arith) (omega arith) m (omega arith) in
    rw (digits_all 16 (digits 16 false m) (omega arith) is.0, is.1) (ap Some (omega arith))

-- after a sign, or where none stands
sized_read : (negative : Bool) (m : ℕ) (word rest : List ℕ) → size_of word ≡ Some m → IsWord word → IsEnd rest → sized_at negative (word ++ rest) ≡ Some (record { negative = negative; size = m }, rest)
sized_read negative m word rest size w e = rw (word_first word rest w e, size, word_behind word rest w e) refl

unsigned : (c : ℕ) → is_name_byte c ≡ true → (c == 45) ≡ false
unsigned c h = grind (arith, nat_tests)

unsigned_read : (word rest : List ℕ) → IsWord word → 0 < length word → signed_at (word ++ rest) ≡ sized_at false (word ++ rest)
unsigned_read [] rest w some = absurd (omega arith)
unsigned_read (c ∷ cs) rest w some = rw (unsigned c (and_parts (is_name_byte c) (list_all is_name_byte cs) w).0) refl

pub decimal_word : (m : ℕ) → m < 2 ^ 64 → IsWord (decimal m)
decimal_word m l = digits_word 10 (decimal m) (omega arith) (digits_is_IsNumeral 10 false (omega arith) (omega arith) m (omega arith)).0.1

decimal_some : (m : ℕ) → m < 2 ^ 64 → 0 < length (decimal m)
decimal_some m l = (digits_is_IsNumeral 10 false (omega arith) (omega arith) m (omega arith)).0.0

signed_read : (n : ℕ) (rest : List ℕ) → n < 2 ^ 64 → IsEnd rest → signed_at (signed_text n ++ rest) ≡ Some (number_of n, rest)
unfolding signed_text
signed_read n rest l e = by (nat_lt n (2 ^ 63)) refl
  where
    by : (b : Bool) → nat_lt n (2 ^ 63) ≡ b → signed_at (cond b (decimal n) (codes "-" ++ decimal (2 ^ 64 - n)) ++ rest) ≡ Some (cond b (record { negative = false; size = n }) (record { negative = true; size = 2 ^ 64 - n }), rest)
    by true is = unsigned_read (decimal n) rest (decimal_word n l) (decimal_some n l) ∙ sized_read false n (decimal n) rest (size_decimal n l) (decimal_word n l) e
    by false is =
        let high : 2 ^ 63 ≤ n = grind (arith, nat_tests) in
        let m = 2 ^ 64 - n in
        let small : 2 ^ 64 - n < 2 ^ 64 = omega arith in
        sized_read true (2 ^ 64 - n) (decimal (2 ^ 64 - n)) rest (size_decimal (2 ^ 64 - n) small) (decimal_word (2 ^ 64 - n) small) e

pub number_read : (n : ℕ) (text rest : List ℕ) → n < 2 ^ 64 → IsEnd rest → skip_blanks text ≡ signed_text n ++ rest → number_at text ≡ Some (number_of n, rest)
unfolding number_at
number_read n text rest l e is = ap signed_at is ∙ signed_read n rest l e

pub signed_start : (n : ℕ) (rest : List ℕ) → n < 2 ^ 64 → IsStart (signed_text n ++ rest)
unfolding signed_text
signed_start n rest l = by (nat_lt n (2 ^ 63))
  where
    by : (b : Bool) → IsStart (cond b (decimal n) (codes "-" ++ decimal (2 ^ 64 - n)) ++ rest)
    by true = word_starts (decimal n) rest (decimal_word n l) (decimal_some n l)
    by false = refl

pub hex_word : (m : ℕ) → m < 2 ^ 64 → IsWord (digits 16 false m)
hex_word m l = digits_word 16 (digits 16 false m) (omega arith) (digits_is_IsNumeral 16 false (omega arith) (omega arith) m (omega arith)).0.1

pub value_read : (m : ℕ) (text rest : List ℕ) → m < 2 ^ 64 → IsEnd rest → skip_blanks text ≡ (codes "0x" ++ digits 16 false m) ++ rest → number_at text ≡ Some (record { negative = false; size = m }, rest)
unfolding number_at
value_read m text rest l e is = ap signed_at is ∙ sized_read false m (codes "0x" ++ digits 16 false m) rest (size_hex m l) (hex_word m l) e

-- ---- names

pub label_word : (at : ℕ) → at < 2 ^ 64 → IsWord (label_of at)
unfolding label_of
label_word at l = hex_word at l

pub label_read : (at : ℕ) (text rest : List ℕ) → at < 2 ^ 64 → IsEnd rest → skip_blanks text ≡ label_of at ++ rest → name_at text ≡ Some (label_of at, rest)
unfolding name_at label_of
label_read at text rest l e is =
    rw (is, word_first (codes "L" ++ digits 16 false at) rest (hex_word at l) e, word_behind (codes "L" ++ digits 16 false at) rest (hex_word at l) e) refl

pub label_start : (at : ℕ) (rest : List ℕ) → IsStart (label_of at ++ rest)
unfolding label_of
label_start at rest = refl

-- ---- pointers

pub comma_read : (text : List ℕ) → sign_at 44 (44 ∷ text) ≡ Some text
unfolding sign_at
comma_read text = rw (start_stays (44 ∷ text) refl) refl

pub pointer_read : (r : ℕ) (text rest : List ℕ) → r < 32 → skip_blanks text ≡ 40 ∷ (usual_name r ++ 41 ∷ rest) → pointer_at text ≡ Some (r, rest)
unfolding pointer_at sign_at
pointer_read r text rest l is =
    let register : register_at (usual_name r ++ 41 ∷ rest) ≡ Some (r, 41 ∷ rest) = register_read r (usual_name r ++ 41 ∷ rest) (41 ∷ rest) l refl (start_stays (usual_name r ++ 41 ∷ rest) (name_start r (41 ∷ rest) l)) in
    rw (is, register, start_stays (41 ∷ rest) refl) refl
