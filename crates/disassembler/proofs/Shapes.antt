-- The operands of an instruction are read from their text.
use Rattle.std.proofs.Common.{◌≡◌, ℕ, ◌^◌, ◌<◌, true, false, Some, List, [], ◌∷◌, ◌++◌, codes, append_assoc, refl, ap, ◌∙◌}
use Rattle.std.specs.Fmt.{digits}
use Rattle.rv_asm.specs.Operands.{and_register_at, and_number_at, and_last_name, and_last_pointer, three_registers, register_number, registers_number, register_memory, register_pointer, registers_pointer, register_name, registers_name, one_number}
use Rattle.rv_asm.specs.Parsing.{is_parted}
use Rattle.rv_asm.specs.Tokens.{ends, register_at, name_at, pointer_at}
use Rattle.disassembler.specs.declared.operand.Operand.{Operand}
use Rattle.disassembler.specs.declared.operand.Operand.TheVariants.{Register, Number as Constant, Pointer, Memory, Target}
use Rattle.disassembler.specs.Operands.{usual_name, signed_text, label_of, operand_text, operands_text}
use Rattle.disassembler.proofs.Parts.{IsEnd, start_stays, space_skipped, register_read, name_start, number_of, number_read, signed_start, value_read, label_read, label_start, comma_read, pointer_read}

-- ---- the text with what stands behind it

abbrev pub operand_then : Operand → List ℕ → List ℕ
operand_then (Register r) tail = usual_name r ++ tail
operand_then (Constant n) tail = signed_text n ++ tail
operand_then (Pointer r) tail = 40 ∷ (usual_name r ++ 41 ∷ tail)
operand_then (Memory n r) tail = signed_text n ++ (40 ∷ (usual_name r ++ 41 ∷ tail))
operand_then (Target at) tail = label_of at ++ tail

abbrev pub operands_then : List ℕ → List Operand → List ℕ → List ℕ
operands_then before [] tail = tail
operands_then before (operand ∷ operands) tail = before ++ operand_then operand (operands_then (codes ", ") operands tail)

operand_is : (operand : Operand) (tail : List ℕ) → operand_text operand ++ tail ≡ operand_then operand tail
operand_is (Register r) tail = refl
operand_is (Constant n) tail = refl
operand_is (Pointer r) tail = ap (λ t. 40 ∷ t) (append_assoc (usual_name r) (codes ")") tail)
operand_is (Memory n r) tail =
    append_assoc (signed_text n) (codes "(" ++ (usual_name r ++ codes ")")) tail
    ∙ ap (λ t. signed_text n ++ (40 ∷ t)) (append_assoc (usual_name r) (codes ")") tail)
operand_is (Target at) tail = refl

pub operands_are : (before : List ℕ) (operands : List Operand) (tail : List ℕ) → operands_text before operands ++ tail ≡ operands_then before operands tail
operands_are before [] tail = refl
operands_are before (operand ∷ operands) tail =
    append_assoc before (operand_text operand ++ operands_text (codes ", ") operands) tail
    ∙ ap (λ t. before ++ t) (append_assoc (operand_text operand) (operands_text (codes ", ") operands) tail ∙ ap (λ t. operand_text operand ++ t) (operands_are (codes ", ") operands tail) ∙ operand_is operand (operands_then (codes ", ") operands tail))

-- nothing but blanks
pub record IsTail (tail : List ℕ) : Type 0 where
  pub blank : ends tail ≡ true
  pub apart : IsEnd tail
  pub parted : is_parted tail ≡ true

-- ---- operands one by one

first_register : (r : ℕ) (rest : List ℕ) → r < 32 → IsEnd rest → register_at (32 ∷ (usual_name r ++ rest)) ≡ Some (r, rest)
first_register r rest l e = register_read r (32 ∷ (usual_name r ++ rest)) rest l e (space_skipped (usual_name r ++ rest) (name_start r rest l))

next_register : (r : ℕ) (rest : List ℕ) → r < 32 → IsEnd rest → and_register_at (44 ∷ 32 ∷ (usual_name r ++ rest)) ≡ Some (r, rest)
unfolding and_register_at
next_register r rest l e = rw (comma_read (32 ∷ (usual_name r ++ rest))) (first_register r rest l e)

next_number : (n : ℕ) (rest : List ℕ) → n < 2 ^ 64 → IsEnd rest → and_number_at (44 ∷ 32 ∷ (signed_text n ++ rest)) ≡ Some (number_of n, rest)
unfolding and_number_at
next_number n rest l e =
    rw (comma_read (32 ∷ (signed_text n ++ rest))) (number_read n (32 ∷ (signed_text n ++ rest)) rest l e (space_skipped (signed_text n ++ rest) (signed_start n rest l)))

last_name : (at : ℕ) (tail : List ℕ) → at < 2 ^ 64 → IsTail tail → and_last_name (44 ∷ 32 ∷ (label_of at ++ tail)) ≡ Some (label_of at)
unfolding and_last_name
last_name at tail l t =
    let name : name_at (32 ∷ (label_of at ++ tail)) ≡ Some (label_of at, tail) = label_read at (32 ∷ (label_of at ++ tail)) tail l t.apart (space_skipped (label_of at ++ tail) (label_start at tail)) in
    rw (comma_read (32 ∷ (label_of at ++ tail)), name, t.blank) refl

last_pointer : (r : ℕ) (tail : List ℕ) → r < 32 → IsTail tail → and_last_pointer (44 ∷ 32 ∷ 40 ∷ (usual_name r ++ 41 ∷ tail)) ≡ Some r
unfolding and_last_pointer
last_pointer r tail l t =
    let text = 40 ∷ (usual_name r ++ 41 ∷ tail) in
    let base : pointer_at (32 ∷ text) ≡ Some (r, tail) = pointer_read r (32 ∷ text) tail l (space_skipped text refl) in
    rw (comma_read (32 ∷ text), base, t.blank) refl

-- ---- all operands

pub three_read : (a b c : ℕ) (tail : List ℕ) → a < 32 → b < 32 → c < 32 → IsTail tail → three_registers (operands_then (codes " ") (Register a ∷ Register b ∷ Register c ∷ []) tail) ≡ Some (a, b, c)
unfolding three_registers
three_read a b c tail la lb lc t =
    let third = usual_name c ++ tail in
    let second = usual_name b ++ 44 ∷ 32 ∷ third in
    rw (first_register a (44 ∷ 32 ∷ second) la refl, next_register b (44 ∷ 32 ∷ third) lb refl, next_register c tail lc t.apart, t.blank) refl

pub number_pair_read : (a n : ℕ) (tail : List ℕ) → a < 32 → n < 2 ^ 64 → IsTail tail → register_number (operands_then (codes " ") (Register a ∷ Constant n ∷ []) tail) ≡ Some (a, number_of n)
unfolding register_number
number_pair_read a n tail la ln t =
    rw (first_register a (44 ∷ 32 ∷ (signed_text n ++ tail)) la refl, next_number n tail ln t.apart, t.blank) refl

pub numbered_read : (a b n : ℕ) (tail : List ℕ) → a < 32 → b < 32 → n < 2 ^ 64 → IsTail tail → registers_number (operands_then (codes " ") (Register a ∷ Register b ∷ Constant n ∷ []) tail) ≡ Some (a, b, number_of n)
unfolding registers_number
numbered_read a b n tail la lb ln t =
    let third = signed_text n ++ tail in
    let second = usual_name b ++ 44 ∷ 32 ∷ third in
    rw (first_register a (44 ∷ 32 ∷ second) la refl, next_register b (44 ∷ 32 ∷ third) lb refl, next_number n tail ln t.apart, t.blank) refl

pub memory_read : (a n b : ℕ) (tail : List ℕ) → a < 32 → n < 2 ^ 64 → b < 32 → IsTail tail → register_memory (operands_then (codes " ") (Register a ∷ Memory n b ∷ []) tail) ≡ Some (a, number_of n, b)
unfolding register_memory
memory_read a n b tail la ln lb t =
    let text = 40 ∷ (usual_name b ++ 41 ∷ tail) in
    rw (first_register a (44 ∷ 32 ∷ (signed_text n ++ text)) la refl, next_number n text ln refl, pointer_read b text tail lb (start_stays text refl), t.blank) refl

pub pointer_pair_read : (a b : ℕ) (tail : List ℕ) → a < 32 → b < 32 → IsTail tail → register_pointer (operands_then (codes " ") (Register a ∷ Pointer b ∷ []) tail) ≡ Some (a, b)
unfolding register_pointer
pointer_pair_read a b tail la lb t =
    rw (first_register a (44 ∷ 32 ∷ 40 ∷ (usual_name b ++ 41 ∷ tail)) la refl, last_pointer b tail lb t) refl

pub pointed_read : (a b c : ℕ) (tail : List ℕ) → a < 32 → b < 32 → c < 32 → IsTail tail → registers_pointer (operands_then (codes " ") (Register a ∷ Register b ∷ Pointer c ∷ []) tail) ≡ Some (a, b, c)
unfolding registers_pointer
pointed_read a b c tail la lb lc t =
    let third = 40 ∷ (usual_name c ++ 41 ∷ tail) in
    let second = usual_name b ++ 44 ∷ 32 ∷ third in
    rw (first_register a (44 ∷ 32 ∷ second) la refl, next_register b (44 ∷ 32 ∷ third) lb refl, last_pointer c tail lc t) refl

pub name_pair_read : (a at : ℕ) (tail : List ℕ) → a < 32 → at < 2 ^ 64 → IsTail tail → register_name (operands_then (codes " ") (Register a ∷ Target at ∷ []) tail) ≡ Some (a, label_of at)
unfolding register_name
name_pair_read a at tail la ln t =
    rw (first_register a (44 ∷ 32 ∷ (label_of at ++ tail)) la refl, last_name at tail ln t) refl

pub named_read : (a b at : ℕ) (tail : List ℕ) → a < 32 → b < 32 → at < 2 ^ 64 → IsTail tail → registers_name (operands_then (codes " ") (Register a ∷ Register b ∷ Target at ∷ []) tail) ≡ Some (a, b, label_of at)
unfolding registers_name
named_read a b at tail la lb ln t =
    let third = label_of at ++ tail in
    let second = usual_name b ++ 44 ∷ 32 ∷ third in
    rw (first_register a (44 ∷ 32 ∷ second) la refl, next_register b (44 ∷ 32 ∷ third) lb refl, last_name at tail ln t) refl

-- the value of a word
pub one_read : (m : ℕ) (tail : List ℕ) → m < 2 ^ 64 → IsTail tail → one_number (32 ∷ ((codes "0x" ++ digits 16 false m) ++ tail)) ≡ Some (record { negative = false; size = m })
unfolding one_number
one_read m tail l t =
    let text = (codes "0x" ++ digits 16 false m) ++ tail in
    rw (value_read m (32 ∷ text) tail l t.apart (space_skipped text refl), t.blank) refl
