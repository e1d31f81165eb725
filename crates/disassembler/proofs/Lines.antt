-- A line that is a name and operands is read as the statement that these make.
use Rattle.std.proofs.Common.{◌≡◌, ℕ, zero, suc, ◌+◌, ◌<◌, ◌==◌, ◌&&◌, not, cond, Bool, true, false, Some, None, List, [], ◌∷◌, ◌++◌, length, take, drop, append_assoc, refl, ap, ◌∙◌, arith}
use Rattle.std.proofs.Math.Dec.{eqb-suc-zero}
use Rattle.std.proofs.Math.Seq.{take-append-add}
use Rattle.std.proofs.lemmas.Bool.{and_parts}
use Rattle.std.proofs.lemmas.Bool.Decides.{nat_tests}
use Rattle.std.specs.List.{prefix_len, list_all}
use Rattle.rv_asm.specs.Bytes.{is_blank, is_name_byte, skip_blanks, after_name}
use Rattle.rv_asm.specs.Parsing.{LineParts, code_len, body_of, is_parted, label_at, labels_in, labels_of, line_of, statement_at}
use Rattle.rv_asm.specs.Statements.{Found, operation}
use Rattle.rv_asm.specs.Tokens.{after_sign, ends}
use Rattle.disassembler.proofs.Parts.{IsEnd, IsWord, start_stays, word_first, word_behind, word_starts}
use Rattle.disassembler.proofs.Shapes.{IsTail}

-- ---- comments

-- neither a quote nor `#`
abbrev pub is_clean : ℕ → Bool
is_clean byte = not (byte == 34) && not (byte == 35)

abbrev pub IsClean : List ℕ → Type 0
IsClean text = list_all is_clean text ≡ true

-- one more byte of code
abbrev Grows : {Q : Type 0} → (Q → List ℕ → ℕ) → Q → Type 0
Grows len q = (byte : ℕ) (bytes : List ℕ) → is_clean byte ≡ true → len q (byte ∷ bytes) ≡ len q bytes + 1

len_then : {Q : Type 0} (len : Q → List ℕ → ℕ) (q : Q) (text rest : List ℕ) → Grows len q → IsClean text → len q (text ++ rest) ≡ length text + len q rest
len_then len q [] rest grows c = omega arith
len_then len q (x ∷ xs) rest grows c =
    let parts = and_parts (is_clean x) (list_all is_clean xs) c in
    let later : len q (xs ++ rest) ≡ length xs + len q rest = len_then len q xs rest grows parts.1 in
    grows x (xs ++ rest) parts.0 ∙ omega (arith, later)

-- what is read of a line that begins with this text
pub record IsBody (text bytes : List ℕ) : Type 0 where
  pub tail : List ℕ
  pub blank : skip_blanks tail ≡ []
  pub body : body_of bytes ≡ skip_blanks (text ++ tail)

code_then : {Q : Type 0} (len : Q → List ℕ → ℕ) (q : Q) (text rest : List ℕ) → skip_blanks (take (len q rest) rest) ≡ [] → Grows len q → IsClean text → (tail : List ℕ) × (skip_blanks tail ≡ []) × (skip_blanks (take (len q (text ++ rest)) (text ++ rest)) ≡ skip_blanks (text ++ tail))
code_then len q text rest h grows c =
    let cut : take (len q (text ++ rest)) (text ++ rest) ≡ text ++ take (len q rest) rest = ap (λ n. take n (text ++ rest)) (len_then len q text rest grows c) ∙ take-append-add text rest (len q rest) in
    (take (len q rest) rest, h, ap skip_blanks cut)

not_quote : (byte : ℕ) → is_clean byte ≡ true → (byte == 34) ≡ false
not_quote byte h = grind (arith, nat_tests)

not_comment : (byte : ℕ) → is_clean byte ≡ true → (byte == 35) ≡ false
not_comment byte h = grind (arith, nat_tests)

body_read : (text rest : List ℕ) → body_of rest ≡ [] → IsClean text → IsBody text (text ++ rest)
unfolding body_of
body_read text rest h c =
    let found = code_then code_len _ text rest h (λ byte bytes e. rw (not_comment byte e, not_quote byte e) refl) c in
    record { tail = found.0; blank = found.1; body = found.2 }

-- ---- tails

blank_first : (byte : ℕ) (bytes : List ℕ) → skip_blanks (byte ∷ bytes) ≡ [] → is_blank byte ≡ true
unfolding skip_blanks
blank_first byte bytes h = by (is_blank byte) refl h
  where
    by : (b : Bool) → is_blank byte ≡ b → drop (cond b (1 + prefix_len is_blank bytes) 0) (byte ∷ bytes) ≡ [] → is_blank byte ≡ true
    by true is e = is
    by false is e = absurd (cc)

blank_ends : (byte : ℕ) → is_blank byte ≡ true → is_name_byte byte ≡ false
blank_ends byte h = grind (arith, nat_tests)

pub parted_end : (text : List ℕ) → is_parted text ≡ true → IsEnd text
parted_end [] h = refl
parted_end (byte ∷ bytes) h = ap (λ b. cond b (1 + prefix_len is_name_byte bytes) 0) (blank_ends byte h)

tail_parted : (tail : List ℕ) → skip_blanks tail ≡ [] → is_parted tail ≡ true
tail_parted [] h = refl
tail_parted (byte ∷ bytes) h = blank_first byte bytes h

pub tail_is : (tail : List ℕ) → skip_blanks tail ≡ [] → IsTail tail
unfolding ends
tail_is tail h =
    let parted = tail_parted tail h in
    record { blank = rw h refl; apart = parted_end tail parted; parted = parted }

-- ---- statements

no_colon : (byte : ℕ) → is_blank byte ≡ true → (byte == 58) ≡ false
no_colon byte h = grind (arith, nat_tests)

no_sign : (text : List ℕ) → is_parted text ≡ true → after_sign 58 text ≡ None
no_sign [] h = refl
no_sign (byte ∷ bytes) h = rw (no_colon byte h) refl

no_label : (text rest : List ℕ) → after_name text ≡ rest → is_parted rest ≡ true → label_at text ≡ None
unfolding label_at
no_label text rest is h = rw (is, no_sign rest h) refl

none_in : (n : ℕ) (text : List ℕ) → label_at text ≡ None → labels_in n text ≡ ([], text)
none_in zero text h = refl
none_in (suc n) text h = rw h refl

no_labels : (text : List ℕ) → label_at text ≡ None → labels_of text ≡ ([], text)
unfolding labels_of
no_labels text h = none_in (length text) text h

statement_read : (name text : List ℕ) (found : Found) → IsWord name → 0 < length name → is_parted text ≡ true → operation name text ≡ Some found → statement_at (name ++ text) ≡ Some found
unfolding statement_at
statement_read [] text found w some parted is = absurd (omega arith)
statement_read (x ∷ xs) text found w some parted is =
    let end = parted_end text parted in
    rw (eqb-suc-zero (length (xs ++ text)), word_behind (x ∷ xs) text w end, parted, word_first (x ∷ xs) text w end) is

-- ---- the line

abbrev pub line_with : Found → LineParts
line_with found = record { labels = []; statement = found.0; text = found.1 }

-- a name and the text of operands, with which the assembler makes the statement
pub record IsSpelled (name operands : List ℕ) (found : Found) : Type 0 where
  pub word : IsWord name
  pub some : 0 < length name
  pub clean : IsClean (name ++ operands)
  pub parted : (tail : List ℕ) → IsTail tail → is_parted (operands ++ tail) ≡ true
  pub made : (tail : List ℕ) → IsTail tail → operation name (operands ++ tail) ≡ Some found

pub line_read : (name operands behind : List ℕ) (found : Found) → IsSpelled name operands found → body_of behind ≡ [] → line_of ((name ++ operands) ++ behind) ≡ Some (line_with found)
unfolding line_of
line_read name operands behind found s h =
    let body = body_read (name ++ operands) behind h s.clean in
    let tail = body.tail in
    let is = tail_is body.tail body.blank in
    let text = operands ++ body.tail in
    let whole : body_of ((name ++ operands) ++ behind) ≡ name ++ (operands ++ body.tail) = body.body ∙ ap skip_blanks (append_assoc name operands body.tail) ∙ start_stays (name ++ (operands ++ body.tail)) (word_starts name (operands ++ body.tail) s.word s.some) in
    let labels : labels_of (name ++ (operands ++ body.tail)) ≡ ([], name ++ (operands ++ body.tail)) = no_labels (name ++ (operands ++ body.tail)) (no_label (name ++ (operands ++ body.tail)) (operands ++ body.tail) (word_behind name (operands ++ body.tail) s.word (parted_end (operands ++ body.tail) (s.parted body.tail is))) (s.parted body.tail is)) in
    let statement : statement_at (name ++ (operands ++ body.tail)) ≡ Some found = statement_read name (operands ++ body.tail) found s.word s.some (s.parted body.tail is) (s.made body.tail is) in
    rw (whole, labels, statement) refl
