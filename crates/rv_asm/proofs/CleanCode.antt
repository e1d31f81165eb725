-- The bytes of the text are whole words that don't name x31.
use Rattle.std.proofs.Common.{◌≡◌, ℕ, ◌+◌, ◌*◌, ◌/◌, ◌%◌, ◌^◌, ◌<◌, cond, Bool, true, false, Option, Some, None, Result, Ok, Err, List, [], ◌∷◌, ◌++◌, length, drop, refl, sym, ap, ◌∙◌, subst, arith, append-nil}
use Rattle.std.specs.List.{AllByRecursion, flat_map}
use Rattle.std.specs.Int.{w32, to_le_bytes, from_le_bytes}
use Rattle.std.proofs.lemmas.Grind.{flat_map-append}
use Rattle.std.proofs.lemmas.List.{take_at, drop_at, length-append}
use Rattle.std.proofs.lemmas.Nat.{from_le_bytes-to_le_bytes_4}
use Rattle.rv_word.specs.Names.{has_scratch, scratch_in, word_at, words_in, words_of}
use Rattle.rv_word.specs.Words.{word_of as coded}
use Rattle.rv_word.specs.declared.instr.Instr.{Instr}
use Rattle.rv_word.specs.declared.instr.Instr.TheVariants.{Lui, Addiw, OpImm}
use Rattle.rv_word.specs.declared.instr.ImmOp.TheVariants.{Addi}
use Rattle.rv_asm.specs.declared.fault.AsmFault.{AsmFault}
use Rattle.rv_asm.specs.declared.fault.AsmFault.TheVariants.{OutOfReach}
use Rattle.rv_asm.specs.declared.statement.Section.TheVariants as section
use Rattle.rv_asm.specs.declared.statement.ValueWidth.TheVariants as width
use Rattle.rv_asm.specs.declared.statement.Statement.{Statement}
use Rattle.rv_asm.specs.declared.statement.Statement.TheVariants as the
use Rattle.rv_asm.specs.Numbers.{wrapped}
use Rattle.rv_asm.specs.Registers.{named}
use Rattle.rv_asm.specs.Checks.{may_stand, has_x31}
use Rattle.rv_asm.specs.Layout.{is_short}
use Rattle.rv_asm.specs.FirstPass.{Placed}
use Rattle.rv_asm.specs.SecondPass.{word_bytes, instr_bytes, with_number, upper, lower, pair_bytes, number_bytes, reaches, distance, jump_bytes, address_bytes, code_by, code_of, code}
use Rattle.rv_asm.proofs.Scratch.{same_scratch, short_scratch, upper_scratch, lower_scratch}
use Rattle.rv_asm.proofs.WordBounds.{below}
use Rattle.rv_asm.proofs.FormNames.{all_append}
use Rattle.rv_asm.proofs.Lengths.{ok_step, ok_is}

-- a word of 32 bits that doesn't name x31
abbrev pub IsCleanWord : ℕ → Type 0
IsCleanWord w = (w < 2 ^ 32) × (has_scratch w ≡ false)

-- such words, one after the other
pub record IsClean (bytes : List ℕ) : Type 0 where
  pub words : List ℕ
  pub are : bytes ≡ flat_map word_bytes words
  pub clean : AllByRecursion IsCleanWord words

-- ---- what such bytes have

length-word : (w : ℕ) → length (word_bytes w) ≡ 4
unfolding word_bytes
length-word w = refl

word_again : (w : ℕ) (rest : List ℕ) → w < 2 ^ 32 → word_at (word_bytes w ++ rest) ≡ w
unfolding word_bytes
word_again w rest h = ap (λ bs. from_le_bytes w32 bs) (take_at (to_le_bytes w32 w) rest 4 refl) ∙ from_le_bytes-to_le_bytes_4 w h

length-words : (ws : List ℕ) → length (flat_map word_bytes ws) ≡ 4 * length ws
length-words [] = refl
length-words (w ∷ ws) = omega (arith, length-append (word_bytes w) (flat_map word_bytes ws), length-word w, length-words ws)

none_in : (ws : List ℕ) (a : ℕ) → AllByRecursion IsCleanWord ws → scratch_in (words_in (length ws) (flat_map word_bytes ws)) a ≡ None
none_in [] a all = refl
none_in (w ∷ ws) a all =
    let bytes = word_bytes w ++ flat_map word_bytes ws in
    let later = scratch_in (words_in (length ws) (drop 4 bytes)) (a + 4) in
    ap (λ x. cond (has_scratch x) (Some a) later) (word_again w (flat_map word_bytes ws) all.0.0)
    ∙ ap (λ b. cond b (Some a) later) all.0.1
    ∙ ap (λ r. scratch_in (words_in (length ws) r) (a + 4)) (drop_at (word_bytes w) (flat_map word_bytes ws) 4 (length-word w))
    ∙ none_in ws (a + 4) all.1

pub clean_none : (bytes : List ℕ) (a : ℕ) → IsClean bytes → scratch_in (words_of bytes) a ≡ None
clean_none bytes a is =
    let count : length (flat_map word_bytes is.words) / 4 ≡ length is.words = omega (arith, length-words is.words) in
    ap (λ bs. scratch_in (words_of bs) a) is.are
    ∙ ap (λ n. scratch_in (words_in n (flat_map word_bytes is.words)) a) count ∙ none_in is.words a is.clean

pub clean_whole : (bytes : List ℕ) → IsClean bytes → length bytes % 4 ≡ 0
clean_whole bytes is = let len = ap (λ bs. length bs) is.are in omega (arith, len, length-words is.words)

-- ---- one after the other

clean_append : (x y : List ℕ) → IsClean x → IsClean y → IsClean (x ++ y)
clean_append x y p q = record {
  words = p.words ++ q.words;
  are = ap (λ a. a ++ y) p.are ∙ ap (λ b. flat_map word_bytes p.words ++ b) q.are ∙ sym (flat_map-append word_bytes p.words q.words);
  clean = all_append IsCleanWord p.words q.words p.clean q.clean;
}

clean_nil : IsClean []
clean_nil = record { words = []; are = refl; clean = tt }

clean_one : (w : ℕ) → w < 2 ^ 32 → has_scratch w ≡ false → IsClean (word_bytes w)
clean_one w h none = record { words = w ∷ []; are = sym (append-nil (word_bytes w)); clean = ((h, none), tt) }

clean_instr : (i : Instr) → has_scratch (coded i) ≡ false → IsClean (instr_bytes i)
clean_instr i none = clean_one (coded i) (below i) none

clean_number : (i : Instr) (n : ℕ) → has_scratch (coded i) ≡ false → IsClean (instr_bytes (with_number i n))
clean_number i n none = clean_instr (with_number i n) (same_scratch i n ∙ none)

clean_pair : (rd n : ℕ) → has_scratch (coded (Lui rd 0)) ≡ false → IsClean (pair_bytes rd n)
clean_pair rd n none =
    clean_append (instr_bytes (Lui rd (upper n))) (instr_bytes (Addiw rd rd (lower n)))
    (clean_instr (Lui rd (upper n)) (upper_scratch rd (upper n) none))
    (clean_instr (Addiw rd rd (lower n)) (lower_scratch rd (lower n) none))

-- ---- the statements

either : (b : Bool) (x y : List ℕ) → IsClean x → IsClean y → IsClean (cond b x y)
either true x y p q = p
either false x y p q = q

when_ok : (b : Bool) (bytes found : List ℕ) (fault : AsmFault) → IsClean bytes → cond b (Ok bytes) (Err fault) ≡ Ok found → IsClean found
when_ok true bytes found fault is e = subst IsClean (ok_is bytes found e) is
when_ok false bytes found fault is e = absurd (cc)

jump_clean : (line at : ℕ) (i : Instr) (o : Option ℕ) (bytes : List ℕ) → has_scratch (coded i) ≡ false → jump_bytes line at i o ≡ Ok bytes → IsClean bytes
jump_clean line at i None bytes none e = absurd (cc)
jump_clean line at i (Some target) bytes none e =
    when_ok (reaches i at target) (instr_bytes (with_number i (distance at target))) bytes (OutOfReach line) (clean_number i (distance at target) none) e

address_clean : (line rd : ℕ) (o : Option ℕ) (bytes : List ℕ) → has_scratch (coded (Lui rd 0)) ≡ false → address_bytes line rd o ≡ Ok bytes → IsClean bytes
address_clean line rd None bytes none e = absurd (cc)
address_clean line rd (Some target) bytes none e = when_ok _ (pair_bytes rd target) bytes (OutOfReach line) (clean_pair rd target none) e

nothing : (bytes : List ℕ) → ◌≡◌ {A = Result (List ℕ) AsmFault} (Ok []) (Ok bytes) → IsClean bytes
nothing bytes e = subst IsClean (ok_is [] bytes e) clean_nil

-- a statement that stands in the text and doesn't name x31
pub record IsOfText (s : Statement) : Type 0 where
  pub inside : Bool
  pub stands : may_stand section.Text inside s ≡ true
  pub clean : has_x31 section.Text s ≡ false

statement_clean : (labels : List (List ℕ × ℕ)) (p : Placed) (s : Statement) (inside : Bool) (bytes : List ℕ) → may_stand section.Text inside s ≡ true → has_x31 section.Text s ≡ false → code_by labels p s ≡ Ok bytes → IsClean bytes
unfolding may_stand has_x31
statement_clean labels p (the.Value width.Word n) inside bytes h none e =
    subst IsClean (ok_is (word_bytes (wrapped n % 2 ^ 32)) bytes e) (clean_one (wrapped n % 2 ^ 32) (omega arith) none)
statement_clean labels p (the.Value width.Byte n) inside bytes h none e = absurd (cc)
statement_clean labels p (the.Value width.Half n) inside bytes h none e = absurd (cc)
statement_clean labels p (the.Value width.Doubleword n) inside bytes h none e = absurd (cc)
statement_clean labels p (the.Instruction i) inside bytes h none e = subst IsClean (ok_is (instr_bytes i) bytes e) (clean_instr i none)
statement_clean labels p (the.Numbered i n) inside bytes h none e =
    subst IsClean (ok_is (instr_bytes (with_number i (wrapped n))) bytes e) (clean_number i (wrapped n) none)
statement_clean labels p (the.Jump i) inside bytes h none e = jump_clean p.line p.at i (named p.text labels) bytes none e
statement_clean labels p (the.LoadNumber rd n) inside bytes h none e =
    subst IsClean (ok_is (number_bytes rd n) bytes e)
    (either (is_short n) (instr_bytes (OpImm Addi rd 0 (wrapped n))) (pair_bytes rd (wrapped n)) (clean_instr (OpImm Addi rd 0 (wrapped n)) (short_scratch rd (wrapped n) none)) (clean_pair rd (wrapped n) none))
statement_clean labels p (the.LoadAddress rd) inside bytes h none e = address_clean p.line rd (named p.text labels) bytes none e
statement_clean labels p other inside bytes h none e = nothing bytes e

placed_clean : (labels : List (List ℕ × ℕ)) (p : Placed) (bytes : List ℕ) → IsOfText p.statement → code_of labels p ≡ Ok bytes → IsClean bytes
unfolding code_of
placed_clean labels p bytes is e = statement_clean labels p p.statement is.inside bytes is.stands is.clean e

-- the bytes of all statements of the text
pub code_clean : (labels : List (List ℕ × ℕ)) (ps : List Placed) (bytes : List ℕ) → AllByRecursion (λ p. IsOfText p.statement) ps → code labels ps ≡ Ok bytes → IsClean bytes
code_clean labels [] bytes all e = nothing bytes e
code_clean labels (p ∷ ps) bytes all e =
    let first = ok_step (code_of labels p) _ bytes e in
    let others = ok_step (code labels ps) _ bytes first.1.1 in
    subst IsClean (ok_is (first.0 ++ others.0) bytes others.1.1)
    (clean_append first.0 others.0 (placed_clean labels p first.0 all.0 first.1.0) (code_clean labels ps others.0 all.1 others.1.0))
