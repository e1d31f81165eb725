-- What is read of a line is no longer than the line.
use Rattle.std.proofs.Common.{◌≡◌, ℕ, zero, suc, ◌≤◌, ◌==◌, ◌⊎◌, inl, inr, cond, Bool, true, false, Option, Some, None, List, [], length, take, refl, subst, arith}
use Rattle.std.proofs.lemmas.Bool.{eqb-false}
use Rattle.std.proofs.lemmas.List.{length-take}
use Rattle.rv_asm.specs.declared.statement.Statement.{Statement}
use Rattle.rv_asm.specs.declared.statement.Statement.TheVariants as the
use Rattle.rv_asm.specs.Bytes.{after_name, word_of}
use Rattle.rv_asm.specs.Statements.{Found, operation}
use Rattle.rv_asm.specs.Parsing.{label_at, more_labels, labels_in, labels_of, is_parted, statement_at, body_of, code_len, LineParts, line_of}
use Rattle.rv_asm.specs.declared.line.Quoting.TheVariants.{Outside}
use Rattle.rv_asm.proofs.LineLabels.{label_shorter}
use Rattle.rv_asm.proofs.FormNames.{IsNamed, IsRead, operation_read}
use Rattle.rv_asm.proofs.ShorterOperands.{step_of, some_is, skip_shorter, behind_shorter}

-- the name or string of a statement fits the bytes, of which there is one unless they are nothing, and is clean where it
-- names a procedure or an object
pub record Fits (s : Statement) (name : List ℕ) (len : ℕ) : Type 0 where
  pub within : length name ≤ len
  pub some : (s ≡ the.Empty) ⊎ (1 ≤ len)
  pub named : IsNamed s name

worded_by : (parted : Bool) (text : List ℕ) (s : Found) → cond parted (operation (word_of text) (after_name text)) None ≡ Some s → IsRead (after_name text) s
worded_by true text s e = operation_read (word_of text) (after_name text) s e
worded_by false text s e = absurd (cc)

statement_by : (empty : Bool) (text : List ℕ) (s : Found) → (length text == 0) ≡ empty → cond empty (Some (the.Empty, [])) (cond (is_parted (after_name text)) (operation (word_of text) (after_name text)) None) ≡ Some s → Fits s.0 s.1 (length text)
statement_by true text s len e =
    let is : (the.Empty, []) ≡ s = some_is (the.Empty, []) s e in
    subst (λ (s : Found). Fits s.0 s.1 (length text)) is (record { within = omega arith; some = inl refl; named = tt })
statement_by false text s len e =
    let some = eqb-false (length text) 0 len in
    let read = worded_by (is_parted (after_name text)) text s e in
    let short = read.short in
    let shorter = behind_shorter text in
    record { within = omega arith; some = inr (omega arith); named = read.named }

statement_fits : (text : List ℕ) (s : Found) → statement_at text ≡ Some s → Fits s.0 s.1 (length text)
unfolding statement_at
statement_fits text s e = statement_by (length text == 0) text s refl e

labels_by : (n : ℕ) (text : List ℕ) (found : Option (List ℕ × List ℕ)) → label_at text ≡ found → ((t : List ℕ) → length (labels_in n t).1 ≤ length t) → length (more_labels (labels_in n) text found).1 ≤ length text
labels_by n text None e ih = omega arith
labels_by n text (Some label) e ih =
    let h = label_shorter text label e in
    let g = ih label.1 in
    omega arith

labels_shorter : (n : ℕ) (text : List ℕ) → length (labels_in n text).1 ≤ length text
labels_shorter zero text = omega arith
labels_shorter (suc n) text = labels_by n text (label_at text) refl (labels_shorter n)

rest_shorter : (text : List ℕ) → length (labels_of text).1 ≤ length text
unfolding labels_of
rest_shorter text = labels_shorter (length text) text

body_shorter : (bytes : List ℕ) → length (body_of bytes) ≤ length bytes
unfolding body_of
body_shorter bytes =
    let h = skip_shorter (take (code_len Outside bytes) bytes) in
    let cut = length-take (code_len Outside bytes) bytes in
    omega arith

more_room : (s : Statement) (name : List ℕ) (few many : ℕ) → few ≤ many → Fits s name few → Fits s name many
more_room s name few many h fits = record { within = let w = fits.within in omega arith; some = by fits.some; named = fits.named }
  where
    by : ((s ≡ the.Empty) ⊎ (1 ≤ few)) → (s ≡ the.Empty) ⊎ (1 ≤ many)
    by (inl e) = inl e
    by (inr l) = inr (omega arith)

-- the name or string of a line's statement fits the line
pub line_fits : (bytes : List ℕ) (line : LineParts) → line_of bytes ≡ Some line → Fits line.statement line.text (length bytes)
unfolding line_of
line_fits bytes line e =
    let rest = (labels_of (body_of bytes)).1 in
    let found = step_of (statement_at rest) _ line e in
    let line-is : record { labels = (labels_of (body_of bytes)).0; statement = found.0.0; text = found.0.1 } ≡ line = some_is _ line found.1.1 in
    let h = body_shorter bytes in
    let g = rest_shorter (body_of bytes) in
    subst (λ (l : LineParts). Fits l.statement l.text (length bytes)) line-is
    (more_room found.0.0 found.0.1 (length rest) (length bytes) (omega arith) (statement_fits rest found.0 found.1.0))
