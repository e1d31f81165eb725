-- The text of any word is read as a line.
use Rattle.std.proofs.Common.{◌≡◌, ℕ, ◌^◌, ◌<◌, cond, Bool, true, false, Option, Some, None, List, [], ◌∷◌, ◌++◌, codes, refl, ◌∙◌, arith}
use Rattle.std.specs.Prelude.{IfSome}
use Rattle.std.specs.Fmt.{digits}
use Rattle.pn_types.specs.Texts.{address}
use Rattle.rv_word.specs.declared.instr.Instr.{Instr}
use Rattle.rv_asm.specs.Operands.{one_number}
use Rattle.rv_asm.specs.Parsing.{body_of, line_of}
use Rattle.rv_asm.specs.Statements.{◌⇒◌, Found, each, plain_forms, named_forms, operation}
use Rattle.rv_asm.specs.declared.statement.Statement.TheVariants as the
use Rattle.rv_asm.specs.declared.statement.ValueWidth.TheVariants as width
use Rattle.disassembler.specs.Operands.{operands_of, operands_text}
use Rattle.disassembler.specs.Texts.{mnemonic, is_spelled, form_text, value_text, text_by}
use Rattle.disassembler.proofs.Decoded.{IsInstrOf}
use Rattle.disassembler.proofs.Forms.{beside}
use Rattle.disassembler.proofs.Lines.{IsSpelled, line_read, line_with}
use Rattle.disassembler.proofs.Parts.{hex_word}
use Rattle.disassembler.proofs.Shapes.{one_read}
use Rattle.disassembler.proofs.Spelled.{found_of, spelled, word_clean}

-- ---- values

-- the statement of a word's value
abbrev pub value_found : ℕ → Found
value_found word = beside (the.Value width.Word (record { negative = false; size = word }))

value_form : (text : List ℕ) → operation (codes ".word") text ≡ ((one_number ⇒ λ n. the.Value width.Word n) ⇒ beside) text
unfolding operation each plain_forms named_forms
value_form text = refl

value_spelled : (word : ℕ) → word < 2 ^ 64 → IsSpelled (codes ".word") (32 ∷ address word) (value_found word)
value_spelled word l = record {
  word = refl;
  some = omega arith;
  clean = word_clean (digits 16 false word) (hex_word word l);
  parted = λ tail t. refl;
  made = λ tail t. value_form (32 ∷ (address word ++ tail)) ∙ rw (one_read word tail l t) refl;
}

-- ---- words

-- the statement that the word's text makes, and the name in it
abbrev pub text_found : ℕ → ℕ → Option Instr → Found
text_found at word None = value_found word
text_found at word (Some i) = cond (is_spelled at i) (found_of at i) (value_found word)

chosen_read : (at word : ℕ) (behind : List ℕ) (i : Instr) (b : Bool) → word < 2 ^ 64 → IsInstrOf word i → body_of behind ≡ [] → line_of (cond b (form_text at i) (value_text word) ++ behind) ≡ Some (line_with (cond b (found_of at i) (value_found word)))
chosen_read at word behind i true l instr quiet = line_read (mnemonic i) (operands_text (codes " ") (operands_of at i)) behind (found_of at i) (spelled at i (instr.good at)) quiet
chosen_read at word behind i false l instr quiet = line_read (codes ".word") (32 ∷ address word) behind (value_found word) (value_spelled word l) quiet

pub text_read : (at word : ℕ) (behind : List ℕ) (o : Option Instr) → word < 2 ^ 64 → IfSome o (IsInstrOf word) → body_of behind ≡ [] → line_of (text_by at word o ++ behind) ≡ Some (line_with (text_found at word o))
text_read at word behind None l is quiet = line_read (codes ".word") (32 ∷ address word) behind (value_found word) (value_spelled word l) quiet
text_read at word behind (Some i) l is quiet = chosen_read at word behind i (is_spelled at i) l is quiet
