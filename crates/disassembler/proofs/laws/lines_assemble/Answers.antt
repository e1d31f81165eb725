use Rattle.std.proofs.Common.{◌≡◌, ℕ, ◌%◌, ◌^◌, ◌<◌, cond, Bool, true, false, Option, Some, None, Ok, List, refl, ap, sym, ◌∙◌, subst, arith}
use Rattle.std.specs.Prelude.{IfSome, IsSomeAnd}
use Rattle.rv_word.specs.Names.{target_of}
use Rattle.rv_word.specs.Table.{decode_of}
use Rattle.rv_word.specs.declared.instr.Instr.{Instr}
use Rattle.rv_asm.specs.Numbers.{wrapped}
use Rattle.rv_asm.specs.Parsing.{LineParts}
use Rattle.rv_asm.specs.Registers.{named}
use Rattle.rv_asm.specs.SecondPass.{word_bytes}
use Rattle.disassembler.specs.Laws.{IsLineOf}
use Rattle.disassembler.specs.Operands.{label_of}
use Rattle.disassembler.specs.Texts.{is_spelled, instruction_text, target_by}
use Rattle.disassembler.proofs.Coded.{coded}
use Rattle.disassembler.proofs.Decoded.{IsInstrOf, decoded}
use Rattle.disassembler.proofs.Lines.{line_with}
use Rattle.disassembler.proofs.Spelled.{found_of}
use Rattle.disassembler.proofs.TextLines.{value_found, text_found, text_read}
use Rattle.disassembler.proofs.laws.lines_assemble.Goals as goal

wrapped_word : (word : ℕ) → word < 2 ^ 32 → wrapped (record { negative = false; size = word }) % 2 ^ 32 ≡ word
unfolding wrapped
wrapped_word word l = omega arith

value_line : (labels : List (List ℕ × ℕ)) (number at word : ℕ) → word < 2 ^ 32 → IsLineOf labels number at word (line_with (value_found word))
value_line labels number at word l = (refl, ap (λ n. Ok (word_bytes n)) (wrapped_word word l))

abbrev HasName : List (List ℕ × ℕ) → Option ℕ → Type 0
HasName labels o = IfSome o (λ address. named (label_of address) labels ≡ Some address)

chosen_line : (labels : List (List ℕ × ℕ)) (number at word : ℕ) (i : Instr) (b : Bool) → is_spelled at i ≡ b → at < 2 ^ 64 → word < 2 ^ 32 → IsInstrOf word i → HasName labels (cond b (target_of i at) None) → IsLineOf labels number at word (line_with (cond b (found_of at i) (value_found word)))
chosen_line labels number at word i true has la lw instr known = (refl, coded labels number at i la (instr.good at) instr.narrow has known ∙ ap (λ n. Ok (word_bytes n)) instr.word)
chosen_line labels number at word i false has la lw instr known = value_line labels number at word lw

text_line : (labels : List (List ℕ × ℕ)) (number at word : ℕ) (o : Option Instr) → at < 2 ^ 64 → word < 2 ^ 32 → IfSome o (IsInstrOf word) → HasName labels (target_by at o) → IsLineOf labels number at word (line_with (text_found at word o))
text_line labels number at word None la lw is known = value_line labels number at word lw
text_line labels number at word (Some i) la lw is known = chosen_line labels number at word i (is_spelled at i) refl la lw is known

pub returns : goal.returns
unfolding instruction_text
returns c labels number at word behind la lw known quiet =
    let instr = decoded word lw in
    subst (λ (line : Option LineParts). IsSomeAnd line (IsLineOf labels number at word))
    (sym (text_read at word behind (decode_of word) (omega arith) instr quiet))
    (text_line labels number at word (decode_of word) la lw instr known)
