use Rattle.std.proofs.Common.{◌≡◌, ℕ, ◌%◌, ◌^◌, ◌<◌, cond, Bool, true, false, Option, Some, None, Ok, refl, ap, ◌∙◌, arith}
use Rattle.std.specs.Prelude.{IfSome}
use Rattle.std.proofs.lemmas.Bool.Decides.{nat_tests}
use Rattle.rv_word.specs.Names.{has_scratch}
use Rattle.rv_word.specs.Table.{decode_of}
use Rattle.rv_word.specs.declared.instr.Instr.{Instr}
use Rattle.rv_asm.specs.Checks.{has_x31, may_stand, numbers_fit}
use Rattle.rv_asm.specs.FirstPass.{blank_draft, faultless, judged_line}
use Rattle.rv_asm.specs.Numbers.{within, wrapped}
use Rattle.rv_asm.specs.Statements.{Found}
use Rattle.disassembler.specs.Texts.{is_spelled, instruction_text}
use Rattle.disassembler.proofs.Decoded.{IsInstrOf, decoded}
use Rattle.disassembler.proofs.Lines.{line_with}
use Rattle.disassembler.proofs.Spelled.{found_of}
use Rattle.disassembler.proofs.Standing.{numbers_are, scratch_is, stands}
use Rattle.disassembler.proofs.TextLines.{value_found, text_found, text_read}
use Rattle.disassembler.proofs.laws.lines_stand_in_texts.Goals as goal

-- the statement stands in the text, its numbers fit, and it doesn't name x31
record IsFaultless (inside : Bool) (found : Found) : Type 0 where
  place : may_stand blank_draft.section inside found.0 ≡ true
  numbers : numbers_fit found.0 ≡ true
  clean : has_x31 blank_draft.section found.0 ≡ false

value_wrapped : (word : ℕ) → word < 2 ^ 32 → wrapped (record { negative = false; size = word }) % 2 ^ 32 ≡ word
unfolding wrapped
value_wrapped word l = omega arith

value_faultless : (word : ℕ) (inside : Bool) → word < 2 ^ 32 → has_scratch word ≡ false → IsFaultless inside (value_found word)
unfolding may_stand numbers_fit has_x31 within
value_faultless word inside l clean = record {
  place = refl;
  numbers = grind (arith, nat_tests);
  clean = ap has_scratch (value_wrapped word l) ∙ clean;
}

chosen_faultless : (at word : ℕ) (inside : Bool) (i : Instr) (b : Bool) → is_spelled at i ≡ b → word < 2 ^ 32 → has_scratch word ≡ false → IsInstrOf word i → IsFaultless inside (cond b (found_of at i) (value_found word))
chosen_faultless at word inside i true has l clean instr = record {
  place = stands at i inside;
  numbers = numbers_are at i instr.narrow;
  clean = scratch_is at i has ∙ ap has_scratch instr.word ∙ clean;
}
chosen_faultless at word inside i false has l clean instr = value_faultless word inside l clean

text_faultless : (at word : ℕ) (inside : Bool) (o : Option Instr) → word < 2 ^ 32 → has_scratch word ≡ false → IfSome o (IsInstrOf word) → IsFaultless inside (text_found at word o)
text_faultless at word inside None l clean is = value_faultless word inside l clean
text_faultless at word inside (Some i) l clean is = chosen_faultless at word inside i (is_spelled at i) refl l clean is

passes : (number : ℕ) (inside : Bool) (found : Found) → IsFaultless inside found → faultless number blank_draft.section inside (line_with found) ≡ Ok (line_with found)
passes number inside found f = rw (f.place, f.numbers, f.clean) refl

pub returns : goal.returns
unfolding instruction_text judged_line
returns c number at word behind inside l clean quiet =
    let instr = decoded word l in
    rw (text_read at word behind (decode_of word) (omega arith) instr quiet, passes number inside (text_found at word (decode_of word)) (text_faultless at word inside (decode_of word) l clean instr)) refl
