use Rattle.std.proofs.Common.{◌∙◌, ap, ℕ, map}
use Rattle.rv_word.specs.Words.{word_of}
use Rattle.rv_asm.specs.declared.plain_forms.TheConstants.{PLAIN_FORMS}
use Rattle.disassembler.specs.FormsSeen.{name_with, plain_instr}
use Rattle.disassembler.proofs.Names.{plain_named}
use Rattle.disassembler.proofs.mnemonics.mnemonic.Goals as goal

pub returns-in_default : goal.returns-in_default
returns-in_default c =
    c.plain_name.ensures
    ∙ ap (λ (word : ℕ). name_with plain_instr word (map (λ row. (row.0.now, row.1)) PLAIN_FORMS)) (c.encode-word.ensures.word ∙ ap word_of c.bare.ensures)
    ∙ plain_named c.args.instr.now c.in_default.not-Jal c.in_default.not-Branch
