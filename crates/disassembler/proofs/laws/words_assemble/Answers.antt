use Rattle.std.proofs.Common.{◌++◌, Option, List, ℕ, subst}
use Rattle.std.specs.Prelude.{IsSomeAnd}
use Rattle.std.proofs.lemmas.List.{append_assoc}
use Rattle.rv_asm.specs.Parsing.{LineParts, line_of}
use Rattle.rv_word.specs.Table.{decode_of}
use Rattle.disassembler.specs.Laws.{IsLineOf}
use Rattle.disassembler.specs.Texts.{comment_by, instruction_text, word_text}
use Rattle.disassembler.proofs.Comments.{comment_has_no_code}
use Rattle.disassembler.proofs.laws.words_assemble.Goals as goal

pub returns : goal.returns
unfolding word_text
returns c labels number at word behind la lw known quiet =
    rw (append_assoc (instruction_text at word) (comment_by (decode_of word)) behind)
    (c.lines_assemble.ensures labels number at word (comment_by (decode_of word) ++ behind) la lw known (comment_has_no_code (decode_of word) behind quiet))
