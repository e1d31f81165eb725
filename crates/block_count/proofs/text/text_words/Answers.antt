use Rattle.std.proofs.Common.{ap, ◌∙◌}
use Rattle.rv_word.specs.Names.{words_of}
use Rattle.code_store.proofs.Beginnings.{words_end}
use Rattle.block_count.proofs.text.text_words.Goals as goal

pub returns-clause-low : goal.returns-clause-low
returns-clause-low c = words_end c.args.image.now c.in_ok-words.words.items c.requires (c.in_ok-words.ensures ∙ ap words_of c.text_bytes.ensures)
