use Rattle.std.proofs.Common.{◌∙◌, ap}
use Rattle.rv_word.specs.Names.{words_of}
use Rattle.code_store.proofs.Beginnings.{words_end}
use Rattle.instrument.proofs.program.Program.new.Goals as goal

pub invariant_of-result : goal.invariant_of-result
invariant_of-result c = words_end c.args.image.now c.in_ok-words.words.items c.requires (c.in_ok-words.ensures ∙ ap words_of c.text_bytes.ensures)
