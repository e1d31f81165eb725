use Rattle.std.proofs.Common.{◌∙◌, sym, ap, length, arith}
use Rattle.rv_word.specs.Plain.{program_word}
use Rattle.code_store.specs.Stores.{StoredCode}
use Rattle.code_store.proofs.Fetches.{no_program_word}
use Rattle.code_store.proofs.store.Store.program_word.Goals as goal

pub returns-else-i-len : goal.returns-else-i-len
returns-else-i-len c =
    let s = c.self.inside in
    let ends = s.text.ends in
    let slots = c.self.invariant.slots in
    let out = c.place_of-i.ensures.outside (length s.words.items) (omega arith) (omega arith) in
    sym (ap (λ (z : StoredCode). program_word z.program c.args.at) (sym c.self.view_is) ∙ no_program_word s.text.at s.words.items c.args.at out)
