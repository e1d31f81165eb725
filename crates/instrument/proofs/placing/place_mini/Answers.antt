use Rattle.std.proofs.Common.{◌+◌, ◌∙◌, ap, sym, length}
use Rattle.tramp_spec.specs.Statements.{body_of}
use Rattle.instrument.proofs.RoomsTaken.{mini_placed}
use Rattle.instrument.proofs.placing.place_mini.Goals as goal

pub returns-clause-ok : goal.returns-clause-ok
returns-clause-ok c = λ program k.
    let n = c.words_of-len.ensures.body c.args.slots.now in
    let s = c.as_slice.ensures in
    mini_placed program c.args.words.now c.take_room.new.words c.args.owner c.args.site.now.at c.in-Some.at (body_of c.args.slots.now c.args.site.now.stmts) c.args.base c.args.ledger.now.book c.place.new.self.book c.build_mini-mini.result (c.words_of-len.result + 1) (ap (λ m. m + 1) (sym n ∙ ap (λ stmts. length (body_of c.args.slots.now stmts)) s))
    c.in-Some.ensures.taken k c.build_mini-mini.ensures c.place.ensures.book
