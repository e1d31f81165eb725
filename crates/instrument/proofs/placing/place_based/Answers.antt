use Rattle.std.proofs.Common.{◌/◌, ◌<◌, ◌∙◌, sym, subst, arith}
use Rattle.tool_space.specs.Rooms.{Rooms, IsTaken, after_give}
use Rattle.tramp_spec.specs.Statements.{body_of}
use Rattle.instrument.specs.Ledgers.{LedgerData}
use Rattle.instrument.specs.Spaces.{AreRoomsOf, IsRoomTaken}
use Rattle.instrument.proofs.RoomsTaken.{may_give_back, is_taken, given_back, base_long, base_placed, with_base_is}
use Rattle.instrument.proofs.placing.place_based.Goals as goal

pub give-requires-clause-reserved : goal.give-requires-clause-reserved
give-requires-clause-reserved c = may_give_back c.args.program.now c.args.words.now c.take_room.new.words c.args.ledger.now.book.rooms c.in-Some-take_room.at c.base_len-len.result c.requires.tied c.in-Some-take_room.ensures.taken

pub give-requires-clause-taken : goal.give-requires-clause-taken
give-requires-clause-taken c = is_taken c.args.program.now c.args.words.now c.take_room.new.words c.args.ledger.now.book.rooms c.in-Some-take_room.at c.base_len-len.result c.requires.tied c.in-Some-take_room.ensures.taken

pub returns-in_default-move_base-clause-tied : goal.returns-in_default-move_base-clause-tied
returns-in_default-move_base-clause-tied c =
    subst (λ (z : Rooms). AreRoomsOf c.args.program.now z c.args.ledger.now.book.rooms) (sym c.give.ensures)
    (given_back c.args.program.now c.args.words.now c.take_room.new.words c.args.ledger.now.book.rooms c.in-Some-take_room.at c.base_len-len.result c.requires.tied c.in-Some-take_room.ensures.taken)

pub place_mini-requires-clause-bases : goal.place_mini-requires-clause-bases
place_mini-requires-clause-bases c =
    let n = base_long c.args.site.now.at c.in-Some.word c.in-Some-take_room.at c.in-Some-move_base.base (sym c.in-Some-move_base.ensures) in
    omega (arith, n, c.base_len-len.ensures.len, c.base_len-len.ensures.short)

pub give-requires-in-Err-clause-reserved : goal.give-requires-in-Err-clause-reserved
give-requires-in-Err-clause-reserved c =
    subst (λ (z : Rooms). 0 < z.gives) (sym c.in-Err.ensures.unchanged.1)
    (may_give_back c.args.program.now c.args.words.now c.take_room.new.words c.args.ledger.now.book.rooms c.in-Some-take_room.at c.base_len-len.result c.requires.tied c.in-Some-take_room.ensures.taken)

pub give-requires-in-Err-clause-taken : goal.give-requires-in-Err-clause-taken
give-requires-in-Err-clause-taken c =
    subst (λ (z : Rooms). IsTaken z (c.in-Some-take_room.at / 4) c.base_len-len.result) (sym c.in-Err.ensures.unchanged.1)
    (is_taken c.args.program.now c.args.words.now c.take_room.new.words c.args.ledger.now.book.rooms c.in-Some-take_room.at c.base_len-len.result c.requires.tied c.in-Some-take_room.ensures.taken)

pub returns-in-Ok-clause-ok : goal.returns-in-Ok-clause-ok
returns-in-Ok-clause-ok c =
    let taken = subst (λ n. IsRoomTaken c.args.words.now c.take_room.new.words c.in-Some-take_room.at n) c.base_len-len.ensures.len c.in-Some-take_room.ensures.taken in
    let base = sym c.in-Some-move_base.ensures in
    let placed = base_placed c.args.program.now c.args.words.now c.take_room.new.words c.args.ledger.now.book.rooms c.args.site.now.at c.in-Some.word c.in-Some-take_room.at c.in-Some-move_base.base base c.requires.tied taken in
    with_base_is c.args.program.now c.args.words.now c.take_room.new.words c.args.owner c.args.site.now.at c.in-Some.word c.in-Some-take_room.at (body_of c.args.slots.now c.args.site.now.stmts) c.args.ledger.now.book c.in-Some-move_base.base c.in-Some.ensures.word base c.requires.tied taken
    ∙ (c.in-Ok.ensures.ok c.args.program.now placed).0

pub returns-in-Ok-clause-tied : goal.returns-in-Ok-clause-tied
returns-in-Ok-clause-tied c =
    let taken = subst (λ n. IsRoomTaken c.args.words.now c.take_room.new.words c.in-Some-take_room.at n) c.base_len-len.ensures.len c.in-Some-take_room.ensures.taken in
    let base = sym c.in-Some-move_base.ensures in
    (c.in-Ok.ensures.ok c.args.program.now (base_placed c.args.program.now c.args.words.now c.take_room.new.words c.args.ledger.now.book.rooms c.args.site.now.at c.in-Some.word c.in-Some-take_room.at c.in-Some-move_base.base base c.requires.tied taken)).1

pub returns-in-Err-clause-refused : goal.returns-in-Err-clause-refused
returns-in-Err-clause-refused c =
    let taken = subst (λ n. IsRoomTaken c.args.words.now c.take_room.new.words c.in-Some-take_room.at n) c.base_len-len.ensures.len c.in-Some-take_room.ensures.taken in
    let base = sym c.in-Some-move_base.ensures in
    let placed = base_placed c.args.program.now c.args.words.now c.take_room.new.words c.args.ledger.now.book.rooms c.args.site.now.at c.in-Some.word c.in-Some-take_room.at c.in-Some-move_base.base base c.requires.tied taken in
    with_base_is c.args.program.now c.args.words.now c.take_room.new.words c.args.owner c.args.site.now.at c.in-Some.word c.in-Some-take_room.at (body_of c.args.slots.now c.args.site.now.stmts) c.args.ledger.now.book c.in-Some-move_base.base c.in-Some.ensures.word base c.requires.tied taken
    ∙ c.in-Err.ensures.refused c.args.program.now placed

pub returns-in-Err-clause-tied : goal.returns-in-Err-clause-tied
returns-in-Err-clause-tied c =
    subst (λ (z : Rooms). AreRoomsOf c.args.program.now z c.place_mini.new.ledger.book.rooms) (sym c.give-in-Err.ensures)
    (subst (λ (z : Rooms). AreRoomsOf c.args.program.now (after_give z (c.in-Some-take_room.at / 4) c.base_len-len.result) c.place_mini.new.ledger.book.rooms) (sym c.in-Err.ensures.unchanged.1)
    (subst (λ (l : LedgerData). AreRoomsOf c.args.program.now (after_give c.take_room.new.words (c.in-Some-take_room.at / 4) c.base_len-len.result) l.book.rooms) (sym c.in-Err.ensures.unchanged.0)
    (given_back c.args.program.now c.args.words.now c.take_room.new.words c.args.ledger.now.book.rooms c.in-Some-take_room.at c.base_len-len.result c.requires.tied c.in-Some-take_room.ensures.taken)))
