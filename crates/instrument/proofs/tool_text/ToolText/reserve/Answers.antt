use Rattle.std.proofs.Common.{Result, Ok, Err, ap, arith}
use Rattle.std.specs.Result.{OnOk}
use Rattle.std.proofs.Math.Nat.{le-max_right}
use Rattle.instrument.specs.Ledgers.{LedgerData}
use Rattle.instrument.specs.ToolTexts.{held_minis}
use Rattle.instrument.proofs.Grown.{held_few, text_reserved}
use Rattle.instrument.proofs.tool_text.ToolText.reserve.Goals as goal

pub invariant_of-self-2 : goal.invariant_of-self-2
invariant_of-self-2 c = text_reserved c.self.inside.program c.self.inside.ledger c.reserve.new.self c.self.inside.words c.reserve-2.new.self c.in-Some.takes c.in-Some-entries_for.entries c.reserve-2.result c.self.invariant c.in_ok-reserve.ensures.ok c.reserve-2.ensures.ok c.reserve-2.ensures.err

-- what holds at all holds where all went well
on_ok_of : {A B P : Type 0} (r : Result A B) → P → OnOk r P
on_ok_of (Ok x) p = p
on_ok_of (Err y) p = tt

pub returns-clause-entries : goal.returns-clause-entries
returns-clause-entries c =
    let l = c.self.inside.ledger in
    let ok = c.in_ok-reserve.ensures.ok in
    on_ok_of c.reserve-2.result
    (omega (
      arith,
      held_few l.book.rooms,
      c.count.ensures,
      ap (λ (z : LedgerData). held_minis z.book.rooms) ok,
      ap (λ (z : LedgerData). z.spare_entries) ok,
      le-max_right l.spare_entries c.in-Some-entries_for.entries,
      c.in-Some-entries_for.ensures,
    ))
