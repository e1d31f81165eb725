use Rattle.std.proofs.Common.{◌∙◌, ◌/◌, ap, sym, subst, arith}
use Rattle.tool_space.specs.Rooms.{new_space}
use Rattle.instrument.specs.Ledgers.{LedgerData}
use Rattle.instrument.specs.ToolTexts.{IsToolText}
use Rattle.instrument.proofs.Texts.{rooms_new}
use Rattle.instrument.proofs.tool_text.ToolText.new.Goals as goal

pub invariant_of-result : goal.invariant_of-result
invariant_of-result c = subst (λ (l : LedgerData). IsToolText c.in_ok-program.program l c.in_ok-words.words) (sym c.in_ok-ledger.ensures)
    (record {
      rooms = rooms_new c.in_ok-program.program c.in_ok-words.words (c.in_ok-words.ensures ∙ ap (λ n. new_space (n / 4) 98304) c.tool_at.ensures.at);
      entries = omega arith;
    })
