use Rattle.std.proofs.Common.{true, ◌∙◌, ap, sym}
use Rattle.std.specs.Prelude.{unwrap_or}
use Rattle.std.specs.Option.{option_map}
use Rattle.rv_word.specs.Names.{jump_of}
use Rattle.rv_word.specs.Table.{decode_of}
use Rattle.tramp_spec.specs.Codes.{fetched_at}
use Rattle.code_store.specs.Stores.{marked}
use Rattle.machine.specs.Events.{link_at}
use Rattle.machine.specs.Views.{row_of}
use Rattle.machine.proofs.BlockLists.{fetched_leads}
use Rattle.machine.proofs.block_row.BlockRow.next_of.Goals as goal

pub returns-in-Some : goal.returns-in-Some
returns-in-Some c =
    let a = link_at (row_of c.args.self.now) in
    let store = c.args.store.now in
    let fetched = ap (option_map marked) (sym c.in-Some.is) ∙ (c.fetch.ensures ∙ ap (λ z. fetched_at store.program store.code z true) c.link_at-at.ensures) in
    c.unwrap_or.ensures
    ∙ ap (λ o. unwrap_or o 0) (c.jump_target.ensures ∙ ap (jump_of (decode_of c.in-Some.word)) c.link_at-at.ensures)
    ∙ fetched_leads store.program store.code a _ c.requires.word fetched
