use Rattle.std.proofs.Common.{◌*◌, ◌∙◌, sym, ap, false}
use Rattle.std.specs.Prelude.{cond, None}
use Rattle.std.specs.FinMap.{get}
use Rattle.tramp_spec.specs.Codes.{fetched_at, is_word_of}
use Rattle.code_store.specs.Stores.{StoredCode}
use Rattle.code_store.specs.Views.{code_of}
use Rattle.code_store.proofs.Fetches.{text_fetch}
use Rattle.code_store.proofs.store.Store.slot.Goals as goal

pub returns-then-inside : goal.returns-then-inside
returns-then-inside c = c.tool_slot.ensures ∙ ap (fetched_at c.args.self.now.program c.args.self.now.code c.args.pc) (sym c.if-inside.true)

pub returns-else-inside : goal.returns-else-inside
returns-else-inside c =
    let s = c.self.inside in
    let i = c.self.invariant in
    let now = c.args.self.now in
    let code = code_of s.text.at s.text.slots.items s.tool.at s.tool.slots.items s.uses.items in
    c.get.ensures
    ∙ (text_fetch s.text.at s.text.slots.items s.tool.at s.tool.slots.items s.uses.items c.args.pc
    ∙ (ap (λ n. cond (is_word_of s.text.at (4 * n) c.args.pc) (get code c.args.pc) None) i.slots
    ∙ (ap (λ (z : StoredCode). fetched_at z.program z.code c.args.pc false) c.self.view_is
    ∙ ap (fetched_at now.program now.code c.args.pc) (sym c.if-inside.false))))
