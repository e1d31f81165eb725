use Rattle.std.proofs.Common.{◌<◌, ◌+◌, ◌*◌, ◌≤◌, ◌∙◌, sym, ap, subst, refl, length, true, arith, List, get_or}
use Rattle.std.specs.Prelude.{cond, Some, None, unwrap_or}
use Rattle.std.specs.FinMap.{get}
use Rattle.pn_types.specs.declared.limits.TheConstants.{TOOL_TEXT_LEN}
use Rattle.tramp_spec.specs.Codes.{fetched_at, is_word_of}
use Rattle.tramp_spec.specs.Marks.{tool}
use Rattle.tramp_spec.specs.declared.mark.MarkedWord.{MarkedWord}
use Rattle.code_store.specs.Stores.{StoredCode}
use Rattle.code_store.specs.Views.{code_of}
use Rattle.code_store.proofs.Fetches.{tool_fetch}
use Rattle.code_store.proofs.Maps.{behind_text}
use Rattle.code_store.proofs.store.Store.tool_slots.Goals as goal

pub returns-clause-slots : goal.returns-clause-slots
returns-clause-slots c = λ place below.
    let s = c.self.inside in
    let i = c.self.invariant in
    let at = s.tool.at + 4 * place in
    let long = ap length c.as_slice.ensures.value in
    let here : place < length s.tool.slots.items = omega (arith, below, long) in
    let apart = subst (λ n. s.text.at + 4 * n ≤ s.tool.at) (sym i.slots) (behind_text s.text.at (length s.words.items) s.tool.at i.behind) in
    let found = Some (unwrap_or (get (code_of s.text.at s.text.slots.items s.tool.at s.tool.slots.items s.uses.items) at) (tool 0)) in
    sym (ap (λ (xs : List MarkedWord). Some (get_or xs place (tool 0))) c.as_slice.ensures.value
    ∙ (tool_fetch s.text.at s.text.slots.items s.tool.at s.tool.slots.items s.uses.items place at apart i.used i.blank (omega (arith, here, i.room)) refl
    ∙ (ap (λ t. cond (is_word_of t TOOL_TEXT_LEN at) found None) i.behind
    ∙ ap (λ (z : StoredCode). fetched_at z.program z.code at true) c.self.view_is)))

pub returns-clause-ends : goal.returns-clause-ends
returns-clause-ends c =
    let s = c.self.inside in
    let i = c.self.invariant in
    let long = ap length c.as_slice.ensures.value in
    omega (arith, long, i.room, i.ends)
