use Rattle.std.proofs.Common.{◌+◌, ◌*◌, ◌/◌, ◌≤◌, ◌∙◌, sym, ap, subst, length, true, arith}
use Rattle.std.specs.Prelude.{cond, Some, None, unwrap_or}
use Rattle.std.specs.FinMap.{get}
use Rattle.std.proofs.lemmas.Bool.{cond-false}
use Rattle.std.proofs.lemmas.List.{get_or_default, get_or_past}
use Rattle.pn_types.specs.declared.limits.TheConstants.{TOOL_TEXT_LEN}
use Rattle.tramp_spec.specs.Codes.{fetched_at, is_word_of}
use Rattle.tramp_spec.specs.Marks.{tool}
use Rattle.code_store.specs.Stores.{StoredCode}
use Rattle.code_store.specs.Views.{code_of}
use Rattle.code_store.proofs.Fetches.{tool_fetch}
use Rattle.code_store.proofs.Maps.{behind_text}
use Rattle.code_store.proofs.store.Store.tool_slot.Goals as goal

pub returns-then-i-len : goal.returns-then-i-len
returns-then-i-len c =
    let s = c.self.inside in
    let i = c.self.invariant in
    let n = c.place_of-i.result in
    let apart = subst (λ n. s.text.at + 4 * n ≤ s.tool.at) (sym i.slots) (behind_text s.text.at (length s.words.items) s.tool.at i.behind) in
    let found = Some (unwrap_or (get (code_of s.text.at s.text.slots.items s.tool.at s.tool.slots.items s.uses.items) c.args.at) (tool 0)) in
    let placed = c.place_of-i.ensures.place (length s.tool.slots.items) (omega (arith, i.ends, i.room)) (omega (arith, c.if-i-len.true)) in
    ap (λ o. Some o) (c.index.ensures ∙ get_or_default s.tool.slots.items n c.index.result.now (tool 0) (omega (arith, c.if-i-len.true)))
    ∙ (tool_fetch s.text.at s.text.slots.items s.tool.at s.tool.slots.items s.uses.items n c.args.at apart i.used i.blank (omega (arith, c.if-i-len.true, i.room)) placed
    ∙ (ap (λ t. cond (is_word_of t TOOL_TEXT_LEN c.args.at) found None) i.behind
    ∙ ap (λ (z : StoredCode). fetched_at z.program z.code c.args.at true) c.self.view_is))

pub returns-then-i : goal.returns-then-i
returns-then-i c =
    let s = c.self.inside in
    let i = c.self.invariant in
    let n = c.place_of-i.result in
    let apart = subst (λ n. s.text.at + 4 * n ≤ s.tool.at) (sym i.slots) (behind_text s.text.at (length s.words.items) s.tool.at i.behind) in
    let found = Some (unwrap_or (get (code_of s.text.at s.text.slots.items s.tool.at s.tool.slots.items s.uses.items) c.args.at) (tool 0)) in
    let placed = c.place_of-i.ensures.place (TOOL_TEXT_LEN / 4) (omega (arith, i.ends)) (omega (arith, c.if-i.true)) in
    ap (λ o. Some o) (i.unwritten ∙ sym (get_or_past s.tool.slots.items n (tool 0) (omega (arith, c.if-i-len.false))))
    ∙ (tool_fetch s.text.at s.text.slots.items s.tool.at s.tool.slots.items s.uses.items n c.args.at apart i.used i.blank (omega (arith, c.if-i.true)) placed
    ∙ (ap (λ t. cond (is_word_of t TOOL_TEXT_LEN c.args.at) found None) i.behind
    ∙ ap (λ (z : StoredCode). fetched_at z.program z.code c.args.at true) c.self.view_is))

pub returns-else-i : goal.returns-else-i
returns-else-i c =
    let s = c.self.inside in
    let i = c.self.invariant in
    let found = Some (unwrap_or (get (code_of s.text.at s.text.slots.items s.tool.at s.tool.slots.items s.uses.items) c.args.at) (tool 0)) in
    let out = c.place_of-i.ensures.outside (TOOL_TEXT_LEN / 4) (omega (arith, i.ends)) (omega (arith, c.if-i.false)) in
    sym (cond-false (is_word_of s.tool.at TOOL_TEXT_LEN c.args.at) found None out)
    ∙ (ap (λ t. cond (is_word_of t TOOL_TEXT_LEN c.args.at) found None) i.behind
    ∙ ap (λ (z : StoredCode). fetched_at z.program z.code c.args.at true) c.self.view_is)
