use Rattle.std.proofs.Common.{◌+◌, ◌*◌, ◌<◌, ◌≤◌, ◌∙◌, sym, ap, subst, length, arith}
use Rattle.std.specs.Prelude.{slice_set}
use Rattle.std.specs.FinMap.{insert}
use Rattle.std.proofs.lemmas.List.{length-set}
use Rattle.tramp_spec.specs.Codes.{tool_at}
use Rattle.code_store.specs.Stores.{StoredCode}
use Rattle.code_store.specs.Views.{code_of, owners_of, put_to}
use Rattle.code_store.proofs.Filled.{filled}
use Rattle.code_store.proofs.Maps.{code-tool, owners-same, same_stored, behind_text}
use Rattle.code_store.proofs.Uses.{blank-put, if_put-put_to, point_of-put_to, put_to-written}
use Rattle.code_store.proofs.store.Store.set_tool_word.Goals as goal

pub invariant_of-self : goal.invariant_of-self
invariant_of-self c =
    let s = c.self.inside in
    let i = c.self.invariant in
    let ts = c.fill_slots.new.slots.items in
    let us = c.fill_uses.new.uses.items in
    let f = filled s.tool.slots.items s.uses.items (c.args.place + 1) s.blank ts us i.used i.blank i.unwritten c.fill_slots.ensures.items c.fill_uses.ensures.items in
    record {
      slots = i.slots;
      does = i.does;
      behind = i.behind;
      room = omega (arith, length-set ts c.args.place c.new.result, f.long, i.room, c.requires);
      used = length-set us c.args.place c.written.result ∙ f.used ∙ sym (length-set ts c.args.place c.new.result);
      blank = blank-put ts us c.args.place c.new.result c.written.result (λ e. absurd (put_to-written c.index.result.now (sym c.written.ensures ∙ e))) f.blank;
      unwritten = i.unwritten;
      slots_room = omega (arith, i.slots_room, c.fill_slots.ensures.capacity);
      uses_room = omega (arith, i.uses_room, c.fill_uses.ensures.capacity);
      ends = i.ends;
    }

pub returns : goal.returns
returns c =
    let s = c.self.inside in
    let i = c.self.invariant in
    let ts = c.fill_slots.new.slots.items in
    let us = c.fill_uses.new.uses.items in
    let f = filled s.tool.slots.items s.uses.items (c.args.place + 1) s.blank ts us i.used i.blank i.unwritten c.fill_slots.ensures.items c.fill_uses.ensures.items in
    let below : c.args.place < length ts = omega (arith, f.long) in
    let u = put_to c.index.result.now in
    let a = tool_at (record { at = s.text.at; words = s.words.items }) + 4 * c.args.place in
    let behind = ap (λ t. t + 4 * c.args.place) i.behind in
    let apart = subst (λ n. s.text.at + 4 * n ≤ s.tool.at) (sym i.slots) (behind_text s.text.at (length s.words.items) s.tool.at i.behind) in
    same_stored (record { at = s.text.at; words = s.words.items }) _ _ _ _
    (ap (λ w. code_of s.text.at s.text.slots.items s.tool.at (slice_set ts c.args.place w) (slice_set us c.args.place c.written.result)) c.new.ensures
    ∙ ap (λ x. code_of s.text.at s.text.slots.items s.tool.at (slice_set ts c.args.place c.args.word) (slice_set us c.args.place x)) c.written.ensures
    ∙ code-tool s.text.at s.text.slots.items s.tool.at ts us c.args.place a c.args.word u apart f.used (if_put-put_to c.index.result.now c.args.word) below (sym behind)
    ∙ ap (λ m. insert m a c.args.word) (f.code s.text.at s.text.slots.items s.tool.at))
    (ap (λ x. owners_of s.tool.at (slice_set us c.args.place x)) c.written.ensures
    ∙ owners-same us s.tool.at c.args.place c.index.result.now u c.index.ensures (point_of-put_to c.index.result.now)
    ∙ f.owners s.tool.at)
    ∙ ap (λ (z : StoredCode). record z { code = insert z.code (tool_at z.program + 4 * c.args.place) c.args.word }) c.self.view_is
