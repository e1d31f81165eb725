use Rattle.std.proofs.Common.{◌≡◌, ◌+◌, ◌*◌, ◌<◌, ◌∙◌, refl, sym, ap, subst, length, arith}
use Rattle.std.specs.Prelude.{slice_set}
use Rattle.std.specs.FinMap.{remove}
use Rattle.std.proofs.lemmas.List.{length-set}
use Rattle.tramp_spec.specs.Codes.{tool_at}
use Rattle.code_store.specs.Stores.{StoredCode}
use Rattle.code_store.specs.Views.{freed, AreBlank, code_of, owners_of}
use Rattle.code_store.proofs.Maps.{code-freed, owners-freed, owners-past, same_stored}
use Rattle.code_store.proofs.Uses.{blank-freed, point_of-freed}
use Rattle.code_store.proofs.store.Store.free_word.Goals as goal

pub invariant_of-self : goal.invariant_of-self
invariant_of-self c =
    let s = c.self.inside in
    let i = c.self.invariant in
    record {
      slots = i.slots;
      does = i.does;
      behind = i.behind;
      room = i.room;
      used = length-set s.uses.items c.args.place c.freed.result ∙ i.used;
      blank = subst (λ u. AreBlank s.tool.slots.items (slice_set s.uses.items c.args.place u)) (sym c.freed.ensures) (blank-freed s.tool.slots.items s.uses.items c.args.place c.index.result.now c.index.ensures i.blank);
      unwritten = i.unwritten;
      slots_room = i.slots_room;
      uses_room = i.uses_room;
      ends = i.ends;
    }

pub returns-then-place-len : goal.returns-then-place-len
returns-then-place-len c =
    let s = c.self.inside in
    let below : c.args.place < length s.uses.items = omega (arith, c.if-place-len.true) in
    let now : freed c.index.result.now ≡ c.freed.result = sym c.freed.ensures in
    let behind = ap (λ t. t + 4 * c.args.place) c.self.invariant.behind in
    same_stored (record { at = s.text.at; words = s.words.items }) _ _ _ _
    (ap (λ u. code_of s.text.at s.text.slots.items s.tool.at s.tool.slots.items (slice_set s.uses.items c.args.place u)) c.freed.ensures
    ∙ code-freed s.text.at s.text.slots.items s.tool.at s.tool.slots.items s.uses.items c.args.place c.index.result.now c.index.ensures)
    (ap (λ u. owners_of s.tool.at (slice_set s.uses.items c.args.place u)) c.freed.ensures
    ∙ owners-freed s.uses.items s.tool.at c.args.place (tool_at (record { at = s.text.at; words = s.words.items }) + 4 * c.args.place) (freed c.index.result.now) (point_of-freed c.index.result.now) below (sym behind))
    ∙ ap (λ (z : StoredCode). record z { owners = remove z.owners (tool_at z.program + 4 * c.args.place) }) c.self.view_is

pub returns-else-place-len : goal.returns-else-place-len
returns-else-place-len c =
    let s = c.self.inside in
    let behind = ap (λ t. t + 4 * c.args.place) c.self.invariant.behind in
    sym c.self.view_is
    ∙ same_stored (record { at = s.text.at; words = s.words.items }) _ _ _ _ refl
    (owners-past s.uses.items s.tool.at c.args.place (tool_at (record { at = s.text.at; words = s.words.items }) + 4 * c.args.place) (omega (arith, c.if-place-len.false)) (sym behind))
    ∙ ap (λ (z : StoredCode). record z { owners = remove z.owners (tool_at z.program + 4 * c.args.place) }) c.self.view_is
