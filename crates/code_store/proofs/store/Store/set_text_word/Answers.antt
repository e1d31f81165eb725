use Rattle.std.proofs.Common.{◌+◌, ◌*◌, ◌<◌, ◌∙◌, sym, ap, subst, length, refl, arith}
use Rattle.std.specs.Prelude.{slice_set}
use Rattle.std.specs.FinMap.{insert}
use Rattle.std.proofs.lemmas.List.{length-set}
use Rattle.code_store.specs.Stores.{StoredCode}
use Rattle.code_store.specs.Views.{code_of}
use Rattle.code_store.proofs.Flats.{flats_long, flats_set}
use Rattle.code_store.proofs.Maps.{code-text, same_stored}
use Rattle.code_store.proofs.store.Store.set_text_word.Goals as goal

pub returns : goal.returns
returns c =
    let s = c.self.inside in
    let below = subst (λ n. c.args.place < n) (sym c.self.invariant.slots) (subst (λ (z : StoredCode). c.args.place < length z.program.words) (sym c.self.view_is) c.requires) in
    same_stored (record { at = s.text.at; words = s.words.items }) _ _ _ _
    (ap (λ w. code_of s.text.at (slice_set s.text.slots.items c.args.place w) s.tool.at s.tool.slots.items s.uses.items) c.new-slot.ensures
    ∙ code-text s.text.at s.text.slots.items s.tool.at s.tool.slots.items s.uses.items c.args.place (s.text.at + 4 * c.args.place) c.args.word below refl)
    refl
    ∙ ap (λ (z : StoredCode). record z { code = insert z.code (z.program.at + 4 * c.args.place) c.args.word }) c.self.view_is

pub index_mut-requires : goal.index_mut-requires
index_mut-requires c =
    let s = c.self.inside in
    let below = subst (λ n. c.args.place < n) (sym c.self.invariant.slots) (subst (λ (z : StoredCode). c.args.place < length z.program.words) (sym c.self.view_is) c.requires) in
    let long = flats_long s.text.slots.items s.flats.items c.self.invariant.does in
    let kept = s.flats.ok.0 in
    omega arith

pub invariant_of-self : goal.invariant_of-self
invariant_of-self c =
    let s = c.self.inside in
    let i = c.self.invariant in
    record {
      slots = length-set s.text.slots.items c.args.place c.new-slot.result ∙ i.slots;
      does = flats_set s.text.slots.items s.flats.items c.args.place c.new-slot.result c.flat.result i.does c.flat.ensures;
      behind = i.behind;
      room = i.room;
      used = i.used;
      blank = i.blank;
      unwritten = i.unwritten;
      slots_room = i.slots_room;
      uses_room = i.uses_room;
      ends = i.ends;
    }
