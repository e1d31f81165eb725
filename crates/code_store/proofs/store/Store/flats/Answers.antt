use Rattle.std.proofs.Common.{◌*◌, ◌+◌, ◌^◌, ◌<◌, ◌∙◌, sym, ap, subst, length, List}
use Rattle.std.specs.Prelude.{cond, None, false}
use Rattle.std.specs.FinMap.{get}
use Rattle.rv_exec.specs.declared.flat.Flat.{Flat}
use Rattle.tramp_spec.specs.Codes.{fetched_at, is_word_of}
use Rattle.code_store.specs.Operations.{IsFlatAt}
use Rattle.code_store.specs.Stores.{StoredCode}
use Rattle.code_store.specs.Views.{at_place, code_of}
use Rattle.code_store.proofs.Fetches.{text_fetch}
use Rattle.code_store.proofs.Flats.{flats_at, flats_long}
use Rattle.code_store.proofs.store.Store.flats.Goals as goal

pub returns-clause-flats : goal.returns-clause-flats
returns-clause-flats c = λ pc.
    let s = c.self.inside in
    let i = c.self.invariant in
    let code = code_of s.text.at s.text.slots.items s.tool.at s.tool.slots.items s.uses.items in
    let fetched = text_fetch s.text.at s.text.slots.items s.tool.at s.tool.slots.items s.uses.items pc
    ∙ (ap (λ n. cond (is_word_of s.text.at (4 * n) pc) (get code pc) None) i.slots
    ∙ ap (λ (z : StoredCode). fetched_at z.program z.code pc false) c.self.view_is) in
    subst (λ w. IsFlatAt w (at_place s.text.at c.as_slice.result.now pc)) fetched
    (subst (λ (flats : List Flat). IsFlatAt (at_place s.text.at s.text.slots.items pc) (at_place s.text.at flats pc)) (sym c.as_slice.ensures.value)
    (flats_at s.text.at s.text.slots.items s.flats.items pc i.does))

pub returns-clause-ends : goal.returns-clause-ends
returns-clause-ends c =
    let s = c.self.inside in
    subst (λ n. s.text.at + 4 * n < 2 ^ 64) (sym (ap length c.as_slice.ensures.value ∙ flats_long s.text.slots.items s.flats.items c.self.invariant.does)) s.text.ends
