use Rattle.std.proofs.Common.{◌≡◌, ◌+◌, ◌*◌, ◌/◌, ◌∙◌, sym, ap, subst, length, map, arith, List, [], ℕ}
use Rattle.std.proofs.lemmas.List.{length-map}
use Rattle.rv_word.specs.Names.{words_of}
use Rattle.tramp_spec.specs.declared.mark.MarkedWord.{MarkedWord}
use Rattle.tramp_spec.specs.Marks.{own}
use Rattle.code_store.specs.declared.word_use.WordUse.{WordUse}
use Rattle.code_store.specs.Operations.{AreFlatsOf}
use Rattle.code_store.specs.Views.{AreBlank, code_of, owners_of}
use Rattle.code_store.proofs.Beginnings.{words_end, code-first, stored_first}
use Rattle.code_store.proofs.Maps.{same_stored}
use Rattle.code_store.proofs.store.Store.with_room.Goals as goal

pub overflow_add-end : goal.overflow_add-end
overflow_add-end c =
    let end = words_end c.args.image.now c.in_ok-words.words.items c.requires.image (c.in_ok-words.ensures ∙ ap words_of c.text_bytes.ensures) in
    omega arith

pub next_multiple_of-requires-clause-fits : goal.next_multiple_of-requires-clause-fits
next_multiple_of-requires-clause-fits c =
    let end = words_end c.args.image.now c.in_ok-words.words.items c.requires.image (c.in_ok-words.ensures ∙ ap words_of c.text_bytes.ensures) in
    omega arith

pub invariant_of-text : goal.invariant_of-text
invariant_of-text c =
    let end = words_end c.args.image.now c.in_ok-words.words.items c.requires.image (c.in_ok-words.ensures ∙ ap words_of c.text_bytes.ensures) in
    let slots = ap length c.in_ok-own_slots.ensures ∙ length-map c.deref-2.result.now own ∙ ap length c.deref-2.ensures.value in
    record { ends = omega arith }

pub invariant_of-tool : goal.invariant_of-tool
invariant_of-tool c =
    let end = words_end c.args.image.now c.in_ok-words.words.items c.requires.image (c.in_ok-words.ensures ∙ ap words_of c.text_bytes.ensures) in
    let none = ap length c.in_ok-with_capacity.ensures.items in
    record { ends = omega arith }

pub invariant_of-result : goal.invariant_of-result
invariant_of-result c =
    let end = words_end c.args.image.now c.in_ok-words.words.items c.requires.image (c.in_ok-words.ensures ∙ ap words_of c.text_bytes.ensures) in
    let none = ap length c.in_ok-with_capacity.ensures.items in
    let count : c.len.result ≡ length c.in_ok-words.words.items = omega arith in
    let low = c.next_multiple_of.ensures.lower_bound in
    let high = c.next_multiple_of.ensures.upper_bound in
    let multiple = c.next_multiple_of.ensures.multiple in
    let behind : c.next_multiple_of.result ≡ (c.args.image.now.text_at + 4 * length c.in_ok-words.words.items + 4095) / 4096 * 4096 = omega arith in
    record {
      slots = ap length c.in_ok-own_slots.ensures ∙ length-map c.deref-2.result.now own ∙ ap length c.deref-2.ensures.value;
      does = subst (λ (ws : List MarkedWord). AreFlatsOf ws c.in_ok-flats.flats.items) c.deref-3.ensures.value c.in_ok-flats.ensures;
      behind = behind;
      room = omega (arith, none);
      used = ap length c.in_ok-uses.ensures.items ∙ sym none;
      blank = subst (λ (ws : List MarkedWord). AreBlank ws c.in_ok-uses.uses.items) (sym c.in_ok-with_capacity.ensures.items) tt;
      unwritten = c.new.ensures ∙ c.tool.ensures;
      slots_room = omega (arith, c.in_ok-with_capacity.ensures.capacity, c.requires.room);
      uses_room = omega (arith, c.in_ok-uses.ensures.capacity, c.requires.room);
      ends = omega (arith, behind, end);
    }

pub returns-clause-first : goal.returns-clause-first
returns-clause-first c =
    let image = c.args.image.now in
    let ws = c.in_ok-words.words.items in
    let at = c.next_multiple_of.result in
    let own_words = c.in_ok-own_slots.ensures ∙ ap (map own) c.deref-2.ensures.value in
    let read = c.in_ok-words.ensures ∙ ap words_of c.text_bytes.ensures in
    same_stored (record { at = image.text_at; words = ws }) _ _ _ _
    (ap (λ (t : List MarkedWord). code_of image.text_at t at c.in_ok-with_capacity.field-0.items c.in_ok-uses.uses.items) own_words
    ∙ ap (λ (t : List MarkedWord). code_of image.text_at (map own ws) at t c.in_ok-uses.uses.items) c.in_ok-with_capacity.ensures.items
    ∙ ap (λ (u : List WordUse). code_of image.text_at (map own ws) at [] u) c.in_ok-uses.ensures.items
    ∙ code-first ws image.text_at at)
    (ap (λ (u : List WordUse). owners_of at u) c.in_ok-uses.ensures.items)
    ∙ ap (λ (words : List ℕ). stored_first image.text_at words) read
