use Rattle.std.proofs.Common.{◌≡◌, ◌∙◌, ◌+◌, ap, sym, subst, arith, length, List, Some}
use Rattle.std.specs.Prelude.{IfSome}
use Rattle.std.proofs.lemmas.Bool.{true≢false}
use Rattle.std.specs.List.{flat_map}
use Rattle.machine.specs.Cores.{In}
use Rattle.tramp_spec.specs.Slots.{places_of}
use Rattle.instrument.specs.Admission.{slot_count, slots_from}
use Rattle.instrument.specs.Armable.{IsArmable}
use Rattle.instrument.specs.Books.{Book}
use Rattle.instrument.specs.Fits.{slots_for}
use Rattle.instrument.specs.Freed.{AreHere}
use Rattle.instrument.specs.Listed.{AreNumberedBelow}
use Rattle.instrument.specs.Needs.{Need, need_of, sites_in}
use Rattle.instrument.specs.Placers.{PlacerData, AreAdmitted, HasMemory}
use Rattle.instrument.specs.Spaces.{IsRow, slots_of}
use Rattle.instrument.specs.declared.instrument.Instrument.{Instrument}
use Rattle.instrument.proofs.Added.{row_from, first_from}
use Rattle.instrument.proofs.Freed.{here_placed}
use Rattle.instrument.proofs.Listed.{below_added}
use Rattle.instrument.proofs.Memoryless.{refused_memoryless}
use Rattle.instrument.proofs.Owners.{sites_none, admitted_placed}
use Rattle.instrument.proofs.Ready.{placer_less, placer_used, kits_memory, is_found, same_here}
use Rattle.instrument.proofs.placer.Placer.admit.Goals as goal

pub add-requires-clause-row : goal.add-requires-clause-row
add-requires-clause-row c = subst IsRow (sym c.in_ok-instrument.ensures.instrument) (row_from c.in-Some.first c.args.plan.now.vars)

pub add-requires-clause-armable : goal.add-requires-clause-armable
add-requires-clause-armable c = subst (λ (i : Instrument). IsArmable i.placed.opens) (sym c.in_ok-instrument.ensures.instrument) c.requires.armable

pub add-requires-clause-number : goal.add-requires-clause-number
add-requires-clause-number c =
    let listed = subst (λ (is : List Instrument). AreNumberedBelow c.self.inside.count is) (sym (c.free_slots.ensures.instruments ∙ c.kit_for-kit.ensures.instruments)) c.self.invariant.listed in
    subst (λ (i : Instrument). AreNumberedBelow i.no c.free_slots.new.self.instruments) (sym c.in_ok-instrument.ensures.instrument) listed

pub add-requires-clause-free : goal.add-requires-clause-free
add-requires-clause-free c =
    let plan = c.args.plan.now in
    let held = flat_map (λ (i : Instrument). places_of i.placed) c.free_slots.new.self.instruments in
    let found : slots_for held (slot_count plan.vars) ≡ Some c.in-Some.first =
    ap (λ is. slots_for (flat_map (λ (i : Instrument). places_of i.placed) is) (slot_count plan.vars)) c.free_slots.ensures.instruments
    ∙ (ap (slots_for (flat_map (λ (i : Instrument). places_of i.placed) c.kit_for-kit.new.roster.instruments)) (sym (c.slot_count-slots.ensures ∙ ap slot_count c.as_slice.ensures)) ∙ sym c.in-Some.ensures.slot) in
    subst (λ (i : Instrument). slots_for held (slot_count i.placed.vars) ≡ Some (slots_of i).at) (sym c.in_ok-instrument.ensures.instrument) (first_from held c.in-Some.first plan.vars found)

-- ---- the memory

pub invariant_of-self : goal.invariant_of-self
invariant_of-self c = placer_less c.self.inside.text c.self.inside.roster c.self.inside.count (need_of c.args.plan.now) c.self.inside.kits.items c.take_kit-kit.new.kits.items c.self.invariant c.take_kit-kit.ensures.kits

pub invariant_of-self-then-instruments-self : goal.invariant_of-self-then-instruments-self
invariant_of-self-then-instruments-self c = placer_less c.self.inside.text c.self.inside.roster c.self.inside.count (need_of c.args.plan.now) c.self.inside.kits.items c.take_kit-kit.new.kits.items c.self.invariant c.take_kit-kit.ensures.kits

pub kit_for-kit-requires-clause-memory : goal.kit_for-kit-requires-clause-memory
kit_for-kit-requires-clause-memory c =
    subst (λ (ns : List Need). IfSome c.take_kit-kit.result (λ k. HasMemory c.self.inside.text c.self.inside.roster c.self.inside.count (sites_in ns + length c.args.plan.now.sites) (length ns + 1))) (sym c.deref.ensures.value)
    (kits_memory c.take_kit-kit.result c.self.inside.text c.self.inside.roster c.self.inside.count c.args.plan.now c.self.inside.kits.items c.take_kit-kit.new.kits.items c.take_kit-kit.ensures.kits c.take_kit-kit.ensures.some c.self.invariant.memory)

pub invariant_of-self-in_default : goal.invariant_of-self-in_default
invariant_of-self-in_default c =
    let k = placer_less c.self.inside.text c.self.inside.roster c.self.inside.count (need_of c.args.plan.now) c.self.inside.kits.items c.take_kit-kit.new.kits.items c.self.invariant c.take_kit-kit.ensures.kits in
    let e = c.kit_for-kit.ensures in
    record { memory = e.kept _ _ k.memory; admitted = subst (λ (b : Book). AreAdmitted c.self.inside.count b.rooms) (sym e.book) k.admitted; listed = subst (λ (is : List Instrument). AreNumberedBelow c.self.inside.count is) (sym e.instruments) k.listed; here = same_here c.self.inside.text c.kit_for-kit.new.text c.self.inside.roster c.kit_for-kit.new.roster e.book e.instruments k.here }

pub returns-in_default-clause-memory : goal.returns-in_default-clause-memory
returns-in_default-clause-memory c = λ h e.
    let ready = subst (λ (d : PlacerData). In (need_of c.args.plan.now) d.ready) (sym c.self.view_is) h in
    let ok = c.in_default.ensures.ready (is_found c.take_kit-kit.result (need_of c.args.plan.now) c.self.inside.kits.items c.take_kit-kit.new.kits.items c.take_kit-kit.ensures.kits c.take_kit-kit.ensures.none ready) in
    absurd (true≢false (sym ok))

pub invariant_of-self-in_default-free_slots : goal.invariant_of-self-in_default-free_slots
invariant_of-self-in_default-free_slots c =
    let e = c.kit_for-kit.ensures in
    let s = c.free_slots.ensures in
    placer_used c.kit_for-kit.new.text c.kit_for-kit.new.text c.kit_for-kit.new.roster c.free_slots.new.self c.self.inside.count c.self.inside.count (length c.args.plan.now.sites) c.deref.result.now c.take_kit-kit.new.kits.items
    c.in-Ok.ensures.memory c.deref.ensures.value (subst (λ (b : Book). AreAdmitted c.self.inside.count b.rooms) (sym e.book) c.self.invariant.admitted)
    (subst (λ (is : List Instrument). AreNumberedBelow c.self.inside.count is) (sym (s.instruments ∙ e.instruments)) c.self.invariant.listed)
    (same_here c.self.inside.text c.kit_for-kit.new.text c.self.inside.roster c.free_slots.new.self e.book (s.instruments ∙ e.instruments) c.self.invariant.here)
    (omega arith) (omega arith) (omega arith) (omega (arith, s.room)) (omega (arith, s.takes)) (omega arith)

pub place-requires-clause-new : goal.place-requires-clause-new
place-requires-clause-new c = sites_none c.self.inside.count c.kit_for-kit.new.text.book.rooms (subst (λ (b : Book). AreAdmitted c.self.inside.count b.rooms) (sym c.kit_for-kit.ensures.book) c.self.invariant.admitted)

pub invariant_of-self-in_err-instrument : goal.invariant_of-self-in_err-instrument
invariant_of-self-in_err-instrument c =
    let e = c.kit_for-kit.ensures in
    let s = c.free_slots.ensures in
    let p = c.place.ensures in
    placer_used c.kit_for-kit.new.text c.place.new.text c.kit_for-kit.new.roster c.free_slots.new.self c.self.inside.count c.self.inside.count (length c.args.plan.now.sites) c.deref.result.now c.take_kit-kit.new.kits.items
    c.in-Ok.ensures.memory c.deref.ensures.value (subst (λ (b : Book). AreAdmitted c.self.inside.count b.rooms) (sym (c.in_err-instrument.ensures.unchanged ∙ e.book)) c.self.invariant.admitted)
    (subst (λ (is : List Instrument). AreNumberedBelow c.self.inside.count is) (sym (s.instruments ∙ e.instruments)) c.self.invariant.listed)
    (same_here c.self.inside.text c.place.new.text c.self.inside.roster c.free_slots.new.self (c.in_err-instrument.ensures.unchanged ∙ e.book) (s.instruments ∙ e.instruments) c.self.invariant.here)
    (omega (arith, p.rooms_left)) (omega (arith, p.takes_left)) (omega (arith, p.entries_left)) (omega (arith, s.room)) (omega (arith, s.takes)) (omega arith)

pub returns-in_err-instrument-clause-memory : goal.returns-in_err-instrument-clause-memory
returns-in_err-instrument-clause-memory c = λ h e. refused_memoryless c.kit_for-kit.new.text.program c.self.inside.count (slots_from c.in-Some.first c.args.plan.now.vars) c.args.plan.now.sites c.kit_for-kit.new.text.book c.in_err-instrument.field-0.0 c.from_residual.result c.in_err-instrument.ensures.refused c.from_residual.ensures.1 e

pub invariant_of-self-2 : goal.invariant_of-self-2
invariant_of-self-2 c =
    let e = c.kit_for-kit.ensures in
    let s = c.free_slots.ensures in
    let p = c.place.ensures in
    let a = c.add.ensures in
    let before = subst (λ (b : Book). AreAdmitted c.self.inside.count b.rooms) (sym e.book) c.self.invariant.admitted in
    let listed = subst (λ (is : List Instrument). AreNumberedBelow c.self.inside.count is) (sym (s.instruments ∙ e.instruments)) c.self.invariant.listed in
    let here = here_placed c.kit_for-kit.new.text.program c.self.inside.count _ c.args.plan.now.sites c.kit_for-kit.new.text.book c.place.new.text.book c.free_slots.new.self.instruments c.in_ok-instrument.instrument
    (same_here c.self.inside.text c.kit_for-kit.new.text c.self.inside.roster c.free_slots.new.self e.book (s.instruments ∙ e.instruments) c.self.invariant.here) c.in_ok-instrument.ensures.ok (ap (λ (i : Instrument). i.state) c.in_ok-instrument.ensures.instrument) in
    placer_used c.kit_for-kit.new.text c.place.new.text c.kit_for-kit.new.roster c.add.new.self c.self.inside.count (c.self.inside.count + 1) (length c.args.plan.now.sites) c.deref.result.now c.take_kit-kit.new.kits.items
    c.in-Ok.ensures.memory c.deref.ensures.value (admitted_placed c.kit_for-kit.new.text.program c.self.inside.count _ c.args.plan.now.sites c.kit_for-kit.new.text.book c.place.new.text.book before c.in_ok-instrument.ensures.ok)
    (subst (λ (is : List Instrument). AreNumberedBelow (c.self.inside.count + 1) is) (sym a.instruments) (below_added c.self.inside.count c.free_slots.new.self.instruments c.in_ok-instrument.instrument listed (ap (λ (i : Instrument). i.no) c.in_ok-instrument.ensures.instrument)))
    (subst (λ (is : List Instrument). AreHere c.place.new.text.book.rooms is) (sym a.instruments) here)
    (omega (arith, p.rooms_left)) (omega (arith, p.takes_left)) (omega (arith, p.entries_left)) (omega (arith, s.room, a.room)) (omega (arith, s.takes, a.takes)) (omega arith)
