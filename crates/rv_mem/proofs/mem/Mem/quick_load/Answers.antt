use Rattle.std.proofs.Common.{◌≡◌, ◌-◌, refl, ◌∙◌, sym, ap, subst, length, arith, Ok, Some}
use Rattle.rv_word.specs.Memory.{load}
use Rattle.rv_mem.specs.Regions.{content, number_in, little_endian, HasRange}
use Rattle.rv_mem.specs.Windows.{HasWindow}
use Rattle.rv_mem.specs.declared.region.Spot.{Spot}
use Rattle.rv_mem.proofs.Clear.{apart_in, quick_window, range_in, some_ok, written_in}
use Rattle.rv_mem.proofs.Contents.{number-zeros}
use Rattle.rv_mem.proofs.Maps.{funext, get_flat}
use Rattle.rv_mem.proofs.Numbers.{loaded, number_in-spot}
use Rattle.rv_mem.proofs.mem.Mem.quick_load.Goals as goal

pub overflow_sub-place : goal.overflow_sub-place
overflow_sub-place c =
    let s = c.self.inside in
    let r = c.index-region.result.now in
    let w : HasWindow s.text_at s.text_len s.regions.items c.args.at c.args.n c.in-Some.i = quick_window s.text_at s.text_len s.regions.items c.args.at c.args.n c.in-Some.i r c.ranges.at.fits c.requires c.self.invariant.0 c.in-Some.ensures in
    omega (arith, w.clear.begins r c.args.at w.begins w.here, ap (λ y. y.at) c.index-region.ensures)

pub number_at-requires : goal.number_at-requires
number_at-requires c =
    let s = c.self.inside in
    let rs = s.regions.items in
    let at = c.args.at in
    let n = c.args.n in
    let r = c.index-region.result.now in
    let w : HasWindow s.text_at s.text_len rs at n c.in-Some.i = quick_window s.text_at s.text_len rs at n c.in-Some.i r c.ranges.at.fits c.requires c.self.invariant.0 c.in-Some.ensures in
    omega (arith, written_in s.text_at s.text_len rs at n c.in-Some.i (at - r.at) r w c.index-region.ensures refl r, ap (λ y. length y.bytes.items) c.index-region.ensures, ap length c.deref.ensures.value)

pub returns-in-Some-clause-value : goal.returns-in-Some-clause-value
returns-in-Some-clause-value c =
    let s = c.self.inside in
    let rs = s.regions.items in
    let at = c.args.at in
    let n = c.args.n in
    let r = c.index-region.result.now in
    let place = at - r.at in
    let spot : Spot = record { region = c.in-Some.i; place = place } in
    let w : HasWindow s.text_at s.text_len rs at n c.in-Some.i = quick_window s.text_at s.text_len rs at n c.in-Some.i r c.ranges.at.fits c.requires c.self.invariant.0 c.in-Some.ensures in
    let range : HasRange rs at n spot = range_in s.text_at s.text_len rs at n c.in-Some.i place r w c.index-region.ensures refl in
    let v : little_endian n c.deref.result.now place ≡ little_endian n (content r) place = ap (λ bs. little_endian n bs place) c.deref.ensures.value ∙ sym (number-zeros n r.bytes.items r.behind place) in
    let is : load n c.args.self.now at ≡ Ok (little_endian n c.deref.result.now place) = subst (λ z. load n z at ≡ Ok (little_endian n c.deref.result.now place)) c.self.view_is (loaded n _ at (little_endian n c.deref.result.now place) w.fits (apart_in s.text_at s.text_len rs at n c.in-Some.i w) (ap (λ f. number_in n f at) (funext (get_flat rs)) ∙ number_in-spot rs at n spot r range c.index-region.ensures ∙ ap Some (sym v))) in
    some_ok (load n c.args.self.now at) c.number_at.result (little_endian n c.deref.result.now place) c.number_at.ensures.value is
