use Rattle.std.proofs.Common.{◌≡◌, ◌-◌, refl, ap, subst, arith, Ok}
use Rattle.rv_word.specs.Memory.{store}
use Rattle.rv_mem.specs.Windows.{HasWindow}
use Rattle.rv_mem.proofs.Clear.{apart_in, numbers_kept, clear_kept, quick_window, range_in, written_in}
use Rattle.rv_mem.proofs.Overlays.{memory_in, store-regions}
use Rattle.rv_mem.proofs.mem.Mem.quick_store.Goals as goal

pub overflow_sub-place : goal.overflow_sub-place
overflow_sub-place c =
    let s = c.self.inside in
    let r = c.index.result.now in
    let w : HasWindow s.text_at s.text_len s.regions.items c.args.at c.args.n c.in-Some.i = quick_window s.text_at s.text_len s.regions.items c.args.at c.args.n c.in-Some.i r c.ranges.at.fits c.requires c.self.invariant.0 c.in-Some.ensures in
    omega (arith, w.clear.begins r c.args.at w.begins w.here, ap (λ y. y.at) c.index.ensures)

pub put_at-requires : goal.put_at-requires
put_at-requires c =
    let s = c.self.inside in
    let r = c.index.result.now in
    let w : HasWindow s.text_at s.text_len s.regions.items c.args.at c.args.n c.in-Some.i = quick_window s.text_at s.text_len s.regions.items c.args.at c.args.n c.in-Some.i r c.ranges.at.fits c.requires c.self.invariant.0 c.in-Some.ensures in
    record {
      range = range_in s.text_at s.text_len s.regions.items c.args.at c.args.n c.in-Some.i (c.args.at - r.at) r w c.index.ensures refl;
      written = written_in s.text_at s.text_len s.regions.items c.args.at c.args.n c.in-Some.i (c.args.at - r.at) r w c.index.ensures refl;
    }

pub invariant_of-self : goal.invariant_of-self
invariant_of-self c =
    let s = c.self.inside in (
      clear_kept s.text_at s.text_len s.regions.items c.put_at.new.regions.items c.self.invariant.0 c.put_at.ensures.shape,
      numbers_kept s.regions.items c.put_at.new.regions.items s.pages.items c.self.invariant.1 c.put_at.ensures.shape,
    )

pub returns-in-Some-clause-stored : goal.returns-in-Some-clause-stored
returns-in-Some-clause-stored c = λ _.
    let s = c.self.inside in
    let r = c.index.result.now in
    let w : HasWindow s.text_at s.text_len s.regions.items c.args.at c.args.n c.in-Some.i = quick_window s.text_at s.text_len s.regions.items c.args.at c.args.n c.in-Some.i r c.ranges.at.fits c.requires c.self.invariant.0 c.in-Some.ensures in
    let new = c.put_at.new.regions.items in
    subst (λ z. store c.args.n z c.args.at c.args.v ≡ Ok (memory_in s.text_at s.text_len new)) c.self.view_is (store-regions c.args.n s.text_at s.text_len s.regions.items new c.args.at c.args.v w.fits (apart_in s.text_at s.text_len s.regions.items c.args.at c.args.n c.in-Some.i w) c.put_at.ensures.there c.put_at.ensures.put)
