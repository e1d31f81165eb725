use Rattle.std.proofs.Common.{◌≡◌, ◌<◌, ◌^◌, ◌%◌, ◌++◌, ◌∷◌, [], ℕ, List, ap, sym, subst, ◌∙◌, arith, length}
use Rattle.fold_hist.specs.declared.bin.Bin.{Bin}
use Rattle.fold_hist.specs.Bins.{Histogram, hist_of}
use Rattle.fold_hist.specs.Steps.{pushed as one_more, with_room, with_sample}
use Rattle.fold_hist.proofs.Pushes.{pushed, has_room, in_range, wide, fields_are}
use Rattle.fold_hist.proofs.hist.Hist.push.Goals as goal

pub make_room-requires-clause-product : goal.make_room-requires-clause-product
make_room-requires-clause-product c =
    let s = c.self.inside in
    let h : Histogram = record { most = s.most; count = s.count; width = s.bins.width; bins = s.bins.list.items } in
    let count : s.count < 2 ^ 32 = subst (λ (k : Histogram). k.count < 2 ^ 32) (sym c.self.view_is) c.requires in
    let r = in_range h c.self.invariant.1 (omega arith) count in
    omega (arith, r.0)

pub make_room-requires-clause-width : goal.make_room-requires-clause-width
make_room-requires-clause-width c =
    let s = c.self.inside in
    let h : Histogram = record { most = s.most; count = s.count; width = s.bins.width; bins = s.bins.list.items } in
    let count : s.count < 2 ^ 32 = subst (λ (k : Histogram). k.count < 2 ^ 32) (sym c.self.view_is) c.requires in
    (in_range h c.self.invariant.1 (omega arith) count).1

pub put-requires-clause-width : goal.put-requires-clause-width
put-requires-clause-width c =
    let s = c.self.inside in
    let h : Histogram = record { most = s.most; count = s.count; width = s.bins.width; bins = s.bins.list.items } in
    subst (λ (k : ℕ). 0 < k) (sym c.make_room.ensures.width) (wide h c.self.invariant.1)

pub put-requires-clause-room : goal.put-requires-clause-room
put-requires-clause-room c = λ (e : c.self.inside.count % c.make_room.new.self.width ≡ 0).
    let s = c.self.inside in
    let h : Histogram = record { most = s.most; count = s.count; width = s.bins.width; bins = s.bins.list.items } in
    let whole : s.count % (with_room h).width ≡ 0 = subst (λ (k : ℕ). s.count % k ≡ 0) c.make_room.ensures.width e in
    let few : length c.make_room.new.self.list.items < s.most = subst (λ (bs : List Bin). length bs < s.most) (sym c.make_room.ensures.list) (has_room h c.self.invariant.1 whole) in
    omega (arith, c.self.invariant.0)

pub invariant_of-self : goal.invariant_of-self
invariant_of-self c =
    let s = c.self.inside in
    let h : Histogram = record { most = s.most; count = s.count; width = s.bins.width; bins = s.bins.list.items } in
    let x : Bin = record { from = c.args.from; to = c.args.to; sum = c.args.sum } in
    let is = c.self.invariant.1 in (
      omega (arith, c.self.invariant.0),
      record {
        some = is.some;
        samples = is.samples ++ x ∷ [];
        made = fields_are h c.make_room.new.self.width c.make_room.new.self.list.items c.put.new.self.width c.put.new.self.list.items x c.make_room.ensures.width c.make_room.ensures.list c.put.ensures.width c.put.ensures.list
            ∙ pushed h is.samples x is.some (omega arith) is.made;
      },
    )

pub returns-clause-samples : goal.returns-clause-samples
returns-clause-samples c samples e =
    let s = c.self.inside in
    let h : Histogram = record { most = s.most; count = s.count; width = s.bins.width; bins = s.bins.list.items } in
    let x : Bin = record { from = c.args.from; to = c.args.to; sum = c.args.sum } in
    let same : h.most ≡ c.args.self.now.most = ap (λ (k : Histogram). k.most) c.self.view_is in
    let made : h ≡ hist_of h.most samples = c.self.view_is ∙ e ∙ ap (λ (n : ℕ). hist_of n samples) (sym same) in
    fields_are h c.make_room.new.self.width c.make_room.new.self.list.items c.put.new.self.width c.put.new.self.list.items x c.make_room.ensures.width c.make_room.ensures.list c.put.ensures.width c.put.ensures.list
    ∙ pushed h samples x c.self.invariant.1.some (omega arith) made
    ∙ ap (λ (n : ℕ). hist_of n (samples ++ x ∷ [])) same

pub returns-clause-pushed : goal.returns-clause-pushed
unfolding one_more
returns-clause-pushed c =
    let s = c.self.inside in
    let h : Histogram = record { most = s.most; count = s.count; width = s.bins.width; bins = s.bins.list.items } in
    let x : Bin = record { from = c.args.from; to = c.args.to; sum = c.args.sum } in
    fields_are h c.make_room.new.self.width c.make_room.new.self.list.items c.put.new.self.width c.put.new.self.list.items x c.make_room.ensures.width c.make_room.ensures.list c.put.ensures.width c.put.ensures.list
    ∙ ap (λ (k : Histogram). with_sample (with_room k) x) c.self.view_is
