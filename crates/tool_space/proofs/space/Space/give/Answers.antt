use Rattle.std.proofs.Common.{◌≡◌, ◌-◌, ◌++◌, List, arith, ap, subst, sym, ◌∙◌, refl}
use Rattle.std.specs.Prelude.{filter, nat_lt}
use Rattle.std.specs.List.{range_with_len}
use Rattle.tool_space.specs.Rooms.{IsTaken, Rooms, after_give}
use Rattle.tool_space.specs.Holes.{AreHoles, units_of}
use Rattle.tool_space.specs.declared.hole.Hole.{Hole}
use Rattle.tool_space.proofs.Gives.{FitsAt, holes_put, put_in_order, taken_fits, units_put, wider}
use Rattle.tool_space.proofs.space.Space.give.Goals as goal

pub put-requires : goal.put-requires
put-requires c =
    let room : Hole = record { at = c.args.at; len = c.args.len } in
    let space : Rooms = record { from = c.self.inside.from; end = c.self.inside.end; free = units_of c.self.inside.holes.items; takes = c.self.inside.takes; gives = c.self.inside.spare - c.self.inside.takes } in
    let gives : c.self.inside.spare - c.self.inside.takes ≡ c.args.self.now.gives = ap (λ (known : Rooms). known.gives) c.self.view_is in
    let fits : FitsAt c.self.inside.holes.items c.first_above-place.result c.self.inside.from c.self.inside.end room =
    taken_fits space c.self.inside.holes.items c.deref.result.now c.first_above-place.result c.args.at c.args.len
    c.self.invariant.1 refl (subst (λ (known : Rooms). IsTaken known c.args.at c.args.len) (sym c.self.view_is) c.requires.taken)
    c.requires.some c.deref.ensures.value c.first_above-place.ensures.within c.first_above-place.ensures.below c.first_above-place.ensures.above in
    record {
      place = omega (arith, c.first_above-place.ensures.within, c.deref.ensures.len);
      room = omega (arith, c.self.invariant.2, c.self.invariant.3, gives, c.requires.reserved);
      order = wider _ 0 c.self.inside.from _ c.self.inside.end (omega arith) (omega (arith, c.self.invariant.0))
          (put_in_order c.self.inside.holes.items c.first_above-place.result c.self.inside.from c.self.inside.end room c.self.invariant.1 fits);
    }

pub invariant_of-self : goal.invariant_of-self
invariant_of-self c =
    let room : Hole = record { at = c.args.at; len = c.args.len } in
    let space : Rooms = record { from = c.self.inside.from; end = c.self.inside.end; free = units_of c.self.inside.holes.items; takes = c.self.inside.takes; gives = c.self.inside.spare - c.self.inside.takes } in
    let gives : c.self.inside.spare - c.self.inside.takes ≡ c.args.self.now.gives = ap (λ (known : Rooms). known.gives) c.self.view_is in
    let fits : FitsAt c.self.inside.holes.items c.first_above-place.result c.self.inside.from c.self.inside.end room =
    taken_fits space c.self.inside.holes.items c.deref.result.now c.first_above-place.result c.args.at c.args.len
    c.self.invariant.1 refl (subst (λ (known : Rooms). IsTaken known c.args.at c.args.len) (sym c.self.view_is) c.requires.taken)
    c.requires.some c.deref.ensures.value c.first_above-place.ensures.within c.first_above-place.ensures.below c.first_above-place.ensures.above in (
      c.self.invariant.0,
      subst (λ (holes : List Hole). AreHoles c.self.inside.from c.self.inside.end holes) (sym c.put.ensures.holes)
          (holes_put c.self.inside.holes.items c.first_above-place.result c.self.inside.from c.self.inside.end room c.self.invariant.1 fits),
      omega (arith, c.self.invariant.2, gives, c.requires.reserved),
      omega (arith, c.self.invariant.2, c.self.invariant.3, c.put.ensures.len, c.put.ensures.capacity, gives, c.requires.reserved),
    )

pub returns : goal.returns
returns c =
    let room : Hole = record { at = c.args.at; len = c.args.len } in
    let space : Rooms = record { from = c.self.inside.from; end = c.self.inside.end; free = units_of c.self.inside.holes.items; takes = c.self.inside.takes; gives = c.self.inside.spare - c.self.inside.takes } in
    let gives : c.self.inside.spare - c.self.inside.takes ≡ c.args.self.now.gives = ap (λ (known : Rooms). known.gives) c.self.view_is in
    let fits : FitsAt c.self.inside.holes.items c.first_above-place.result c.self.inside.from c.self.inside.end room =
    taken_fits space c.self.inside.holes.items c.deref.result.now c.first_above-place.result c.args.at c.args.len
    c.self.invariant.1 refl (subst (λ (known : Rooms). IsTaken known c.args.at c.args.len) (sym c.self.view_is) c.requires.taken)
    c.requires.some c.deref.ensures.value c.first_above-place.ensures.within c.first_above-place.ensures.below c.first_above-place.ensures.above in
    let free : units_of c.put.new.holes.items ≡ filter (λ unit. nat_lt unit c.args.at) (units_of c.self.inside.holes.items) ++ (range_with_len c.args.at c.args.len ++ filter (λ unit. nat_lt c.args.at unit) (units_of c.self.inside.holes.items)) =
    ap units_of c.put.ensures.holes
    ∙ units_put c.self.inside.holes.items c.first_above-place.result c.self.inside.from c.self.inside.end room c.self.invariant.1 fits in
    let fewer : c.self.inside.spare - 1 - c.self.inside.takes ≡ c.self.inside.spare - c.self.inside.takes - 1 = omega arith in
    (λ i. record { from = c.self.inside.from; end = c.self.inside.end; free = free i; takes = c.self.inside.takes; gives = fewer i })
    ∙ ap (λ (known : Rooms). after_give known c.args.at c.args.len) c.self.view_is
