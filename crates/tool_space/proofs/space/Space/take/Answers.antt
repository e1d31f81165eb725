use Rattle.std.proofs.Common.{◌≡◌, ℕ, ◌+◌, ◌-◌, ◌<◌, ◌≤◌, List, arith, ap, length, subst, sym, ◌∙◌, get_or}
use Rattle.std.specs.Prelude.{filter}
use Rattle.tool_space.specs.Rooms.{Rooms, after_take}
use Rattle.tool_space.specs.Holes.{AreHoles, no_hole, units_of}
use Rattle.tool_space.specs.declared.hole.Hole.{Hole}
use Rattle.tool_space.proofs.Places.{Lies, in_order, lies_apart}
use Rattle.tool_space.proofs.Takes.{holes_cut, lowest_at, none_at, stays, units_cut}
use Rattle.tool_space.proofs.space.Space.take.Goals as goal

pub returns-in_err-place-clause-no_room : goal.returns-in_err-place-clause-no_room
returns-in_err-place-clause-no_room c =
    rw c.from_residual.ensures (none_at c.args.self.now c.self.inside.holes.items c.self.inside.from c.self.inside.end c.args.len
    (ap (λ (space : Rooms). space.free) c.self.view_is) c.self.invariant.1 c.requires.some (subst (λ (holes : List Hole). (k : ℕ) → k < length holes → (get_or holes k no_hole).len < c.args.len) c.deref.ensures.value c.in_err-place.ensures.none))

pub cut-at-requires-clause-order : goal.cut-at-requires-clause-order
cut-at-requires-clause-order c =
    in_order c.self.inside.holes.items 0 c.self.inside.from _ c.self.inside.end (omega arith) (omega arith) c.self.invariant.1

pub invariant_of-self : goal.invariant_of-self
invariant_of-self c =
    let within : c.in_ok-place.place < length c.self.inside.holes.items = subst (λ (holes : List Hole). c.in_ok-place.place < length holes) c.deref.ensures.value c.in_ok-place.ensures.within in
    let fits : c.args.len ≤ (get_or c.self.inside.holes.items c.in_ok-place.place no_hole).len = subst (λ (holes : List Hole). c.args.len ≤ (get_or holes c.in_ok-place.place no_hole).len) c.deref.ensures.value c.in_ok-place.ensures.fits in (
      c.self.invariant.0,
      subst (λ (holes : List Hole). AreHoles c.self.inside.from c.self.inside.end holes) (sym c.cut-at.ensures.holes)
          (holes_cut c.self.inside.holes.items c.in_ok-place.place c.self.inside.from c.self.inside.end c.args.len c.self.invariant.1 within fits),
      omega (arith, c.self.invariant.2),
      omega (arith, c.self.invariant.3, c.cut-at.ensures.len, c.cut-at.ensures.capacity),
    )

pub returns-clause-lowest : goal.returns-clause-lowest
returns-clause-lowest c =
    let within : c.in_ok-place.place < length c.self.inside.holes.items = subst (λ (holes : List Hole). c.in_ok-place.place < length holes) c.deref.ensures.value c.in_ok-place.ensures.within in
    let fits : c.args.len ≤ (get_or c.self.inside.holes.items c.in_ok-place.place no_hole).len = subst (λ (holes : List Hole). c.args.len ≤ (get_or holes c.in_ok-place.place no_hole).len) c.deref.ensures.value c.in_ok-place.ensures.fits in
    let before : (k : ℕ) → k < c.in_ok-place.place → (get_or c.self.inside.holes.items k no_hole).len < c.args.len = subst (λ (holes : List Hole). (k : ℕ) → k < c.in_ok-place.place → (get_or holes k no_hole).len < c.args.len) c.deref.ensures.value c.in_ok-place.ensures.before in
    lowest_at c.args.self.now c.self.inside.holes.items c.in_ok-place.place c.self.inside.from c.self.inside.end c.cut-at.result c.args.len
    (ap (λ (space : Rooms). space.free) c.self.view_is) c.self.invariant.1 c.requires.some
    within c.cut-at.ensures.at fits before

pub returns-clause-inside : goal.returns-clause-inside
returns-clause-inside c =
    let within : c.in_ok-place.place < length c.self.inside.holes.items = subst (λ (holes : List Hole). c.in_ok-place.place < length holes) c.deref.ensures.value c.in_ok-place.ensures.within in
    let fits : c.args.len ≤ (get_or c.self.inside.holes.items c.in_ok-place.place no_hole).len = subst (λ (holes : List Hole). c.args.len ≤ (get_or holes c.in_ok-place.place no_hole).len) c.deref.ensures.value c.in_ok-place.ensures.fits in
    let there : Lies c.self.inside.from c.self.inside.end (get_or c.self.inside.holes.items c.in_ok-place.place no_hole) =
    lies_apart c.self.inside.holes.items c.in_ok-place.place c.self.inside.from c.self.inside.end c.self.invariant.1 within in
    let from : c.self.inside.from ≡ c.args.self.now.from = ap (λ (space : Rooms). space.from) c.self.view_is in
    let end : c.self.inside.end ≡ c.args.self.now.end = ap (λ (space : Rooms). space.end) c.self.view_is in
    (omega (arith, there.low_end, c.cut-at.ensures.at), omega (arith, there.high_end, c.cut-at.ensures.at, fits))

pub returns-clause-taken : goal.returns-clause-taken
returns-clause-taken c =
    let within : c.in_ok-place.place < length c.self.inside.holes.items = subst (λ (holes : List Hole). c.in_ok-place.place < length holes) c.deref.ensures.value c.in_ok-place.ensures.within in
    let fits : c.args.len ≤ (get_or c.self.inside.holes.items c.in_ok-place.place no_hole).len = subst (λ (holes : List Hole). c.args.len ≤ (get_or holes c.in_ok-place.place no_hole).len) c.deref.ensures.value c.in_ok-place.ensures.fits in
    let takes : c.self.inside.takes ≡ c.args.self.now.takes = ap (λ (space : Rooms). space.takes) c.self.view_is in
    let free : units_of c.cut-at.new.holes.items ≡ filter (stays c.cut-at.result c.args.len) (units_of c.self.inside.holes.items) =
    ap units_of c.cut-at.ensures.holes
    ∙ units_cut c.self.inside.holes.items c.in_ok-place.place c.self.inside.from c.self.inside.end c.args.len c.self.invariant.1 within fits
    ∙ ap (λ (at : ℕ). filter (stays at c.args.len) (units_of c.self.inside.holes.items)) (sym c.cut-at.ensures.at) in
    let gives : c.self.inside.spare - (c.self.inside.takes - 1) ≡ c.self.inside.spare - c.self.inside.takes + 1 = omega (arith, c.self.invariant.2, c.requires.reserved) in
    (λ i. record { from = c.self.inside.from; end = c.self.inside.end; free = free i; takes = c.self.inside.takes - 1; gives = gives i })
    ∙ ap (λ (space : Rooms). after_take space c.cut-at.result c.args.len) c.self.view_is
