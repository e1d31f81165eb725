use Rattle.std.proofs.Common.{◌≡◌, None, ap, sym, ◌∙◌, arith, rules}
use Rattle.machine.specs.Events.{current_base}
use Rattle.machine.specs.Views.{BlockList}
use Rattle.machine.proofs.BlockLooks.{base_own, is_base_of, look_begun, look_fewer, look_found, look_none, look_on, look_over, look_placed, look_within}
use Rattle.machine.proofs.block_list.Blocks.current_base.Goals as goal
use Rattle.machine.proofs.block_list.Blocks.current_base.Goals.{in_default-via-in-None-1, in_default-via-in-Some-index+else-is_current_base}

pub loop-next-init : goal.loop-next-init
loop-next-init c =
    let s = c.self.inside in
    look_begun c.args.point (is_base_of c.args.point) (base_own c.args.point) s.rows.items s.places.buckets c.self.invariant.0 c.first-next.result c.first-next.ensures

pub index-requires : goal.index-requires
index-requires c =
    let s = c.self.inside in
    omega (arith, look_within c.args.point (is_base_of c.args.point) (base_own c.args.point) s.rows.items s.places.buckets c.self.invariant.0 c.loop-next.next c.in-Some.place c.in-Some.is c.loop-next.invariant)

pub returns-in-Some : goal.returns-in-Some
returns-in-Some c =
    let s = c.self.inside in
    look_found c.args.point (is_base_of c.args.point) (base_own c.args.point) s.rows.items s.places.buckets c.self.invariant.0 c.loop-next.next c.in-Some.place c.in-Some.is c.loop-next.invariant
    c.index.result.now c.index.ensures c.in-Some-index.row c.in-Some-index.is (sym c.is_current_base.ensures ∙ c.if-is_current_base.true)
    ∙ ap (λ (b : BlockList). current_base b.rows c.args.point) c.self.view_is

pub next-next-requires : goal.next-next-requires
next-next-requires c =
    let s = c.self.inside in
    look_placed c.args.point (is_base_of c.args.point) (base_own c.args.point) s.rows.items s.places.buckets c.self.invariant.0 c.loop-next.next c.in-Some.place c.in-Some.is c.loop-next.invariant

pub loop-next-smaller : goal.loop-next-smaller
loop-next-smaller c =
    let s = c.self.inside in
    look_fewer c.args.point (is_base_of c.args.point) (base_own c.args.point) s.rows.items s.places.buckets c.self.invariant.0 c.loop-next.next c.in-Some.place c.in-Some.is c.loop-next.invariant
    c.next-next.result c.next-next.ensures

pub loop-next-preserved : goal.loop-next-preserved
loop-next-preserved c =
    let s = c.self.inside in
    elim c.in_default.branch [
      | in_default-via-in-None-1 w ↦
          let none : c.index.result.now ≡ None = search rules in
          absurd
          (look_none c.args.point (is_base_of c.args.point) (base_own c.args.point) s.rows.items s.places.buckets c.self.invariant.0 c.loop-next.next c.in-Some.place c.in-Some.is c.loop-next.invariant
          c.index.result.now c.index.ensures none)
      | in_default-via-in-Some-index+else-is_current_base w ↦
          look_on c.args.point (is_base_of c.args.point) (base_own c.args.point) s.rows.items s.places.buckets c.self.invariant.0 c.loop-next.next c.in-Some.place c.in-Some.is c.loop-next.invariant
          c.index.result.now c.index.ensures w.in-Some-index.row c.next-next.result w.in-Some-index.is (sym w.is_current_base.ensures ∙ w.if-is_current_base.false) c.next-next.ensures
    ]

pub returns : goal.returns
returns c =
    let s = c.self.inside in
    look_over c.args.point (is_base_of c.args.point) (base_own c.args.point) s.rows.items s.places.buckets c.self.invariant.0 c.loop-next.next c.in_default.is c.loop-next.invariant
    ∙ ap (λ (b : BlockList). current_base b.rows c.args.point) c.self.view_is
