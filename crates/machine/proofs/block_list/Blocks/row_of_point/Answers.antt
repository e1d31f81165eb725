use Rattle.std.proofs.Common.{◌≡◌, None, ap, sym, ◌∙◌, arith, rules}
use Rattle.std.specs.Prelude.{find}
use Rattle.machine.specs.Views.{BlockList}
use Rattle.machine.proofs.BlockLooks.{begins_at, begins_own, look_begun, look_fewer, look_found, look_none, look_on, look_over, look_placed, look_within}
use Rattle.machine.proofs.block_list.Blocks.row_of_point.Goals as goal
use Rattle.machine.proofs.block_list.Blocks.row_of_point.Goals.{in_default-via-in-None-1, in_default-via-in-Some-index+else-is_at}

pub loop-next-init : goal.loop-next-init
loop-next-init c =
    let s = c.self.inside in
    look_begun c.args.point (begins_at c.args.point c.args.at) (begins_own c.args.point c.args.at) s.rows.items s.places.buckets c.self.invariant.0 c.first-next.result c.first-next.ensures

pub index-requires : goal.index-requires
index-requires c =
    let s = c.self.inside in
    omega (arith, look_within c.args.point (begins_at c.args.point c.args.at) (begins_own c.args.point c.args.at) s.rows.items s.places.buckets c.self.invariant.0 c.loop-next.next c.in-Some.place c.in-Some.is c.loop-next.invariant)

pub returns-in-Some : goal.returns-in-Some
returns-in-Some c =
    let s = c.self.inside in
    look_found c.args.point (begins_at c.args.point c.args.at) (begins_own c.args.point c.args.at) s.rows.items s.places.buckets c.self.invariant.0 c.loop-next.next c.in-Some.place c.in-Some.is c.loop-next.invariant
    c.index.result.now c.index.ensures c.in-Some-index.row c.in-Some-index.is (sym c.is_at.ensures ∙ c.if-is_at.true)
    ∙ ap (λ (b : BlockList). find (begins_at c.args.point c.args.at) b.rows) c.self.view_is

pub next-next-requires : goal.next-next-requires
next-next-requires c =
    let s = c.self.inside in
    look_placed c.args.point (begins_at c.args.point c.args.at) (begins_own c.args.point c.args.at) s.rows.items s.places.buckets c.self.invariant.0 c.loop-next.next c.in-Some.place c.in-Some.is c.loop-next.invariant

pub loop-next-smaller : goal.loop-next-smaller
loop-next-smaller c =
    let s = c.self.inside in
    look_fewer c.args.point (begins_at c.args.point c.args.at) (begins_own c.args.point c.args.at) s.rows.items s.places.buckets c.self.invariant.0 c.loop-next.next c.in-Some.place c.in-Some.is c.loop-next.invariant
    c.next-next.result c.next-next.ensures

pub loop-next-preserved : goal.loop-next-preserved
loop-next-preserved c =
    let s = c.self.inside in
    elim c.in_default.branch [
      | in_default-via-in-None-1 w ↦
          let none : c.index.result.now ≡ None = search rules in
          absurd
          (look_none c.args.point (begins_at c.args.point c.args.at) (begins_own c.args.point c.args.at) s.rows.items s.places.buckets c.self.invariant.0 c.loop-next.next c.in-Some.place c.in-Some.is c.loop-next.invariant
          c.index.result.now c.index.ensures none)
      | in_default-via-in-Some-index+else-is_at w ↦
          look_on c.args.point (begins_at c.args.point c.args.at) (begins_own c.args.point c.args.at) s.rows.items s.places.buckets c.self.invariant.0 c.loop-next.next c.in-Some.place c.in-Some.is c.loop-next.invariant
          c.index.result.now c.index.ensures w.in-Some-index.row c.next-next.result w.in-Some-index.is (sym w.is_at.ensures ∙ w.if-is_at.false) c.next-next.ensures
    ]

pub returns : goal.returns
returns c =
    let s = c.self.inside in
    look_over c.args.point (begins_at c.args.point c.args.at) (begins_own c.args.point c.args.at) s.rows.items s.places.buckets c.self.invariant.0 c.loop-next.next c.in_default.is c.loop-next.invariant
    ∙ ap (λ (b : BlockList). find (begins_at c.args.point c.args.at) b.rows) c.self.view_is
