use Rattle.std.proofs.Common.{◌≡◌, None, subst, ap, sym, ◌∙◌, arith, rules}
use Rattle.std.specs.Prelude.{find}
use Rattle.machine.specs.Cores.{In}
use Rattle.machine.specs.Views.{BlockList, row_of}
use Rattle.machine.proofs.BlockLooks.{leads_at, leads_own, leads_same, look_begun, look_fewer, look_found, look_none, look_on, look_over, look_placed, look_within, row_there}
use Rattle.machine.proofs.block_list.Blocks.before.Goals as goal
use Rattle.machine.proofs.block_list.Blocks.before.Goals.{in_default-via-in-None-1, in_default-via-in-Some-index+else-is_before}

pub loop-next-init : goal.loop-next-init
loop-next-init c =
    let s = c.self.inside in
    look_begun c.args.point (leads_at c.args.store.now.code c.args.point c.args.at) (leads_own c.args.store.now.code c.args.point c.args.at) s.rows.items s.places.buckets c.self.invariant.0 c.first-next.result c.first-next.ensures

pub index-requires : goal.index-requires
index-requires c =
    let s = c.self.inside in
    omega (arith, look_within c.args.point (leads_at c.args.store.now.code c.args.point c.args.at) (leads_own c.args.store.now.code c.args.point c.args.at) s.rows.items s.places.buckets c.self.invariant.0 c.loop-next.next c.in-Some.place c.in-Some.is c.loop-next.invariant)

pub is_before-requires : goal.is_before-requires
is_before-requires c =
    let s = c.self.inside in
    let x = c.in-Some-index.row in
    c.requires.links (row_of x)
    (subst (λ (b : BlockList). In (row_of x) b.rows) c.self.view_is
    (row_there c.args.point (leads_at c.args.store.now.code c.args.point c.args.at) (leads_own c.args.store.now.code c.args.point c.args.at) s.rows.items s.places.buckets c.self.invariant.0 c.loop-next.next c.in-Some.place c.in-Some.is c.loop-next.invariant
    c.index.result.now c.index.ensures x c.in-Some-index.is))

pub returns-in-Some : goal.returns-in-Some
returns-in-Some c =
    let s = c.self.inside in
    look_found c.args.point (leads_at c.args.store.now.code c.args.point c.args.at) (leads_own c.args.store.now.code c.args.point c.args.at) s.rows.items s.places.buckets c.self.invariant.0 c.loop-next.next c.in-Some.place c.in-Some.is c.loop-next.invariant
    c.index.result.now c.index.ensures c.in-Some-index.row c.in-Some-index.is (sym c.is_before.ensures ∙ c.if-is_before.true)
    ∙ (ap (λ (b : BlockList). find (leads_at c.args.store.now.code c.args.point c.args.at) b.rows) c.self.view_is ∙ leads_same c.args.store.now.code c.args.point c.args.at c.args.self.now.rows c.requires.of_point)

pub next-next-requires : goal.next-next-requires
next-next-requires c =
    let s = c.self.inside in
    look_placed c.args.point (leads_at c.args.store.now.code c.args.point c.args.at) (leads_own c.args.store.now.code c.args.point c.args.at) s.rows.items s.places.buckets c.self.invariant.0 c.loop-next.next c.in-Some.place c.in-Some.is c.loop-next.invariant

pub loop-next-smaller : goal.loop-next-smaller
loop-next-smaller c =
    let s = c.self.inside in
    look_fewer c.args.point (leads_at c.args.store.now.code c.args.point c.args.at) (leads_own c.args.store.now.code c.args.point c.args.at) s.rows.items s.places.buckets c.self.invariant.0 c.loop-next.next c.in-Some.place c.in-Some.is c.loop-next.invariant
    c.next-next.result c.next-next.ensures

pub loop-next-preserved : goal.loop-next-preserved
loop-next-preserved c =
    let s = c.self.inside in
    elim c.in_default.branch [
      | in_default-via-in-None-1 w ↦
          let none : c.index.result.now ≡ None = search rules in
          absurd
          (look_none c.args.point (leads_at c.args.store.now.code c.args.point c.args.at) (leads_own c.args.store.now.code c.args.point c.args.at) s.rows.items s.places.buckets c.self.invariant.0 c.loop-next.next c.in-Some.place c.in-Some.is c.loop-next.invariant
          c.index.result.now c.index.ensures none)
      | in_default-via-in-Some-index+else-is_before w ↦
          look_on c.args.point (leads_at c.args.store.now.code c.args.point c.args.at) (leads_own c.args.store.now.code c.args.point c.args.at) s.rows.items s.places.buckets c.self.invariant.0 c.loop-next.next c.in-Some.place c.in-Some.is c.loop-next.invariant
          c.index.result.now c.index.ensures w.in-Some-index.row c.next-next.result w.in-Some-index.is (sym w.is_before.ensures ∙ w.if-is_before.false) c.next-next.ensures
    ]

pub returns : goal.returns
returns c =
    let s = c.self.inside in
    look_over c.args.point (leads_at c.args.store.now.code c.args.point c.args.at) (leads_own c.args.store.now.code c.args.point c.args.at) s.rows.items s.places.buckets c.self.invariant.0 c.loop-next.next c.in_default.is c.loop-next.invariant
    ∙ (ap (λ (b : BlockList). find (leads_at c.args.store.now.code c.args.point c.args.at) b.rows) c.self.view_is ∙ leads_same c.args.store.now.code c.args.point c.args.at c.args.self.now.rows c.requires.of_point)
