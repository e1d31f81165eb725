use Rattle.std.proofs.Common.{◌≡◌, ◌∙◌, None, length, refl, ap, sym, subst, arith, rules}
use Rattle.std.specs.Prelude.{map}
use Rattle.std.specs.Option.{option_map}
use Rattle.bucket_chains.specs.Entries.{bucket_at, bucket_of}
use Rattle.bucket_chains.specs.Left.{present_entries}
use Rattle.machine.specs.Effects.{with_status}
use Rattle.machine.specs.Views.{BlockList, row_of, status_of}
use Rattle.machine.specs.declared.block_list.Blocks.TheInside.{Inside}
use Rattle.machine.proofs.BlockLooks.{begins_at, begins_own}
use Rattle.machine.proofs.BlockWalks.{Passed, all_put, at_same, put_changes, put_hit, put_if, put_miss, status_if, walk_fewer, walk_first, walk_fits, walk_here, walk_none, walk_on, walk_over, walk_placed, walk_puts, walk_stays, walk_within}
use Rattle.machine.proofs.block_list.Blocks.set_status.Goals as goal
use Rattle.machine.proofs.block_list.Blocks.set_status.Goals.{Joined-index, in-Some-index+then-is_at, in_default, in_default-via-in-None-1, in_default-via-in-Some-index+else-is_at}

-- the block at the place is changed, and the buckets are the same
passed : (c : Joined-index) → Passed c.args.point (option_map (put_if (begins_at c.args.point c.args.at) c.args.status)) c.self.inside c.match-index.self-inside c.in-Some.place × (c.match-index.self-inside.places ≡ c.loop-next.self-inside.places)
passed c =
    let P : Inside → Type 0 = λ s. Passed c.args.point (option_map (put_if (begins_at c.args.point c.args.at) c.args.status)) c.self.inside s c.in-Some.place × (s.places ≡ c.loop-next.self-inside.places) in
    elim c.match-index.branch [
      | in-Some-index+then-is_at w ↦
          subst P (sym w.self-inside-is) (
            walk_puts c.args.point (option_map (put_if (begins_at c.args.point c.args.at) c.args.status)) c.self.inside c.loop-next.self-inside c.loop-next.next c.in-Some.place c.in-Some.is c.loop-next.invariant
                c.index.result.now c.index.ensures w.in-Some-index.row (record w.in-Some-index.row { status = c.args.status }) w.in-Some-index.is refl (put_hit (begins_at c.args.point c.args.at) c.args.status w.in-Some-index.row (sym w.is_at.ensures ∙ w.if-is_at.true)),
            refl,
          )
      | in_default v ↦
          elim v.in_default.branch [
            | in_default-via-in-None-1 w ↦
                let none : c.index.result.now ≡ None = search rules in
                absurd (walk_none c.args.point (option_map (put_if (begins_at c.args.point c.args.at) c.args.status)) c.self.inside c.loop-next.self-inside c.loop-next.next c.in-Some.place c.in-Some.is c.loop-next.invariant c.index.result.now c.index.ensures none)
            | in_default-via-in-Some-index+else-is_at w ↦
                subst P (sym (v.self-inside-is ∙ w.self-inside-is)) (
                  walk_stays c.args.point (option_map (put_if (begins_at c.args.point c.args.at) c.args.status)) c.self.inside c.loop-next.self-inside c.loop-next.next c.in-Some.place c.in-Some.is c.loop-next.invariant
                      c.index.result.now c.index.ensures (ap (option_map (put_if (begins_at c.args.point c.args.at) c.args.status)) w.in-Some-index.is ∙ (put_miss (begins_at c.args.point c.args.at) c.args.status w.in-Some-index.row (sym w.is_at.ensures ∙ w.if-is_at.false) ∙ sym w.in-Some-index.is)),
                  refl,
                )
          ]
    ]

pub loop-next-init : goal.loop-next-init
loop-next-init c = walk_first c.args.point (option_map (put_if (begins_at c.args.point c.args.at) c.args.status)) (put_changes c.args.point (begins_at c.args.point c.args.at) c.args.status (begins_own c.args.point c.args.at)) c.self.inside c.first-next.result c.self.invariant c.first-next.ensures

pub index-requires : goal.index-requires
index-requires c = omega (arith, walk_within c.args.point (option_map (put_if (begins_at c.args.point c.args.at) c.args.status)) c.self.inside c.loop-next.self-inside c.loop-next.next c.in-Some.place c.in-Some.is c.loop-next.invariant)

pub index_mut-requires : goal.index_mut-requires
index_mut-requires c = omega (arith, walk_within c.args.point (option_map (put_if (begins_at c.args.point c.args.at) c.args.status)) c.self.inside c.loop-next.self-inside c.loop-next.next c.in-Some.place c.in-Some.is c.loop-next.invariant)

pub next-next-requires : goal.next-next-requires
next-next-requires c =
    let same = (passed (goal.at.next-next-requires c).Joined-index).1 in
    omega (arith, walk_placed c.args.point (option_map (put_if (begins_at c.args.point c.args.at) c.args.status)) c.self.inside c.loop-next.self-inside c.loop-next.next c.in-Some.place c.in-Some.is c.loop-next.invariant, ap (λ ps. length ps.buckets) same)

pub loop-next-smaller : goal.loop-next-smaller
loop-next-smaller c =
    let same = (passed (goal.at.loop-next-smaller c).Joined-index).1 in
    walk_fewer c.args.point (option_map (put_if (begins_at c.args.point c.args.at) c.args.status)) c.self.inside c.loop-next.self-inside c.loop-next.next c.in-Some.place c.in-Some.is c.loop-next.invariant
    c.next-next.result c.match-index.self-inside.places.buckets (ap (λ ps. length ps.buckets) same)
    (c.next-next.ensures (bucket_of c.args.point) (ap (λ ps. bucket_at ps.buckets c.in-Some.place) same ∙ walk_here c.args.point (option_map (put_if (begins_at c.args.point c.args.at) c.args.status)) c.self.inside c.loop-next.self-inside c.loop-next.next c.in-Some.place c.in-Some.is c.loop-next.invariant))

pub loop-next-preserved : goal.loop-next-preserved
loop-next-preserved c =
    let done = passed (goal.at.loop-next-preserved c).Joined-index in
    walk_on c.args.point (option_map (put_if (begins_at c.args.point c.args.at) c.args.status)) (put_changes c.args.point (begins_at c.args.point c.args.at) c.args.status (begins_own c.args.point c.args.at)) c.self.inside c.match-index.self-inside c.in-Some.place c.next-next.result done.0
    (c.next-next.ensures (bucket_of c.args.point) (ap (λ ps. bucket_at ps.buckets c.in-Some.place) done.1 ∙ walk_here c.args.point (option_map (put_if (begins_at c.args.point c.args.at) c.args.status)) c.self.inside c.loop-next.self-inside c.loop-next.next c.in-Some.place c.in-Some.is c.loop-next.invariant))

pub invariant_of-self : goal.invariant_of-self
invariant_of-self c = walk_fits c.args.point (option_map (put_if (begins_at c.args.point c.args.at) c.args.status)) c.self.inside c.loop-next.self-inside c.loop-next.next c.in_default.is c.loop-next.invariant

pub returns : goal.returns
returns c =
    let old = c.self.inside.rows.items in
    let all = all_put (begins_at c.args.point c.args.at) c.args.status old c.loop-next.self-inside.rows.items (walk_over c.args.point (option_map (put_if (begins_at c.args.point c.args.at) c.args.status)) c.self.inside c.loop-next.self-inside c.loop-next.next c.in_default.is c.loop-next.invariant) in
    ap (λ rows. record { rows = rows; room = c.loop-next.self-inside.room }) all
    ∙ (ap (λ n. record { rows = map (with_status (status_if (begins_at c.args.point c.args.at) (status_of c.args.status))) (map row_of (present_entries old)); room = n }) c.loop-next.invariant.fits.room
    ∙ (ap (λ (b : BlockList). record b { rows = map (with_status (status_if (begins_at c.args.point c.args.at) (status_of c.args.status))) b.rows }) c.self.view_is ∙ ap (λ rows. record { rows = rows; room = c.args.self.now.room }) (at_same c.args.point c.args.at (status_of c.args.status) c.args.self.now.rows c.requires)))
