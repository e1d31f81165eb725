use Rattle.std.proofs.Common.{◌≡◌, ◌+◌, drop, length, None, sym, ap, ◌∙◌, arith, rules}
use Rattle.std.specs.List.{list_any}
use Rattle.bucket_chains.specs.Entries.{bucket_of}
use Rattle.bucket_chains.specs.Left.{present_entries}
use Rattle.bucket_chains.proofs.Nexts.{buckets_len}
use Rattle.bucket_chains.proofs.Skips.{place_among, place_filled, place_nearer, place_within, seek_begun, seek_here, seek_on, seek_over}
use Rattle.instrument.specs.Placements.{is_mini_room_of}
use Rattle.instrument.specs.RoomPlaces.{RoomPlaces, owner_key, point_key}
use Rattle.instrument.proofs.RoomSeeks.{room_own, any_skips, any_stops}
use Rattle.instrument.proofs.room_list.Rooms.has_mini_of.Goals as goal
use Rattle.instrument.proofs.room_list.Rooms.has_mini_of.Goals.{in-Some-index+else-is_mini_room_of, in_default-index}

pub loop-next-init : goal.loop-next-init
loop-next-init c = seek_begun owner_key (bucket_of c.args.owner) (is_mini_room_of c.args.owner) (room_own c.args.owner) (list_any (is_mini_room_of c.args.owner)) (any_skips (is_mini_room_of c.args.owner)) c.self.inside.places.items c.self.inside.index.owners c.self.invariant.indexed.owners c.first_of-next.result c.first_of-next.ensures

pub index-requires : goal.index-requires
index-requires c = omega (arith, place_within owner_key (bucket_of c.args.owner) c.self.inside.places.items c.self.inside.index.owners c.self.invariant.indexed.owners c.loop-next.next c.in-Some.place c.in-Some.is c.loop-next.invariant.at)

pub returns-then-is_mini_room_of : goal.returns-then-is_mini_room_of
returns-then-is_mini_room_of c =
    sym (any_stops (is_mini_room_of c.args.owner) c.in-Some-index.room (present_entries (drop (c.in-Some.place + 1) c.self.inside.places.items)) (sym c.is_mini_room_of.ensures ∙ c.if-is_mini_room_of.true))
    ∙ seek_here owner_key (bucket_of c.args.owner) (is_mini_room_of c.args.owner) (room_own c.args.owner) (list_any (is_mini_room_of c.args.owner)) (any_skips (is_mini_room_of c.args.owner)) c.self.inside.places.items c.self.inside.index.owners c.self.invariant.indexed.owners c.loop-next.next (list_any (is_mini_room_of c.args.owner) (present_entries c.self.inside.places.items)) c.in-Some.place c.in-Some.is c.loop-next.invariant c.index.result.now c.in-Some-index.room c.index.ensures c.in-Some-index.is
    ∙ ap (λ (r : RoomPlaces). list_any (is_mini_room_of c.args.owner) (present_entries r.places)) c.self.view_is

pub next_of-next-requires : goal.next_of-next-requires
next_of-next-requires c = omega (arith, place_among owner_key (bucket_of c.args.owner) c.self.inside.places.items c.self.inside.index.owners c.self.invariant.indexed.owners c.loop-next.next c.in-Some.place c.in-Some.is c.loop-next.invariant.at, ap length c.self.invariant.indexed.points, ap length c.self.invariant.indexed.owners, buckets_len point_key c.self.inside.places.items, buckets_len owner_key c.self.inside.places.items)

pub loop-next-smaller : goal.loop-next-smaller
loop-next-smaller c = place_nearer owner_key (bucket_of c.args.owner) c.self.inside.places.items c.self.inside.index.owners c.self.invariant.indexed.owners c.loop-next.next c.in-Some.place c.in-Some.is c.loop-next.invariant.at c.next_of-next.result c.next_of-next.ensures

pub loop-next-preserved : goal.loop-next-preserved
loop-next-preserved c =
    elim c.match-index.branch [
      | in-Some-index+else-is_mini_room_of w ↦
          seek_on owner_key (bucket_of c.args.owner) (is_mini_room_of c.args.owner) (room_own c.args.owner) (list_any (is_mini_room_of c.args.owner)) (any_skips (is_mini_room_of c.args.owner)) c.self.inside.places.items c.self.inside.index.owners c.self.invariant.indexed.owners c.loop-next.next (list_any (is_mini_room_of c.args.owner) (present_entries c.self.inside.places.items)) c.in-Some.place c.in-Some.is c.loop-next.invariant c.index.result.now w.in-Some-index.room c.index.ensures w.in-Some-index.is
          c.next_of-next.result c.next_of-next.ensures (sym w.is_mini_room_of.ensures ∙ w.if-is_mini_room_of.false)
      | in_default-index w ↦
          let none : c.index.result.now ≡ None = search rules in
          absurd (place_filled owner_key (bucket_of c.args.owner) c.self.inside.places.items c.self.inside.index.owners c.self.invariant.indexed.owners c.loop-next.next c.in-Some.place c.in-Some.is c.loop-next.invariant.at c.index.result.now c.index.ensures none)
    ]

pub returns : goal.returns
returns c =
    seek_over owner_key (bucket_of c.args.owner) (is_mini_room_of c.args.owner) (room_own c.args.owner) (list_any (is_mini_room_of c.args.owner)) (any_skips (is_mini_room_of c.args.owner)) c.self.inside.places.items c.self.inside.index.owners c.self.invariant.indexed.owners c.loop-next.next (list_any (is_mini_room_of c.args.owner) (present_entries c.self.inside.places.items)) c.in_default.is c.loop-next.invariant
    ∙ ap (λ (r : RoomPlaces). list_any (is_mini_room_of c.args.owner) (present_entries r.places)) c.self.view_is
