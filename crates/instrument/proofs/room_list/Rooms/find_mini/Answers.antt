use Rattle.std.proofs.Common.{◌≡◌, ◌+◌, find, drop, None, sym, ap, ◌∙◌, arith, rules}
use Rattle.bucket_chains.specs.Entries.{bucket_of}
use Rattle.bucket_chains.specs.Left.{present_entries}
use Rattle.bucket_chains.proofs.Skips.{place_among, place_filled, place_nearer, place_within, seek_begun, seek_here, seek_on, seek_over}
use Rattle.instrument.specs.Books.{is_mini_of}
use Rattle.instrument.specs.RoomPlaces.{RoomPlaces, point_key}
use Rattle.instrument.proofs.RoomSeeks.{mini_own, find_skips, find_stops}
use Rattle.instrument.proofs.room_list.Rooms.find_mini.Goals as goal
use Rattle.instrument.proofs.room_list.Rooms.find_mini.Goals.{in-Some-index+else-is_mini_of, in_default-index}

pub loop-next-init : goal.loop-next-init
loop-next-init c = seek_begun point_key (bucket_of c.args.point) (is_mini_of c.args.point) (mini_own c.args.point) (find (is_mini_of c.args.point)) (find_skips (is_mini_of c.args.point)) c.self.inside.places.items c.self.inside.index.points c.self.invariant.indexed.points c.first_at_point-next.result c.first_at_point-next.ensures

pub index-requires : goal.index-requires
index-requires c = omega (arith, place_within point_key (bucket_of c.args.point) c.self.inside.places.items c.self.inside.index.points c.self.invariant.indexed.points c.loop-next.next c.in-Some.place c.in-Some.is c.loop-next.invariant.at)

pub returns-then-is_mini_of : goal.returns-then-is_mini_of
returns-then-is_mini_of c =
    sym (find_stops (is_mini_of c.args.point) c.in-Some-index.room (present_entries (drop (c.in-Some.place + 1) c.self.inside.places.items)) (sym c.is_mini_of.ensures ∙ c.if-is_mini_of.true))
    ∙ seek_here point_key (bucket_of c.args.point) (is_mini_of c.args.point) (mini_own c.args.point) (find (is_mini_of c.args.point)) (find_skips (is_mini_of c.args.point)) c.self.inside.places.items c.self.inside.index.points c.self.invariant.indexed.points c.loop-next.next (find (is_mini_of c.args.point) (present_entries c.self.inside.places.items)) c.in-Some.place c.in-Some.is c.loop-next.invariant c.index.result.now c.in-Some-index.room c.index.ensures c.in-Some-index.is
    ∙ ap (λ (r : RoomPlaces). find (is_mini_of c.args.point) (present_entries r.places)) c.self.view_is

pub next_at_point-next-requires : goal.next_at_point-next-requires
next_at_point-next-requires c = omega (arith, place_among point_key (bucket_of c.args.point) c.self.inside.places.items c.self.inside.index.points c.self.invariant.indexed.points c.loop-next.next c.in-Some.place c.in-Some.is c.loop-next.invariant.at)

pub loop-next-smaller : goal.loop-next-smaller
loop-next-smaller c = place_nearer point_key (bucket_of c.args.point) c.self.inside.places.items c.self.inside.index.points c.self.invariant.indexed.points c.loop-next.next c.in-Some.place c.in-Some.is c.loop-next.invariant.at c.next_at_point-next.result c.next_at_point-next.ensures

pub loop-next-preserved : goal.loop-next-preserved
loop-next-preserved c =
    elim c.match-index.branch [
      | in-Some-index+else-is_mini_of w ↦
          seek_on point_key (bucket_of c.args.point) (is_mini_of c.args.point) (mini_own c.args.point) (find (is_mini_of c.args.point)) (find_skips (is_mini_of c.args.point)) c.self.inside.places.items c.self.inside.index.points c.self.invariant.indexed.points c.loop-next.next (find (is_mini_of c.args.point) (present_entries c.self.inside.places.items)) c.in-Some.place c.in-Some.is c.loop-next.invariant c.index.result.now w.in-Some-index.room c.index.ensures w.in-Some-index.is
          c.next_at_point-next.result c.next_at_point-next.ensures (sym w.is_mini_of.ensures ∙ w.if-is_mini_of.false)
      | in_default-index w ↦
          let none : c.index.result.now ≡ None = search rules in
          absurd (place_filled point_key (bucket_of c.args.point) c.self.inside.places.items c.self.inside.index.points c.self.invariant.indexed.points c.loop-next.next c.in-Some.place c.in-Some.is c.loop-next.invariant.at c.index.result.now c.index.ensures none)
    ]

pub returns : goal.returns
returns c =
    seek_over point_key (bucket_of c.args.point) (is_mini_of c.args.point) (mini_own c.args.point) (find (is_mini_of c.args.point)) (find_skips (is_mini_of c.args.point)) c.self.inside.places.items c.self.inside.index.points c.self.invariant.indexed.points c.loop-next.next (find (is_mini_of c.args.point) (present_entries c.self.inside.places.items)) c.in_default.is c.loop-next.invariant
    ∙ ap (λ (r : RoomPlaces). find (is_mini_of c.args.point) (present_entries r.places)) c.self.view_is
