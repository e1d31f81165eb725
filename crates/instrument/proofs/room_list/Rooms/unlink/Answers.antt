use Rattle.std.proofs.Common.{◌≡◌, ◌<◌, length, set, None, Some, refl, sym, ap, subst, ◌∙◌, arith, rules}
use Rattle.std.proofs.lemmas.List.{length-set}
use Rattle.std.specs.Vec.{vec_capacity, vec_len}
use Rattle.bucket_chains.specs.Entries.{bucket_of}
use Rattle.bucket_chains.specs.Left.{present_entries}
use Rattle.bucket_chains.proofs.Nexts.{buckets_len, places_from}
use Rattle.bucket_chains.proofs.Skips.{Follows, place_filled, place_nearer, place_within}
use Rattle.bucket_chains.proofs.Walks.{left_map}
use Rattle.instrument.specs.Books.{unlinked_at, with_hold}
use Rattle.instrument.specs.RoomPlaces.{RoomPlaces, at_key, point_key}
use Rattle.instrument.proofs.RoomWalks.{IsChanging, unlink_change, changing_begun, changing_on, changing_over}
use Rattle.instrument.proofs.room_list.Rooms.unlink.Goals as goal
use Rattle.instrument.proofs.room_list.Rooms.unlink.Goals.{in-Some-index, in_default-index}

pub loop-next-init : goal.loop-next-init
loop-next-init c =
    let s = c.self.inside in
    subst (λ (old : RoomPlaces). IsChanging at_key (bucket_of c.args.at) (unlinked_at c.args.at) (λ x. refl) (unlink_change c.args.at) old s.places.items s.index (vec_len s.places) (vec_capacity s.places) s.count s.spare c.first_at-next.result) c.self.view_is
    (changing_begun at_key (bucket_of c.args.at) (unlinked_at c.args.at) (λ x. refl) (unlink_change c.args.at) s.places.items s.index (vec_len s.places) (vec_capacity s.places) s.count s.spare s.index.addresses c.first_at-next.result c.self.invariant.indexed.addresses c.self.invariant c.first_at-next.ensures)

pub index-requires : goal.index-requires
index-requires c = omega (arith, place_within at_key (bucket_of c.args.at) c.loop-next.self-inside.places.items c.loop-next.self-inside.index.addresses c.loop-next.invariant.rooms.indexed.addresses c.loop-next.next c.in-Some.place c.in-Some.is c.loop-next.invariant.at)

pub next_at-next-requires : goal.next_at-next-requires
next_at-next-requires c =
    let inside = place_within at_key (bucket_of c.args.at) c.loop-next.self-inside.places.items c.loop-next.self-inside.index.addresses c.loop-next.invariant.rooms.indexed.addresses c.loop-next.next c.in-Some.place c.in-Some.is c.loop-next.invariant.at in
    let among : c.in-Some.place < length c.loop-next.self-inside.index.points = omega (arith, inside, ap length c.loop-next.invariant.rooms.indexed.points, buckets_len point_key c.loop-next.self-inside.places.items) in
    elim c.match-index.branch [
      | in-Some-index w ↦ subst (λ s. c.in-Some.place < length s.index.points) (sym w.self-inside-is) among
      | in_default-index w ↦ subst (λ s. c.in-Some.place < length s.index.points) (sym w.self-inside-is) among
    ]

pub loop-next-smaller : goal.loop-next-smaller
loop-next-smaller c =
    elim c.match-index.branch [
      | in-Some-index w ↦
          let follows = subst (λ s. Follows s.index.addresses c.in-Some.place c.next_at-next.result) w.self-inside-is c.next_at-next.ensures in
          subst (λ s. places_from (length s.places.items) c.next_at-next.result < places_from (length c.loop-next.self-inside.places.items) c.loop-next.next) (sym w.self-inside-is)
          (subst (λ n. places_from n c.next_at-next.result < places_from (length c.loop-next.self-inside.places.items) c.loop-next.next) (sym (length-set c.loop-next.self-inside.places.items c.in-Some.place (Some w.after_unlinking.result)))
          (place_nearer at_key (bucket_of c.args.at) c.loop-next.self-inside.places.items c.loop-next.self-inside.index.addresses c.loop-next.invariant.rooms.indexed.addresses c.loop-next.next c.in-Some.place c.in-Some.is c.loop-next.invariant.at c.next_at-next.result follows))
      | in_default-index w ↦
          let follows = subst (λ s. Follows s.index.addresses c.in-Some.place c.next_at-next.result) w.self-inside-is c.next_at-next.ensures in
          subst (λ s. places_from (length s.places.items) c.next_at-next.result < places_from (length c.loop-next.self-inside.places.items) c.loop-next.next) (sym w.self-inside-is)
          (place_nearer at_key (bucket_of c.args.at) c.loop-next.self-inside.places.items c.loop-next.self-inside.index.addresses c.loop-next.invariant.rooms.indexed.addresses c.loop-next.next c.in-Some.place c.in-Some.is c.loop-next.invariant.at c.next_at-next.result follows)
    ]

pub loop-next-preserved : goal.loop-next-preserved
loop-next-preserved c =
    elim c.match-index.branch [
      | in-Some-index w ↦
          let follows = subst (λ s. Follows s.index.addresses c.in-Some.place c.next_at-next.result) w.self-inside-is c.next_at-next.ensures in
          subst (λ s. IsChanging at_key (bucket_of c.args.at) (unlinked_at c.args.at) (λ x. refl) (unlink_change c.args.at) c.args.self.now s.places.items s.index (vec_len s.places) (vec_capacity s.places) s.count s.spare c.next_at-next.result) (sym w.self-inside-is)
          (subst (λ y. IsChanging at_key (bucket_of c.args.at) (unlinked_at c.args.at) (λ x. refl) (unlink_change c.args.at) c.args.self.now (set c.loop-next.self-inside.places.items c.in-Some.place (Some y)) c.loop-next.self-inside.index (vec_len c.loop-next.self-inside.places) (vec_capacity c.loop-next.self-inside.places) c.loop-next.self-inside.count c.loop-next.self-inside.spare c.next_at-next.result)
          (sym w.after_unlinking.ensures)
          (changing_on at_key (bucket_of c.args.at) (unlinked_at c.args.at) (λ x. refl) (unlink_change c.args.at) c.args.self.now c.loop-next.self-inside.places.items c.loop-next.self-inside.index (vec_len c.loop-next.self-inside.places) (vec_capacity c.loop-next.self-inside.places) c.loop-next.self-inside.count c.loop-next.self-inside.spare c.loop-next.next c.in-Some.place c.in-Some.is c.loop-next.invariant c.index.result.now w.in-Some-index.room c.index.ensures w.in-Some-index.is
          c.loop-next.self-inside.index.addresses c.loop-next.invariant.rooms.indexed.addresses c.next_at-next.result follows))
      | in_default-index w ↦
          let none : c.index.result.now ≡ None = search rules in
          absurd (place_filled at_key (bucket_of c.args.at) c.loop-next.self-inside.places.items c.loop-next.self-inside.index.addresses c.loop-next.invariant.rooms.indexed.addresses c.loop-next.next c.in-Some.place c.in-Some.is c.loop-next.invariant.at c.index.result.now c.index.ensures none)
    ]

pub invariant_of-self : goal.invariant_of-self
invariant_of-self c = c.loop-next.invariant.rooms

pub returns-clause-places : goal.returns-clause-places
returns-clause-places c = changing_over at_key (bucket_of c.args.at) (unlinked_at c.args.at) (λ x. refl) (unlink_change c.args.at) c.args.self.now c.loop-next.self-inside.places.items c.loop-next.self-inside.index (vec_len c.loop-next.self-inside.places) (vec_capacity c.loop-next.self-inside.places) c.loop-next.self-inside.count c.loop-next.self-inside.spare c.loop-next.next c.in_default.is c.loop-next.invariant

pub returns-clause-rooms : goal.returns-clause-rooms
returns-clause-rooms c =
    ap (λ (r : RoomPlaces). present_entries r.places) (changing_over at_key (bucket_of c.args.at) (unlinked_at c.args.at) (λ x. refl) (unlink_change c.args.at) c.args.self.now c.loop-next.self-inside.places.items c.loop-next.self-inside.index (vec_len c.loop-next.self-inside.places) (vec_capacity c.loop-next.self-inside.places) c.loop-next.self-inside.count c.loop-next.self-inside.spare c.loop-next.next c.in_default.is c.loop-next.invariant)
    ∙ left_map (with_hold (unlinked_at c.args.at)) c.args.self.now.places
