use Rattle.std.proofs.Common.{◌≡◌, ◌+◌, ◌++◌, ◌∷◌, ◌≤◌, [], drop, length, None, sym, ap, subst, ◌∙◌, arith, rules}
use Rattle.std.specs.Prelude.{vec_capacity}
use Rattle.std.proofs.lemmas.List.{append_assoc, append-nil, length-append}
use Rattle.bucket_chains.specs.Entries.{bucket_of}
use Rattle.bucket_chains.specs.Left.{present_entries}
use Rattle.bucket_chains.proofs.Nexts.{buckets_len}
use Rattle.bucket_chains.proofs.Skips.{place_filled, place_nearer, place_within, seek_begun, seek_here, seek_next, seek_on, seek_over}
use Rattle.instrument.specs.Placements.{is_mini_room_of, sites_of}
use Rattle.instrument.specs.RoomPlaces.{RoomPlaces, owner_key, point_key}
use Rattle.instrument.proofs.RoomSeeks.{IsListing, room_own, site_of, sites_skip, sites_take}
use Rattle.instrument.proofs.room_list.Rooms.sites_of.Goals as goal
use Rattle.instrument.proofs.room_list.Rooms.sites_of.Goals.{in-Some-index+then-is_mini_room_of, in-Some-index+else-is_mini_room_of, in_default-index}

pub loop-next-init : goal.loop-next-init
loop-next-init c =
    let es = c.self.inside.places.items in
    record {
      rest = sites_of c.args.owner (present_entries es);
      seeks = seek_begun owner_key (bucket_of c.args.owner) (is_mini_room_of c.args.owner) (room_own c.args.owner) (sites_of c.args.owner) (sites_skip c.args.owner) c.self.inside.places.items c.self.inside.index.owners c.self.invariant.indexed.owners c.first_of-next.result c.first_of-next.ensures;
      all = ap (λ l. l ++ sites_of c.args.owner (present_entries es)) c.requires.empty;
      room = subst (λ (r : RoomPlaces). length (sites_of c.args.owner (present_entries r.places)) ≤ vec_capacity c.args.sites) (sym c.self.view_is) c.requires.room;
    }

pub index-requires : goal.index-requires
index-requires c = omega (arith, place_within owner_key (bucket_of c.args.owner) c.self.inside.places.items c.self.inside.index.owners c.self.invariant.indexed.owners c.loop-next.next c.in-Some.place c.in-Some.is c.loop-next.invariant.seeks.at)

pub push_reserved-requires : goal.push_reserved-requires
push_reserved-requires c =
    let here = seek_here owner_key (bucket_of c.args.owner) (is_mini_room_of c.args.owner) (room_own c.args.owner) (sites_of c.args.owner) (sites_skip c.args.owner) c.self.inside.places.items c.self.inside.index.owners c.self.invariant.indexed.owners c.loop-next.next c.loop-next.invariant.rest c.in-Some.place c.in-Some.is c.loop-next.invariant.seeks c.index.result.now c.in-Some-index.room c.index.ensures c.in-Some-index.is in
    let taken = sites_take c.args.owner c.in-Some-index.room (present_entries (drop (c.in-Some.place + 1) c.self.inside.places.items)) (sym c.is_mini_room_of.ensures ∙ c.if-is_mini_room_of.true) in
    omega (arith, ap length c.loop-next.invariant.all, length-append c.loop-next.sites.items c.loop-next.invariant.rest, ap length (sym taken ∙ here), c.loop-next.invariant.room, c.loop-next.sites.ok)

pub next_of-next-requires : goal.next_of-next-requires
next_of-next-requires c = omega (arith, place_within owner_key (bucket_of c.args.owner) c.self.inside.places.items c.self.inside.index.owners c.self.invariant.indexed.owners c.loop-next.next c.in-Some.place c.in-Some.is c.loop-next.invariant.seeks.at, ap length c.self.invariant.indexed.points, buckets_len point_key c.self.inside.places.items)

pub loop-next-smaller : goal.loop-next-smaller
loop-next-smaller c = place_nearer owner_key (bucket_of c.args.owner) c.self.inside.places.items c.self.inside.index.owners c.self.invariant.indexed.owners c.loop-next.next c.in-Some.place c.in-Some.is c.loop-next.invariant.seeks.at c.next_of-next.result c.next_of-next.ensures

pub loop-next-preserved : goal.loop-next-preserved
loop-next-preserved c =
    let es = c.self.inside.places.items in
    let place = c.in-Some.place in
    elim c.match-index.branch [
      | in-Some-index+then-is_mini_room_of w ↦
          let here = seek_here owner_key (bucket_of c.args.owner) (is_mini_room_of c.args.owner) (room_own c.args.owner) (sites_of c.args.owner) (sites_skip c.args.owner) c.self.inside.places.items c.self.inside.index.owners c.self.invariant.indexed.owners c.loop-next.next c.loop-next.invariant.rest place c.in-Some.is c.loop-next.invariant.seeks c.index.result.now w.in-Some-index.room c.index.ensures w.in-Some-index.is in
          let taken = sites_take c.args.owner w.in-Some-index.room (present_entries (drop (place + 1) es)) (sym w.is_mini_room_of.ensures ∙ w.if-is_mini_room_of.true) in
          let rest = sites_of c.args.owner (present_entries (drop (place + 1) es)) in
          subst (λ sites. IsListing c.args.owner es c.next_of-next.result sites.items (vec_capacity sites)) (sym w.sites-is)
          (record {
            rest = rest;
            seeks = seek_next owner_key (bucket_of c.args.owner) (is_mini_room_of c.args.owner) (room_own c.args.owner) (sites_of c.args.owner) (sites_skip c.args.owner) c.self.inside.places.items c.self.inside.index.owners c.self.invariant.indexed.owners c.loop-next.next c.loop-next.invariant.rest place c.in-Some.is c.loop-next.invariant.seeks c.index.result.now w.in-Some-index.room c.index.ensures w.in-Some-index.is c.next_of-next.result c.next_of-next.ensures;
            all = ap (λ l. l ++ rest) w.push_reserved.ensures.items ∙ (append_assoc c.loop-next.sites.items (site_of w.in-Some-index.room ∷ []) rest ∙ (ap (λ l. c.loop-next.sites.items ++ l) (sym taken ∙ here) ∙ c.loop-next.invariant.all));
            room = subst (λ n. length (sites_of c.args.owner (present_entries es)) ≤ n) (sym w.push_reserved.ensures.capacity) c.loop-next.invariant.room;
          })
      | in-Some-index+else-is_mini_room_of w ↦
          subst (λ sites. IsListing c.args.owner es c.next_of-next.result sites.items (vec_capacity sites)) (sym w.sites-is)
          (record {
            rest = c.loop-next.invariant.rest;
            seeks = seek_on owner_key (bucket_of c.args.owner) (is_mini_room_of c.args.owner) (room_own c.args.owner) (sites_of c.args.owner) (sites_skip c.args.owner) c.self.inside.places.items c.self.inside.index.owners c.self.invariant.indexed.owners c.loop-next.next c.loop-next.invariant.rest place c.in-Some.is c.loop-next.invariant.seeks c.index.result.now w.in-Some-index.room c.index.ensures w.in-Some-index.is
                c.next_of-next.result c.next_of-next.ensures (sym w.is_mini_room_of.ensures ∙ w.if-is_mini_room_of.false);
            all = c.loop-next.invariant.all;
            room = c.loop-next.invariant.room;
          })
      | in_default-index w ↦
          let none : c.index.result.now ≡ None = search rules in
          absurd (place_filled owner_key (bucket_of c.args.owner) c.self.inside.places.items c.self.inside.index.owners c.self.invariant.indexed.owners c.loop-next.next c.in-Some.place c.in-Some.is c.loop-next.invariant.seeks.at c.index.result.now c.index.ensures none)
    ]

pub returns : goal.returns
returns c =
    let over = seek_over owner_key (bucket_of c.args.owner) (is_mini_room_of c.args.owner) (room_own c.args.owner) (sites_of c.args.owner) (sites_skip c.args.owner) c.self.inside.places.items c.self.inside.index.owners c.self.invariant.indexed.owners c.loop-next.next c.loop-next.invariant.rest c.in_default.is c.loop-next.invariant.seeks in
    sym (append-nil c.loop-next.sites.items) ∙ ap (λ l. c.loop-next.sites.items ++ l) over ∙ c.loop-next.invariant.all
    ∙ ap (λ (r : RoomPlaces). sites_of c.args.owner (present_entries r.places)) c.self.view_is
