use Rattle.std.proofs.Common.{◌≡◌, drop, take, filter, None, sym, ap, subst, ◌∙◌, arith, rules}
use Rattle.std.specs.Prelude.{not}
use Rattle.std.proofs.lemmas.List.Elements.{filter-append}
use Rattle.bucket_chains.specs.Entries.{bucket_of}
use Rattle.bucket_chains.specs.Left.{present_entries}
use Rattle.bucket_chains.proofs.Nexts.{from_next}
use Rattle.bucket_chains.proofs.Skips.{place_among, place_filled, place_has, place_nearer, place_within, seek_begun, seek_on, seek_over}
use Rattle.instrument.specs.RoomPlaces.{IsFirstToGo, RoomPlaces, point_key}
use Rattle.instrument.proofs.RoomLists.{left_parts}
use Rattle.instrument.proofs.RoomSeeks.{filter_skips, goes, goes_own, none_goes, whole_behind}
use Rattle.instrument.proofs.room_list.Rooms.unlinked_at.Goals as goal
use Rattle.instrument.proofs.room_list.Rooms.unlinked_at.Goals.{in-Some-index+else-not-stays, in_default-index}

pub loop-next-init : goal.loop-next-init
loop-next-init c = seek_begun point_key (bucket_of c.args.point) (goes c.args.point) (goes_own c.args.point) (filter (goes c.args.point)) (filter_skips (goes c.args.point)) c.self.inside.places.items c.self.inside.index.points c.self.invariant.indexed.points c.first_at_point-next.result c.first_at_point-next.ensures

pub index-requires : goal.index-requires
index-requires c = omega (arith, place_within point_key (bucket_of c.args.point) c.self.inside.places.items c.self.inside.index.points c.self.invariant.indexed.points c.loop-next.next c.in-Some.place c.in-Some.is c.loop-next.invariant.at)

pub returns-then-not-stays-clause-some : goal.returns-then-not-stays-clause-some
returns-then-not-stays-clause-some c =
    let es = c.self.inside.places.items in
    let place = c.in-Some.place in
    let at = place_has point_key (bucket_of c.args.point) c.self.inside.places.items c.self.inside.index.points c.self.invariant.indexed.points c.loop-next.next c.in-Some.place c.in-Some.is c.loop-next.invariant.at c.index.result.now c.in-Some-index.room c.index.ensures c.in-Some-index.is in
    let rest = subst (λ n. filter (goes c.args.point) (present_entries (from_next n es)) ≡ filter (goes c.args.point) (present_entries es)) c.in-Some.is c.loop-next.invariant.rest in
    let parts = ap (filter (goes c.args.point)) (left_parts es place) ∙ filter-append (goes c.args.point) (present_entries (take place es)) (present_entries (drop place es)) in
    let first = none_goes c.args.point (present_entries (take place es)) (whole_behind (filter (goes c.args.point) (present_entries (take place es))) (filter (goes c.args.point) (present_entries (drop place es))) (sym parts ∙ sym rest)) in
    subst (λ (r : RoomPlaces). IsFirstToGo c.args.point r.places place) c.self.view_is
    (record { room = c.in-Some-index.room; at = at; leaves = sym c.stays.ensures ∙ c.if-not-stays.true; first = first })

pub next_at_point-next-requires : goal.next_at_point-next-requires
next_at_point-next-requires c = omega (arith, place_among point_key (bucket_of c.args.point) c.self.inside.places.items c.self.inside.index.points c.self.invariant.indexed.points c.loop-next.next c.in-Some.place c.in-Some.is c.loop-next.invariant.at)

pub loop-next-smaller : goal.loop-next-smaller
loop-next-smaller c = place_nearer point_key (bucket_of c.args.point) c.self.inside.places.items c.self.inside.index.points c.self.invariant.indexed.points c.loop-next.next c.in-Some.place c.in-Some.is c.loop-next.invariant.at c.next_at_point-next.result c.next_at_point-next.ensures

pub loop-next-preserved : goal.loop-next-preserved
loop-next-preserved c =
    elim c.match-index.branch [
      | in-Some-index+else-not-stays w ↦
          seek_on point_key (bucket_of c.args.point) (goes c.args.point) (goes_own c.args.point) (filter (goes c.args.point)) (filter_skips (goes c.args.point)) c.self.inside.places.items c.self.inside.index.points c.self.invariant.indexed.points c.loop-next.next (filter (goes c.args.point) (present_entries c.self.inside.places.items)) c.in-Some.place c.in-Some.is c.loop-next.invariant c.index.result.now w.in-Some-index.room c.index.ensures w.in-Some-index.is
          c.next_at_point-next.result c.next_at_point-next.ensures (ap not (sym w.stays.ensures ∙ w.if-not-stays.false))
      | in_default-index w ↦
          let none : c.index.result.now ≡ None = search rules in
          absurd (place_filled point_key (bucket_of c.args.point) c.self.inside.places.items c.self.inside.index.points c.self.invariant.indexed.points c.loop-next.next c.in-Some.place c.in-Some.is c.loop-next.invariant.at c.index.result.now c.index.ensures none)
    ]

pub returns-clause-none : goal.returns-clause-none
returns-clause-none c =
    none_goes c.args.point (present_entries c.args.self.now.places)
    (sym (seek_over point_key (bucket_of c.args.point) (goes c.args.point) (goes_own c.args.point) (filter (goes c.args.point)) (filter_skips (goes c.args.point)) c.self.inside.places.items c.self.inside.index.points c.self.invariant.indexed.points c.loop-next.next (filter (goes c.args.point) (present_entries c.self.inside.places.items)) c.in_default.is c.loop-next.invariant
    ∙ ap (λ (r : RoomPlaces). filter (goes c.args.point) (present_entries r.places)) c.self.view_is))
