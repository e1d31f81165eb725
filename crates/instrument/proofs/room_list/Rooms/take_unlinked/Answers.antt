use Rattle.std.proofs.Common.{◌≡◌, ◌<◌, None, take, drop, suc, set, sym, ap, subst, ◌∙◌}
use Rattle.std.proofs.lemmas.Option.{same_Some}
use Rattle.bucket_chains.specs.Left.{present_entries}
use Rattle.bucket_chains.proofs.Nexts.{read_entry}
use Rattle.instrument.specs.Books.{stays}
use Rattle.instrument.specs.Freed.{IsTakenOut}
use Rattle.instrument.specs.RoomPlaces.{IsFirstToGo, RoomPlaces}
use Rattle.instrument.proofs.RoomLists.{entry_within, left_out, left_without}
use Rattle.instrument.proofs.room_list.Rooms.take_unlinked.Goals as goal

pub returns-clause-taken : goal.returns-clause-taken
returns-clause-taken c =
    let es = c.self.inside.places.items in
    let place = c.in_ok-place.place in
    let k = subst (λ (r : RoomPlaces). IsFirstToGo c.args.point r.places place) (sym c.self.view_is) c.in_ok-place.ensures.some in
    let within : place < _ = entry_within es place k.room k.at in
    let at = read_entry es place c.index.result.now within c.index.ensures ∙ c.in_ok-room.was in
    let same : c.in_ok-room.room ≡ k.room = same_Some c.in_ok-room.room k.room (sym at ∙ k.at) in
    subst (λ (r : RoomPlaces). IsTakenOut c.args.point c.in_ok-room.room (present_entries r.places) (present_entries c.remove.new.self.places)) c.self.view_is
    (record {
      before = present_entries (take place es);
      after = present_entries (drop (suc place) es);
      was = left_out es place c.in_ok-room.room at;
      now =
          ap (λ (r : RoomPlaces). present_entries r.places) c.remove.ensures
          ∙ ap (λ (r : RoomPlaces). present_entries (set r.places place None)) (sym c.self.view_is)
          ∙ left_without es place within;
      leaves = ap (stays c.args.point) same ∙ k.leaves;
      first = k.first;
    })
