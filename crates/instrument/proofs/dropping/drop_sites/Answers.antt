use Rattle.std.proofs.Common.{◌≡◌, ◌<◌, length, get_or, Some, None, refl, sym, ap, subst, ◌∙◌, rules}
use Rattle.bucket_chains.specs.Entries.{bucket_of}
use Rattle.bucket_chains.specs.Left.{buckets_of}
use Rattle.bucket_chains.proofs.Nexts.{places_from}
use Rattle.bucket_chains.proofs.Skips.{Follows, place_filled, place_nearer, place_within}
use Rattle.instrument.specs.RoomPlaces.{RoomPlaces, owner_key}
use Rattle.instrument.proofs.Dropped.{IsDropping, dropping_begun, dropping_more, dropping_on, dropping_over, entries_enough, len_without, owners_without}
use Rattle.instrument.proofs.dropping.drop_sites.Goals as goal
use Rattle.instrument.proofs.dropping.drop_sites.Goals.{in-Some-at+then-is_site_of, in-Some-at+else-is_site_of, in_default-at}

pub loop-next-init : goal.loop-next-init
loop-next-init c = dropping_begun c.args.owner c.args.rooms.now c.args.agenda.now c.first_of-next.result c.first_of-next.ensures c.requires.distinct

pub at-requires : goal.at-requires
at-requires c = place_within owner_key (bucket_of c.args.owner) c.loop-next.rooms.places (buckets_of owner_key c.loop-next.rooms.places) refl c.loop-next.next c.in-Some.place c.in-Some.is c.loop-next.invariant.at

pub drop_site-requires : goal.drop_site-requires
drop_site-requires c =
    let here : get_or c.loop-next.rooms.places c.in-Some.place None ≡ Some c.in-Some-at.room = sym c.at.ensures ∙ c.in-Some-at.is in
    entries_enough c.args.owner c.args.rooms.now c.args.agenda.now c.loop-next.rooms c.loop-next.agenda c.loop-next.next c.in-Some.place c.in-Some.is c.loop-next.invariant c.in-Some-at.room here c.requires.entries (sym c.is_site_of.ensures ∙ c.if-is_site_of.true)

pub next_of-next-requires : goal.next_of-next-requires
next_of-next-requires c =
    let inside = place_within owner_key (bucket_of c.args.owner) c.loop-next.rooms.places (buckets_of owner_key c.loop-next.rooms.places) refl c.loop-next.next c.in-Some.place c.in-Some.is c.loop-next.invariant.at in
    elim c.match-at.branch [
      | in-Some-at+then-is_site_of w ↦
          subst (λ (r : RoomPlaces). c.in-Some.place < length r.places) (sym (w.rooms-is ∙ w.drop_site.ensures.rooms)) (subst (λ n. c.in-Some.place < n) (sym (len_without w.in-Some-at.room c.loop-next.rooms.places)) inside)
      | in-Some-at+else-is_site_of w ↦ subst (λ (r : RoomPlaces). c.in-Some.place < length r.places) (sym w.rooms-is) inside
      | in_default-at w ↦ subst (λ (r : RoomPlaces). c.in-Some.place < length r.places) (sym w.rooms-is) inside
    ]

pub loop-next-smaller : goal.loop-next-smaller
loop-next-smaller c =
    let places = c.loop-next.rooms.places in
    let nearer : Follows (buckets_of owner_key places) c.in-Some.place c.next_of-next.result → places_from (length places) c.next_of-next.result < places_from (length places) c.loop-next.next =
    λ h. place_nearer owner_key (bucket_of c.args.owner) c.loop-next.rooms.places (buckets_of owner_key c.loop-next.rooms.places) refl c.loop-next.next c.in-Some.place c.in-Some.is c.loop-next.invariant.at c.next_of-next.result h in
    elim c.match-at.branch [
      | in-Some-at+then-is_site_of w ↦
          let is = ap (λ (r : RoomPlaces). r.places) (w.rooms-is ∙ w.drop_site.ensures.rooms) in
          subst (λ n. places_from n c.next_of-next.result < places_from (length places) c.loop-next.next) (sym (ap length is ∙ len_without w.in-Some-at.room places))
          (nearer (subst (λ bs. Follows bs c.in-Some.place c.next_of-next.result) (ap (buckets_of owner_key) is ∙ owners_without w.in-Some-at.room places) c.next_of-next.ensures))
      | in-Some-at+else-is_site_of w ↦
          subst (λ (r : RoomPlaces). places_from (length r.places) c.next_of-next.result < places_from (length places) c.loop-next.next) (sym w.rooms-is)
          (nearer (subst (λ (r : RoomPlaces). Follows (buckets_of owner_key r.places) c.in-Some.place c.next_of-next.result) w.rooms-is c.next_of-next.ensures))
      | in_default-at w ↦
          subst (λ (r : RoomPlaces). places_from (length r.places) c.next_of-next.result < places_from (length places) c.loop-next.next) (sym w.rooms-is)
          (nearer (subst (λ (r : RoomPlaces). Follows (buckets_of owner_key r.places) c.in-Some.place c.next_of-next.result) w.rooms-is c.next_of-next.ensures))
    ]

pub loop-next-preserved : goal.loop-next-preserved
loop-next-preserved c =
    elim c.match-at.branch [
      | in-Some-at+then-is_site_of w ↦
          let here : get_or c.loop-next.rooms.places c.in-Some.place None ≡ Some w.in-Some-at.room = sym c.at.ensures ∙ w.in-Some-at.is in
          subst (λ a. IsDropping c.args.owner c.args.rooms.now c.args.agenda.now c.match-at.rooms a c.next_of-next.result) (sym w.agenda-is)
          (dropping_more c.args.owner c.args.rooms.now c.args.agenda.now c.loop-next.rooms c.loop-next.agenda c.loop-next.next c.in-Some.place c.in-Some.is c.loop-next.invariant w.in-Some-at.room here c.match-at.rooms w.drop_site.new.agenda c.next_of-next.result (sym w.is_site_of.ensures ∙ w.if-is_site_of.true)
          (w.rooms-is ∙ w.drop_site.ensures.rooms) w.drop_site.ensures.agenda w.drop_site.ensures.entries c.next_of-next.ensures)
      | in-Some-at+else-is_site_of w ↦
          let here : get_or c.loop-next.rooms.places c.in-Some.place None ≡ Some w.in-Some-at.room = sym c.at.ensures ∙ w.in-Some-at.is in
          subst (λ (r : RoomPlaces). IsDropping c.args.owner c.args.rooms.now c.args.agenda.now r c.match-at.agenda c.next_of-next.result) (sym w.rooms-is)
          (subst (λ a. IsDropping c.args.owner c.args.rooms.now c.args.agenda.now c.loop-next.rooms a c.next_of-next.result) (sym w.agenda-is)
          (dropping_on c.args.owner c.args.rooms.now c.args.agenda.now c.loop-next.rooms c.loop-next.agenda c.loop-next.next c.in-Some.place c.in-Some.is c.loop-next.invariant w.in-Some-at.room here c.next_of-next.result
          (subst (λ (r : RoomPlaces). Follows (buckets_of owner_key r.places) c.in-Some.place c.next_of-next.result) w.rooms-is c.next_of-next.ensures)
          (sym w.is_site_of.ensures ∙ w.if-is_site_of.false)))
      | in_default-at w ↦
          let none : c.at.result ≡ None = search rules in
          absurd (place_filled owner_key (bucket_of c.args.owner) c.loop-next.rooms.places (buckets_of owner_key c.loop-next.rooms.places) refl c.loop-next.next c.in-Some.place c.in-Some.is c.loop-next.invariant.at None (sym none ∙ c.at.ensures) refl)
    ]

pub returns-clause-book : goal.returns-clause-book
returns-clause-book c = dropping_over c.args.owner c.args.rooms.now c.args.agenda.now c.loop-next.rooms c.loop-next.agenda c.loop-next.next c.in_default.is c.loop-next.invariant

pub returns-clause-distinct : goal.returns-clause-distinct
returns-clause-distinct c = c.loop-next.invariant.distinct

pub returns-clause-spare : goal.returns-clause-spare
returns-clause-spare c = c.loop-next.invariant.spare

pub returns-clause-entries : goal.returns-clause-entries
returns-clause-entries c = c.loop-next.invariant.entries
