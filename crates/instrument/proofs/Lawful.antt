-- The laws of the placer beside the machine.
use Rattle.std.proofs.Common.{◌≡◌, ℕ, List, [], ◌∷◌, ◌++◌, refl, sym, ap, subst, inl, inr}
use Rattle.std.specs.Prelude.{map, false}
use Rattle.pn_types.specs.declared.image.Image.{Image}
use Rattle.pn_types.specs.declared.placed.PlacedSite.{PlacedSite}
use Rattle.pn_types.specs.declared.plan.Site.{Site}
use Rattle.machine.specs.Cores.{In, Core, start_core}
use Rattle.machine.specs.Events.{Event}
use Rattle.machine.specs.Instruments.{CarriesSites}
use Rattle.machine.specs.Laws.{IsProgram}
use Rattle.machine.proofs.Lists as lists
use Rattle.instrument.specs.Laws.{Always, AreApart, IsNoPlacing, AreLegalActs, IsApart, IsPlacedWhenLinked, StaysInForce}
use Rattle.instrument.specs.Placements.{is_leaving}
use Rattle.instrument.specs.declared.instrument.Instrument.{Instrument}
use Rattle.instrument.specs.Scenes as scenes
use Rattle.instrument.specs.Scenes.{Act, Happens, Admits, Arms, Drops, Hands, Sweeps, InstrumentScene, first_scene, CanDo, AllCanDo, events_of, scene_after}
use Rattle.instrument.specs.declared.entry.Entry.{Entry}
use Rattle.instrument.specs.declared.entry.Entry.TheVariants.{WriteBase, WriteMini, LinkMini, LinkPoint, UnlinkMini, UnlinkPoint, Free}
use Rattle.instrument.specs.declared.room.Room.{Room}
use Rattle.instrument.proofs.Folds.{append_assoc, append_nil}
use Rattle.instrument.proofs.Stages.{Idle, AllApart, room_row}
use Rattle.instrument.proofs.Keeping.{Kept}
use Rattle.instrument.proofs.Force.{linked_site, entered}
use Rattle.instrument.proofs.Off.{IsOff, off_now}
use Rattle.instrument.proofs.Under.{site_room}
use Rattle.instrument.proofs.Wholes.{SitesHold, at_of, AllLinked, Whole, held_site, off_in}
use Rattle.instrument.proofs.Hands.{hands_whole, sweeps_whole}
use Rattle.instrument.proofs.Armings.{happens_whole, arms_whole}
use Rattle.instrument.proofs.Droppings.{drop_whole}
use Rattle.instrument.proofs.Admitting.{admit_whole}

-- ---- what is kept, is kept by every act

act_whole : (first : Core) (s : InstrumentScene) (es : List Event) (a : Act) → Whole first s es → CanDo a s → Whole first (scenes.does a s).scene (es ++ (scenes.does a s).events)
act_whole first s es (Happens e) w c = happens_whole first s es e w c.0 c.1
act_whole first s es (Admits plan cost) w c = admit_whole first s es w plan c cost
act_whole first s es (Arms n) w c = arms_whole first s es n w c
act_whole first s es (Drops n) w c = drop_whole first s es w n
act_whole first s es Hands w c = hands_whole first s es w
act_whole first s es Sweeps w c = sweeps_whole first s es w c

all_whole : (first : Core) (acts : List Act) (s : InstrumentScene) (es : List Event) → Whole first s es → AllCanDo acts s → Whole first (scene_after acts s) (es ++ events_of acts s)
all_whole first [] s es w c = subst (λ l. Whole first s l) (sym (append_nil es)) w
all_whole first (a ∷ acts) s es w c =
    subst (λ l. Whole first (scene_after (a ∷ acts) s) l) (append_assoc es (scenes.does a s).events (events_of acts (scenes.does a s).scene))
    (all_whole first acts (scenes.does a s).scene (es ++ (scenes.does a s).events) (act_whole first s es a w c.0) c.1)

-- ---- the beginning

first_kept : (image : Image) (harts budget limit : ℕ) → IsProgram image → Kept (at_of (first_scene image harts budget limit))
first_kept image harts budget limit p = record {
  reached = record { image = image; many = harts; events = []; program = p; legal = tt; is = refl };
  fr = Idle;
  tied = record { doors = λ r h b l. absurd h; fresh = tt };
  book = record { sound = tt; ends = refl; apart = tt; claims = λ r h. absurd h; based = λ x h m e. absurd h };
}

first_whole : (image : Image) (harts budget limit : ℕ) → IsProgram image → Whole (start_core image harts budget) (first_scene image harts budget limit) []
first_whole image harts budget limit p = record {
  kept = first_kept image harts budget limit p;
  neat = record { apart = tt; sized = λ x h. absurd h };
  program = refl;
  orderly = record {
    many = refl;
    below = λ i h. absurd h;
    single = λ i j h. absurd h;
    owners = λ x h. absurd h;
    roomed = λ i h. absurd h;
    sites = λ i h. absurd h;
    carried = λ i h. absurd h;
    slots = λ i j h. absurd h;
  };
  linked = λ i h. absurd h;
  legal = tt;
  core = refl;
  force = λ i h. absurd h;
}

pub always : (image : Image) (harts budget limit : ℕ) (acts : List Act) → IsProgram image → AllCanDo acts (first_scene image harts budget limit)
    → Whole (start_core image harts budget) (scene_after acts (first_scene image harts budget limit)) (events_of acts (first_scene image harts budget limit))
always image harts budget limit acts p c = all_whole (start_core image harts budget) acts (first_scene image harts budget limit) [] (first_whole image harts budget limit p) c

-- ---- the laws

pub legal_always : Always AreLegalActs
legal_always image harts budget limit acts p c = let w = always image harts budget limit acts p c in record { legal = w.legal; core = w.core }

rooms_apart : (rooms : List Room) → AllApart (map room_row rooms) → AreApart rooms
rooms_apart [] a = tt
rooms_apart (x ∷ rooms) a = ((λ y h. a.0 (room_row y) (lists.map_in room_row rooms y h)), rooms_apart rooms a.1)

pub apart_always : Always IsApart
apart_always image harts budget limit acts p c =
    let w = always image harts budget limit acts p c in
    record {
      rooms = rooms_apart _ w.neat.apart;
      slots = record { own = λ i h. (w.orderly.carried i h).places; others = λ i j hi hj n. w.orderly.slots i j hi hj n };
    }

no_placing : (s : PlacedSite) (e : Entry) → IsOff s.at s.mini e → IsNoPlacing s e
no_placing s (WriteBase b) o = o
no_placing s (WriteMini b) o = o
no_placing s (LinkMini p m) o = o
no_placing s (LinkPoint p m) o = o
no_placing s (UnlinkMini p m) o = tt
no_placing s (UnlinkPoint p m) o = tt
no_placing s (Free p) o = tt

pub placed_always : Always IsPlacedWhenLinked
placed_always image harts budget limit acts p c =
    let w = always image harts budget limit acts p c in
    let s = scene_after acts (first_scene image harts budget limit) in
    record {
      placed = λ i h e l q hq z hz.
          let k = l q hq in
          no_placing q z (off_in q.at q.mini s.placer.book.agenda
          (off_now q.at q.mini (at_of s) w.kept (linked_site s.core w.kept.reached q.at q.mini k.0 k.1)
          (held_site (at_of s) s.placer.instruments s.plans s.placer.count w.orderly i h (ap is_leaving e) q hq)) z hz);
    }

-- what a site holds is the body of its mini block, where that is live and its room held
carries_sites : (s : InstrumentScene) (i : Instrument) (all : List PlacedSite) → AllLinked s.core all → ((q : PlacedSite) → In q all → (x : Room) × In x s.placer.book.rooms × (x.base ≡ false) × (x.owner ≡ i.no) × (x.point ≡ q.at) × (x.at ≡ q.mini))
    → (ps : List PlacedSite) (qs : List Site) → ((q : PlacedSite) → In q ps → In q all) → SitesHold (at_of s) i ps qs → CarriesSites s.core i.placed.slots ps qs
carries_sites s i all l f [] [] sub h = tt
carries_sites s i all l f [] (q ∷ qs) sub h = h
carries_sites s i all l f (p ∷ ps) [] sub h = h
carries_sites s i all l f (p ∷ ps) (q ∷ qs) sub h =
    let y = (l p (sub p (inl refl))).mini in
    let x = f p (sub p (inl refl)) in (
      h.0,
      record { row = y.row; listed = y.listed; mini = y.mini; point = y.point; at = y.at; is = (h.1 x.0 x.1 x.2 x.3 x.5).written y.row y.listed y.mini y.at },
      carries_sites s i all l f ps qs (λ z k. sub z (inr k)) h.2,
    )

pub force_always : Always StaysInForce
force_always image harts budget limit acts p c =
    let w = always image harts budget limit acts p c in
    let s = scene_after acts (first_scene image harts budget limit) in
    record {
      linked = λ i h e q hq. let l = w.linked i h e q hq in (l.mini, entered s.core w.kept.fr w.kept.tied q.at q.mini l);
      force = w.force;
      carries = λ i h e.
          let k = w.orderly.carried i h in (
            k.plan,
            k.is,
            record {
              vars = k.vars;
              many = k.many;
              places = k.places;
              sites = carries_sites s i i.placed.sites (w.linked i h e)
                  (λ q hq. site_room i.no s.placer.book.rooms q (subst (λ u. In q u) (w.orderly.sites i h (ap is_leaving e)) hq))
                  i.placed.sites (k.plan).sites (λ q hq. hq) k.sites;
              opens = k.opens;
            },
          );
    }
