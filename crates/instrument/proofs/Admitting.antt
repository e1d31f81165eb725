-- What is kept where a plan is admitted or refused.
use Rattle.std.proofs.Common.{◌≡◌, ℕ, ◌+◌, ◌<◌, List, [], ◌∷◌, ◌++◌, length, Option, Some, None, Ok, Err, refl, sym, ap, ◌∙◌, subst, arith, ⊎_elim, inl, inr}
use Rattle.std.specs.Prelude.{map, filter, Bool, true, false, cond, not, Result, nat_le, slice_get, ◌⊎◌, ◌&&◌, ◌==◌}
use Rattle.std.proofs.lemmas.Bool.{true≢false, cond-true, cond-false, eq-eqb, ne_eqb}
use Rattle.pn_types.specs.declared.placed.PlacedSite.{PlacedSite}
use Rattle.pn_types.specs.declared.plan.Plan.{Plan}
use Rattle.pn_types.specs.declared.plan.Site.{Site}
use Rattle.prim_code.proofs.Whole.{statements_work}
use Rattle.tramp_spec.specs.Slots.{places_of, IsSlotOf, ShareNone}
use Rattle.tramp_spec.specs.Statements.{body_of}
use Rattle.tramp_spec.specs.declared.block.Block.{Block}
use Rattle.tramp_spec.specs.declared.mark.MarkedWord.{MarkedWord}
use Rattle.machine.specs.Cores.{In, Core}
use Rattle.machine.specs.Events.{Event}
use Rattle.machine.specs.Instruments.{InForce}
use Rattle.machine.specs.Replays.{Legal, replay}
use Rattle.machine.proofs.Lists.{get_append, get_before}
use Rattle.instrument.specs.Admission.{slot_count, slots_from, with_sites}
use Rattle.prim_code.specs.Counts.{predicted}
use Rattle.instrument.specs.Books.{Book, Blocks, is_held, mini_room, rooms_of}
use Rattle.instrument.specs.Fits.{slots_for}
use Rattle.instrument.specs.Placements.{is_leaving, is_mini_room_of, sites_of, slots_taken, is_over, with_instrument, with_slots}
use Rattle.instrument.specs.declared.instrument.Instrument.{Instrument}
use Rattle.instrument.specs.Scenes as scenes
use Rattle.instrument.specs.Scenes.{InstrumentScene, Told, admits, IsPlanFor, Admits}
use Rattle.instrument.specs.declared.number.Refused.{Refused}
use Rattle.instrument.specs.declared.number.Refused.TheVariants.{OverCost, TooMany, NoSlot}
use Rattle.instrument.specs.declared.number.State.TheVariants.{Placing, Armed}
use Rattle.instrument.specs.declared.room.Room.{Room}
use Rattle.instrument.proofs.Folds.{append_nil, in_append, append_left, append_right}
use Rattle.instrument.proofs.Steps.{State, Admitted, does, AllCan, all_steps}
use Rattle.instrument.proofs.Keeping.{Kept}
use Rattle.instrument.proofs.Going.{step_keeps, Went, all_keep}
use Rattle.instrument.proofs.Force.{LinkedSite}
use Rattle.instrument.proofs.Neats.{Neat, neat_step}
use Rattle.instrument.proofs.Promises.{HoldsBody, step_holds, new_holds}
use Rattle.instrument.proofs.Admissions.{admissions, new_rooms, AreSited, AreGood, Places}
use Rattle.instrument.proofs.Admissions as placing
use Rattle.instrument.proofs.Under.{placed_site, sites_append, room_site}
use Rattle.instrument.proofs.Fitting.{FreeSlots, free_slots}
use Rattle.instrument.proofs.Slotting.{slots_len, new_places, new_apart}
use Rattle.instrument.proofs.Hands as hands
use Rattle.instrument.proofs.Wholes.{SitesHold, Carried, Orderly, at_of, Whole}

-- ---- the new rooms

-- they are the new instrument's, and held
new_owner : (n : ℕ) (ks : List Blocks) (x : Room) → In x (new_rooms n ks) → x.base ≡ false → (x.owner ≡ n) × (is_held x.hold ≡ true)
new_owner n [] x h b = absurd h
new_owner n (k ∷ ks) x h b = ⊎_elim (λ i. by k.base i) (λ i. new_owner n ks x i b) (in_append (rooms_of k.base n k.mini) (new_rooms n ks) x h)
  where
    by : (o : Option Block) → In x (rooms_of o n k.mini) → (x.owner ≡ n) × (is_held x.hold ≡ true)
    by None (inl i) = (ap (λ (u : Room). u.owner) i, ap (λ (u : Room). is_held u.hold) i)
    by None (inr i) = absurd i
    by (Some d) (inl i) = absurd (true≢false (sym (ap (λ (u : Room). u.base) i) ∙ b))
    by (Some d) (inr (inl i)) = (ap (λ (u : Room). u.owner) i, ap (λ (u : Room). is_held u.hold) i)
    by (Some d) (inr (inr i)) = absurd i

abbrev minis : List Blocks → List PlacedSite
minis ks = map (λ (k : Blocks). record { at = k.mini.point; mini = k.mini.at }) ks

-- its sites are theirs, and no other's
sites_new : (n : ℕ) (ks : List Blocks) → sites_of n (new_rooms n ks) ≡ minis ks
sites_new n [] = refl
sites_new n (k ∷ ks) = sites_append n (rooms_of k.base n k.mini) (new_rooms n ks) ∙ cc (by k.base, sites_new n ks)
  where
    by : (o : Option Block) → sites_of n (rooms_of o n k.mini) ≡ record { at = k.mini.point; mini = k.mini.at } ∷ []
    by None = ap (map placed_site) (cond-true (n == n) (mini_room n k.mini ∷ []) [] (eq-eqb n n refl))
    by (Some d) = ap (map placed_site) (cond-true (n == n) (mini_room n k.mini ∷ []) [] (eq-eqb n n refl))

sites_other : (m n : ℕ) (ks : List Blocks) → (n ≡ m → ⊥) → sites_of m (new_rooms n ks) ≡ []
sites_other m n [] d = refl
sites_other m n (k ∷ ks) d = sites_append m (rooms_of k.base n k.mini) (new_rooms n ks) ∙ cc (by k.base, sites_other m n ks d)
  where
    by : (o : Option Block) → sites_of m (rooms_of o n k.mini) ≡ []
    by None = ap (map placed_site) (cond-false (n == m) (mini_room n k.mini ∷ []) [] (ne_eqb n m d))
    by (Some b) = ap (map placed_site) (cond-false (n == m) (mini_room n k.mini ∷ []) [] (ne_eqb n m d))

no_sites : (n : ℕ) (xs : List Room) → ((x : Room) → In x xs → x.base ≡ false → x.owner ≡ n → ⊥) → sites_of n xs ≡ []
no_sites n [] f = refl
no_sites n (x ∷ xs) f = by (not x.base && (x.owner == n)) refl (no_sites n xs (λ y h. f y (inr h)))
  where
    by : (b : Bool) → not x.base && (x.owner == n) ≡ b → sites_of n xs ≡ [] → map placed_site (cond b (x ∷ filter (is_mini_room_of n) xs) (filter (is_mini_room_of n) xs)) ≡ []
    by true e ih = let z = hands.mini_of n x e in absurd (f x (inl refl) z.0 z.1)
    by false e ih = ih

-- ---- steps

neat_admits : (n : ℕ) (ks : List Blocks) (st : State) → Kept st → Neat st.book.rooms → AllCan (admissions n ks) st → Neat (all_steps (admissions n ks) st).book.rooms
neat_admits n [] st k h c = h
neat_admits n (b ∷ ks) st k h c = neat_admits n ks (does (Admitted n b) st).state (step_keeps (Admitted n b) st k c.0).kept (neat_step (Admitted n b) st k c.0 h) c.1

holds_admits : (n : ℕ) (ks : List Blocks) (st : State) → Kept st → Neat st.book.rooms → AllCan (admissions n ks) st → (m : ℕ) (body : List MarkedWord) (x : Room) → In x st.book.rooms → x.at ≡ m → HoldsBody m body st → HoldsBody m body (all_steps (admissions n ks) st)
holds_admits n [] st k h c m body x hx e q = q
holds_admits n (b ∷ ks) st k h c m body x hx e q =
    holds_admits n ks (does (Admitted n b) st).state (step_keeps (Admitted n b) st k c.0).kept (neat_step (Admitted n b) st k c.0 h) c.1 m body x
    (append_left st.book.rooms (rooms_of b.base n b.mini) x hx) e (step_holds (Admitted n b) st k h c.0 m body x hx e q)

mini_in : (n : ℕ) (o : Option Block) (m : Block) → In (mini_room n m) (rooms_of o n m)
mini_in n None m = inl refl
mini_in n (Some b) m = inr (inl refl)

-- each new mini block has the code of its site
news_hold : (n : ℕ) (slots : List ℕ) (ks : List Blocks) (sites : List Site) (st : State) → Kept st → Neat st.book.rooms → AllCan (admissions n ks) st → AreSited slots sites ks
    → (i : Instrument) → i.placed.slots ≡ slots → SitesHold (all_steps (admissions n ks) st) i (minis ks) sites
news_hold n slots [] [] st k h c a i e = tt
news_hold n slots [] (s ∷ sites) st k h c a i e = absurd a
news_hold n slots (b ∷ ks) [] st k h c a i e = absurd a
news_hold n slots (b ∷ ks) (s ∷ sites) st k h c a i e =
    let kept = (step_keeps (Admitted n b) st k c.0).kept in
    let neat = neat_step (Admitted n b) st k c.0 h in
    let new : HoldsBody b.mini.at (body_of i.placed.slots s.stmts) (does (Admitted n b) st).state =
    subst (λ l. HoldsBody b.mini.at l (does (Admitted n b) st).state) (a.1 ∙ ap (λ l. body_of l s.stmts) (sym e)) (new_holds n b st k h c.0) in (
      a.0,
      (λ x hx q o at. holds_admits n ks (does (Admitted n b) st).state kept neat c.1 b.mini.at (body_of i.placed.slots s.stmts) (mini_room n b.mini)
          (append_right st.book.rooms (rooms_of b.base n b.mini) _ (mini_in n b.base b.mini)) refl new),
      news_hold n slots ks sites (does (Admitted n b) st).state kept neat c.1 a.2 i e,
    )

-- ---- an admission

module _ (first : Core) (s : InstrumentScene) (es : List Event) (w : Whole first s es) (plan : Plan) (ok : IsPlanFor s.core.program plan) where
  -- a refused one leaves all as it is
  refused : (r : Refused) → Whole first (admits plan (Err r) s).scene (es ++ (admits plan (Err r) s).events)
  refused r = subst (λ l. Whole first s l) (sym (append_nil es)) w

  module _ (slot : ℕ) (free : FreeSlots (slots_taken s.placer) slot (slot_count plan.vars)) (after : Book) (p : Places s.placer.count (slots_from slot plan.vars) plan.sites (at_of s) after) where
    abbrev slots : List ℕ
    slots = slots_from slot plan.vars

    abbrev new : Instrument
    new = record { no = s.placer.count; placed = record { vars = plan.vars; slots = slots_from slot plan.vars; sites = sites_of s.placer.count after.rooms; opens = plan.opens }; state = Placing }

    abbrev st : State
    st = record { core = s.core; book = after }

    went : Went (admissions s.placer.count p.ks) (at_of s)
    went = all_keep (admissions s.placer.count p.ks) (at_of s) w.kept p.can

    o : Orderly (at_of s) s.placer.instruments s.plans s.placer.count
    o = w.orderly

    old_no : (i : Instrument) → In i s.placer.instruments → i.no ≡ s.placer.count → ⊥
    old_no i h e = let l = o.below i h in omega arith

    -- a mini block's room is old, or new
    parts : (x : Room) → In x after.rooms → In x s.placer.book.rooms ⊎ In x (new_rooms s.placer.count p.ks)
    parts x h = in_append s.placer.book.rooms (new_rooms s.placer.count p.ks) x (subst (λ l. In x l) p.rooms h)

    old_room : (i : Instrument) → In i s.placer.instruments → (x : Room) → In x after.rooms → x.base ≡ false → x.owner ≡ i.no → In x s.placer.book.rooms
    old_room i hi x h b e = ⊎_elim (λ k. k) (λ k. absurd (old_no i hi (sym e ∙ (new_owner s.placer.count p.ks x k b).0))) (parts x h)

    none_old : (x : Room) → In x s.placer.book.rooms → x.base ≡ false → x.owner ≡ s.placer.count → ⊥
    none_old x h b e = let j = o.owners x h b in old_no j.0 j.1 (j.2 ∙ e)

    abbrev instruments : List Instrument
    instruments = s.placer.instruments ++ new ∷ []

    abbrev plans : List Plan
    plans = s.plans ++ plan ∷ []

    -- an instrument is old, or the new one
    each : (P : Instrument → Type 0) → ((i : Instrument) → In i s.placer.instruments → P i) → P new → (i : Instrument) → In i instruments → P i
    each P f n i h = ⊎_elim (λ k. f i k) (λ k. ⊎_elim (λ e. subst P (sym e) n) (λ z. absurd z) k) (in_append s.placer.instruments (new ∷ []) i h)

    sites_on : (i : Instrument) → In i s.placer.instruments → (ps : List PlacedSite) (qs : List Site) → SitesHold (at_of s) i ps qs → SitesHold st i ps qs
    sites_on i hi [] [] h = tt
    sites_on i hi [] (q ∷ qs) h = h
    sites_on i hi (z ∷ ps) [] h = h
    sites_on i hi (z ∷ ps) (q ∷ qs) h = (
      h.0,
      (λ x hx b e at.
          let k = old_room i hi x hx b e in
          subst (HoldsBody z.mini (body_of i.placed.slots q.stmts)) p.state
          (holds_admits s.placer.count p.ks (at_of s) w.kept w.neat p.can z.mini (body_of i.placed.slots q.stmts) x k at (h.1 x k b e at))),
      sites_on i hi ps qs h.2,
    )

    carried_old : (i : Instrument) → In i s.placer.instruments → Carried st plans i
    carried_old i hi =
        let c = o.carried i hi in
        record { plan = c.plan; is = get_before s.plans (plan ∷ []) i.no c.plan c.is; vars = c.vars; many = c.many; places = c.places; stmts = c.stmts; sites = sites_on i hi i.placed.sites (c.plan).sites c.sites; opens = c.opens }

    sites_are : sites_of s.placer.count after.rooms ≡ minis p.ks
    sites_are =
        ap (sites_of s.placer.count) p.rooms
        ∙ (sites_append s.placer.count s.placer.book.rooms (new_rooms s.placer.count p.ks)
        ∙ cc (no_sites s.placer.count s.placer.book.rooms none_old, sites_new s.placer.count p.ks))

    carried_new : Carried st plans new
    carried_new = record {
      plan = plan;
      is = ap (λ n. slice_get (s.plans ++ plan ∷ []) n) (sym o.many) ∙ get_append s.plans plan;
      vars = refl;
      many = slots_len slot plan.vars;
      places = new_places (slots_taken s.placer) slot plan.vars free;
      stmts = ok.stmts;
      sites = subst (λ l. SitesHold st new l plan.sites) (sym sites_are)
          (subst (λ (u : State). SitesHold u new (minis p.ks) plan.sites) p.state (news_hold s.placer.count slots p.ks plan.sites (at_of s) w.kept w.neat p.can p.blocks new refl));
      opens = refl;
    }

    shares : (i : Instrument) → In i s.placer.instruments → (q : ℕ) → IsSlotOf (places_of i.placed) q → IsSlotOf (places_of new.placed) q → ⊥
    shares i h q a b = new_apart s.placer.instruments slot plan.vars free i h q a b

    orderly : Orderly st instruments plans (s.placer.count + 1)
    orderly = record {
      many = more s.plans ∙ ap (λ n. n + 1) o.many;
      below = each (λ i. i.no < s.placer.count + 1) (λ i h. let l = o.below i h in omega arith) (omega arith);
      single = λ i j hi hj. each (λ i. i.no ≡ j.no → i ≡ j)
          (λ i h. each (λ j. i.no ≡ j.no → i ≡ j) (λ j k e. o.single i j h k e) (λ e. absurd (old_no i h e)) j hj)
          (each (λ j. new.no ≡ j.no → new ≡ j) (λ j k e. absurd (old_no j k (sym e))) (λ e. refl) j hj) i hi;
      owners = λ x h b. ⊎_elim
          (λ k. let i = o.owners x k b in (i.0, append_left s.placer.instruments (new ∷ []) i.0 i.1, i.2, i.3))
          (λ k. let z = new_owner s.placer.count p.ks x k b in (new, append_right s.placer.instruments (new ∷ []) new (inl refl), sym z.0, z.1))
          (parts x h);
      roomed = λ i hi x hx b. each (λ i. x.owner ≡ i.no → (z : PlacedSite) × In z i.placed.sites × (z.at ≡ x.point) × (z.mini ≡ x.at))
          (λ i h e. o.roomed i h x (old_room i h x hx b e) b e)
          (λ e. (placed_site x, room_site s.placer.count after.rooms x hx b e, refl, refl)) i hi;
      sites = each (λ i. is_leaving i.state ≡ false → i.placed.sites ≡ sites_of i.no after.rooms)
          (λ i h l. o.sites i h l ∙ sym (ap (sites_of i.no) p.rooms
          ∙ (sites_append i.no s.placer.book.rooms (new_rooms s.placer.count p.ks)
          ∙ (ap (λ l. sites_of i.no s.placer.book.rooms ++ l) (sites_other i.no s.placer.count p.ks (λ e. old_no i h (sym e))) ∙ append_nil (sites_of i.no s.placer.book.rooms)))))
          (λ l. refl);
      carried = each (Carried st plans) carried_old carried_new;
      slots = λ i j hi hj. each (λ i. (i.no ≡ j.no → ⊥) → ShareNone (places_of i.placed) (places_of j.placed))
          (λ i h. each (λ j. (i.no ≡ j.no → ⊥) → ShareNone (places_of i.placed) (places_of j.placed)) (λ j k n. o.slots i j h k n) (λ n q a b. shares i h q a b) j hj)
          (each (λ j. (new.no ≡ j.no → ⊥) → ShareNone (places_of new.placed) (places_of j.placed)) (λ j k n q a b. shares j k q b a) (λ n. absurd (n refl)) j hj) i hi;
    }
      where
        more : (xs : List Plan) → length (xs ++ plan ∷ []) ≡ length xs + 1
        more [] = refl
        more (x ∷ xs) = let e = more xs in omega (arith, e)

    not_new : new.state ≡ Armed → ⊥
    not_new e = absurd cc

    accepted : Whole first (admits plan (with_instrument plan slot (Ok after) s.placer) s).scene (es ++ [])
    accepted =
        let nil = append_nil es in
        record {
          kept = subst Kept p.state went.kept;
          neat = subst (λ (u : State). Neat u.book.rooms) p.state (neat_admits s.placer.count p.ks (at_of s) w.kept w.neat p.can);
          program = w.program;
          orderly = orderly;
          linked = each (λ i. i.state ≡ Armed → (z : PlacedSite) → In z i.placed.sites → LinkedSite s.core z.at z.mini) w.linked (λ e. absurd (not_new e));
          legal = subst (λ l. Legal l first) (sym nil) w.legal;
          core = subst (λ l. s.core ≡ replay l first) (sym nil) w.core;
          force = λ i h e. subst (λ l. InForce i.placed l first) (sym nil) (each (λ i. i.state ≡ Armed → InForce i.placed es first) w.force (λ e. absurd (not_new e)) i h e);
        }

  at_sites : (slot : ℕ) → FreeSlots (slots_taken s.placer) slot (slot_count plan.vars) → (r : Result Book Refused) → with_sites s.placer.program s.placer.count (slots_from slot plan.vars) plan.sites s.placer.book ≡ r
      → Whole first (admits plan (with_instrument plan slot r s.placer) s).scene (es ++ (admits plan (with_instrument plan slot r s.placer) s).events)
  at_sites slot free (Err r) e = refused r
  at_sites slot free (Ok after) e =
      accepted slot free after
      (placing.places s.placer.count (slots_from slot plan.vars) plan.sites (at_of s) after w.neat good
      (subst (λ t. with_sites t s.placer.count (slots_from slot plan.vars) plan.sites s.placer.book ≡ Ok after) w.program e))
    where
      good : AreGood (at_of s) (slots_from slot plan.vars) plan.sites
      good q h =
          ((statements_work (slots_from slot plan.vars) plan.vars q.stmts (slots_len slot plan.vars) (new_places (slots_taken s.placer) slot plan.vars free) (ok.stmts q h)).harmless, (ok.sites q h).0, (ok.sites q h).1)

  at_slots : (r : Option ℕ) → slots_for (slots_taken s.placer) (slot_count plan.vars) ≡ r → Whole first (admits plan (with_slots r plan s.placer) s).scene (es ++ (admits plan (with_slots r plan s.placer) s).events)
  at_slots None e = refused (NoSlot (slot_count plan.vars))
  at_slots (Some slot) e =
      at_sites slot (free_slots (slots_taken s.placer) (slot_count plan.vars) slot e) (with_sites s.placer.program s.placer.count (slots_from slot plan.vars) plan.sites s.placer.book) refl

  at_limit : (b : Bool) → Whole first (admits plan (cond b (Err TooMany) (with_slots (slots_for (slots_taken s.placer) (slot_count plan.vars)) plan s.placer)) s).scene
      (es ++ (admits plan (cond b (Err TooMany) (with_slots (slots_for (slots_taken s.placer) (slot_count plan.vars)) plan s.placer)) s).events)
  at_limit true = refused TooMany
  at_limit false = at_slots (slots_for (slots_taken s.placer) (slot_count plan.vars)) refl

  at_cost : (b : Bool) → Whole first (admits plan (cond b (Err (OverCost (predicted plan))) (cond (nat_le s.placer.limit (length s.placer.instruments)) (Err TooMany) (with_slots (slots_for (slots_taken s.placer) (slot_count plan.vars)) plan s.placer))) s).scene
      (es ++ (admits plan (cond b (Err (OverCost (predicted plan))) (cond (nat_le s.placer.limit (length s.placer.instruments)) (Err TooMany) (with_slots (slots_for (slots_taken s.placer) (slot_count plan.vars)) plan s.placer))) s).events)
  at_cost true = refused (OverCost (predicted plan))
  at_cost false = at_limit (nat_le s.placer.limit (length s.placer.instruments))

  pub admit_whole : (cost : Option ℕ) → Whole first (scenes.does (Admits plan cost) s).scene (es ++ (scenes.does (Admits plan cost) s).events)
  admit_whole cost = at_cost (is_over cost (predicted plan))
