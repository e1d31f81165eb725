-- What is kept of an instrument in force, through every event.
use Rattle.std.proofs.Common.{◌≡◌, ℕ, suc, ◌+◌, ◌-◌, ◌%◌, ◌^◌, ◌<◌, ◌≤◌, List, [], ◌∷◌, ◌++◌, take, length, Option, Some, None, refl, sym, ap, ◌∙◌, subst, arith, ⊎_elim, inl, inr}
use Rattle.std.specs.Prelude.{Bool, true, false, cond, if◌then◌else◌, IsTrue, slice_get, slice_set, slice_index, ◌⊎◌, ◌&&◌, ◌==◌}
use Rattle.std.proofs.lemmas.Bool.{true≢false, cases_eq, cond-true, cond-false, eq-eqb, ne_eqb, and_left}
use Rattle.std.proofs.lemmas.List.{get_or-set_other}
use Rattle.pn_types.specs.declared.placed.Placed.{Placed}
use Rattle.pn_types.specs.declared.placed.PlacedSite.{PlacedSite}
use Rattle.pn_types.specs.declared.plan.Plan.{Plan}
use Rattle.rv_word.specs.Plain.{Words, PlainHart, Plain, Alone, program_word, turn_of}
use Rattle.rv_word.specs.Plain as plain
use Rattle.rv_exec.specs.Run.{run_from}
use Rattle.rv_exec.proofs.Runs.{run_from-append}
use Rattle.tramp_spec.specs.Harts.{Hart, Solo, is_tick}
use Rattle.tramp_spec.specs.Marks.{tool}
use Rattle.tramp_spec.specs.Slots.{VariableSlot, places_of, IsSlotOf, set_place, set_places}
use Rattle.tramp_spec.specs.declared.block.Block.{Block}
use Rattle.tramp_spec.specs.declared.mark.MarkedWord.{MarkedWord}
use Rattle.frame_walk.specs.Openings.{opening}
use Rattle.frame_walk.specs.Walks.{walk_now}
use Rattle.prim_code.specs.Standing.{SameSlots}
use Rattle.machine.specs.Cores.{In, Row, Status, Live, Retired, Core, is_current}
use Rattle.machine.specs.Effects.{after_event, owned, armed_hart, at_set, retired_at, is_kept, with_block, mini_linked, point_linked, point_unlinked}
use Rattle.machine.specs.Events.{Event, Turn, Write, LinkMini, UnlinkMini, LinkPoint, UnlinkPoint, Free, Arm, Sample, May, MayWrite, MayLinkMini, MayLinkPoint, HasMini, IsQuiet, is_linked, current_base, StandsIn}
use Rattle.machine.specs.Kept.{Linkings, link_under}
use Rattle.machine.specs.Instruments.{Spares, Lets, AllLet, body_of_block}
use Rattle.machine.specs.Measures.{Level, level, level_after, passed_by}
use Rattle.machine.specs.Replays.{replay, Legal, owns}
use Rattle.machine.specs.Turns.{fetched, may_turn, turn_by, put_back, ticks_by, turn_alone}
use Rattle.machine.proofs.Adding.{Wrote, write}
use Rattle.machine.proofs.Arming.{arms, get_map}
use Rattle.machine.proofs.Blocks.{mini_len}
use Rattle.machine.proofs.Follow.{Kept, All, NoPiece, Nowhere, NoMore}
use Rattle.machine.proofs.Force.{Mine, Ready, BaseReads, MiniReads, Reads}
use Rattle.machine.proofs.ForceKeeping.{ready, reads}
use Rattle.machine.proofs.ForceTurns.{OwesBy, turn_reads}
use Rattle.machine.proofs.Freeing.{freed, kept_current, holds_base, holds_mini}
use Rattle.machine.proofs.Homes.{piece_of, one_block}
use Rattle.machine.proofs.Invariant.{Piece, InBase, InMini, Dynamic, Inv}
use Rattle.machine.proofs.Levels.{level-append}
use Rattle.machine.proofs.Lists.{get_set_same, get_set_other, length_slice_set, same_some}
use Rattle.machine.proofs.Minis.{link_mini}
use Rattle.machine.proofs.Points.{at_hit, at_miss, link_point, unlink_point}
use Rattle.machine.proofs.Steps.{fixed, puts, within, not_stopped}
use Rattle.machine.proofs.Told.{Stand, starts, same_told}
use Rattle.machine.proofs.Turns as erasing
use Rattle.machine.proofs.Unlink.{unlink_mini}

live_set : (m : ℕ) (r : Row) → r.status ≡ Live → at_set m Live r ≡ Live
live_set m r e = ⊎_elim (λ i. at_hit m Live r i) (λ i. at_miss m Live r i ∙ e) (cases_eq r.at m)

-- of another point nothing is retired
not_retired : (p : ℕ) (r : Row) → (r.point ≡ p → ⊥) → retired_at p r ≡ r.status
not_retired p r n = cond-false ((r.point == p) && is_linked r) Retired r.status (and_left (r.point == p) (is_linked r) (ne_eqb r.point p n))

-- ---- arming another instrument leaves the slots

set_other : (timer : Bool) (s v ticks q : ℕ) (bank : List ℕ) → (s ≤ q → q < s + (if timer then 2 else 1) → ⊥) → slice_index (set_place timer s v ticks bank) q ≡ slice_index bank q
set_other false s v ticks q bank n = get_or-set_other bank s q v 0 (λ e. n (omega arith) (omega arith))
set_other true s v ticks q bank n =
    get_or-set_other (slice_set bank (s + 1) v) s q (if v == 0 then 0 else (2 ^ 64 - ticks) % 2 ^ 64) 0 (λ e. n (omega arith) (omega arith))
    ∙ get_or-set_other bank (s + 1) q v 0 (λ e. n (omega arith) (omega arith))

pub set_leaves : (ps : List VariableSlot) (values : List ℕ) (ticks q : ℕ) (bank : List ℕ) → (IsSlotOf ps q → ⊥) → slice_index (set_places ps values ticks bank) q ≡ slice_index bank q
set_leaves [] values ticks q bank n = refl
set_leaves (p ∷ ps) [] ticks q bank n = refl
set_leaves (p ∷ ps) (v ∷ values) ticks q bank n =
    set_leaves ps values ticks q (set_place p.timer p.slot v ticks bank) (λ r. n (suc r.0, r.1, r.2, r.3, r.4))
    ∙ set_other p.timer p.slot v ticks q bank (λ lo up. n (0, p, refl, lo, up))

-- the body of a mini block that is written
body_is : (b : Block) (body : List MarkedWord) (w : MarkedWord) → b.words ≡ body ++ w ∷ [] → body_of_block b ≡ body
body_is b body w e = ap (λ (l : List MarkedWord). take (length l - 1) l) e ∙ front body
  where
    taken : (body : List MarkedWord) → take (length body) (body ++ w ∷ []) ≡ body
    taken [] = refl
    taken (u ∷ us) = ap (λ l. u ∷ l) (taken us)

    long : (body : List MarkedWord) → length (body ++ w ∷ []) - 1 ≡ length body
    long body = let e = mini_len body w in omega arith

    front : (body : List MarkedWord) → take (length (body ++ w ∷ []) - 1) (body ++ w ∷ []) ≡ body
    front body = ap (λ n. take n (body ++ w ∷ [])) (long body) ∙ taken body

module _ (i : Placed) (plan : Plan) (families ages : ℕ → ℕ) where
  -- what is kept, with what each hart's bank tells at its level
  pub record Known (c : Core) (s : Plain) (v : ℕ → Level) : Type 0 where
    pub inv : Inv c s
    pub ready : Ready i plan families ages inv.ps
    pub reads : (h : ℕ) (x : Hart) (y : PlainHart) → slice_get c.harts h ≡ Some x → slice_get s.harts h ≡ Some y → Reads i plan families ages c.program c.budget inv.ps x y (v h)

  -- at the same levels
  known_as : (c : Core) (s : Plain) (v w : ℕ → Level) → ((h : ℕ) → v h ≡ w h) → Known c s v → Known c s w
  known_as c s v w e k = record { inv = k.inv; ready = k.ready; reads = λ h x y ex ey. subst (Reads i plan families ages c.program c.budget (k.inv).ps x y) (e h) (k.reads h x y ex ey) }

  module _ (c : Core) (s : Plain) (v : ℕ → Level) (k : Known c s v) where
    -- ---- an event of the tool

    known : (keep fresh : Piece → Type 0) (f : Row → Status) (but : ℕ → Type 0) (more : Linkings → Linkings) (d : Core) → Kept keep fresh f but more (k.inv).clock (k.inv).ps c d s
        → ((z : PlacedSite) → In z i.sites → (m : Mine i plan families ages (k.inv).ps z) → keep m.x × keep m.b × (f (m.x).row ≡ Live) × (f (m.b).row ≡ Live))
        → ((y : Piece) → fresh y → y.row.base ≡ false → Spares i y.body)
        → ((h : ℕ) (x : Hart) (y : PlainHart) → slice_get c.harts h ≡ Some x → (q : InBase c.program c.budget (k.inv).ps x y) → keep q.b)
        → ((h : ℕ) (x : Hart) (y : PlainHart) → slice_get c.harts h ≡ Some x → (q : InMini c.budget (k.inv).ps x y) → keep q.m × keep q.b) → Known d s v
    known keep fresh f but more d e own new hb hm =
        record {
          inv = e.inv;
          ready = ready i plan families ages (k.inv).ps (e.inv).ps keep fresh f e.follows k.ready own (λ y z h b. new y z b);
          reads = λ h x y ex ey.
              let ex' : slice_get c.harts h ≡ Some x = ap (λ l. slice_get l h) (sym e.harts) ∙ ex in
              subst (λ t. Reads i plan families ages t d.budget (e.inv).ps x y (v h)) (sym e.program)
              (subst (λ b. Reads i plan families ages c.program b (e.inv).ps x y (v h)) (sym e.budget)
              (reads i plan families ages (k.inv).ps (e.inv).ps keep fresh f e.follows k.ready own (λ y z h b. new y z b) c.program c.budget x y (v h) (hb h x y ex') (hm h x y ex') (k.reads h x y ex' ey)));
        }

    -- one that keeps all blocks and adds none
    same_blocks : (f : Row → Status) (but : ℕ → Type 0) (more : Linkings → Linkings) (d : Core) → Kept All NoPiece f but more (k.inv).clock (k.inv).ps c d s
        → ((z : PlacedSite) → In z i.sites → (m : Mine i plan families ages (k.inv).ps z) → (f (m.x).row ≡ Live) × (f (m.b).row ≡ Live)) → Known d s v
    same_blocks f but more d e own = known All NoPiece f but more d e (λ z h m. let o = own z h m in (tt, tt, o.0, o.1)) (λ y n. absurd n) (λ h x y ex q. tt) (λ h x y ex q. (tt, tt))

    writes : (b : Block) → MayWrite c b → Lets i (Write b) → Known (with_block b c) s v
    writes b m l =
        let w = write c s k.inv b m in
        known All (λ y. y ≡ w.new) (λ r. r.status) Nowhere NoMore (with_block b c) w.kept (λ z h m. (tt, tt, m.live, m.entered))
        (λ y e z. subst (λ (u : Piece). Spares i u.body) (sym e) (spares w (sym (ap (λ (u : Piece). u.row.base) e) ∙ z) l))
        (λ h x y ex q. tt) (λ h x y ex q. (tt, tt))
      where
        spares : (w : Wrote c s k.inv b) → (w.new).row.base ≡ false → (b.base ≡ true) ⊎ Spares i (body_of_block b) → Spares i (w.new).body
        spares w z (inl e) = absurd (true≢false (sym e ∙ (sym w.base ∙ z)))
        spares w z (inr o) = let q = w.words (sym w.base ∙ z) in subst (Spares i) (body_is b (w.new).body (tool q.0) q.1) o

    frees : (p : ℕ) → ((r : Row) → In r c.rows → r.point ≡ p → StandsIn c r → ⊥) → Known (after_event c (Free p)) s v
    frees p m =
        known (λ x. is_kept p x.row ≡ true) NoPiece (λ r. r.status) Nowhere NoMore (after_event c (Free p)) (freed c s k.inv p m)
        (λ z h q. (kept_current c s k.inv p m q.x (ap is_current q.live), kept_current c s k.inv p m q.b (ap is_current q.entered), q.live, q.entered))
        (λ y n. absurd n) (λ h x y ex q. holds_base c s k.inv p m h x y ex q) (λ h x y ex q. holds_mini c s k.inv p m h x y ex q)

    links : (p m : ℕ) → MayLinkMini c p m → Known (after_event c (LinkMini p m)) s v
    links p m o =
        let q = o.mini in
        same_blocks (at_set m Live) Nowhere (link_under (current_base c.rows p) m) (after_event c (LinkMini p m))
        (subst (λ b. Kept All NoPiece (at_set m Live) Nowhere (link_under b m) (k.inv).clock (k.inv).ps c (mini_linked b m c) s) (sym o.current) (link_mini c s k.inv p m o.base q.row o.current q.listed q.mini q.point q.at q.is o.next))
        (λ z h n. (live_set m (n.x).row n.live, live_set m (n.b).row n.entered))

    unlinks : (p m : ℕ) → HasMini c p m Live → Lets i (UnlinkMini p m) → Known (after_event c (UnlinkMini p m)) s v
    unlinks p m o l =
        same_blocks (at_set m Retired) Nowhere NoMore (after_event c (UnlinkMini p m)) (unlink_mini c s k.inv m o.row o.listed o.mini o.at o.is)
        (λ z h n. (at_miss m Retired (n.x).row (λ e. l (z, h, sym n.at ∙ e)) ∙ n.live, at_miss m Retired (n.b).row (base_not n) ∙ n.entered))
      where
        -- a base block is no mini block
        base_not : {z : PlacedSite} (n : Mine i plan families ages (k.inv).ps z) → (n.b).row.at ≡ m → ⊥
        base_not n e =
            let i' = k.inv in
            let d = piece_of c.program c.code c.rows i'.ps i'.clock i'.static o.row o.listed in
            let same : n.b ≡ d.0 = one_block c.program c.code c.rows i'.ps i'.clock i'.static n.b d.0 (n.base).is_in d.1 (e ∙ (sym o.at ∙ ap (λ (u : Row). u.at) d.2)) in
            true≢false (sym ((n.base).base).base ∙ (ap (λ (u : Piece). u.row.base) same ∙ (sym (ap (λ (u : Row). u.base) d.2) ∙ o.mini)))

    links_point : (p : ℕ) → MayLinkPoint c p → Known (after_event c (LinkPoint p)) s v
    links_point p o =
        same_blocks (at_set (o.base).at Live) (λ a. a ≡ p) NoMore (after_event c (LinkPoint p))
        (subst (λ b. Kept All NoPiece (at_set (o.base).at Live) (λ a. a ≡ p) NoMore (k.inv).clock (k.inv).ps c (point_linked b p c) s) (sym o.current) (link_point c s k.inv p o.base o.word o.current o.program))
        (λ z h n. (live_set (o.base).at (n.x).row n.live, live_set (o.base).at (n.b).row n.entered))

    unlinks_point : (p : ℕ) (o : Option ℕ) → program_word c.program p ≡ o → Lets i (UnlinkPoint p) → Known (point_unlinked o p c) s v
    unlinks_point p None e l = k
    unlinks_point p (Some w) e l =
        same_blocks (retired_at p) (λ a. a ≡ p) NoMore (point_unlinked (Some w) p c) (unlink_point c s k.inv p w e)
        (λ z h n.
        let away : z.at ≡ p → ⊥ = λ q. l (z, h, q) in (
          not_retired p (n.x).row (λ q. away (sym n.point ∙ q)) ∙ n.live,
          not_retired p (n.b).row (λ q. away (sym ((n.base).point ∙ n.point) ∙ q)) ∙ n.entered,
        ))

    -- ---- quiet moments

    pub quiet_reads : (h : ℕ) (x : Hart) (y : PlainHart) → slice_get c.harts h ≡ Some x → slice_get s.harts h ≡ Some y → x.inside ≡ false → Stand i c.budget (v h) x.bank x.ticks
    quiet_reads h x y ex ey q = ⊎_elim
        (λ (o : (x.inside ≡ false) × Stand i c.budget (v h) x.bank x.ticks). o.1)
        (λ (o : BaseReads i plan families ages c.program c.budget (k.inv).ps x y (v h) ⊎ MiniReads i plan families ages c.budget (k.inv).ps x y (v h)).
        absurd (⊎_elim (λ (r : BaseReads i plan families ages c.program c.budget (k.inv).ps x y (v h)). true≢false (sym (r.k).inside ∙ q)) (λ (r : MiniReads i plan families ages c.budget (k.inv).ps x y (v h)). true≢false (sym (r.k).inside ∙ q)) o))
        (k.reads h x y ex ey)

    other_arms : (j : Placed) → IsQuiet c → Lets i (Arm j) → Known (after_event c (Arm j)) s v
    unfolding arms
    other_arms j quiet apart =
        record {
          inv = arms c s j quiet k.inv;
          ready = k.ready;
          reads = λ h x y ex ey.
              let o = get_map (armed_hart c j) c.harts h x ex in
              let z = o.0 in
              let values = opening j.opens (walk_now c.prog z) j.vars in
              let stand = quiet_reads h z y o.1 ey (quiet h z o.1) in
              let same : SameSlots (places_of i) z.bank (set_places (places_of j) values z.ticks z.bank) = λ q sq. set_leaves (places_of j) values z.ticks q z.bank (λ r. apart q sq r) in
              subst (λ (u : Hart). Reads i plan families ages c.program c.budget (k.inv).ps u y (v h)) (sym o.2)
              (inl (quiet h z o.1, same_told (places_of i) (length i.vars) (starts (c.budget - z.ticks)) (v h) z.bank (set_places (places_of j) values z.ticks z.bank) z.ticks same stand));
        }

    -- ---- a turn

    -- a hart's level after a turn
    level_other : (h j : ℕ) → (j ≡ h → ⊥) → level c.program plan j (h ∷ []) s (v j) ≡ v j
    level_other h j n = cond-false (h == j) (passed_by (slice_get s.harts j) plan (v j)) (v j) (ne_eqb h j (λ e. n (sym e)))

    level_own : (h : ℕ) (y : PlainHart) → slice_get s.harts h ≡ Some y → level c.program plan h (h ∷ []) s (v h) ≡ level_after plan y (v h)
    level_own h y e = cond-true (h == h) (passed_by (slice_get s.harts h) plan (v h)) (v h) (eq-eqb h h refl) ∙ ap (λ o. passed_by o plan (v h)) e

    -- the hart of the turn, and the others
    reads_put : (h : ℕ) (x : Hart) (y y' : PlainHart) (z : Solo) (s' : Plain) (w : ℕ → Level) → slice_get c.harts h ≡ Some x → slice_get s'.harts h ≡ Some y' → ((j : ℕ) → (j ≡ h → ⊥) → slice_get s'.harts j ≡ slice_get s.harts j)
        → ((j : ℕ) → (j ≡ h → ⊥) → w j ≡ v j) → Reads i plan families ages c.program c.budget (k.inv).ps z.hart y' (w h)
        → (j : ℕ) (a : Hart) (b : PlainHart) → slice_get (slice_set c.harts h z.hart) j ≡ Some a → slice_get s'.harts j ≡ Some b → Reads i plan families ages c.program c.budget (k.inv).ps a b (w j)
    reads_put h x y y' z s' w ex ey others levels r j a b ea eb = ⊎_elim
        (λ (same : j ≡ h).
        let mine : slice_get (slice_set c.harts h z.hart) h ≡ Some z.hart = get_set_same c.harts h x z.hart ex in
        let a' : a ≡ z.hart = same_some (slice_get (slice_set c.harts h z.hart) h) a z.hart (ap (slice_get (slice_set c.harts h z.hart)) (sym same) ∙ ea) mine in
        let b' : b ≡ y' = same_some (slice_get s'.harts h) b y' (ap (slice_get s'.harts) (sym same) ∙ eb) ey in
        subst (λ n. Reads i plan families ages c.program c.budget (k.inv).ps a b (w n)) (sym same)
        (subst (λ (u : Hart). Reads i plan families ages c.program c.budget (k.inv).ps u b (w h)) (sym a') (subst (λ (u : PlainHart). Reads i plan families ages c.program c.budget (k.inv).ps z.hart u (w h)) (sym b') r)))
        (λ (away : j ≡ h → ⊥).
        subst (Reads i plan families ages c.program c.budget (k.inv).ps a b) (sym (levels j away))
        (k.reads j a b (sym (get_set_other c.harts h j z.hart away) ∙ ea) (sym (others j away) ∙ eb)))
        (cases_eq j h)

    module _ (cap : c.budget < 2 ^ 64) (h : ℕ) (x : Hart) (y : PlainHart) (ex : slice_get c.harts h ≡ Some x) (ey : slice_get s.harts h ≡ Some y) where
      behind : (b : Bool) (z : Solo) (bound : Option ℕ) → erasing.OwesBy b c.program c.budget (k.inv).ps (k.inv).clock bound h z y c.prog
          → OwesBy i plan families ages c.program c.budget (k.inv).ps h y c.prog (v h) b z
          → Known (put_back c h z) (run_from c.program (cond b (h ∷ []) []) s) (λ j. level c.program plan j (cond b (h ∷ []) []) s (v j))
      unfolding puts
      behind true z bound o r =
          let a : Alone = plain.turn_alone c.program h (record { hart = y; prog = s.prog }) in
          let i' = k.inv in
          let d : Dynamic c.program c.budget i'.ps z.hart a.hart = subst (λ q. Dynamic c.program c.budget i'.ps z.hart (plain.turn_alone c.program h (record { hart = y; prog = q })).hart) i'.prog (o.1).0 in
          let p : z.prog ≡ a.prog = o.2 ∙ ap (λ q. (plain.turn_alone c.program h (record { hart = y; prog = q })).prog) i'.prog in
          let t : Reads i plan families ages c.program c.budget i'.ps z.hart a.hart (level_after plan y (v h)) = subst (λ q. Reads i plan families ages c.program c.budget i'.ps z.hart (plain.turn_alone c.program h (record { hart = y; prog = q })).hart (level_after plan y (v h))) i'.prog r in
          let is : Known (put_back c h z) (plain.put_back s h a) (λ j. level c.program plan j (h ∷ []) s (v j)) =
          record {
            inv = puts c s (plain.put_back s h a) h x a.hart z i' ex (get_set_same s.harts h y a.hart ey) (λ j n. get_set_other s.harts h j a.hart n) (length_slice_set s.harts h a.hart) d p;
            ready = k.ready;
            reads = reads_put h x y a.hart z (plain.put_back s h a) (λ j. level c.program plan j (h ∷ []) s (v j)) ex (get_set_same s.harts h y a.hart ey) (λ j n. get_set_other s.harts h j a.hart n) (level_other h)
                (subst (Reads i plan families ages c.program c.budget i'.ps z.hart a.hart) (sym (level_own h y ey)) t);
          } in
          subst (λ q. Known (put_back c h z) (turn_of q c.program h s) (λ j. level c.program plan j (h ∷ []) s (v j))) (sym ey) is
      behind false z bound o r =
          record {
            inv = puts c s s h x y z k.inv ex ey (λ j n. refl) refl (o.0).0 (o.1 ∙ (k.inv).prog);
            ready = k.ready;
            reads = reads_put h x y y z s v ex ey (λ j n. refl) (λ j n. refl) r;
          }

    turns_of : (cap : c.budget < 2 ^ 64) (h : ℕ) (o : Option Hart) → slice_get c.harts h ≡ o → IsTrue (may_turn o c.budget)
        → Known (turn_by o c h) (run_from c.program (cond (ticks_by o c) (h ∷ []) []) s) (λ j. level c.program plan j (cond (ticks_by o c) (h ∷ []) []) s (v j))
    turns_of cap h None e m = absurd cc
    turns_of cap h (Some x) e m =
        let i' = k.inv in
        let q = within c.harts s.harts h x i'.many e in
        let n = not_stopped x c.budget m in
        let d = i'.harts h x q.0 e q.1 in
        let o = erasing.turn_keeps c.program i'.ground c.budget c.code c.rows i'.ps i'.clock i'.static h x q.0 c.prog d n.0 n.1 in
        let r = turn_reads i plan families ages c.program i'.ground c.budget cap c.code c.rows i'.ps i'.clock i'.static k.ready h x q.0 c.prog d n.0 (v h) n.1 (k.reads h x q.0 e q.1) in
        behind cap h x q.0 e q.1 (is_tick (fetched c.program c.code x)) (turn_alone c h x) _ o r

  -- one event
  step : (c : Core) (s : Plain) (v : ℕ → Level) (e : Event) → c.budget < 2 ^ 64 → Known c s v → May c e → Lets i e
      → Known (after_event c e) (run_from c.program (owned c e) s) (λ j. level c.program plan j (owned c e) s (v j))
  step c s v (Turn h) cap k m l = turns_of c s v k cap h (slice_get c.harts h) refl m
  step c s v (Write b) cap k m l = writes c s v k b m l
  step c s v (LinkMini p m) cap k o l = links c s v k p m o
  step c s v (UnlinkMini p m) cap k o l = unlinks c s v k p m o l
  step c s v (LinkPoint p) cap k o l = links_point c s v k p o
  step c s v (UnlinkPoint p) cap k o l = unlinks_point c s v k p (program_word c.program p) refl l
  step c s v (Free p) cap k m l = frees c s v k p m
  step c s v (Arm j) cap k m l = other_arms c s v k j m.quiet l
  step c s v (Sample j) cap k m l = k

  -- all events
  pub all_since : (es : List Event) (t : Words) (c : Core) (s : Plain) (v : ℕ → Level) → c.program ≡ t → c.budget < 2 ^ 64 → Known c s v → Legal es c → AllLet i es
      → Known (replay es c) (run_from t (owns es c) s) (λ j. level t plan j (owns es c) s (v j))
  all_since [] t c s v et cap k l q = k
  all_since (e ∷ es) t c s v et cap k l q =
      let f = fixed c e in
      let a : Known (after_event c e) (run_from t (owned c e) s) (λ j. level t plan j (owned c e) s (v j)) = subst (λ u. Known (after_event c e) (run_from u (owned c e) s) (λ j. level u plan j (owned c e) s (v j))) et (step c s v e cap k l.0 q.0) in
      let r = all_since es t (after_event c e) (run_from t (owned c e) s) (λ j. level t plan j (owned c e) s (v j)) (f.0 ∙ et) (subst (λ b. b < 2 ^ 64) (sym f.1) cap) a l.1 q.1 in
      subst (λ u. Known (replay es (after_event c e)) u (λ j. level t plan j (owned c e ++ owns es (after_event c e)) s (v j))) (sym (run_from-append t (owned c e) (owns es (after_event c e)) s))
      (known_as (replay es (after_event c e)) (run_from t (owns es (after_event c e)) (run_from t (owned c e) s)) (λ j. level t plan j (owns es (after_event c e)) (run_from t (owned c e) s) (level t plan j (owned c e) s (v j))) (λ j. level t plan j (owned c e ++ owns es (after_event c e)) s (v j))
      (λ j. sym (level-append t plan j (owned c e) (owns es (after_event c e)) s (v j))) r)
