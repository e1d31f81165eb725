-- A mini block's body is what it was built with, from its admission until its room is given back.
use Rattle.std.proofs.Common.{◌≡◌, ℕ, ◌<◌, List, [], ◌∷◌, ◌++◌, length, Option, Some, None, refl, sym, ap, ◌∙◌, subst, arith, ⊎_elim, inl, inr}
use Rattle.std.specs.Prelude.{map, find, false}
use Rattle.tramp_spec.specs.declared.block.Block.{Block}
use Rattle.tramp_spec.specs.declared.mark.MarkedWord.{MarkedWord}
use Rattle.machine.specs.Cores.{In, Row, Core}
use Rattle.machine.specs.Effects.{after_event}
use Rattle.machine.specs.Events.{Apart}
use Rattle.machine.specs.Instruments.{body_in, body_of_block}
use Rattle.instrument.specs.Books.{Blocks, is_base_of, is_mini_of, with_hold, placing, mini_leaves, removing}
use Rattle.instrument.specs.Handing.{event_of}
use Rattle.instrument.specs.declared.entry.Entry.{Entry}
use Rattle.instrument.specs.declared.entry.Entry.TheVariants.{WriteBase, WriteMini, LinkMini, LinkPoint, UnlinkMini, UnlinkPoint, Free}
use Rattle.instrument.specs.declared.room.Room.{Room}
use Rattle.instrument.proofs.Stages.{block_row, puts, pending}
use Rattle.instrument.proofs.Folds.{in_append, append_left, append_right, apart_across}
use Rattle.instrument.proofs.Booked.{Booked}
use Rattle.instrument.proofs.Bodies.{Stays, stays_entry, stays_mini}
use Rattle.instrument.proofs.Steps.{State, Out, Step, Happened, Admitted, Dropped, Handed, Swept, does, CanAdmit, Can}
use Rattle.instrument.proofs.Keeping.{Kept}
use Rattle.instrument.proofs.Going.{still, handed, swept}
use Rattle.instrument.proofs.Neats.{Neat}

-- a mini block at m has this body, where it stands and where it is to be written
pub record HoldsBody (m : ℕ) (body : List MarkedWord) (st : State) : Type 0 where
  pub written : (r : Row) → In r st.core.rows → r.base ≡ false → r.at ≡ m → body_in st.core.code r ≡ body
  pub waiting : (b : Block) → In (WriteMini b) st.book.agenda → b.at ≡ m → body_of_block b ≡ body

abbrev HoldsOut : ℕ → List MarkedWord → Out → Type 0
HoldsOut m body o = HoldsBody m body o.state

-- ---- an entry is done

module _ (m : ℕ) (body : List MarkedWord) (st : State) (h : HoldsBody m body st) (k : Kept st) where
  by_stays : (d : Core) → Stays st.core d → (r : Row) → In r d.rows → r.base ≡ false → r.at ≡ m → body_in d.code r ≡ body
  by_stays d f r i b e = let o = f r i b in o.4 ∙ h.written o.0 o.1 o.2 (o.3 ∙ e)

  written_by : (e : Entry) (es : List Entry) → Booked st.core.program st.core.rows k.fr st.book.rooms (e ∷ es) → ((z : Entry) → In z (e ∷ es) → In z st.book.agenda)
      → (r : Row) → In r (after_event st.core (event_of st.core e)).rows → r.base ≡ false → r.at ≡ m → body_in (after_event st.core (event_of st.core e)).code r ≡ body
  written_by e es b sub = by e b sub
    where
      away : (e : Entry) → Booked st.core.program st.core.rows k.fr st.book.rooms (e ∷ es) → (o y : Row) → In o st.core.rows → In y (puts e) → Apart o.at o.len y.at y.len
      away e b o y ho hy = apart_across st.core.rows (puts e ++ pending es) b.apart o y ho (append_left (puts e) (pending es) y hy)

      old : (e : Entry) → Booked st.core.program st.core.rows k.fr st.book.rooms (e ∷ es) → ((b : Block) → e ≡ WriteMini b → ⊥)
          → (r : Row) → In r (after_event st.core (event_of st.core e)).rows → r.base ≡ false → r.at ≡ m → body_in (after_event st.core (event_of st.core e)).code r ≡ body
      old e b n = by_stays (after_event st.core (event_of st.core e)) (stays_entry st.core k.reached k.fr k.tied e b.sound.0 b.sound.1 (away e b) n)

      by : (e : Entry) → Booked st.core.program st.core.rows k.fr st.book.rooms (e ∷ es) → ((z : Entry) → In z (e ∷ es) → In z st.book.agenda)
          → (r : Row) → In r (after_event st.core (event_of st.core e)).rows → r.base ≡ false → r.at ≡ m → body_in (after_event st.core (event_of st.core e)).code r ≡ body
      by (WriteMini d) b sub = λ r i n e. ⊎_elim
          (λ (q : (r.at ≡ d.at) × (body_in (after_event st.core (event_of st.core (WriteMini d))).code r ≡ body_of_block d)). q.1 ∙ h.waiting d (sub (WriteMini d) (inl refl)) (sym q.0 ∙ e))
          (λ (o : (o : Row) × In o st.core.rows × (o.base ≡ false) × (o.at ≡ r.at) × (body_in (after_event st.core (event_of st.core (WriteMini d))).code r ≡ body_in st.core.code o)). o.4 ∙ h.written o.0 o.1 o.2 (o.3 ∙ e))
          (stays_mini st.core k.reached k.fr k.tied d b.sound.0 (away (WriteMini d) b) r i n)
      by (WriteBase d) b sub = old (WriteBase d) b (λ x i. absurd cc)
      by (LinkMini p q) b sub = old (LinkMini p q) b (λ x i. absurd cc)
      by (LinkPoint p q) b sub = old (LinkPoint p q) b (λ x i. absurd cc)
      by (UnlinkMini p q) b sub = old (UnlinkMini p q) b (λ x i. absurd cc)
      by (UnlinkPoint p q) b sub = old (UnlinkPoint p q) b (λ x i. absurd cc)
      by (Free p) b sub = old (Free p) b (λ x i. absurd cc)

-- ---- steps

apart_ends : (x : Room) (at len : ℕ) → 0 < x.len → 0 < len → Apart x.at x.len at len → at ≡ x.at → ⊥
apart_ends x at len a b r e = ⊎_elim (λ l. omega arith) (λ l. omega arith) r

placing_mini : (o : Option Block) (m b : Block) → In (WriteMini b) (placing o m) → b ≡ m
placing_mini None m b (inl i) = cc
placing_mini None m b (inr (inl i)) = absurd cc
placing_mini None m b (inr (inr i)) = absurd i
placing_mini (Some d) m b (inl i) = absurd cc
placing_mini (Some d) m b (inr (inl i)) = cc
placing_mini (Some d) m b (inr (inr (inl i))) = absurd cc
placing_mini (Some d) m b (inr (inr (inr (inl i)))) = absurd cc
placing_mini (Some d) m b (inr (inr (inr (inr i)))) = absurd i

removing_none : (o b : Option Room) (p m : ℕ) (d : Block) → In (WriteMini d) (removing o b p m) → ⊥
removing_none (Some o) b p m d (inl i) = absurd cc
removing_none (Some o) b p m d (inr (inl i)) = absurd cc
removing_none (Some o) b p m d (inr (inr i)) = i
removing_none None None p m d (inl i) = absurd cc
removing_none None None p m d (inr (inl i)) = absurd cc
removing_none None None p m d (inr (inr i)) = i
removing_none None (Some b) p m d (inl i) = absurd cc
removing_none None (Some b) p m d (inr (inl i)) = absurd cc
removing_none None (Some b) p m d (inr (inr (inl i))) = absurd cc
removing_none None (Some b) p m d (inr (inr (inr i))) = i

no_mini : (b : Block) (p : ℕ) → WriteMini b ≡ Free p → ⊥
no_mini b p i = absurd cc

pub step_holds : (a : Step) (st : State) → Kept st → Neat st.book.rooms → Can a st → (m : ℕ) (body : List MarkedWord) (x : Room) → In x st.book.rooms → x.at ≡ m → HoldsBody m body st → HoldsBody m body (does a st).state
step_holds (Happened e) st k n c m body x hx em h =
    let f = still st.core e c.0 in
    record {
      written = subst (λ w. (r : Row) → In r (after_event st.core e).rows → r.base ≡ false → r.at ≡ m → body_in w r ≡ body) (sym f.code)
          (subst (λ w. (r : Row) → In r w → r.base ≡ false → r.at ≡ m → body_in st.core.code r ≡ body) (sym f.rows) h.written);
      waiting = h.waiting;
    }
step_holds (Admitted owner b) st k n c m body x hx em h =
    record {
      written = h.written;
      waiting = λ d i e. ⊎_elim (λ j. h.waiting d j e)
          (λ j. absurd (apart_ends x b.mini.at (length b.mini.words) (n.sized x hx).0 c.good.some (c.free x hx)
          (ap (λ (u : Block). u.at) (sym (placing_mini b.base b.mini d j)) ∙ (e ∙ sym em))))
          (in_append st.book.agenda (placing b.base b.mini) (WriteMini d) i);
    }
step_holds (Dropped y) st k n c m body x hx em h =
    record {
      written = h.written;
      waiting = λ d i e. ⊎_elim (λ j. h.waiting d j e) (λ j. absurd (removing_none (find (is_mini_of y.point) one) (find (is_base_of y.point) one) y.point y.at d j))
          (in_append st.book.agenda (removing (find (is_mini_of y.point) one) (find (is_base_of y.point) one) y.point y.at) (WriteMini d) i);
    }
  where
    one : List Room
    one = map (with_hold (mini_leaves y.at)) st.book.rooms
step_holds Handed st k n c m body x hx em h =
    handed (HoldsOut m body) st k h
    (λ p es w sub. record {
      written = h.written;
      waiting = λ d i e. ⊎_elim (λ j. h.waiting d (sub (WriteMini d) (inr j)) e) (λ j. ⊎_elim (λ z. absurd (no_mini d p z)) (λ z. absurd z) j) (in_append es (Free p ∷ []) (WriteMini d) i);
    })
    (λ w e es b f sub. record { written = written_by m body st h w e es b sub; waiting = λ d i z. h.waiting d (sub (WriteMini d) (inr i)) z })
step_holds Swept st k n c m body x hx em h =
    swept (HoldsOut m body) st k c h
    (λ w e es b f sub. record { written = written_by m body st h w e es b sub; waiting = λ d i z. h.waiting d (sub (WriteMini d) (inr i)) z })

-- ---- a block that is new

pending_mini : (es : List Entry) (b : Block) → In (WriteMini b) es → In (block_row b false) (pending es)
pending_mini [] b h = absurd h
pending_mini (e ∷ es) b (inl i) = subst (λ (u : Entry). In (block_row b false) (puts u ++ pending es)) i (inl refl)
pending_mini (e ∷ es) b (inr h) = append_right (puts e) (pending es) _ (pending_mini es b h)

-- the room of a mini block that is to be written
pub waiting_room : (st : State) (k : Kept st) (b : Block) → In (WriteMini b) st.book.agenda → (x : Room) × In x st.book.rooms × (x.at ≡ b.at) × (x.base ≡ false)
waiting_room st k b h = let q = (k.book).claims (block_row b false) (append_right st.core.rows (pending st.book.agenda) _ (pending_mini st.book.agenda b h)) in (q.0, q.1, (q.2).at, (q.2).base)

-- and of one that stands
pub row_room : (st : State) (k : Kept st) (r : Row) → In r st.core.rows → (x : Room) × In x st.book.rooms × (x.at ≡ r.at) × (x.base ≡ r.base)
row_room st k r h = let q = (k.book).claims r (append_left st.core.rows (pending st.book.agenda) r h) in (q.0, q.1, (q.2).at, (q.2).base)

pub new_holds : (owner : ℕ) (b : Blocks) (st : State) → Kept st → Neat st.book.rooms → CanAdmit b st → HoldsBody b.mini.at (body_of_block b.mini) (does (Admitted owner b) st).state
new_holds owner b st k n c = record {
  written = λ r h m e. let q = row_room st k r h in absurd (old q.0 q.1 (q.2 ∙ e));
  waiting = λ d i e. ⊎_elim
      (λ j. let q = waiting_room st k d j in absurd (old q.0 q.1 (q.2 ∙ e)))
      (λ j. ap body_of_block (placing_mini b.base b.mini d j))
      (in_append st.book.agenda (placing b.base b.mini) (WriteMini d) i);
}
  where
    old : (x : Room) → In x st.book.rooms → x.at ≡ b.mini.at → ⊥
    old x h e = apart_ends x b.mini.at (length b.mini.words) (n.sized x h).0 c.good.some (c.free x h) (sym e)
