-- One event, and all of them.
use Rattle.std.proofs.Common.{◌≡◌, ℕ, zero, suc, ◌<◌, List, [], ◌∷◌, length, Option, Some, None, refl, sym, ap, ◌∙◌, subst, arith, ⊎_elim, inl, inr}
use Rattle.std.specs.Prelude.{Bool, true, false, cond, is_none, IsTrue, slice_get, slice_set, ◌⊎◌, ◌||◌, nat_lt}
use Rattle.std.proofs.lemmas.Bool.{cases_Bool, cases_eq, and_parts, ltb-true}
use Rattle.std.proofs.lemmas.Grind.{common_steps}
use Rattle.rv_word.specs.Plain.{Words, PlainHart, Plain, Alone, plain, turn_of, may_go, can}
use Rattle.rv_word.specs.Plain as plain
use Rattle.rv_word.specs.declared.outcome.Cause.{Cause}
use Rattle.rv_exec.specs.Run.{run_from, LegalFrom}
use Rattle.rv_exec.proofs.Runs.{run_from-append, LegalFrom-append}
use Rattle.tramp_spec.specs.Harts.{Hart, Solo, is_tick}
use Rattle.machine.specs.Cores.{Core, Row, Status}
use Rattle.machine.specs.Turns.{fetched, may_turn, turn_by, put_back, ticks_by, turn_alone}
use Rattle.machine.specs.Events.{Event, Turn, Write, LinkMini, UnlinkMini, LinkPoint, UnlinkPoint, Free, Arm, Sample, May}
use Rattle.machine.specs.Effects.{after_event, owned, with_block, mini_linked, point_linked, point_unlinked}
use Rattle.machine.specs.Kept.{Linkings, link_under, linkings_after, linkings}
use Rattle.machine.specs.Replays.{replay, Legal, owns}
pub use Rattle.machine.proofs.Effects.{Fixed, fixed}
use Rattle.machine.proofs.Lists.{get_set_same, get_set_other, length_slice_set, same_some}
use Rattle.machine.proofs.Follow.{Kept, Numbers}
use Rattle.machine.proofs.Invariant.{Piece, Dynamic, Inv}
use Rattle.machine.proofs.Numbering.{told_linkings, told_numbers}
use Rattle.machine.proofs.Turns.{OwesBy, turn_keeps}
use Rattle.machine.proofs.Points.{link_point, unlink_point}
use Rattle.machine.proofs.Minis.{link_mini}
use Rattle.machine.proofs.Unlink.{unlink_mini}
use Rattle.machine.proofs.Adding.{write}
use Rattle.machine.proofs.Freeing.{freed}
use Rattle.machine.proofs.Arming.{arms}

-- ---- a turn, among all harts

-- one hart and what all share change on both sides
unfoldable pub puts : (c : Core) (s s' : Plain) (h : ℕ) (x : Hart) (y' : PlainHart) (z : Solo) (v : Inv c s) → slice_get c.harts h ≡ Some x → slice_get s'.harts h ≡ Some y' → ((j : ℕ) → (j ≡ h → ⊥) → slice_get s'.harts j ≡ slice_get s.harts j) → length s'.harts ≡ length s.harts
    → Dynamic c.program c.budget v.ps z.hart y' → z.prog ≡ s'.prog → Inv (put_back c h z) s'
puts c s s' h x y' z v ex ey others len d p =
    record {
      ground = v.ground;
      ps = v.ps;
      clock = v.clock;
      some = v.some;
      static = v.static;
      prog = p;
      many = length_slice_set c.harts h z.hart ∙ (v.many ∙ sym len);
      harts = λ j u w eu ew. ⊎_elim
          (λ (same : j ≡ h).
          let mine : slice_get (slice_set c.harts h z.hart) h ≡ Some z.hart = get_set_same c.harts h x z.hart ex in
          let u' : u ≡ z.hart = same_some (slice_get (slice_set c.harts h z.hart) h) u z.hart (ap (slice_get (slice_set c.harts h z.hart)) (sym same) ∙ eu) mine in
          let w' : w ≡ y' = same_some (slice_get s'.harts h) w y' (ap (slice_get s'.harts) (sym same) ∙ ew) ey in
          subst (λ (a : Hart). Dynamic c.program c.budget v.ps a w) (sym u') (subst (λ (b : PlainHart). Dynamic c.program c.budget v.ps z.hart b) (sym w') d))
          (λ (away : j ≡ h → ⊥). v.harts j u w (sym (get_set_other c.harts h j z.hart away) ∙ eu) (sym (others j away) ∙ ew))
          (cases_eq j h);
    }

pub within : {A B : Type 0} (xs : List A) (ys : List B) (h : ℕ) (x : A) → length xs ≡ length ys → slice_get xs h ≡ Some x → (y : B) × (slice_get ys h ≡ Some y)
within [] ys h x l e = absurd cc
within (a ∷ xs) [] h x l e = absurd (omega arith)
within (a ∷ xs) (b ∷ ys) zero x l e = (b, refl)
within (a ∷ xs) (b ∷ ys) (suc h) x l e = within xs ys h x (let m : length xs ≡ length ys = omega arith in m) e

-- what is kept, with the linkings so far
pub record Counted (l : Linkings) (c : Core) (s : Plain) : Type 0 where
  pub inv : Inv c s
  pub numbers : Numbers l inv.ps inv.clock

-- what an event owes
abbrev pub Does : Core → Plain → Event → Type 0
Does c s e = LegalFrom c.program c.budget (owned c e) s × Inv (after_event c e) (run_from c.program (owned c e) s)

abbrev DoesCounted : Linkings → Core → Plain → Event → Type 0
DoesCounted l c s e = LegalFrom c.program c.budget (owned c e) s × Counted (linkings_after c e l) (after_event c e) (run_from c.program (owned c e) s)

turn_by_tick : (l : Linkings) (c : Core) (s : Plain) (h : ℕ) (x : Hart) (y : PlainHart) (b : Bool) (z : Solo) (v : Inv c s) → Numbers l v.ps v.clock → (bound : Option ℕ) → slice_get c.harts h ≡ Some x → slice_get s.harts h ≡ Some y → OwesBy b c.program c.budget v.ps v.clock bound h z y c.prog
    → LegalFrom c.program c.budget (cond b (h ∷ []) []) s × Counted l (put_back c h z) (run_from c.program (cond b (h ∷ []) []) s)
unfolding puts
turn_by_tick l c s h x y true z v k bound ex ey o =
    let may : IsTrue (can c.budget s h) = subst (λ q. IsTrue (may_go q c.budget)) (sym ey) o.0 in
    let a : Alone = plain.turn_alone c.program h (record { hart = y; prog = s.prog }) in
    let d : Dynamic c.program c.budget v.ps z.hart a.hart = subst (λ q. Dynamic c.program c.budget v.ps z.hart (plain.turn_alone c.program h (record { hart = y; prog = q })).hart) v.prog (o.1).0 in
    let p : z.prog ≡ a.prog = o.2 ∙ ap (λ q. (plain.turn_alone c.program h (record { hart = y; prog = q })).prog) v.prog in
    let i = puts c s (plain.put_back s h a) h x a.hart z v ex (get_set_same s.harts h y a.hart ey) (λ j n. get_set_other s.harts h j a.hart n) (length_slice_set s.harts h a.hart) d p in
    ((may, tt), subst (λ q. Counted l (put_back c h z) (turn_of q c.program h s)) (sym ey) (record { inv = i; numbers = k }))
turn_by_tick l c s h x y false z v k bound ex ey o =
    (tt, record { inv = puts c s s h x y z v ex ey (λ j n. refl) refl (o.0).0 (o.1 ∙ v.prog); numbers = k })

pub not_stopped : (x : Hart) (budget : ℕ) → IsTrue (may_turn (Some x) budget) → (x.stop ≡ None) × ((x.inside ≡ true) ⊎ (x.ticks < budget))
not_stopped x budget m =
    let p = and_parts (is_none x.stop) (x.inside || nat_lt x.ticks budget) m in
    (none_of x.stop p.0, ⊎_elim (λ e. inl e) (λ e. inr (ltb-true x.ticks budget (grind (arith, common_steps, e, p.1)))) (cases_Bool x.inside))
  where
    none_of : (o : Option Cause) → is_none o ≡ true → o ≡ None
    none_of None e = refl
    none_of (Some cause) e = absurd cc

turns : (l : Linkings) (c : Core) (s : Plain) (h : ℕ) (v : Inv c s) → Numbers l v.ps v.clock → (o : Option Hart) → slice_get c.harts h ≡ o → IsTrue (may_turn o c.budget)
    → LegalFrom c.program c.budget (cond (ticks_by o c) (h ∷ []) []) s × Counted l (turn_by o c h) (run_from c.program (cond (ticks_by o c) (h ∷ []) []) s)
turns l c s h v n None e m = absurd cc
turns l c s h v n (Some x) e m =
    let q = within c.harts s.harts h x v.many e in
    let k = not_stopped x c.budget m in
    let d = v.harts h x q.0 e q.1 in
    let o = turn_keeps c.program v.ground c.budget c.code c.rows v.ps v.clock v.static h x q.0 c.prog d k.0 k.1 in
    turn_by_tick l c s h x q.0 (is_tick (fetched c.program c.code x)) (turn_alone c h x) v n _ e q.1 o

counted : {more : Linkings → Linkings} {keep fresh : Piece → Type 0} {f : Row → Status} {but : ℕ → Type 0} (l : Linkings) (c d : Core) (s : Plain) (v : Inv c s) → Numbers l v.ps v.clock → Kept keep fresh f but more v.clock v.ps c d s → Counted (more l) d s
counted l c d s v n k = record { inv = k.inv; numbers = k.numbers l n }

-- one event, and the linkings after it
counted_step : (l : Linkings) (c : Core) (s : Plain) (e : Event) (v : Inv c s) → Numbers l v.ps v.clock → May c e → DoesCounted l c s e
unfolding arms
counted_step l c s (Turn h) v n m = turns l c s h v n (slice_get c.harts h) refl m
counted_step l c s (Write b) v n m = (tt, counted l c (with_block b c) s v n (write c s v b m).kept)
counted_step l c s (LinkMini p m) v n k =
    let q = k.mini in
    (tt, subst (λ o. Counted (link_under o m l) (mini_linked o m c) s) (sym k.current) (counted l c (mini_linked (Some k.base) m c) s v n (link_mini c s v p m k.base q.row k.current q.listed q.mini q.point q.at q.is k.next)))
counted_step l c s (UnlinkMini p m) v n k = (tt, counted l c (after_event c (UnlinkMini p m)) s v n (unlink_mini c s v m k.row k.listed k.mini k.at k.is))
counted_step l c s (LinkPoint p) v n k = (tt, subst (λ o. Counted l (point_linked o p c) s) (sym k.current) (counted l c (point_linked (Some k.base) p c) s v n (link_point c s v p k.base k.word k.current k.program)))
counted_step l c s (UnlinkPoint p) v n k = (tt, unlinks_point l c s v n p (plain.program_word c.program p) refl)
  where
    unlinks_point : (l : Linkings) (c : Core) (s : Plain) (v : Inv c s) → Numbers l v.ps v.clock → (p : ℕ) (o : Option ℕ) → plain.program_word c.program p ≡ o → Counted l (point_unlinked o p c) s
    unlinks_point l c s v n p None e = record { inv = v; numbers = n }
    unlinks_point l c s v n p (Some w) e = counted l c (point_unlinked (Some w) p c) s v n (unlink_point c s v p w e)
counted_step l c s (Free p) v n m = (tt, counted l c (after_event c (Free p)) s v n (freed c s v p m))
counted_step l c s (Arm i) v n m = (tt, record { inv = arms c s i m.quiet v; numbers = n })
counted_step l c s (Sample i) v n m = (tt, record { inv = v; numbers = n })

-- one event
pub step : (c : Core) (s : Plain) (e : Event) → Inv c s → May c e → Does c s e
step c s e v m = let a = counted_step (told_linkings v.ps v.clock) c s e v (told_numbers c s v) m in (a.0, (a.1).inv)

-- all events, and the linkings after them
pub counted_events : (l : Linkings) (es : List Event) (t : Words) (budget : ℕ) (c : Core) (s : Plain) → c.program ≡ t → c.budget ≡ budget → Counted l c s → Legal es c → LegalFrom t budget (owns es c) s × Counted (linkings es c l) (replay es c) (run_from t (owns es c) s)
counted_events l [] t budget c s et eb v k = (tt, v)
counted_events l (e ∷ es) t budget c s et eb v k =
    let a = counted_step l c s e v.inv v.numbers k.0 in
    let f = fixed c e in
    let a0 : LegalFrom t budget (owned c e) s = subst (λ q. LegalFrom q budget (owned c e) s) et (subst (λ b. LegalFrom c.program b (owned c e) s) eb a.0) in
    let a1 : Counted (linkings_after c e l) (after_event c e) (run_from t (owned c e) s) = subst (λ q. Counted (linkings_after c e l) (after_event c e) (run_from q (owned c e) s)) et a.1 in
    let r = counted_events (linkings_after c e l) es t budget (after_event c e) (run_from t (owned c e) s) (f.0 ∙ et) (f.1 ∙ eb) a1 k.1 in (
      LegalFrom-append t budget (owned c e) (owns es (after_event c e)) s a0 r.0,
      subst (Counted (linkings es (after_event c e) (linkings_after c e l)) (replay es (after_event c e))) (sym (run_from-append t (owned c e) (owns es (after_event c e)) s)) r.1,
    )

-- all events
pub all_events : (es : List Event) (t : Words) (budget : ℕ) (c : Core) (s : Plain) → c.program ≡ t → c.budget ≡ budget → Inv c s → Legal es c → LegalFrom t budget (owns es c) s × Inv (replay es c) (run_from t (owns es c) s)
all_events es t budget c s et eb v k =
    let a = counted_events (told_linkings v.ps v.clock) es t budget c s et eb (record { inv = v; numbers = told_numbers c s v }) k in (a.0, (a.1).inv)
