-- Settling: every hart is outside after it.
use Rattle.std.proofs.Common.{◌≡◌, ℕ, zero, suc, ◌+◌, ◌<◌, ◌≤◌, ◌-◌, ◌*◌, List, [], ◌∷◌, ◌++◌, length, Option, Some, None, refl, sym, ap, ◌∙◌, ap₂, subst, arith, ⊎_elim, inl, inr}
use Rattle.std.specs.Prelude.{Bool, true, false, cond, not, is_none, IsTrue, slice_get, ◌⊎◌, ◌||◌, ◌==◌}
use Rattle.std.proofs.lemmas.Bool.{true≢false, cases_eq, cond-true, cond-false}
use Rattle.std.proofs.lemmas.List.{length-append}
use Rattle.std.proofs.lemmas.Grind.{common_steps}
use Rattle.std.proofs.lemmas.Option.{slice_get_within}
use Rattle.pn_types.specs.declared.limits.TheConstants.{TOOL_TEXT_LEN}
use Rattle.rv_word.specs.declared.outcome.Cause.{Cause}
use Rattle.tramp_spec.specs.Harts.{Hart}
use Rattle.machine.specs.Cores.{Row, Core}
use Rattle.machine.specs.Effects.{after_event}
use Rattle.machine.specs.Events.{Event, Turn, IsQuiet}
use Rattle.machine.specs.Leaving.{words_at, is_out, is_out_now, OutWithin, OutSoon}
use Rattle.machine.specs.Reached.{IsReached}
use Rattle.machine.specs.Replays.{replay, owns, Legal}
use Rattle.machine.specs.States.{Machine, with_core, words_in, leaving, settling_from, settling}
use Rattle.machine.specs.Turns.{turn, ticks_next, turn_by, may_turn, is_runnable}
use Rattle.machine.proofs.Leaving.{leaves_soon}
use Rattle.machine.proofs.Lists.{get_set_other, length_slice_set}
use Rattle.machine.proofs.Reaching.{good, reaches_more}
use Rattle.machine.proofs.Replaying.{replay-append, owns-append, legal-append}
use Rattle.machine.proofs.Steps.{within}

-- many events more
pub reaches_all : (es : List Event) (c : Core) → IsReached c → Legal es c → IsReached (replay es c)
reaches_all [] c r l = r
reaches_all (e ∷ es) c r l = reaches_all es (after_event c e) (reaches_more c e r l.0) l.1

-- ---- one hart

-- a hart that isn't out can take a turn
runs_by : (o : Option Hart) (budget : ℕ) → is_out_now o ≡ false → IsTrue (may_turn o budget)
runs_by None budget e = absurd cc
runs_by (Some x) budget e = grind (arith, common_steps)

pub not_out_runs : (c : Core) (h : ℕ) → is_out c h ≡ false → IsTrue (is_runnable c h)
not_out_runs c h e = runs_by (slice_get c.harts h) c.budget e

-- what no turn of hart h changes
pub record Same (h : ℕ) (c d : Core) : Type 0 where
  pub rows : d.rows ≡ c.rows
  pub len : length d.harts ≡ length c.harts
  pub others : (j : ℕ) → (j ≡ h → ⊥) → slice_get d.harts j ≡ slice_get c.harts j

turn_same : (o : Option Hart) (c : Core) (h : ℕ) → Same h c (turn_by o c h)
turn_same None c h = record { rows = refl; len = refl; others = λ j n. refl }
turn_same (Some x) c h = record { rows = refl; len = length_slice_set c.harts h _; others = λ j n. get_set_other c.harts h j _ n }

both_same : (h : ℕ) (c d e : Core) → Same h c d → Same h d e → Same h c e
both_same h c d e k l = record { rows = l.rows ∙ k.rows; len = l.len ∙ k.len; others = λ j n. l.others j n ∙ k.others j n }

-- these events are the turns of a hart until it is out
pub record LeftBy (n h : ℕ) (c : Core) (es : List Event) : Type 0 where
  pub legal : Legal es c
  pub same : Same h c (replay es c)
  pub out : OutWithin n c h → is_out (replay es c) h ≡ true

pub left : (n h : ℕ) (c : Core) → LeftBy n h c (leaving n h c)
left zero h c = record { legal = tt; same = record { rows = refl; len = refl; others = λ j m. refl }; out = λ o. o }
left (suc n) h c = choose (is_out c h) refl (left n h (turn c h))
  where
    choose : (b : Bool) → is_out c h ≡ b → LeftBy n h (turn c h) (leaving n h (turn c h)) → LeftBy (suc n) h c (cond b [] (Turn h ∷ leaving n h (turn c h)))
    choose true e k = record { legal = tt; same = record { rows = refl; len = refl; others = λ j m. refl }; out = λ o. e }
    choose false e k =
        record {
          legal = (not_out_runs c h e, k.legal);
          same = both_same h c (turn c h) (replay (leaving n h (turn c h)) (turn c h)) (turn_same (slice_get c.harts h) c h) k.same;
          out = λ o. ⊎_elim (λ out. absurd (true≢false (sym out ∙ e))) (λ goes. k.out goes.1) o;
        }

-- ---- a hart is out within the words of all blocks

out_now : (most : ℕ) (c : Core) (h : ℕ) → is_out c h ≡ true → OutWithin most c h
out_now zero c h e = e
out_now (suc most) c h e = inl e

widen : (m n : ℕ) (c : Core) (h : ℕ) → m ≤ n → OutWithin m c h → OutWithin n c h
widen zero n c h l o = out_now n c h o
widen (suc m) zero c h l o = absurd (omega arith)
widen (suc m) (suc n) c h l (inl e) = inl e
widen (suc m) (suc n) c h l (inr o) = inr (o.0, widen m n (turn c h) h (omega arith) o.1)

fewer : (p : ℕ) (rows : List Row) → words_at p rows ≤ words_in rows
fewer p [] = omega arith
fewer p (r ∷ rs) = let l = fewer p rs in some (r.point == p) l
  where
    some : (b : Bool) → words_at p rs ≤ words_in rs → cond b r.len 0 + words_at p rs ≤ r.len + words_in rs
    some true l = omega arith
    some false l = omega arith

soon : (c : Core) → IsReached c → OutSoon c
soon c r = subst OutSoon (sym r.is) (leaves_soon r.image r.many c.budget r.events r.program r.legal).0

pub out_within_all : (c : Core) → IsReached c → (h : ℕ) → OutWithin (words_in c.rows) c h
out_within_all c r h = by (slice_get c.harts h) refl
  where
    at : (x : Hart) → slice_get c.harts h ≡ Some x → (b : Bool) → x.inside ≡ b → OutWithin (words_in c.rows) c h
    at x e true i = let k = soon c r h x e i in widen (words_at k.0.point c.rows) (words_in c.rows) c h (fewer k.0.point c.rows) k.2
    at x e false i = out_now (words_in c.rows) c h (ap is_out_now e ∙ grind (arith, common_steps, i))

    by : (o : Option Hart) → slice_get c.harts h ≡ o → OutWithin (words_in c.rows) c h
    by None e = out_now (words_in c.rows) c h (ap is_out_now e)
    by (Some x) e = at x e x.inside refl

-- ---- all harts

pub record Settles (more h : ℕ) (c : Core) : Type 0 where
  pub legal : Legal (settling_from more h c) c
  pub out : (j : ℕ) → j < h + more → is_out (replay (settling_from more h c) c) j ≡ true
  pub len : length (replay (settling_from more h c) c).harts ≡ length c.harts

pub settles_from : (more h : ℕ) (c : Core) → IsReached c → ((j : ℕ) → j < h → is_out c j ≡ true) → Settles more h c
settles_from zero h c r before = record { legal = tt; out = λ j l. before j (omega arith); len = refl }
settles_from (suc more) h c r before =
    let es = leaving (words_in c.rows) h c in
    let d = replay es c in
    let k = left (words_in c.rows) h c in
    let q = reaches_all es c r k.legal in
    let rest = settles_from more (h + 1) d q (λ j l. ⊎_elim (λ (e : j ≡ h). subst (λ i. is_out d i ≡ true) (sym e) (k.out (out_within_all c r h))) (λ (n : j ≡ h → ⊥). ap is_out_now (k.same.others j n) ∙ before j (omega arith)) (cases_eq j h)) in
    let there = replay-append es (settling_from more (h + 1) d) c in
    record {
      legal = legal-append es (settling_from more (h + 1) d) c k.legal rest.legal;
      out = λ j l. subst (λ (e : Core). is_out e j ≡ true) (sym there) (rest.out j (omega arith));
      len = ap (λ (e : Core). length e.harts) there ∙ (rest.len ∙ k.same.len);
    }

-- a hart of a reached state that is out isn't inside
stopped_outside : (c : Core) → IsReached c → (h : ℕ) (x : Hart) → slice_get c.harts h ≡ Some x → (o : Option Cause) → x.stop ≡ o → (not (is_none o) || not x.inside) ≡ true → x.inside ≡ false
stopped_outside c r h x e None s out = grind (arith, common_steps)
stopped_outside c r h x e (Some cause) s out =
    let g = good c r in
    let q = within c.harts (g.0).harts h x (g.1).many e in
    (((g.1).harts h x q.0 e q.1).down cause s).0

pub settled_quiet : (c : Core) → IsReached c → IsQuiet (replay (settling c) c)
settled_quiet c r h x e =
    let k = settles_from (length c.harts) 0 c r (λ j l. absurd (omega arith)) in
    let d = replay (settling c) c in
    let low = slice_get_within d.harts h x e in
    let len = k.len in
    let out : (not (is_none x.stop) || not x.inside) ≡ true = subst (λ o. is_out_now o ≡ true) e (k.out h (omega arith)) in
    stopped_outside d (reaches_all (settling c) c r k.legal) h x e x.stop refl out

-- ---- turn by turn

one_left : (k h : ℕ) (c : Core) → is_out c h ≡ false → leaving (suc k) h c ≡ Turn h ∷ leaving k h (turn c h)
one_left k h c e = cond-false (is_out c h) [] (Turn h ∷ leaving k h (turn c h)) e

pub none_left : (n h : ℕ) (c : Core) → is_out c h ≡ true → leaving n h c ≡ []
none_left zero h c e = refl
none_left (suc n) h c e = cond-true (is_out c h) [] (Turn h ∷ leaving n h (turn c h)) e

pub rest_left : (n k h : ℕ) (c : Core) → n ≡ suc k → is_out c h ≡ false → replay (leaving k h (turn c h)) (turn c h) ≡ replay (leaving n h c) c
rest_left n k h c s e = sym (ap (λ m. replay (leaving m h c) c) s ∙ ap (λ es. replay es c) (one_left k h c e))

-- of all the events this many turns were taken, this many of them ticks, and the events `es` are left
pub record Counted (turns ticks : ℕ) (all : List Event) (old : Core) (es : List Event) (now : Core) : Type 0 where
  pub taken : turns + length es ≡ length all
  pub ticked : ticks + length (owns es now) ≡ length (owns all old)

-- the ticks after a turn
abbrev pub IsCount : ℕ → Bool → ℕ → Type 0
IsCount count true next = next ≡ count + 1
IsCount count false next = next ≡ count

counts_tick : (tick : Bool) (h count next total : ℕ) (own : List ℕ) → IsCount count tick next → count + length (cond tick (h ∷ []) [] ++ own) ≡ total → next + length own ≡ total
counts_tick true h count next total own n e = let f : count + suc (length own) ≡ total = e in omega arith
counts_tick false h count next total own n e = let f : count + length own ≡ total = e in omega arith

pub counts_left : (n k h turns ticks next : ℕ) (all : List Event) (old c : Core) (tick : Bool) → n ≡ suc k → is_out c h ≡ false → tick ≡ ticks_next c h → IsCount ticks tick next
    → Counted turns ticks all old (leaving n h c) c → Counted (turns + 1) next all old (leaving k h (turn c h)) (turn c h)
counts_left n k h turns ticks next all old c tick s e t is counted =
    let es = leaving k h (turn c h) in
    let first : Counted turns ticks all old (Turn h ∷ es) c = subst (λ l. Counted turns ticks all old l c) (ap (λ m. leaving m h c) s ∙ one_left k h c e) counted in
    let sum : turns + suc (length es) ≡ length all = first.taken in
    record {
      taken = omega arith;
      ticked = counts_tick tick h ticks next (length (owns all old)) (owns es (turn c h)) is (subst (λ b. ticks + length (cond b (h ∷ []) [] ++ owns es (turn c h)) ≡ length (owns all old)) (sym t) first.ticked);
    }

pub turn_len : (c : Core) (h : ℕ) → length (turn c h).harts ≡ length c.harts
turn_len c h = (turn_same (slice_get c.harts h) c h).len

pub one_more : (count next turns : ℕ) (tick : Bool) → IsCount count tick next → count ≤ turns → next ≤ turns + 1
one_more count next turns true n l = omega arith
one_more count next turns false n l = omega arith

pub is_count : (count next : ℕ) (tick : Bool) → ((tick ≡ true) × (next ≡ count + 1)) ⊎ ((tick ≡ false) × (next ≡ count)) → IsCount count tick next
is_count count next true (inl e) = e.1
is_count count next true (inr e) = absurd (true≢false e.0)
is_count count next false (inl e) = absurd (true≢false (sym e.0))
is_count count next false (inr e) = e.1

-- ---- hart by hart

-- hart h is next, and so far this many turns were taken, and this many of them were ticks
pub record Settling (most turns ticks h : ℕ) (old now : Machine) : Type 0 where
  pub coming : replay (settling_from (length old.core.harts - h) h now.core) now.core ≡ replay (settling old.core) old.core
  pub room : now.room ≡ old.room
  pub many : length now.core.harts ≡ length old.core.harts
  pub rows : now.core.rows ≡ old.core.rows
  pub words : most ≡ words_in old.core.rows
  pub few : most ≤ 98304
  pub counted : Counted turns ticks (settling old.core) old.core (settling_from (length old.core.harts - h) h now.core) now.core
  pub bound : turns ≤ 98304 * h
  pub less : ticks ≤ turns

pub settling_first : (old : Machine) (most : ℕ) → most ≡ words_in old.core.rows → 4 * words_in old.core.rows ≤ TOOL_TEXT_LEN → Settling most 0 0 0 old old
settling_first old most w l =
    let all : length old.core.harts - 0 ≡ length old.core.harts = omega arith in
    let first : settling_from (length old.core.harts - 0) 0 old.core ≡ settling old.core = ap (λ m. settling_from m 0 old.core) all in
    let len = ap (λ (es : List Event). length es) first in
    let own = ap (λ (es : List Event). length (owns es old.core)) first in
    record {
      coming = ap (λ es. replay es old.core) first;
      room = refl;
      many = refl;
      rows = refl;
      words = w;
      few = omega arith;
      counted = record { taken = omega arith; ticked = omega arith };
      bound = omega arith;
      less = omega arith;
    }

-- one hart more
pub settling_step : (most turns ticks h taken own : ℕ) (old now new : Machine) → Settling most turns ticks h old now → h < length old.core.harts → new ≡ with_core now (replay (leaving most h now.core) now.core)
    → taken ≡ length (leaving most h now.core) → own ≡ length (owns (leaving most h now.core) now.core) → own ≤ taken → taken ≤ most → Settling most (turns + taken) (ticks + own) (h + 1) old new
settling_step most turns ticks h taken own old now new s l e t o less low = subst (Settling most (turns + taken) (ticks + own) (h + 1) old) (sym e) after_event
  where
    after_event : Settling most (turns + taken) (ticks + own) (h + 1) old (with_core now (replay (leaving most h now.core) now.core))
    after_event =
        let c = now.core in
        let d = replay (leaving most h c) c in
        let one : length old.core.harts - h ≡ suc (length old.core.harts - (h + 1)) = omega arith in
        let words : most ≡ words_in c.rows = s.words ∙ ap words_in (sym s.rows) in
        let is : settling_from (length old.core.harts - h) h c ≡ leaving most h c ++ settling_from (length old.core.harts - (h + 1)) (h + 1) d = ap (λ m. settling_from m h c) one ∙ ap (λ m. leaving m h c ++ settling_from (length old.core.harts - (h + 1)) (h + 1) (replay (leaving m h c) c)) (sym words) in
        let others = settling_from (length old.core.harts - (h + 1)) (h + 1) d in
        let len : length (settling_from (length old.core.harts - h) h c) ≡ length (leaving most h c) + length others = ap (λ (l : List Event). length l) is ∙ length-append (leaving most h c) others in
        let mine : length (owns (settling_from (length old.core.harts - h) h c) c) ≡ length (owns (leaving most h c) c) + length (owns others d) = ap (λ (l : List Event). length (owns l c)) is ∙ (ap (λ (l : List ℕ). length l) (owns-append (leaving most h c) others c) ∙ length-append (owns (leaving most h c) c) (owns others d)) in
        let same = (left most h c).same in
        let sum = s.counted.taken in
        let sum_ticks = s.counted.ticked in
        let bound = s.bound in
        let fewer = s.less in
        let few = s.few in
        record {
          coming = sym (replay-append (leaving most h c) others c) ∙ (sym (ap (λ l. replay l c) is) ∙ s.coming);
          room = s.room;
          many = same.len ∙ s.many;
          rows = same.rows ∙ s.rows;
          words = s.words;
          few = s.few;
          counted = record { taken = omega arith; ticked = omega arith };
          bound = omega arith;
          less = omega arith;
        }

-- after all harts
pub record AllSettled (turns ticks : ℕ) (old now : Machine) : Type 0 where
  pub is : now ≡ with_core old (replay (settling old.core) old.core)
  pub taken : turns ≡ length (settling old.core)
  pub ticked : ticks ≡ length (owns (settling old.core) old.core)

-- no hart is left
pub settling_end : (most turns ticks h : ℕ) (old now : Machine) → Settling most turns ticks h old now → length old.core.harts ≤ h → AllSettled turns ticks old now
settling_end most turns ticks h old now s l =
    let zero : length old.core.harts - h ≡ 0 = omega arith in
    let nothing : settling_from (length old.core.harts - h) h now.core ≡ [] = ap (λ m. settling_from m h now.core) zero in
    let core : now.core ≡ replay (settling old.core) old.core = sym (ap (λ es. replay es now.core) nothing) ∙ s.coming in
    let sum = s.counted.taken in
    let sum_ticks = s.counted.ticked in
    let len = ap (λ (es : List Event). length es) nothing in
    let own = ap (λ (es : List Event). length (owns es now.core)) nothing in
    record { is = ap₂ (λ (c : Core) (r : ℕ). record { core = c; room = r }) core s.room; taken = omega arith; ticked = omega arith }
