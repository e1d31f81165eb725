-- A program's counters are in force, and read what their plans measure.
use Rattle.std.proofs.Common.{◌≡◌, ℕ, zero, suc, ◌+◌, ◌-◌, ◌%◌, ◌^◌, ◌<◌, ◌≤◌, List, [], ◌∷◌, ◌++◌, length, Option, Some, None, refl, sym, ap, ◌∙◌, subst, arith, inl, inr, ⊎_elim}
use Rattle.std.specs.Prelude.{Bool, true, false, cond, map, slice_get, slice_index, slice_set, unwrap_or}
use Rattle.std.specs.List.{IsDistinct, flat_map}
use Rattle.pn_types.specs.declared.limits.TheConstants.{MAX_QUANTA}
use Rattle.pn_types.specs.declared.placed.Placed.{Placed}
use Rattle.turn_order.specs.declared.order.Order.{Order}
use Rattle.turn_order.specs.Orders.{order_after, order_of_seed, picked}
use Rattle.prim_code.specs.Fitting.{IsMeasurable}
use Rattle.tramp_spec.specs.Banks.{bank_len, first_slot}
use Rattle.tramp_spec.specs.Codes.{Code}
use Rattle.tramp_spec.specs.Harts.{Hart}
use Rattle.tramp_spec.specs.Marks.{tool}
use Rattle.tramp_spec.specs.Slots.{places_of, set_places}
use Rattle.tramp_spec.specs.Statements.{body_of}
use Rattle.tramp_spec.specs.declared.mark.MarkedWord.{MarkedWord}
use Rattle.frame_walk.specs.Walks.{walk_now}
use Rattle.machine.specs.Cores.{In, Row, Core}
use Rattle.machine.specs.Effects.{after_event, armed_hart}
use Rattle.machine.specs.Events.{Event, Turn}
use Rattle.machine.specs.Instruments.{AllLet, Carries, IsSpared, Spares, body_in, words_at}
use Rattle.machine.specs.Leaving.{is_out}
use Rattle.machine.specs.Readings.{reading_if, readings}
use Rattle.machine.specs.Replays.{owns, replay}
use Rattle.machine.specs.States.{leaving, quantum_turns, settling, settling_from, words_in}
use Rattle.machine.specs.Turns.{is_runnable, turn}
use Rattle.machine.proofs.Lists.{AreWordsAt}
use Rattle.machine.proofs.Replaying.{owns-append}
use Rattle.block_count.specs.Counters.{Counter, mini_at, mini_of, one_more, placed_of, plan_at}
use Rattle.block_count.specs.Course.{Pace, all_quanta, and_then, arming, placing, quanta_from, sampling, turns_of}
use Rattle.block_count.proofs.Bodies.{body_len, fitting, mini_len, places}
use Rattle.block_count.proofs.Going.{Stood}
use Rattle.block_count.proofs.Measured.{opens_at_0}
use Rattle.block_count.proofs.Placed.{mini_row}
use Rattle.block_count.proofs.Slots.{Slots, share_none, slot_within, slots_apart, spares}
use Rattle.block_count.proofs.Taken.{got}

-- ---- bodies

words_stand : (code : Code) (at : ℕ) (body rest : List MarkedWord) → AreWordsAt code at (body ++ rest) → words_at (length body) code at ≡ body
words_stand code at [] rest h = refl
words_stand code at (w ∷ ws) rest h = let a = ap (λ o. unwrap_or o (tool 0)) h.0 in let b = words_stand code (at + 4) ws rest h.1 in cc

pub body_is : (k : Counter) (c : Core) → AreWordsAt c.code (mini_at k) (mini_of k).words → body_in c.code (mini_row k) ≡ body_of (k.slot ∷ []) one_more
body_is k c s =
    let body = body_of (k.slot ∷ []) one_more in
    let four = body_len k.slot in
    let five = mini_len k in
    let e : length (mini_of k).words - 1 ≡ length body = omega arith in
    ap (λ n. words_at n c.code (mini_at k)) e ∙ words_stand c.code (mini_at k) body _ s

-- ---- turns and samples let each instrument be

let_append : (i : Placed) (es fs : List Event) → AllLet i es → AllLet i fs → AllLet i (es ++ fs)
let_append i [] fs a b = b
let_append i (e ∷ es) fs a b = (a.0, let_append i es fs a.1 b)

module _ (i : Placed) where
  quantum_lets : (n h : ℕ) (c : Core) → AllLet i (quantum_turns n h c)
  quantum_lets zero h c = tt
  quantum_lets (suc n) h c = by (is_runnable c h) (quantum_lets n h (turn c h))
    where
      by : (b : Bool) → AllLet i (quantum_turns n h (turn c h)) → AllLet i (cond b (Turn h ∷ quantum_turns n h (turn c h)) [])
      by true rest = (tt, rest)
      by false rest = tt

  leaving_lets : (n h : ℕ) (c : Core) → AllLet i (leaving n h c)
  leaving_lets zero h c = tt
  leaving_lets (suc n) h c = by (is_out c h) (leaving_lets n h (turn c h))
    where
      by : (b : Bool) → AllLet i (leaving n h (turn c h)) → AllLet i (cond b [] (Turn h ∷ leaving n h (turn c h)))
      by true rest = tt
      by false rest = (tt, rest)

  settling_lets : (more h : ℕ) (c : Core) → AllLet i (settling_from more h c)
  settling_lets zero h c = tt
  settling_lets (suc more) h c =
      let_append i (leaving (words_in c.rows) h c) (settling_from more (h + 1) (replay (leaving (words_in c.rows) h c) c)) (leaving_lets (words_in c.rows) h c) (settling_lets more (h + 1) (replay (leaving (words_in c.rows) h c) c))

  quanta_lets : (more : ℕ) (p : Pace) (order : Order) (c : Core) → AllLet i (quanta_from more p order c)
  quanta_lets zero p order c = tt
  quanta_lets (suc more) p order c = by (picked order (is_runnable c) p.harts) (λ h. quanta_lets more p (order_after order h) (replay (quantum_turns p.turns h c) c))
    where
      by : (o : Option ℕ) → ((h : ℕ) → AllLet i (quanta_from more p (order_after order h) (replay (quantum_turns p.turns h c) c)))
          → AllLet i (elim o [ None ↦ [] | Some h ↦ and_then (quantum_turns p.turns h c) (quanta_from more p (order_after order h)) c ])
      by None rest = tt
      by (Some h) rest = let_append i (quantum_turns p.turns h c) (quanta_from more p (order_after order h) (replay (quantum_turns p.turns h c) c)) (quantum_lets p.turns h c) (rest h)

  all_let : (p : Pace) (c : Core) → AllLet i (all_quanta p c)
  unfolding all_quanta
  all_let p c = quanta_lets MAX_QUANTA p (order_of_seed p.seed) c

  pub turns_let : (p : Pace) (c : Core) → AllLet i (turns_of p c)
  turns_let p c = let es = all_quanta p c in let_append i es (settling (replay es c)) (all_let p c) (settling_lets (length (replay es c).harts) 0 (replay es c))

  samples_let : (ks : List Counter) → AllLet i (map sampling ks)
  samples_let [] = tt
  samples_let (k ∷ ks) = (tt, samples_let ks)

arms_let : (k : Counter) (ks : List Counter) → ((j : Counter) → In j ks → j.slot ≡ k.slot → ⊥) → AllLet (placed_of k) (map arming ks)
arms_let k [] apart = tt
arms_let k (j ∷ ks) apart = (share_none k j (apart j (inl refl)), arms_let k ks (λ l h. apart l (inr h)))

-- what comes after a counter's arming
pub since_let : (k : Counter) (back all : List Counter) (p : Pace) (c : Core) → ((j : Counter) → In j back → j.slot ≡ k.slot → ⊥) → AllLet (placed_of k) (map arming back ++ (turns_of p c ++ map sampling all))
since_let k back all p c apart =
    let i = placed_of k in
    let_append i (map arming back) (turns_of p c ++ map sampling all) (arms_let k back apart) (let_append i (turns_of p c) (map sampling all) (turns_let i p c) (samples_let i all))

-- ---- what is placed owns no turn

pub placing_owns : (ks : List Counter) (c : Core) → owns (flat_map placing ks) c ≡ []
unfolding placing
placing_owns [] c = refl
placing_owns (k ∷ ks) c = owns-append (placing k) (flat_map placing ks) c ∙ placing_owns ks (replay (placing k) c)

pub arming_owns : (ks : List Counter) (c : Core) → owns (map arming ks) c ≡ []
arming_owns [] c = refl
arming_owns (k ∷ ks) c = arming_owns ks (after_event c (arming k))

-- ---- the plan

pub measurable : (a : ℕ) → IsMeasurable (plan_at a)
unfolding IsDistinct
measurable a = record { narrow = (omega arith, tt); apart = (tt, tt); few = (omega arith, tt); fitting = (fitting, tt); opens_few = tt; opens_fitting = tt }

-- ---- before its arming a counter is spared, and carries its plan

module _ (k : Counter) (ks : List Counter) (p at : ℕ) (c : Core) (st : Stood ks p at c) (f : Slots first_slot ks) (few : first_slot + length ks ≤ bank_len) (here : In k ks) where
  within : (j : Counter) → In j ks → (first_slot ≤ j.slot) × (j.slot < bank_len)
  within j h = let w = slot_within first_slot ks j f h in let a = w.0 in let b = w.1 in (omega arith, omega arith)

  pub spared : IsSpared c (placed_of k)
  spared x h m =
      let q = st.minis x h m in
      let j = q.0 in
      let is : body_in c.code x ≡ body_of (j.slot ∷ []) one_more = ap (body_in c.code) q.2 ∙ body_is j c ((st.all j q.1).0.words) in
      ⊎_elim (λ (e : j ≡ k). inl (record { at = k.point; mini = mini_at k }, inl refl, sym (ap (λ (u : Row). u.at) q.2 ∙ ap mini_at e)))
      (λ apart. inr (subst (Spares (placed_of k)) (sym is) (spares k j (within j q.1).0 (within j q.1).1 apart))) (slots_apart first_slot ks j k f q.1 here)

  pub carries : Carries c (placed_of k) (plan_at k.point)
  carries =
      let h = (st.all k here).0 in
      record {
        vars = refl;
        many = refl;
        places = places k (within k here).0 (within k here).1;
        sites = (refl, record { row = mini_row k; listed = h.mini; mini = refl; point = refl; at = refl; is = body_is k c h.words }, tt);
        opens = refl;
      }

-- ---- readings

set_reads_0 : (bank : List ℕ) (s : ℕ) → slice_index (slice_set bank s 0) s ≡ 0
set_reads_0 [] s = refl
set_reads_0 (v ∷ bank) zero = refl
set_reads_0 (v ∷ bank) (suc s) = set_reads_0 bank s

armed_reads_0 : (c : Core) (k : Counter) (o : Option Hart) → reading_if (placed_of k) (elim o [ None ↦ None | Some x ↦ Some (armed_hart c (placed_of k) x) ]) ≡ 0
armed_reads_0 c k None = refl
armed_reads_0 c k (Some x) =
    ap (λ vs. slice_index (set_places (places_of (placed_of k)) vs x.ticks x.bank) k.slot) (opens_at_0 (walk_now c.prog x)) ∙ set_reads_0 x.bank k.slot

-- once it is armed each hart reads 0
pub reads_0 : (c : Core) (k : Counter) (harts : List ℕ) → readings (placed_of k) harts (after_event c (arming k)) ≡ 0
reads_0 c k [] = refl
reads_0 c k (h ∷ harts) =
    ap (λ n. (n + readings (placed_of k) harts (after_event c (arming k))) % 2 ^ 64) (ap (reading_if (placed_of k)) (got (armed_hart c (placed_of k)) c.harts h) ∙ armed_reads_0 c k (slice_get c.harts h))
    ∙ ap (λ n. (0 + n) % 2 ^ 64) (reads_0 c k harts)
