-- A quantum keeps what a session keeps.
use Rattle.std.proofs.Common.{◌≡◌, ℕ, zero, suc, ◌+◌, ◌<◌, ◌≤◌, ◌^◌, List, [], ◌∷◌, ◌++◌, refl, sym, ap, ◌∙◌, subst, arith, length, inr}
use Rattle.std.specs.Prelude.{Bool, true, false, cond, drop, nat_le, nat_lt}
use Rattle.std.proofs.lemmas.Bool.{true≢false}
use Rattle.std.specs.List.{AllByRecursion}
use Rattle.std.proofs.lemmas.List.{length-append, length-map}
use Rattle.pn_types.specs.declared.limits.TheConstants.{MAX_QUANTA}
use Rattle.pn_types.specs.declared.quantum.Quantum.{Quantum}
use Rattle.mdl_check.specs.declared.checked.CheckedWish.{CheckedWish}
use Rattle.machine.specs.Cores.{In, Core}
use Rattle.machine.specs.Events.{IsQuiet}
use Rattle.session_spec.specs.Inputs.{Inputs}
use Rattle.session_spec.specs.States.{State}
use Rattle.session_spec.specs.Work.{AreAllowed, AreAllowedFrom, IsAllowed, final_state, first_state, after_quantum, after_quanta, after_quanta_from}
use Rattle.session_spec.proofs.RulesStay.{step_rules}
use Rattle.session_pairs.specs.SampledPairs.{AreLive, pair_sampled}
use Rattle.session.specs.Kept.{IsTableAfter, IsSoundPair}
use Rattle.session.specs.Tables.{IsAfterAdmission, IsTableOf, StateTable, table_begun, table_closed, table_ended, table_freed, table_last, table_quiet, table_sampled, table_tended, table_worked}
use Rattle.session.proofs.SoundPairs.{all_armed, all_sampled, armed_many, more_sound}
use Rattle.session.proofs.Tabled.{admitted_table, closed_table, tended_table}

-- ---- lists of quanta

work_on : (i : Inputs) (quanta : List Quantum) (q : Quantum) (s : State) → after_quanta_from i (quanta ++ q ∷ []) s ≡ after_quantum i q.hart q.turns (after_quanta_from i quanta s)
work_on i [] q s = refl
work_on i (p ∷ quanta) q s = work_on i quanta q (after_quantum i p.hart p.turns s)

pub one_work : (i : Inputs) (quanta : List Quantum) (q : Quantum) → after_quanta i (quanta ++ q ∷ []) ≡ after_quantum i q.hart q.turns (after_quanta i quanta)
unfolding after_quanta
one_work i quanta q = work_on i quanta q (first_state i)

allowed_on : (i : Inputs) (quanta : List Quantum) (q : Quantum) (s : State) → AreAllowedFrom i s quanta → IsAllowed i (after_quanta_from i quanta s).kept q → AreAllowedFrom i s (quanta ++ q ∷ [])
allowed_on i [] q s a k = (k, tt)
allowed_on i (p ∷ quanta) q s a k = (a.0, allowed_on i quanta q (after_quantum i p.hart p.turns s) a.1 k)

pub one_allowed : (i : Inputs) (quanta : List Quantum) (q : Quantum) → AreAllowed i quanta → length quanta < MAX_QUANTA → IsAllowed i (after_quanta i quanta).kept q → AreAllowed i (quanta ++ q ∷ [])
unfolding after_quanta
one_allowed i quanta q a few k =
    let l = length-append quanta (q ∷ []) in
    let one : length (q ∷ []) ≡ 1 = refl in
    record { each = allowed_on i quanta q (first_state i) a.each k; few = omega arith }

-- ---- what a quantum keeps

in_drop : (n : ℕ) (ws : List CheckedWish) (w : CheckedWish) → In w (drop n ws) → In w ws
in_drop zero ws w h = h
in_drop (suc n) [] w h = h
in_drop (suc n) (v ∷ ws) w h = inr (in_drop n ws w h)

pub drop_many : (n : ℕ) (ws : List CheckedWish) → n ≤ length ws → length (drop n ws) + n ≡ length ws
drop_many zero ws l = omega arith
drop_many (suc n) [] l = absurd (omega arith)
drop_many (suc n) (v ∷ ws) l = let e = drop_many n ws (omega arith) in omega arith

-- samples, pairs and the search after a quantum
record Behind (i : Inputs) (old new : StateTable) : Type 0 where
  pairs : AllByRecursion (IsSoundPair i new.samples) new.pairs
  many : length new.pairs ≡ length old.pairs
  samples : new.samples ≤ old.samples + 1
  places : new.places ≡ old.places
  rules : new.search.rules ≡ old.search.rules

behind : (i : Inputs) (h n : ℕ) (t : StateTable) → AllByRecursion (IsSoundPair i t.samples) t.pairs → Behind i t (table_tended i.settings.width h n t)
behind i h n t a = by (nat_le (table_begun h n t).due (table_begun h n t).time)
  where
    by : (b : Bool) → Behind i t (cond b (table_worked i.settings.width (table_begun h n t)) (table_begun h n t))
    by true =
        let q = table_quiet (table_begun h n t) in
        let s = table_sampled q in
        let f = table_freed s in
        let sampled = all_sampled i t.samples q.machine.state q.time t.pairs a in
        record {
          pairs = all_armed i (t.samples + 1) f.machine.state f.time s.pairs sampled;
          many = armed_many f.machine.state f.time s.pairs ∙ length-map t.pairs (pair_sampled q.machine.state q.time);
          samples = omega arith;
          places = refl;
          rules = step_rules f.time f.tests t.search;
        }
    by false = record { pairs = a; many = refl; samples = omega arith; places = refl; rules = refl }

pub quantum_kept : (i : Inputs) (quanta : List Quantum) (later : List CheckedWish) (t admitted new : StateTable) (looked : ℕ) (q : Quantum) → IsTableAfter i quanta false later t → length quanta < MAX_QUANTA
    → IsAfterAdmission i later t admitted looked → new ≡ table_tended i.settings.width q.hart q.turns admitted → length new.machine.state.core.harts ≡ length admitted.machine.state.core.harts → new.time < admitted.time + 2 ^ 33
    → new.idle ≤ admitted.idle + q.turns → new.last < new.due → AreLive new.machine.state.placer new.pairs new.live → IsAllowed i (after_quanta i quanta).kept q → IsTableAfter i (quanta ++ q ∷ []) false (drop looked later) new
quantum_kept i quanta later t admitted new looked q k few a is harts time idle soon live allowed =
    let stays = ap (λ (x : StateTable). x.samples) (a.stays).same in
    let pairs : AllByRecursion (IsSoundPair i admitted.samples) admitted.pairs = subst (λ m. AllByRecursion (IsSoundPair i m) admitted.pairs) (sym stays) (more_sound i t.samples t.pairs admitted.pairs k.pairs a.pairs) in
    let settings = k.given.settings in
    let low = settings.budget.1 in
    let some : 1 ≤ i.settings.bins = let bins = settings.bins.0 in omega arith in
    let first = admitted_table i later (drop looked later) (after_quanta i quanta) t admitted k.state k.good a.kept a.pairs (ap (λ (x : StateTable). x.latest) (a.stays).same) (ap (λ (x : StateTable). x.marks) (a.stays).same) in
    let after = tended_table i low some (drop looked later) (after_quanta i quanta) admitted first pairs q.hart q.turns in
    let b = behind i q.hart q.turns admitted pairs in
    let is_many = ap (λ (x : StateTable). length x.pairs) is in
    let is_samples = ap (λ (x : StateTable). x.samples) is in
    let left = drop_many looked later a.looked in
    let count = length-append quanta (q ∷ []) in
    let one : length (q ∷ []) ≡ 1 = refl in
    let many = k.many in
    let more = a.few in
    let same_many = b.many in
    let samples = k.fewer refl in
    let up = b.samples in
    let old_time = k.sooner refl in
    let same_time = ap (λ (x : StateTable). x.time) (a.stays).same in
    let old_idle = k.idle refl in
    let same_idle = ap (λ (x : StateTable). x.idle) (a.stays).same in
    let turns = allowed.few in
    record {
      given = k.given;
      good = k.good;
      allowed = one_allowed i quanta q k.allowed few allowed;
      state = subst (λ (x : StateTable). IsTableOf i (after_quanta i (quanta ++ q ∷ [])) (drop looked later) x) (sym is)
          (subst (λ (x : State). IsTableOf i x (drop looked later) (table_tended i.settings.width q.hart q.turns admitted)) (sym (one_work i quanta q)) after);
      live = live;
      pairs = subst (λ (x : StateTable). AllByRecursion (IsSoundPair i x.samples) x.pairs) (sym is) b.pairs;
      many = omega arith;
      wishes = λ w h. k.wishes w (in_drop looked later w h);
      harts = harts ∙ (ap (λ (c : Core). length c.harts) (a.stays).core ∙ k.harts);
      places = ap (λ (x : StateTable). x.places) is ∙ (b.places ∙ (ap (λ (x : StateTable). x.places) (a.stays).same ∙ k.places));
      rules = ap (λ (x : StateTable). x.search.rules) is ∙ (b.rules ∙ ((a.stays).rules ∙ k.rules));
      soon = λ e. soon;
      idle = λ e. omega arith;
      samples = omega arith;
      fewer = λ e. omega arith;
      time = omega arith;
      sooner = λ e. omega arith;
      quiet = λ e. absurd (true≢false (sym e));
    }

-- ---- the end

end_behind : (i : Inputs) (t : StateTable) → AllByRecursion (IsSoundPair i t.samples) t.pairs → Behind i t (table_closed t)
end_behind i t a = by (nat_lt (table_quiet t).last (table_quiet t).time)
  where
    by : (b : Bool) → Behind i t (table_ended (cond b (table_last (table_quiet t)) (table_quiet t)))
    by true =
        let q = table_quiet t in
        record {
          pairs = all_sampled i t.samples q.machine.state q.time t.pairs a;
          many = length-map t.pairs (pair_sampled q.machine.state q.time);
          samples = omega arith;
          places = refl;
          rules = step_rules q.time (table_sampled q).tests t.search;
        }
    by false = record { pairs = a; many = refl; samples = omega arith; places = refl; rules = refl }

pub end_kept : (i : Inputs) (quanta : List Quantum) (later : List CheckedWish) (t new : StateTable) → IsTableAfter i quanta false later t → new ≡ table_closed t → IsQuiet new.machine.state.core
    → length new.machine.state.core.harts ≡ length t.machine.state.core.harts → new.time < t.time + 2 ^ 32 → AreLive new.machine.state.placer new.pairs new.live → IsTableAfter i quanta true later new
end_kept i quanta later t new k is quiet harts time live =
    let settings = k.given.settings in
    let after = closed_table i settings.budget.1 (let bins = settings.bins.0 in omega arith) later (after_quanta i quanta) t k.state k.pairs in
    let b = end_behind i t k.pairs in
    let is_many = ap (λ (x : StateTable). length x.pairs) is in
    let is_samples = ap (λ (x : StateTable). x.samples) is in
    let many = k.many in
    let same_many = b.many in
    let fewer = k.fewer refl in
    let up = b.samples in
    let sooner = k.sooner refl in
    record {
      given = k.given;
      good = k.good;
      allowed = k.allowed;
      state = subst (IsTableOf i (final_state i (after_quanta i quanta)) later) (sym is) after;
      live = live;
      pairs = subst (λ (x : StateTable). AllByRecursion (IsSoundPair i x.samples) x.pairs) (sym is) b.pairs;
      many = omega arith;
      wishes = k.wishes;
      harts = harts ∙ k.harts;
      places = ap (λ (x : StateTable). x.places) is ∙ (b.places ∙ k.places);
      rules = ap (λ (x : StateTable). x.search.rules) is ∙ (b.rules ∙ k.rules);
      soon = λ e. absurd (true≢false e);
      idle = λ e. absurd (true≢false e);
      samples = omega arith;
      fewer = λ e. absurd (true≢false e);
      time = omega arith;
      sooner = λ e. absurd (true≢false e);
      quiet = λ e. quiet;
    }
