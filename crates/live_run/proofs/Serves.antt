-- A worker's harts, and its turns.
use Rattle.std.proofs.Common.{◌≡◌, ◌≢◌, inl, inr, ⊎_elim, ℕ, ◌+◌, ◌%◌, ◌<◌, List, [], ◌∷◌, ◌++◌, sym, ap, ◌∙◌, subst, arith}
use native.Mathlib.Decide.{ℕ_discrete}
use mathlib.Core.Logic.{dite}
use Rattle.std.proofs.lemmas.List.{map-append}
use Rattle.live_run.specs.declared.view.Receipt.{Receipt}
use Rattle.live_run.specs.Serving.{AreHartsBelow, AreTakingTurns, IsFor, HasServed, IsServing, harts_in}
use Rattle.machine.specs.Cores.{In}
use Rattle.live_run.specs.Seats.{SeatData, fresh_seat}
use Rattle.live_run.proofs.Entries.{each_map, each_append}
use Rattle.live_run.proofs.Rounds.{apart_last, in_front, in_back, begins, leaves, served}

pub own_none : (workers worker : ℕ) → AreHartsBelow 0 workers worker []
own_none workers worker = record { apart = tt; each = tt; all = λ hart lt e. absurd (omega arith) }

pub own_more : (n workers worker : ℕ) (own : List ℕ) → AreHartsBelow n workers worker own → n % workers ≡ worker → AreHartsBelow (n + 1) workers worker (own ++ n ∷ [])
own_more n workers worker own o his = record {
  apart = apart_last own n o.apart (each_map {P = λ (hart : ℕ). (hart < n) × (hart % workers ≡ worker)} {Q = λ (hart : ℕ). hart ≢ n} own (λ x h same. let lt = h.0 in omega arith) o.each);
  each = each_append (λ (hart : ℕ). (hart < n + 1) × (hart % workers ≡ worker)) own (n ∷ [])
      (each_map {P = λ (hart : ℕ). (hart < n) × (hart % workers ≡ worker)} {Q = λ (hart : ℕ). (hart < n + 1) × (hart % workers ≡ worker)} own (λ x h. let lt = h.0 in (omega arith, h.1)) o.each)
      ((omega arith, his), tt);
  all = λ hart lt e. dite (ℕ_discrete hart n) (λ same. in_back hart own (n ∷ []) (inl same)) (λ other. in_front hart own (n ∷ []) (o.all hart (omega arith) e));
}

pub own_same : (n workers worker : ℕ) (own : List ℕ) → AreHartsBelow n workers worker own → n % workers ≢ worker → AreHartsBelow (n + 1) workers worker own
own_same n workers worker own o other = record {
  apart = o.apart;
  each = each_map {P = λ (hart : ℕ). (hart < n) × (hart % workers ≡ worker)} {Q = λ (hart : ℕ). (hart < n + 1) × (hart % workers ≡ worker)} own (λ x h. let lt = h.0 in (omega arith, h.1)) o.each;
  all = λ hart lt e. dite (ℕ_discrete hart n) (λ same. absurd (other (ap (λ k. k % workers) (sym same) ∙ e))) (λ ne. o.all hart (omega arith) e);
}

pub starts : (harts workers turns worker : ℕ) (waits : List ℕ) (c : SeatData) → AreHartsBelow harts workers worker waits → c ≡ fresh_seat c.worker → c.worker ≡ worker → IsServing harts workers turns worker waits c
starts harts workers turns worker waits c o fresh is =
    subst (λ (k : SeatData). IsServing harts workers turns worker waits k) (sym fresh) (record {
      worker_is = is;
      receipts = tt;
      in_turn = begins waits o.apart;
      waits_are = o.each;
      all = λ hart lt e. inl (o.all hart lt e);
    })

-- the first hart had its turn
pub takes : (harts workers turns worker hart : ℕ) (waits : List ℕ) (c d : SeatData) (r : Receipt) → IsServing harts workers turns worker (hart ∷ waits) c → ◌≡◌ {A = SeatData} d (record { worker = c.worker; receipts = c.receipts ++ r ∷ []; noted = c.noted })
    → r.quantum.hart ≡ hart → r.quantum.turns ≡ turns → IsServing harts workers turns worker (waits ++ hart ∷ []) d
takes harts workers turns worker hart waits c d r s is h t =
    subst (λ (k : SeatData). IsServing harts workers turns worker (waits ++ hart ∷ []) k) (sym is) (record {
      worker_is = s.worker_is;
      receipts = each_append (IsFor workers turns worker) c.receipts (r ∷ []) s.receipts ((t, ap (λ n. n % workers) h ∙ s.waits_are.0.1), tt);
      in_turn = subst (λ (l : List ℕ). AreTakingTurns l (waits ++ hart ∷ [])) (ap (λ n. harts_in c.receipts ++ n ∷ []) (sym h) ∙ sym (map-append (λ (x : Receipt). x.quantum.hart) c.receipts (r ∷ []))) (served (harts_in c.receipts) hart waits s.in_turn);
      waits_are = each_append (λ (n : ℕ). (n < harts) × (n % workers ≡ worker)) waits (hart ∷ []) s.waits_are.1 (s.waits_are.0, tt);
      all = λ n lt e. ⊎_elim
          (λ (i : In n (hart ∷ waits)). ⊎_elim (λ (same : n ≡ hart). inl (in_back n waits (hart ∷ []) (inl same))) (λ (i' : In n waits). inl (in_front n waits (hart ∷ []) i')) i)
          (λ (i : In n c.noted). inr i)
          (s.all n lt e);
    })

-- the first hart was halted
pub passes : (harts workers turns worker hart : ℕ) (waits : List ℕ) (c d : SeatData) → IsServing harts workers turns worker (hart ∷ waits) c → ◌≡◌ {A = SeatData} d (record { worker = c.worker; receipts = c.receipts; noted = c.noted ++ hart ∷ [] })
    → IsServing harts workers turns worker waits d
passes harts workers turns worker hart waits c d s is =
    subst (λ (k : SeatData). IsServing harts workers turns worker waits k) (sym is) (record {
      worker_is = s.worker_is;
      receipts = s.receipts;
      in_turn = leaves (harts_in c.receipts) hart waits s.in_turn;
      waits_are = s.waits_are.1;
      all = λ n lt e. ⊎_elim
          (λ (i : In n (hart ∷ waits)). ⊎_elim (λ (same : n ≡ hart). inr (in_back n c.noted (hart ∷ []) (inl same))) (λ (i' : In n waits). inl i') i)
          (λ (i : In n c.noted). inr (in_front n c.noted (hart ∷ []) i))
          (s.all n lt e);
    })

pub ends : (harts workers turns worker : ℕ) (c : SeatData) → IsServing harts workers turns worker [] c → HasServed harts workers turns worker c
ends harts workers turns worker c s = record {
  worker_is = s.worker_is;
  receipts = s.receipts;
  in_turn = s.in_turn.turns;
  all = λ hart lt e. ⊎_elim (λ (i : In hart []). absurd i) (λ (i : In hart c.noted). i) (s.all hart lt e);
}
