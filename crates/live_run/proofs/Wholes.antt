-- From what each worker did, to the whole list.
use Rattle.std.proofs.Common.{◌≡◌, ⊎_elim, ℕ, zero, suc, ◌+◌, ◌%◌, ◌<◌, ◌≤◌, ◌==◌, eq-eqb, ne_eqb, List, [], ◌∷◌, ◌++◌, length, length-append, Bool, true, false, refl, sym, ap, ◌∙◌, subst, arith, map}
use Rattle.std.specs.Prelude.{slice_index_or}
use native.Mathlib.Decide.{ℕ_discrete}
use mathlib.Core.Logic.{dite}
use Rattle.session_spec.specs.Inputs.{Inputs}
use Rattle.pn_types.specs.declared.quantum.Quantum.{Quantum}
use Rattle.live_run.specs.declared.view.Receipt.{Receipt}
use Rattle.live_run.specs.ByWorkers.{IsByWorkers, one_if, times}
use Rattle.live_run.specs.Serving.{AreServed, IsFor, HasServed, count, harts_in}
use Rattle.machine.specs.Cores.{In}
use Rattle.session_spec.specs.Work.{AreAllowed, Halted, IsWhole}
use Rattle.live_run.specs.Receipts.{receipt, receipts_of, with_if}
use Rattle.live_run.specs.Seats.{AreDealt, AreHalted, AreInOrder, SeatData, fresh_seat, fresh_seats}
use Rattle.std.specs.List.{AllByRecursion}

pub in_order : (harts workers turns k : ℕ) (cs : List SeatData) → AreServed harts workers turns k cs → AreInOrder k cs
in_order harts workers turns k [] s = tt
in_order harts workers turns k (c ∷ cs) s = (s.0.worker_is, in_order harts workers turns (suc k) cs s.1)

-- the seat of a worker
served_at : (harts workers turns k w : ℕ) (cs : List SeatData) (P : SeatData → Type 0) → AreServed harts workers turns k cs → AllByRecursion P cs → k ≤ w → w < k + length cs → (c : SeatData) × HasServed harts workers turns w c × P c
served_at harts workers turns k w [] P s p low high = absurd (omega arith)
served_at harts workers turns k w (c ∷ cs) P s p low high =
    dite (ℕ_discrete k w)
    (λ same. (c, subst (λ (n : ℕ). HasServed harts workers turns n c) same s.0, p.0))
    (λ other. served_at harts workers turns (suc k) w cs P s.1 p.1 (omega arith) (omega arith))

each_in : (P : ℕ → Type 0) (xs : List ℕ) (x : ℕ) → AllByRecursion P xs → In x xs → P x
each_in P [] x h i = absurd i
each_in P (y ∷ ys) x h i = ⊎_elim (λ (e : x ≡ y). subst P (sym e) h.0) (λ (r : In x ys). each_in P ys x h.1 r) i

each_split : {X : Type 0} (P : X → Type 0) (xs : List X) (y : X) (ys : List X) → AllByRecursion P (xs ++ y ∷ ys) → AllByRecursion P xs × P y × AllByRecursion P ys
each_split P [] y ys h = (tt, h.0, h.1)
each_split P (x ∷ xs) y ys h = let t = each_split P xs y ys h.1 in ((h.0, t.0), t.1, t.2)

pub whole_by : (inputs : Inputs) (quanta : List Quantum) (workers turns : ℕ) (cs : List SeatData) → 0 < workers → length cs ≡ workers → AreAllowed inputs quanta → AreServed inputs.settings.harts workers turns 0 cs → AreHalted inputs quanta cs → IsWhole inputs quanta
whole_by inputs quanta workers turns cs some all may s halted = record {
  allowed = may;
  ended = λ hart lt.
      let below : hart % workers < workers = omega arith in
      let t = served_at inputs.settings.harts workers turns 0 (hart % workers) cs (λ (c : SeatData). AllByRecursion (Halted inputs quanta) c.noted) s halted (omega arith) (omega arith) in
      each_in (Halted inputs quanta) t.0.noted hart t.2 (t.1.all hart lt refl);
}

-- the harts of the entries of a worker
abbrev if_mine : Bool → ℕ → List ℕ → List ℕ
if_mine true h hs = h ∷ hs
if_mine false h hs = hs

abbrev mine : ℕ → List Quantum → List ℕ
mine w [] = []
mine w (q ∷ qs) = if_mine (q.worker == w) q.hart (mine w qs)

with_if-harts : (b : Bool) (r : Receipt) (rs : List Receipt) → harts_in (with_if b r rs) ≡ if_mine b r.quantum.hart (harts_in rs)
with_if-harts true r rs = refl
with_if-harts false r rs = refl

harts_are : (w k : ℕ) (qs : List Quantum) → harts_in (receipts_of w k qs) ≡ mine w qs
harts_are w k [] = refl
harts_are w k (q ∷ qs) = with_if-harts (q.worker == w) (receipt k q) (receipts_of w (suc k) qs) ∙ ap (if_mine (q.worker == w) q.hart) (harts_are w (suc k) qs)

if_mine-append : (b : Bool) (h : ℕ) (hs gs : List ℕ) → if_mine b h (hs ++ gs) ≡ if_mine b h hs ++ gs
if_mine-append true h hs gs = refl
if_mine-append false h hs gs = refl

mine-append : (w : ℕ) (xs ys : List Quantum) → mine w (xs ++ ys) ≡ mine w xs ++ mine w ys
mine-append w [] ys = refl
mine-append w (x ∷ xs) ys = ap (if_mine (x.worker == w) x.hart) (mine-append w xs ys) ∙ if_mine-append (x.worker == w) x.hart (mine w xs) (mine w ys)

mine_first : (w : ℕ) (x : Quantum) (xs : List Quantum) → x.worker ≡ w → mine w (x ∷ xs) ≡ x.hart ∷ mine w xs
mine_first w x xs e = ap (λ b. if_mine b x.hart (mine w xs)) (eq-eqb x.worker w e)

abbrev IsRight : ℕ → ℕ → Quantum → Type 0
IsRight workers turns q = (q.turns ≡ turns) × (q.worker ≡ q.hart % workers)

other_hart : (b : Bool) (h g : ℕ) (hs : List ℕ) (n : ℕ) → (h == g) ≡ false → count g hs ≡ n → count g (if_mine b h hs) ≡ one_if (h == g) + n
other_hart true h g hs n e c = ap (λ k. one_if (h == g) + k) c
other_hart false h g hs n e c = c ∙ (let z : n ≡ 0 + n = omega arith in z) ∙ ap (λ b. one_if b + n) (sym e)

-- of the worker's harts, its entries are all that there are
mine_count : (workers turns w g : ℕ) (qs : List Quantum) → AllByRecursion (IsRight workers turns) qs → g % workers ≡ w → count g (mine w qs) ≡ times g qs
mine_count workers turns w g [] r e = refl
mine_count workers turns w g (q ∷ qs) r e = dite (ℕ_discrete q.hart g)
    (λ same. ap (count g) (mine_first w q qs (r.0.1 ∙ ap (λ h. h % workers) same ∙ e)) ∙ ap (λ k. one_if (q.hart == g) + k) (mine_count workers turns w g qs r.1 e))
    (λ other. other_hart (q.worker == w) q.hart g (mine w qs) (times g qs) (ne_eqb q.hart g other) (mine_count workers turns w g qs r.1 e))

if_his_tail : (P : Receipt → Type 0) (b : Bool) (r : Receipt) (rs : List Receipt) → AllByRecursion P (with_if b r rs) → AllByRecursion P rs
if_his_tail P true r rs h = h.1
if_his_tail P false r rs h = h

rightly : (workers turns n k : ℕ) (qs : List Quantum) → AllByRecursion (λ (q : Quantum). q.worker < n) qs → ((w : ℕ) → w < n → AllByRecursion (IsFor workers turns w) (receipts_of w k qs)) → AllByRecursion (IsRight workers turns) qs
rightly workers turns n k [] below h = tt
rightly workers turns n k (q ∷ qs) below h =
    let first = subst (λ b. AllByRecursion (IsFor workers turns q.worker) (with_if b (receipt k q) (receipts_of q.worker (suc k) qs))) (eq-eqb q.worker q.worker refl) (h q.worker below.0) in
    ((first.0.0, sym first.0.1), rightly workers turns n (suc k) qs below.1 (λ w lt. if_his_tail (IsFor workers turns w) (q.worker == w) (receipt k q) (receipts_of w (suc k) qs) (h w lt)))

pub by_workers : (harts workers turns from : ℕ) (entries : List Quantum) (cs : List SeatData) → 0 < workers → length cs ≡ workers → AreServed harts workers turns 0 cs → AreDealt from entries cs → IsByWorkers workers turns entries
by_workers harts workers turns from entries cs some all s d =
    let at : (w : ℕ) → w < workers → (c : SeatData) × HasServed harts workers turns w c × (c.receipts ≡ receipts_of c.worker from entries) = λ w lt. served_at harts workers turns 0 w cs (λ (c : SeatData). c.receipts ≡ receipts_of c.worker from entries) s d.receipts (omega arith) (omega arith) in
    let is : (w : ℕ) (lt : w < workers) → (at w lt).0.receipts ≡ receipts_of w from entries = λ w lt. (at w lt).2 ∙ ap (λ n. receipts_of n from entries) (at w lt).1.worker_is in
    let right : AllByRecursion (IsRight workers turns) entries = rightly workers turns workers from entries (subst (λ n. AllByRecursion (λ (q : Quantum). q.worker < n) entries) all d.workers) (λ w lt. subst (AllByRecursion (IsFor workers turns w)) (is w lt) (at w lt).1.receipts) in
    record {
      each = right;
      in_turn = λ a b c x y e same none hart his ne more.
          let w = x.hart % workers in
          let lt : x.hart % workers < workers = omega arith in
          let r = each_split (IsRight workers turns) (a ++ x ∷ b) y c (subst (AllByRecursion (IsRight workers turns)) e right) in
          let l = each_split (IsRight workers turns) a x b r.0 in
          let list : mine w entries ≡ (mine w a ++ x.hart ∷ mine w b) ++ x.hart ∷ mine w c =
          ap (mine w) e ∙ mine-append w (a ++ x ∷ b) (y ∷ c)
          ∙ (λ i. (mine-append w a (x ∷ b) ∙ ap (λ k. mine w a ++ k) (mine_first w x b l.1.1)) i ++ (mine_first w y c (r.1.1 ∙ ap (λ h. h % workers) (sym same)) ∙ ap (λ h. h ∷ mine w c) (sym same)) i) in
          let turn = (at w lt).1.in_turn (mine w a) (mine w b) (mine w c) x.hart (ap harts_in (is w lt) ∙ harts_are w from entries ∙ list) (mine_count workers turns w x.hart b l.2 refl ∙ none) hart ne
          (let k : count hart (mine w c) ≡ times hart c = mine_count workers turns w hart c r.2 his in omega arith) in
          sym (mine_count workers turns w hart b l.2 his) ∙ turn;
    }

pub length_fresh : (n : ℕ) → length (fresh_seats n) ≡ n
length_fresh zero = refl
length_fresh (suc n) = let t = length_fresh n in omega (arith, length-append (fresh_seats n) (fresh_seat n ∷ []))

index_front : {X : Type 0} (xs ys : List X) (i : ℕ) (d : X) → i < length xs → slice_index_or (xs ++ ys) i d ≡ slice_index_or xs i d
index_front [] ys i d lt = absurd (omega arith)
index_front (x ∷ xs) ys zero d lt = refl
index_front (x ∷ xs) ys (suc i) d lt = index_front xs ys i d (omega arith)

index_last : {X : Type 0} (xs : List X) (x d : X) (n : ℕ) → n ≡ length xs → slice_index_or (xs ++ x ∷ []) n d ≡ x
index_last [] x d zero e = refl
index_last [] x d (suc n) e = absurd (omega arith)
index_last (y ∷ xs) x d zero e = absurd (omega arith)
index_last (y ∷ xs) x d (suc n) e = index_last xs x d n (omega arith)

pub fresh_at : (n i : ℕ) (d : SeatData) → i < n → slice_index_or (fresh_seats n) i d ≡ fresh_seat i
fresh_at zero i d lt = absurd (omega arith)
fresh_at (suc n) i d lt = dite (ℕ_discrete i n)
    (λ same. index_last (fresh_seats n) (fresh_seat n) d i (same ∙ sym (length_fresh n)) ∙ ap fresh_seat (sym same))
    (λ other. index_front (fresh_seats n) (fresh_seat n ∷ []) i d (let t = length_fresh n in omega arith) ∙ fresh_at n i d (omega arith))

pub all_served : (harts workers turns k : ℕ) (cs : List SeatData) → ((i : ℕ) → i < length cs → (d : SeatData) → HasServed harts workers turns (k + i) (slice_index_or cs i d)) → AreServed harts workers turns k cs
all_served harts workers turns k [] h = tt
all_served harts workers turns k (c ∷ cs) h = (
  subst (λ n. HasServed harts workers turns n c) (omega arith) (h 0 (omega arith) c),
  all_served harts workers turns (suc k) cs (λ i lt d. subst (λ n. HasServed harts workers turns n (slice_index_or cs i d)) (omega arith) (h (suc i) (omega arith) d)),
)

pub index_map : {X Y : Type 0} (f : X → Y) (xs : List X) (i : ℕ) (d : X) → slice_index_or (map f xs) i (f d) ≡ f (slice_index_or xs i d)
index_map f [] i d = refl
index_map f (x ∷ xs) zero d = refl
index_map f (x ∷ xs) (suc i) d = index_map f xs i d
