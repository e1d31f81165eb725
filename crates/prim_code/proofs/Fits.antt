-- An act on the slots of its variable does what it does to the variable's value, and keeps a timer's reading.
use Rattle.std.proofs.Common.{◌≡◌, ℕ, suc, ◌+◌, ◌-◌, ◌%◌, ◌^◌, ◌<◌, ◌≤◌, Bool, true, false, List, length, refl, sym, ap, ◌∙◌, arith, ⊎_elim}
use Rattle.std.specs.Prelude.{slice_index, slice_set, ◌⊎◌, ◌==◌, if◌then◌else◌}
use Rattle.std.proofs.lemmas.Bool.{eqb-true, eqb-false, true≢false}
use Rattle.std.proofs.lemmas.List.{get_or-set_same, get_or-set_other, length-set}
use Rattle.pn_types.specs.declared.plan.Act.{Act}
use Rattle.pn_types.specs.declared.plan.Act.TheVariants.{Up, Down, Put, Start, Stop}
use Rattle.rv_word.specs.Values.{wrap}
use Rattle.tramp_spec.specs.Banks.{bank_len}
use Rattle.tramp_spec.specs.Slots.{running}
use Rattle.tramp_spec.specs.Statements.{minus_one}
use Rattle.prim_code.proofs.Effects.{bank_on, starts_set, sum_set}

-- a place stands for the value v, n more starts don't wrap it, and a timer reads r
abbrev pub FitsPlace : Bool → (s n v r ticks : ℕ) → List ℕ → Type 0
FitsPlace false s n v r ticks k = (slice_index k s ≡ v) × (v < 2 ^ 64)
FitsPlace true s n v r ticks k = (slice_index k (s + 1) ≡ v) × (v + n < 2 ^ 64) × (wrap (slice_index k s + running v ticks) ≡ r)

-- starts and stops are of timers, the others of counters
abbrev pub Suits : Act → Bool → Type 0
Suits (Up v) timer = timer ≡ false
Suits (Down v) timer = timer ≡ false
Suits (Put v n) timer = (timer ≡ false) × (n < 2 ^ 31)
Suits (Start v) timer = timer ≡ true
Suits (Stop v) timer = timer ≡ true

-- what an act makes of its variable's value
abbrev pub value_on : Act → ℕ → ℕ
value_on (Up v) n = (n + 1) % 2 ^ 64
value_on (Down v) n = n - 1
value_on (Put v m) n = m
value_on (Start v) n = n + 1
value_on (Stop v) n = n - 1

-- either way
pub if_both : {A : Type 0} (P : A → Type 0) (b : Bool) (x y : A) → (b ≡ true → P x) → (b ≡ false → P y) → P (if b then x else y)
if_both P true x y f g = f refl
if_both P false x y f g = g refl

other : (k : List ℕ) (s v q : ℕ) → (q ≡ s → ⊥) → slice_index (slice_set k s v) q ≡ slice_index k q
other k s v q n = get_or-set_other k s q v 0 n

-- a doubleword that is no slot of the variable
abbrev Beside : ℕ → ℕ → ℕ → Type 0
Beside s w q = (q < s) ⊎ (s + w ≤ q)

pub act_leaves : (a : Act) (timer : Bool) (s ticks q : ℕ) (arguments k : List ℕ) → Suits a timer → Beside s (if timer then 2 else 1) q → slice_index (bank_on a s ticks arguments k) q ≡ slice_index k q
act_leaves (Up v) true s ticks q arguments k u b = absurd (true≢false u)
act_leaves (Down v) true s ticks q arguments k u b = absurd (true≢false u)
act_leaves (Put v n) true s ticks q arguments k u b = absurd (true≢false u.0)
act_leaves (Start v) false s ticks q arguments k u b = absurd (true≢false (sym u))
act_leaves (Stop v) false s ticks q arguments k u b = absurd (true≢false (sym u))
act_leaves (Up v) false s ticks q arguments k u b = other k s (wrap (slice_index k s + 1)) q (λ e. ⊎_elim (λ l. omega arith) (λ l. omega arith) b)
act_leaves (Down v) false s ticks q arguments k u b =
    if_both (λ m. slice_index m q ≡ slice_index k q) (slice_index k s == 0) k _ (λ z. refl) (λ z. other k s (wrap (slice_index k s + minus_one)) q (λ e. ⊎_elim (λ l. omega arith) (λ l. omega arith) b))
act_leaves (Put v n) false s ticks q arguments k u b = other k s n q (λ e. ⊎_elim (λ l. omega arith) (λ l. omega arith) b)
act_leaves (Start v) true s ticks q arguments k u b =
    let n : q ≡ s → ⊥ = λ e. ⊎_elim (λ l. omega arith) (λ l. omega arith) b in
    let m : q ≡ s + 1 → ⊥ = λ e. ⊎_elim (λ l. omega arith) (λ l. omega arith) b in
    let w = wrap (slice_index k (s + 1) + 1) in
    let one = other k (s + 1) w q m in
    if_both (λ m. slice_index m q ≡ slice_index k q) (wrap (w + minus_one) == 0) (sum_set s (starts_set s k w) (2 ^ 64 - ticks)) (starts_set s k w) (λ z. other (starts_set s k w) s _ q n ∙ one) (λ z. one)
act_leaves (Stop v) true s ticks q arguments k u b =
    let n : q ≡ s → ⊥ = λ e. ⊎_elim (λ l. omega arith) (λ l. omega arith) b in
    let m : q ≡ s + 1 → ⊥ = λ e. ⊎_elim (λ l. omega arith) (λ l. omega arith) b in
    let w = wrap (slice_index k (s + 1) + minus_one) in
    let one = other k (s + 1) w q m in
    if_both (λ m. slice_index m q ≡ slice_index k q) (slice_index k (s + 1) == 0) k (if w == 0 then sum_set s (starts_set s k w) ticks else starts_set s k w) (λ z. refl)
    (λ z. if_both (λ m. slice_index m q ≡ slice_index k q) (w == 0) (sum_set s (starts_set s k w) ticks) (starts_set s k w) (λ y. other (starts_set s k w) s _ q n ∙ one) (λ y. one))

pub act_length : (a : Act) (s ticks : ℕ) (arguments k : List ℕ) → length (bank_on a s ticks arguments k) ≡ length k
act_length (Up v) s ticks arguments k = length-set k s (wrap (slice_index k s + 1))
act_length (Down v) s ticks arguments k = if_both (λ m. length m ≡ length k) (slice_index k s == 0) k _ (λ z. refl) (λ z. length-set k s _)
act_length (Put v n) s ticks arguments k = length-set k s n
act_length (Start v) s ticks arguments k =
    let w = wrap (slice_index k (s + 1) + 1) in
    if_both (λ m. length m ≡ length k) (wrap (w + minus_one) == 0) (sum_set s (starts_set s k w) (2 ^ 64 - ticks)) (starts_set s k w) (λ z. length-set _ s _ ∙ length-set k (s + 1) _) (λ z. length-set k (s + 1) _)
act_length (Stop v) s ticks arguments k =
    let w = wrap (slice_index k (s + 1) + minus_one) in
    if_both (λ m. length m ≡ length k) (slice_index k (s + 1) == 0) k (if w == 0 then sum_set s (starts_set s k w) ticks else starts_set s k w) (λ z. refl)
    (λ z. if_both (λ m. length m ≡ length k) (w == 0) (sum_set s (starts_set s k w) ticks) (starts_set s k w) (λ y. length-set _ s _ ∙ length-set k (s + 1) _) (λ y. length-set k (s + 1) _))

-- numbers
raised : (v n : ℕ) → v + suc n < 2 ^ 64 → wrap (v + 1) ≡ v + 1
raised v n h = omega arith

back_down : (v n : ℕ) → v + suc n < 2 ^ 64 → wrap (wrap (v + 1) + minus_one) ≡ v
back_down v n h = omega arith

lowered : (v : ℕ) → v < 2 ^ 64 → (v ≡ 0 → ⊥) → wrap (v + minus_one) ≡ v - 1
lowered v h n = omega arith

began : (sum ticks r : ℕ) → ticks < 2 ^ 64 → wrap (sum + 0) ≡ r → wrap (wrap (sum + (2 ^ 64 - ticks)) + ticks) ≡ r
began sum ticks r h e = omega arith

ended : (sum ticks r : ℕ) → wrap (sum + ticks) ≡ r → wrap (wrap (sum + ticks) + 0) ≡ r
ended sum ticks r e = omega arith

runs : (v ticks : ℕ) → (v ≡ 0 → ⊥) → running v ticks ≡ ticks
runs v ticks n = if_both (λ t. t ≡ ticks) (v == 0) 0 ticks (λ z. absurd (n (eqb-true v 0 z))) (λ z. refl)

-- a timer's two slots after a write of its number, and of its sum
number_set : (k : List ℕ) (s w : ℕ) → length k ≡ bank_len → s + 1 < bank_len → slice_index (starts_set s k w) (s + 1) ≡ w
number_set k s w e l = get_or-set_same k (s + 1) w 0 (omega arith)

both_set : (k : List ℕ) (s w u : ℕ) → length k ≡ bank_len → s + 1 < bank_len → (slice_index (slice_set (starts_set s k w) s u) (s + 1) ≡ w) × (slice_index (slice_set (starts_set s k w) s u) s ≡ u)
both_set k s w u e l =
    let n = length-set k (s + 1) w in
    (other (starts_set s k w) s u (s + 1) (λ z. omega arith) ∙ number_set k s w e l, get_or-set_same (starts_set s k w) s u 0 (omega arith))

-- a start
started : (s n v r ticks : ℕ) (k : List ℕ) → length k ≡ bank_len → s + 1 < bank_len → ticks < 2 ^ 64 → FitsPlace true s (suc n) v r ticks k
    → FitsPlace true s n (v + 1) r ticks (if wrap (wrap (slice_index k (s + 1) + 1) + minus_one) == 0 then sum_set s (starts_set s k (wrap (slice_index k (s + 1) + 1))) (2 ^ 64 - ticks) else starts_set s k (wrap (slice_index k (s + 1) + 1)))
started s n v r ticks k e l h f =
    let q = f.0 in
    let b = f.1 in
    let w = wrap (slice_index k (s + 1) + 1) in
    let t : wrap (w + minus_one) ≡ v = ap (λ a. wrap (wrap (a + 1) + minus_one)) q ∙ back_down v n b in
    let is : w ≡ v + 1 = ap (λ a. wrap (a + 1)) q ∙ raised v n b in
    let one = runs (v + 1) ticks (λ z. omega arith) in
    let old = other k (s + 1) w s (λ y. omega arith) in
    if_both (FitsPlace true s n (v + 1) r ticks) (wrap (w + minus_one) == 0) (sum_set s (starts_set s k w) (2 ^ 64 - ticks)) (starts_set s k w)
    (λ z.
    let none : v ≡ 0 = sym t ∙ eqb-true (wrap (w + minus_one)) 0 z in
    let o = both_set k s w (wrap (slice_index (starts_set s k w) s + (2 ^ 64 - ticks))) e l in (
      o.0 ∙ is,
      omega arith,
      ap (λ a. wrap (a + running (v + 1) ticks)) (o.1 ∙ ap (λ a. wrap (a + (2 ^ 64 - ticks))) old)
          ∙ (ap (λ a. wrap (wrap (slice_index k s + (2 ^ 64 - ticks)) + a)) one ∙ began (slice_index k s) ticks r h (ap (λ a. wrap (slice_index k s + running a ticks)) (sym none) ∙ f.2)),
    ))
    (λ z.
    let some : v ≡ 0 → ⊥ = λ y. eqb-false (wrap (w + minus_one)) 0 z (t ∙ y) in
    (number_set k s w e l ∙ is, omega arith, ap (λ a. wrap (a + running (v + 1) ticks)) old ∙ (ap (λ a. wrap (slice_index k s + a)) (one ∙ sym (runs v ticks some)) ∙ f.2)))

-- a stop
stopped : (s n v r ticks : ℕ) (k : List ℕ) → length k ≡ bank_len → s + 1 < bank_len → FitsPlace true s (suc n) v r ticks k
    → FitsPlace true s n (v - 1) r ticks (if slice_index k (s + 1) == 0 then k else if wrap (slice_index k (s + 1) + minus_one) == 0 then sum_set s (starts_set s k (wrap (slice_index k (s + 1) + minus_one))) ticks else starts_set s k (wrap (slice_index k (s + 1) + minus_one)))
stopped s n v r ticks k e l f =
    let q = f.0 in
    let b = f.1 in
    let w = wrap (slice_index k (s + 1) + minus_one) in
    if_both (FitsPlace true s n (v - 1) r ticks) (slice_index k (s + 1) == 0) k (if w == 0 then sum_set s (starts_set s k w) ticks else starts_set s k w)
    (λ z.
    let none : v ≡ 0 = sym q ∙ eqb-true (slice_index k (s + 1)) 0 z in
    let same : v - 1 ≡ v = omega arith in
    (q ∙ sym same, omega arith, ap (λ a. wrap (slice_index k s + running a ticks)) same ∙ f.2))
    (λ z.
    let some : v ≡ 0 → ⊥ = λ y. eqb-false (slice_index k (s + 1)) 0 z (q ∙ y) in
    let is : w ≡ v - 1 = ap (λ a. wrap (a + minus_one)) q ∙ lowered v (omega arith) some in
    let old = other k (s + 1) w s (λ y. omega arith) in
    let run = runs v ticks some in
    if_both (FitsPlace true s n (v - 1) r ticks) (w == 0) (sum_set s (starts_set s k w) ticks) (starts_set s k w)
    (λ y.
    let last : v - 1 ≡ 0 = sym is ∙ eqb-true w 0 y in
    let o = both_set k s w (wrap (slice_index (starts_set s k w) s + ticks)) e l in (
      o.0 ∙ is,
      omega arith,
      ap (λ a. wrap (a + running (v - 1) ticks)) (o.1 ∙ ap (λ a. wrap (a + ticks)) old)
          ∙ (ap (λ a. wrap (wrap (slice_index k s + ticks) + running a ticks)) last ∙ ended (slice_index k s) ticks r (ap (λ a. wrap (slice_index k s + a)) (sym run) ∙ f.2)),
    ))
    (λ y.
    let more : v - 1 ≡ 0 → ⊥ = λ i. eqb-false w 0 y (is ∙ i) in
    (number_set k s w e l ∙ is, omega arith, ap (λ a. wrap (a + running (v - 1) ticks)) old ∙ (ap (λ a. wrap (slice_index k s + a)) (runs (v - 1) ticks more ∙ sym run) ∙ f.2))))

-- an act on its own place
pub own : (a : Act) (timer : Bool) (s n v r ticks : ℕ) (arguments k : List ℕ) → Suits a timer → length k ≡ bank_len → s + (if timer then 2 else 1) ≤ bank_len → ticks < 2 ^ 64
    → FitsPlace timer s (suc n) v r ticks k → FitsPlace timer s n (value_on a v) r ticks (bank_on a s ticks arguments k)
own (Up x) true s n v r ticks arguments k u e l h f = absurd (true≢false u)
own (Down x) true s n v r ticks arguments k u e l h f = absurd (true≢false u)
own (Put x w) true s n v r ticks arguments k u e l h f = absurd (true≢false u.0)
own (Start x) false s n v r ticks arguments k u e l h f = absurd (true≢false (sym u))
own (Stop x) false s n v r ticks arguments k u e l h f = absurd (true≢false (sym u))
own (Up x) false s n v r ticks arguments k u e l h f = (get_or-set_same k s _ 0 (omega arith) ∙ ap (λ a. wrap (a + 1)) f.0, omega arith)
own (Down x) false s n v r ticks arguments k u e l h f =
    let b = f.1 in
    let q = f.0 in
    if_both (λ m. (slice_index m s ≡ v - 1) × (v - 1 < 2 ^ 64)) (slice_index k s == 0) k _
    (λ z. let i = eqb-true (slice_index k s) 0 z in (omega arith, omega arith))
    (λ z. let i = eqb-false (slice_index k s) 0 z in (get_or-set_same k s _ 0 (omega arith) ∙ (ap (λ a. wrap (a + minus_one)) q ∙ lowered v b (λ w. i (q ∙ w))), omega arith))
own (Put x w) false s n v r ticks arguments k u e l h f = let b = u.1 in (get_or-set_same k s w 0 (omega arith), omega arith)
own (Start x) true s n v r ticks arguments k u e l h f = started s n v r ticks k e (omega arith) h f
own (Stop x) true s n v r ticks arguments k u e l h f = stopped s n v r ticks k e (omega arith) f
