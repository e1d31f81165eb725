-- What a counter's plan measures over a whole run: the positions of its word.
use Rattle.std.proofs.Common.{◌≡◌, ℕ, zero, suc, ◌+◌, ◌-◌, ◌%◌, ◌^◌, ◌<◌, ◌≤◌, List, [], ◌∷◌, ◌++◌, length, Option, Some, None, refl, sym, ap, ◌∙◌, arith}
use Rattle.std.specs.Prelude.{Bool, true, false, cond, ◌==◌, slice_get, slice_index}
use Rattle.std.specs.List.{range_with_len}
use Rattle.std.proofs.lemmas.Bool.{eqb-false, eqb-true, eq-eqb, ne_eqb}
use Rattle.std.proofs.Math.Seq.{take-length}
use Rattle.std.proofs.lemmas.List.Sums.{sum_by-cons}
use Rattle.rv_word.specs.Plain.{Words, Plain, PlainHart, plain}
use Rattle.rv_word.specs.Registers.{arguments_of}
use Rattle.rv_exec.specs.Run.{Position, executions, position_of, trace_from}
use Rattle.rv_exec.proofs.Runs.{length-plain}
use Rattle.pn_types.specs.declared.plan.Site.{Site}
use Rattle.frame_walk.specs.Openings.{entry_statements, of_calls, of_caller, of_pc, opening}
use Rattle.frame_walk.specs.Walks.{Walk, walk}
use Rattle.tramp_spec.specs.Values.{values_after}
use Rattle.machine.specs.Measures.{Level, level, level_at, measure, measure_of, measured, opening_level, passed_by, site_values, difference}
use Rattle.block_count.specs.Counters.{one_more, passes, plan_at}

-- one where the test holds
abbrev pub one_if : Bool → ℕ
one_if b = cond b 1 0

abbrev pub at_point : ℕ → Option PlainHart → ℕ
at_point a None = 0
at_point a (Some x) = one_if (x.pc == a)

-- the positions of hart h at a word
abbrev pub of_hart : Words → ℕ → ℕ → List ℕ → Plain → ℕ
of_hart t a h [] s = 0
of_hart t a h (g ∷ turns) s = cond (g == h) (at_point a (slice_get s.harts h)) 0 + of_hart t a h turns (plain t g s)

-- ---- without Opens a variable begins with its own value

calls_none : (calls : List ℕ) → of_calls [] calls ≡ []
calls_none [] = refl
calls_none (a ∷ calls) = ap (λ ss. ss ++ []) (calls_none calls)

caller_none : (pc : ℕ) (a : Option ℕ) → of_caller [] pc a ≡ []
caller_none pc None = refl
caller_none pc (Some a) = refl

entered_none : (w : Option Walk) → entry_statements [] w ≡ []
entered_none None = refl
entered_none (Some w) = ap (λ ss. ss ++ (of_caller [] w.pc w.caller ++ of_pc [] w.pc)) (calls_none w.calls) ∙ ap (λ ss. ss ++ of_pc [] w.pc) (caller_none w.pc w.caller)

pub opens_at_0 : (w : Option Walk) → opening [] w passes ≡ 0 ∷ []
opens_at_0 w = ap (λ ss. values_after ss [] (0 ∷ [])) (entered_none w)

-- ---- one hart

passed_by_is : (a n : ℕ) (o : Option PlainHart) (v : Level) → v.values ≡ n ∷ [] → n < 2 ^ 64 → (passed_by o (plan_at a) v).values ≡ ((n + at_point a o) % 2 ^ 64) ∷ []
passed_by_is a n None v e l = let z : n ≡ (n + 0) % 2 ^ 64 = omega arith in e ∙ ap (λ m. m ∷ []) z
passed_by_is a n (Some x) v e l = by (a == x.pc) refl
  where
    site : Site
    site = record { at = a; stmts = one_more }

    by : (b : Bool) → (a == x.pc) ≡ b → (passed_by (Some x) (plan_at a) v).values ≡ ((n + at_point a (Some x)) % 2 ^ 64) ∷ []
    by true i =
        let same : (x.pc == a) ≡ true = eq-eqb x.pc a (sym (eqb-true a x.pc i)) in
        ap (λ b. site_values (cond b (Some (record { at = a; stmts = one_more })) None) (arguments_of x.regs) v.values) i
        ∙ ap (λ vs. site_values (Some (record { at = a; stmts = one_more })) (arguments_of x.regs) vs) e
        ∙ ap (λ b. ((n + one_if b) % 2 ^ 64) ∷ []) (sym same)
    by false i =
        let other : (x.pc == a) ≡ false = ne_eqb x.pc a (λ q. eqb-false a x.pc i (sym q)) in
        let z : n ≡ (n + 0) % 2 ^ 64 = omega arith in
        ap (λ b. site_values (cond b (Some (record { at = a; stmts = one_more })) None) (arguments_of x.regs) v.values) i
        ∙ e ∙ ap (λ m. m ∷ []) z
        ∙ ap (λ b. ((n + one_if b) % 2 ^ 64) ∷ []) (sym other)

level_is : (t : Words) (a h n : ℕ) (turns : List ℕ) (s : Plain) (v : Level) → v.values ≡ n ∷ [] → n < 2 ^ 64 → (level t (plan_at a) h turns s v).values ≡ ((n + of_hart t a h turns s) % 2 ^ 64) ∷ []
level_is t a h n [] s v e l = let z : n ≡ (n + 0) % 2 ^ 64 = omega arith in e ∙ ap (λ m. m ∷ []) z
level_is t a h n (g ∷ turns) s v e l = by (g == h) (λ m w i k. level_is t a h m turns (plain t g s) w i k)
  where
    by : (b : Bool) → ((m : ℕ) (w : Level) → w.values ≡ m ∷ [] → m < 2 ^ 64 → (level t (plan_at a) h turns (plain t g s) w).values ≡ ((m + of_hart t a h turns (plain t g s)) % 2 ^ 64) ∷ [])
        → (level t (plan_at a) h turns (plain t g s) (cond b (passed_by (slice_get s.harts h) (plan_at a) v) v)).values
        ≡ ((n + (cond b (at_point a (slice_get s.harts h)) 0 + of_hart t a h turns (plain t g s))) % 2 ^ 64) ∷ []
    by true rest =
        let one = at_point a (slice_get s.harts h) in
        let more = of_hart t a h turns (plain t g s) in
        let z : ((n + one) % 2 ^ 64 + more) % 2 ^ 64 ≡ (n + (one + more)) % 2 ^ 64 = omega arith in
        rest ((n + one) % 2 ^ 64) (passed_by (slice_get s.harts h) (plan_at a) v) (passed_by_is a n (slice_get s.harts h) v e l) (omega arith) ∙ ap (λ m. m ∷ []) z
    by false rest = let more = of_hart t a h turns (plain t g s) in let z : n + more ≡ n + (0 + more) = omega arith in rest n v e l ∙ ap (λ m. (m % 2 ^ 64) ∷ []) z

hart_measured : (t : Words) (a h : ℕ) (turns : List ℕ) (s : Plain) → measure_of t (plan_at a) 0 0 (length turns) h turns s ≡ of_hart t a h turns s % 2 ^ 64
hart_measured t a h turns s =
    let first = opening_level (plan_at a) s h in
    let zero_first : first.values ≡ 0 ∷ [] = opens_at_0 (walk s h) in
    let later = level_is t a h 0 turns s first zero_first (omega arith) in
    let more = of_hart t a h turns s in
    let z : ((0 + more) % 2 ^ 64 + (2 ^ 64 - 0 % 2 ^ 64)) % 2 ^ 64 ≡ more % 2 ^ 64 = omega arith in
    ap (λ vs. difference (slice_index vs 0) (measured (plan_at a) (level_at t (plan_at a) h 0 (length turns) turns s))) zero_first
    ∙ ap (λ gs. difference 0 (measured (plan_at a) (level t (plan_at a) h gs s first))) (take-length turns)
    ∙ ap (λ vs. difference 0 (slice_index vs 0)) later ∙ z

-- ---- all harts together

-- the positions of these harts
abbrev pub of_harts : Words → ℕ → List ℕ → List ℕ → Plain → ℕ
of_harts t a [] turns s = 0
of_harts t a (h ∷ harts) turns s = of_hart t a h turns s + of_harts t a harts turns s

harts_measured : (t : Words) (a : ℕ) (harts turns : List ℕ) (s : Plain) → measure t (plan_at a) harts 0 0 (length turns) turns s ≡ of_harts t a harts turns s % 2 ^ 64
harts_measured t a [] turns s = refl
harts_measured t a (h ∷ harts) turns s =
    let one = of_hart t a h turns s in
    let more = of_harts t a harts turns s in
    let z : (one % 2 ^ 64 + more % 2 ^ 64) % 2 ^ 64 ≡ (one + more) % 2 ^ 64 = omega arith in
    ap (λ m. (m + measure t (plan_at a) harts 0 0 (length turns) turns s) % 2 ^ 64) (hart_measured t a h turns s) ∙ ap (λ m. (one % 2 ^ 64 + m) % 2 ^ 64) (harts_measured t a harts turns s) ∙ z

-- of the first turn
abbrev pub first_of : ℕ → ℕ → List ℕ → Plain → ℕ
first_of a g [] s = 0
first_of a g (h ∷ harts) s = cond (g == h) (at_point a (slice_get s.harts h)) 0 + first_of a g harts s

harts_split : (t : Words) (a g : ℕ) (harts turns : List ℕ) (s : Plain) → of_harts t a harts (g ∷ turns) s ≡ first_of a g harts s + of_harts t a harts turns (plain t g s)
harts_split t a g [] turns s = refl
harts_split t a g (h ∷ harts) turns s =
    let one = cond (g == h) (at_point a (slice_get s.harts h)) 0 in
    let more = of_hart t a h turns (plain t g s) in
    let rest = harts_split t a g harts turns s in
    let z : one + more + (first_of a g harts s + of_harts t a harts turns (plain t g s)) ≡ one + first_of a g harts s + (more + of_harts t a harts turns (plain t g s)) = omega arith in
    ap (λ m. one + more + m) rest ∙ z

-- no hart of a range is one before it
first_before : (a g b n : ℕ) (s : Plain) → g < b → first_of a g (range_with_len b n) s ≡ 0
first_before a g b zero s l = refl
first_before a g b (suc n) s l =
    ap (λ c. cond c (at_point a (slice_get s.harts b)) 0 + first_of a g (range_with_len (b + 1) n) s) (ne_eqb g b (λ e. omega arith))
    ∙ ap (λ m. 0 + m) (first_before a g (b + 1) n s (omega arith))

past_get : {A : Type 0} (xs : List A) (g : ℕ) → length xs ≤ g → slice_get xs g ≡ None
past_get [] g l = refl
past_get (x ∷ xs) zero l = absurd (omega arith)
past_get (x ∷ xs) (suc g) l = past_get xs g (omega arith)

-- the hart is one of the range, or there is no such hart
first_is : (a g b n : ℕ) (s : Plain) → b ≤ g → length s.harts ≤ b + n → first_of a g (range_with_len b n) s ≡ at_point a (slice_get s.harts g)
first_is a g b zero s l m = sym (ap (at_point a) (past_get s.harts g (omega arith)))
first_is a g b (suc n) s l m = by (g == b) refl (λ k. first_is a g (b + 1) n s k (omega arith))
  where
    by : (c : Bool) → (g == b) ≡ c → (b + 1 ≤ g → first_of a g (range_with_len (b + 1) n) s ≡ at_point a (slice_get s.harts g))
        → cond (g == b) (at_point a (slice_get s.harts b)) 0 + first_of a g (range_with_len (b + 1) n) s ≡ at_point a (slice_get s.harts g)
    by true i rest =
        let same = eqb-true g b i in
        let one = at_point a (slice_get s.harts b) in
        let z : one + 0 ≡ one = omega arith in
        ap (λ c. cond c one 0 + first_of a g (range_with_len (b + 1) n) s) i
        ∙ ap (λ m. one + m) (first_before a g (b + 1) n s (omega arith)) ∙ z ∙ ap (λ j. at_point a (slice_get s.harts j)) (sym same)
    by false i rest =
        let other = eqb-false g b i in
        let z : 0 + first_of a g (range_with_len (b + 1) n) s ≡ first_of a g (range_with_len (b + 1) n) s = omega arith in
        ap (λ c. cond c (at_point a (slice_get s.harts b)) 0 + first_of a g (range_with_len (b + 1) n) s) i ∙ z ∙ rest (omega arith)

position_counts : (a g : ℕ) (o : Option PlainHart) (rest : List Position) → executions a (position_of g o rest) ≡ at_point a o + executions a rest
position_counts a g None rest = let z : executions a rest ≡ 0 + executions a rest = omega arith in z
position_counts a g (Some x) rest = sum_by-cons (λ (q : Position). cond (q.pc == a) 1 0) (record { hart = g; pc = x.pc; arguments = arguments_of x.regs }) rest

-- the positions of all harts are those of the trace
pub all_positions : (t : Words) (a n : ℕ) (turns : List ℕ) (s : Plain) → length s.harts ≡ n → of_harts t a (range_with_len 0 n) turns s ≡ executions a (trace_from t turns s)
all_positions t a n [] s many = none (range_with_len 0 n)
  where
    none : (harts : List ℕ) → of_harts t a harts [] s ≡ 0
    none [] = refl
    none (h ∷ harts) = ap (λ m. 0 + m) (none harts)
all_positions t a n (g ∷ turns) s many =
    let rest = all_positions t a n turns (plain t g s) (length-plain t g s ∙ many) in
    harts_split t a g (range_with_len 0 n) turns s
    ∙ ap (λ m. m + of_harts t a (range_with_len 0 n) turns (plain t g s)) (first_is a g 0 n s (omega arith) (omega arith))
    ∙ ap (λ m. at_point a (slice_get s.harts g) + m) rest ∙ sym (position_counts a g (slice_get s.harts g) (trace_from t turns (plain t g s)))

-- The plan measures the positions of its word.
pub measures_positions : (t : Words) (a n : ℕ) (turns : List ℕ) (s : Plain) → length s.harts ≡ n → measure t (plan_at a) (range_with_len 0 n) 0 0 (length turns) turns s ≡ executions a (trace_from t turns s) % 2 ^ 64
measures_positions t a n turns s many = harts_measured t a (range_with_len 0 n) turns s ∙ ap (λ m. m % 2 ^ 64) (all_positions t a n turns s many)
