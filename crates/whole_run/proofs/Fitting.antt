-- Quanta fit exactly where they are a whole run.
use Rattle.std.proofs.Common.{◌≡◌, ◌⊎◌, ℕ, zero, suc, ◌+◌, ◌<◌, ◌≤◌, ◌∙◌, List, [], ◌∷◌, length, Option, Some, None, refl, ap, arith, inl, inr}
use Rattle.std.specs.Prelude.{Bool, true, false, ◌==◌, ◌&&◌, ◌||◌, not, nat_lt, if◌then◌else◌}
use Rattle.std.specs.List.{AllByRecursion, list_any, range_with_len}
use Rattle.std.proofs.lemmas.Bool.{eqb-true, ltb-false, ltb-true}
use Rattle.pn_types.specs.declared.limits.TheConstants.{MAX_QUANTA}
use Rattle.quanta_log.specs.Spelling.{IsQuantum}
use Rattle.pn_types.specs.declared.quantum.Quantum.{Quantum}
use Rattle.machine.specs.Turns.{is_runnable}
use Rattle.session_spec.specs.Inputs.{Inputs}
use Rattle.session_spec.specs.States.{SessionState, State}
use Rattle.session_spec.specs.Work.{AreAllowedFrom, Halted, IsAllowed, IsWhole, first_state, after_quantum, after_quanta}
use Rattle.whole_run.specs.declared.misfit.Misfit.{Misfit}
use Rattle.whole_run.specs.declared.misfit.Misfit.TheVariants.{NotRunnable, OtherOwns, Unfinished}
use Rattle.whole_run.proofs.Following.{fits}
use Rattle.whole_run.specs.Replayed.{WholeFit, goes_on, misfit_at, misfit_from, misfit_of, owns_of}

-- ---- one quantum

no_misfit : (b d : Bool) (x y : Misfit) → (if not b then Some x else if d then None else Some y) ≡ None → (b ≡ true) × (d ≡ true)
no_misfit true true x y e = (refl, refl)
no_misfit true false x y e = absurd (cc)
no_misfit false d x y e = absurd (cc)

allowed : (i : Inputs) (n : ℕ) (k : SessionState) (q : Quantum) → IsQuantum i.settings.harts q → misfit_at i n k q ≡ None → IsAllowed i k q
allowed i n k q r e =
    let both = no_misfit (is_runnable k.machine.core q.hart) (q.owns == owns_of i k q) (NotRunnable n q.hart) (OtherOwns n q.owns (owns_of i k q)) e in
    record {
      worker = r.worker;
      hart = r.hart;
      some = r.turns.0;
      few = r.turns.1;
      runnable = both.0;
      owns = ap (λ o. record q { owns = o }) (eqb-true q.owns (owns_of i k q) both.1);
    }

allowed_fits : (i : Inputs) (n : ℕ) (k : SessionState) (q : Quantum) → IsAllowed i k q → misfit_at i n k q ≡ None
allowed_fits i n k q a = fits i n k q a.runnable (ap (λ (x : Quantum). x.owns) a.owns)

-- ---- all of them

abbrev first : Option Misfit → Option Misfit → Option Misfit
first o rest = elim o [ Some misfit ↦ Some misfit | None ↦ rest ]

either : (o rest : Option Misfit) → first o rest ≡ None → (o ≡ None) × (rest ≡ None)
either None rest e = (refl, e)
either (Some misfit) rest e = absurd (cc)

neither : (o rest : Option Misfit) → o ≡ None → rest ≡ None → first o rest ≡ None
neither None rest e f = f
neither (Some misfit) rest e f = absurd (cc)

all_allowed : (i : Inputs) (n : ℕ) (s : State) (quanta : List Quantum) → AllByRecursion (IsQuantum i.settings.harts) quanta → misfit_from i n s quanta ≡ None → AreAllowedFrom i s quanta
all_allowed i n s [] r e = tt
all_allowed i n s (q ∷ quanta) r e =
    let both = either (misfit_at i n s.kept q) (misfit_from i (n + 1) (after_quantum i q.hart q.turns s) quanta) e in
    (allowed i n s.kept q r.0 both.0, all_allowed i (n + 1) (after_quantum i q.hart q.turns s) quanta r.1 both.1)

all_fit : (i : Inputs) (n : ℕ) (s : State) (quanta : List Quantum) → AreAllowedFrom i s quanta → misfit_from i n s quanta ≡ None
all_fit i n s [] a = refl
all_fit i n s (q ∷ quanta) a =
    neither (misfit_at i n s.kept q) (misfit_from i (n + 1) (after_quantum i q.hart q.turns s) quanta) (allowed_fits i n s.kept q a.0) (all_fit i (n + 1) (after_quantum i q.hart q.turns s) quanta a.1)

-- ---- the end

or_false : (b d : Bool) → (b || d) ≡ false → (b ≡ false) × (d ≡ false)
or_false true d e = absurd (cc)
or_false false d e = (refl, e)

-- none of the numbers passes the test
none_at : (p : ℕ → Bool) (a n d : ℕ) → list_any p (range_with_len a n) ≡ false → d < n → p (a + d) ≡ false
none_at p a zero d e l = absurd (omega arith)
none_at p a (suc n) zero e l =
    let here : a + 0 ≡ a = omega arith in
    ap p here ∙ (or_false (p a) (list_any p (range_with_len (a + 1) n)) e).0
none_at p a (suc n) (suc d) e l =
    let there : a + suc d ≡ a + 1 + d = omega arith in
    ap p there ∙ none_at p (a + 1) n d (or_false (p a) (list_any p (range_with_len (a + 1) n)) e).1 (omega arith)

both_false : (b d : Bool) → b ≡ false → d ≡ false → (b || d) ≡ false
both_false true d e f = absurd (cc)
both_false false d e f = f

none_any : (p : ℕ → Bool) (a n : ℕ) → ((d : ℕ) → d < n → p (a + d) ≡ false) → list_any p (range_with_len a n) ≡ false
none_any p a zero none = refl
none_any p a (suc n) none =
    let here : a ≡ a + 0 = omega arith in
    both_false (p a) (list_any p (range_with_len (a + 1) n)) (ap p here ∙ none 0 (omega arith))
    (none_any p (a + 1) n (λ d l. let there : a + 1 + d ≡ a + suc d = omega arith in ap p there ∙ none (suc d) (omega arith)))

and_false : (b d : Bool) → (b && d) ≡ false → (b ≡ false) ⊎ (d ≡ false)
and_false true d e = inr e
and_false false d e = inl refl

no_and : (b d : Bool) → b ≡ true → (d ≡ false) → (b && d) ≡ false
no_and true d e f = f
no_and false d e f = refl

not_unfinished : (b : Bool) → (if b then Some Unfinished else None) ≡ None → b ≡ false
not_unfinished true e = absurd (cc)
not_unfinished false e = refl

finished : (b : Bool) → b ≡ false → (if b then Some Unfinished else None) ≡ None
finished true e = absurd (cc)
finished false e = refl

below : (p : ℕ → Bool) (n h : ℕ) → list_any p (range_with_len 0 n) ≡ false → h < n → p h ≡ false
below p n h e l = let same : h ≡ 0 + h = omega arith in ap p same ∙ none_at p 0 n h e l

none_below : (p : ℕ → Bool) (n : ℕ) → ((h : ℕ) → h < n → p h ≡ false) → list_any p (range_with_len 0 n) ≡ false
none_below p n none = none_any p 0 n (λ d l. let same : 0 + d ≡ d = omega arith in ap p same ∙ none d l)

-- no hart can go on
pub over : (i : Inputs) (quanta : List Quantum) → goes_on i quanta ≡ false → (h : ℕ) → h < i.settings.harts → Halted i quanta h
unfolding Halted
over i quanta e h l = by (and_false (nat_lt (length quanta) MAX_QUANTA) (list_any (is_runnable (after_quanta i quanta).kept.machine.core) (range_with_len 0 i.settings.harts)) e)
  where
    by : (nat_lt (length quanta) MAX_QUANTA ≡ false) ⊎ (list_any (is_runnable (after_quanta i quanta).kept.machine.core) (range_with_len 0 i.settings.harts) ≡ false)
        → (is_runnable (after_quanta i quanta).kept.machine.core h ≡ false) ⊎ (MAX_QUANTA ≤ length quanta)
    by (inl many) = inr (ltb-false (length quanta) MAX_QUANTA many)
    by (inr none) = inl (below (is_runnable (after_quanta i quanta).kept.machine.core) i.settings.harts h none l)

one_over : (b : Bool) (few : ℕ) (n : ℕ) → n < few → (b ≡ false) ⊎ (few ≤ n) → b ≡ false
one_over b few n l (inl e) = e
one_over b few n l (inr m) = absurd (omega arith)

pub over_is : (i : Inputs) (quanta : List Quantum) → ((h : ℕ) → h < i.settings.harts → Halted i quanta h) → goes_on i quanta ≡ false
unfolding Halted
over_is i quanta ended = by (nat_lt (length quanta) MAX_QUANTA) refl
  where
    by : (b : Bool) → nat_lt (length quanta) MAX_QUANTA ≡ b → (nat_lt (length quanta) MAX_QUANTA && list_any (is_runnable (after_quanta i quanta).kept.machine.core) (range_with_len 0 i.settings.harts)) ≡ false
    by true e =
        no_and (nat_lt (length quanta) MAX_QUANTA) (list_any (is_runnable (after_quanta i quanta).kept.machine.core) (range_with_len 0 i.settings.harts)) e
        (none_below (is_runnable (after_quanta i quanta).kept.machine.core) i.settings.harts
        (λ d l. one_over (is_runnable (after_quanta i quanta).kept.machine.core d) MAX_QUANTA (length quanta) (ltb-true (length quanta) MAX_QUANTA e) (ended d l)))
    by false e = ap (λ b. b && list_any (is_runnable (after_quanta i quanta).kept.machine.core) (range_with_len 0 i.settings.harts)) e

-- a hart can go on
pub open_end : (i : Inputs) (quanta : List Quantum) → ((h : ℕ) × (h < i.settings.harts) × (Halted i quanta h → ⊥)) → goes_on i quanta ≡ true
open_end i quanta (h, l, not) = by (goes_on i quanta) refl
  where
    by : (b : Bool) → goes_on i quanta ≡ b → goes_on i quanta ≡ true
    by true e = e
    by false e = absurd (not (over i quanta e h l))

-- ---- whole lists

pub whole_fit : WholeFit
unfolding misfit_of
whole_fit i quanta r few = (whole, fit)
  where
    whole : misfit_of i quanta ≡ None → IsWhole i quanta
    whole e =
        let both = either (misfit_from i 0 (first_state i) quanta) (if goes_on i quanta then Some Unfinished else None) e in
        record {
          allowed = record { each = all_allowed i 0 (first_state i) quanta r both.0; few = few };
          ended = over i quanta (not_unfinished (goes_on i quanta) both.1);
        }

    fit : IsWhole i quanta → misfit_of i quanta ≡ None
    fit w =
        neither (misfit_from i 0 (first_state i) quanta) (if goes_on i quanta then Some Unfinished else None) (all_fit i 0 (first_state i) quanta w.allowed.each)
        (finished (goes_on i quanta) (over_is i quanta w.ended))
