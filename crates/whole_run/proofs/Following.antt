-- A session that follows quanta which are told.
use Rattle.std.proofs.Common.{◌≡◌, ℕ, zero, suc, ◌+◌, ◌<◌, ◌≤◌, ◌∙◌, List, [], ◌∷◌, ◌++◌, length, take, drop, slice_index_or, Option, Some, None, refl, ap, sym, subst, arith}
use Rattle.std.specs.Prelude.{Bool, true, false, ◌==◌, not, if◌then◌else◌, IfNone, IfSome}
use Rattle.std.specs.List.{AllByRecursion}
use Rattle.std.proofs.lemmas.List.{drop_all, drop_more, length-take-le, take_all, take_more}
use Rattle.std.proofs.lemmas.Bool.{eqb-false, eqb-true}
use Rattle.pn_types.specs.declared.limits.TheConstants.{MAX_QUANTA}
use Rattle.pn_types.specs.declared.quantum.Quantum.{Quantum}
use Rattle.machine.specs.Turns.{is_runnable}
use Rattle.session.specs.Sessions.{SessionData, state_of}
use Rattle.session_spec.specs.Inputs.{Inputs}
use Rattle.session_spec.specs.States.{SessionState, State}
use Rattle.session_spec.specs.Work.{Halted, first_state, quantum_of, after_quantum, after_quanta}
use Rattle.whole_run.specs.declared.misfit.Misfit.{Misfit}
use Rattle.whole_run.specs.declared.misfit.Misfit.TheVariants.{NotRunnable, OtherOwns, Unfinished}
use Rattle.whole_run.specs.Replayed.{goes_on, misfit_at, misfit_from, misfit_of, owns_of}
use Rattle.whole_run.proofs.Ordered.{going, halted, stuck, work_push}

-- the first quanta were taken, and what doesn't fit of all doesn't of the others
pub record Following (i : Inputs) (quanta : List Quantum) (n : ℕ) (taken : List Quantum) : Type 0 where
  pub first : taken ≡ take n quanta
  pub others : misfit_from i 0 (first_state i) quanta ≡ misfit_from i n (after_quanta i taken) (drop n quanta)

pub follows_none : (i : Inputs) (quanta : List Quantum) → Following i quanta 0 []
unfolding after_quanta
follows_none i quanta = record { first = refl; others = refl }

-- ---- the next

runs_true : (b : Bool) (x : Misfit) (rest : Option Misfit) → b ≡ true → (if not b then Some x else rest) ≡ rest
runs_true true x rest e = refl
runs_true false x rest e = absurd (cc)

runs_false : (b : Bool) (x : Misfit) (rest : Option Misfit) → b ≡ false → (if not b then Some x else rest) ≡ Some x
runs_false true x rest e = absurd (cc)
runs_false false x rest e = refl

other : (b : Bool) (x : Misfit) → b ≡ false → (if b then None else Some x) ≡ Some x
other true x e = absurd (cc)
other false x e = refl

same : (b : Bool) (x : Misfit) → b ≡ true → (if b then None else Some x) ≡ None
same true x e = refl
same false x e = absurd (cc)

same_number : (a b : ℕ) (d : Bool) → (a == b) ≡ d → a ≡ b → d ≡ true
same_number a b true e f = refl
same_number a b false e f = absurd (eqb-false a b e f)

other_number : (a b : ℕ) (d : Bool) → (a == b) ≡ d → (a ≡ b → ⊥) → d ≡ false
other_number a b true e f = absurd (f (eqb-true a b e))
other_number a b false e f = refl

-- a quantum of a hart that can't go on
pub not_runnable : (i : Inputs) (n : ℕ) (k : SessionState) (q : Quantum) → is_runnable k.machine.core q.hart ≡ false → misfit_at i n k q ≡ Some (NotRunnable n q.hart)
not_runnable i n k q e =
    runs_false (is_runnable k.machine.core q.hart) (NotRunnable n q.hart) (if q.owns == owns_of i k q then None else Some (OtherOwns n q.owns (owns_of i k q))) e

pub other_owns : (i : Inputs) (n : ℕ) (k : SessionState) (q : Quantum) → is_runnable k.machine.core q.hart ≡ true → (q.owns ≡ owns_of i k q → ⊥) → misfit_at i n k q ≡ Some (OtherOwns n q.owns (owns_of i k q))
other_owns i n k q e f =
    runs_true (is_runnable k.machine.core q.hart) (NotRunnable n q.hart) (if q.owns == owns_of i k q then None else Some (OtherOwns n q.owns (owns_of i k q))) e
    ∙ other (q.owns == owns_of i k q) (OtherOwns n q.owns (owns_of i k q)) (other_number q.owns (owns_of i k q) (q.owns == owns_of i k q) refl f)

pub fits : (i : Inputs) (n : ℕ) (k : SessionState) (q : Quantum) → is_runnable k.machine.core q.hart ≡ true → q.owns ≡ owns_of i k q → misfit_at i n k q ≡ None
fits i n k q e f =
    runs_true (is_runnable k.machine.core q.hart) (NotRunnable n q.hart) (if q.owns == owns_of i k q then None else Some (OtherOwns n q.owns (owns_of i k q))) e
    ∙ same (q.owns == owns_of i k q) (OtherOwns n q.owns (owns_of i k q)) (same_number q.owns (owns_of i k q) (q.owns == owns_of i k q) refl f)

-- ---- on from there

-- what is first of all comes of the next
next : (i : Inputs) (n : ℕ) (s : State) (q : Quantum) (rest : List Quantum) (o : Option Misfit) → misfit_at i n s.kept q ≡ o
    → misfit_from i n s (q ∷ rest) ≡ elim o [ Some misfit ↦ Some misfit | None ↦ misfit_from i (n + 1) (after_quantum i q.hart q.turns s) rest ]
next i n s q rest o e = ap (λ (x : Option Misfit). elim x [ Some misfit ↦ Some misfit | None ↦ misfit_from i (n + 1) (after_quantum i q.hart q.turns s) rest ]) e

pub follows_next : (i : Inputs) (quanta : List Quantum) (n : ℕ) (taken : List Quantum) (q : Quantum) → Following i quanta n taken → drop n quanta ≡ q ∷ drop (n + 1) quanta → take (n + 1) quanta ≡ take n quanta ++ q ∷ []
    → misfit_at i n (after_quanta i taken).kept q ≡ None → Following i quanta (n + 1) (taken ++ q ∷ [])
follows_next i quanta n taken q f rest more fit = record {
  first = ap (λ (l : List Quantum). l ++ q ∷ []) f.first ∙ sym more;
  others = f.others ∙ (ap (misfit_from i n (after_quanta i taken)) rest ∙ (next i n (after_quanta i taken) q (drop (n + 1) quanta) None fit
      ∙ ap (λ (s : State). misfit_from i (n + 1) s (drop (n + 1) quanta)) (sym (work_push i taken q))));
}

pub misfits : (i : Inputs) (quanta : List Quantum) (n : ℕ) (taken : List Quantum) (q : Quantum) (misfit : Misfit) → Following i quanta n taken → drop n quanta ≡ q ∷ drop (n + 1) quanta
    → misfit_at i n (after_quanta i taken).kept q ≡ Some misfit → misfit_of i quanta ≡ Some misfit
unfolding misfit_of
misfits i quanta n taken q misfit f rest e =
    let found = f.others ∙ (ap (misfit_from i n (after_quanta i taken)) rest ∙ next i n (after_quanta i taken) q (drop (n + 1) quanta) (Some misfit) e) in
    ap (λ (x : Option Misfit). elim x [ Some misfit ↦ Some misfit | None ↦ if goes_on i quanta then Some Unfinished else None ]) found

-- ---- a session that follows

pub rest_at : (quanta : List Quantum) (n : ℕ) (d : Quantum) → n < length quanta → drop n quanta ≡ slice_index_or quanta n d ∷ drop (n + 1) quanta
rest_at quanta n d l = drop_more quanta n d l

pub all_at : (P : Quantum → Type 0) (quanta : List Quantum) (n : ℕ) (d : Quantum) → AllByRecursion P quanta → n < length quanta → P (slice_index_or quanta n d)
all_at P [] n d all l = absurd (omega arith)
all_at P (q ∷ quanta) zero d all l = all.0
all_at P (q ∷ quanta) (suc n) d all l = all_at P quanta n d all.1 (omega arith)

pub of_none : (o : Option Quantum) (P : Type 0) → IfNone o P → o ≡ None → P
of_none None P h e = h
of_none (Some q) P h e = absurd (cc)

pub of_some : (o : Option Quantum) (P : Quantum → Type 0) (q : Quantum) → IfSome o P → o ≡ Some q → P q
of_some None P q h e = absurd (cc)
of_some (Some x) P q h e = let same : x ≡ q = cc in subst P same h

taken_length : (quanta taken : List Quantum) (n : ℕ) → taken ≡ take n quanta → n ≤ length quanta → length taken ≡ n
taken_length quanta taken n e l = ap length e ∙ length-take-le n quanta l

runs : (i : Inputs) (quanta : List Quantum) (h : ℕ) (b : Bool) → is_runnable (after_quanta i quanta).kept.machine.core h ≡ b → (Halted i quanta h → ⊥) → is_runnable (after_quanta i quanta).kept.machine.core h ≡ true
runs i quanta h true e not = e
runs i quanta h false e not = absurd (not (halted i quanta h e))

module _ (s : SessionData) (quanta : List Quantum) (n : ℕ) (d : Quantum) (wide : s.closed ≡ false) (f : Following s.inputs quanta n s.quanta) (l : n < length quanta) (few : length quanta ≤ MAX_QUANTA) where
  abbrev told : Quantum
  told = slice_index_or quanta n d

  abbrev kept : SessionState
  kept = (after_quanta s.inputs s.quanta).kept

  -- the hart of the next can't go on
  pub stops : Halted s.inputs s.quanta told.hart → misfit_of s.inputs quanta ≡ Some (NotRunnable n told.hart)
  stops h =
      let number = taken_length quanta s.quanta n f.first (omega arith) in
      misfits s.inputs quanta n s.quanta told (NotRunnable n told.hart) f (rest_at quanta n d l) (not_runnable s.inputs n kept told (stuck s.inputs s.quanta told.hart (omega arith) h))

  module _ (taken : Quantum) (asked : taken ≡ quantum_of s.inputs told.worker told.hart told.turns (state_of s).kept) (goes : Halted s.inputs s.quanta told.hart → ⊥) where
    asked_here : taken ≡ quantum_of s.inputs told.worker told.hart told.turns kept
    asked_here = asked ∙ ap (λ (x : State). quantum_of s.inputs told.worker told.hart told.turns x.kept) (going s wide)

    owns_are : taken.owns ≡ owns_of s.inputs kept told
    owns_are = ap (λ (x : Quantum). x.owns) asked_here

    runnable : is_runnable kept.machine.core told.hart ≡ true
    runnable = runs s.inputs s.quanta told.hart (is_runnable kept.machine.core told.hart) refl goes

    -- it owns another number of ticks than it says
    pub differs : (taken.owns ≡ told.owns → ⊥) → misfit_of s.inputs quanta ≡ Some (OtherOwns n told.owns taken.owns)
    differs other =
        misfits s.inputs quanta n s.quanta told (OtherOwns n told.owns (owns_of s.inputs kept told)) f (rest_at quanta n d l)
        (other_owns s.inputs n kept told runnable (λ same. other (owns_are ∙ sym same)))
        ∙ ap (λ o. Some (OtherOwns n told.owns o)) (sym owns_are)

    -- it is the next
    pub goes_on_by : (new : List Quantum) → new ≡ s.quanta ++ taken ∷ [] → taken.owns ≡ told.owns → Following s.inputs quanta (n + 1) new
    goes_on_by new e same =
        let is : taken ≡ told = asked_here ∙ ap (λ o. record told { owns = o }) (sym owns_are ∙ same) in
        subst (Following s.inputs quanta (n + 1)) (sym (e ∙ ap (λ (x : Quantum). s.quanta ++ x ∷ []) is))
        (follows_next s.inputs quanta n s.quanta told f (rest_at quanta n d l) (take_more quanta n d l) (fits s.inputs n kept told runnable (sym same ∙ owns_are)))

-- ---- the end

-- all were taken
pub all_taken : (i : Inputs) (quanta : List Quantum) (n : ℕ) (taken : List Quantum) → Following i quanta n taken → length quanta ≤ n → taken ≡ quanta
all_taken i quanta n taken f l = f.first ∙ take_all n quanta l

none_left : (i : Inputs) (quanta : List Quantum) (n : ℕ) (taken : List Quantum) → Following i quanta n taken → length quanta ≤ n → misfit_from i 0 (first_state i) quanta ≡ None
none_left i quanta n taken f l = f.others ∙ ap (misfit_from i n (after_quanta i taken)) (drop_all n quanta l)

-- what is said where they are all taken
pub ended : (i : Inputs) (quanta : List Quantum) (n : ℕ) (taken : List Quantum) (b : Bool) → Following i quanta n taken → length quanta ≤ n → goes_on i quanta ≡ b → misfit_of i quanta ≡ (if b then Some Unfinished else None)
unfolding misfit_of
ended i quanta n taken b f l g =
    let e = none_left i quanta n taken f l in
    ap (λ (x : Option Misfit). elim x [ Some misfit ↦ Some misfit | None ↦ if goes_on i quanta then Some Unfinished else None ]) e
    ∙ ap (λ b. if b then Some Unfinished else None) g
