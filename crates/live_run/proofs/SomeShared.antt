-- Workers have a whole list of quanta: all harts take turns, each until it is halted.
use Rattle.std.proofs.Common.{◌≡◌, ◌⊎◌, inl, inr, ℕ, zero, suc, ◌+◌, ◌%◌, ◌<◌, ◌≤◌, ◌==◌, Bool, true, false, List, [], ◌∷◌, ◌++◌, length, length-append, map, refl, sym, ap, ◌∙◌, subst, arith}
use Rattle.std.specs.List.{AllByRecursion}
use Rattle.machine.specs.Cores.{In}
use Rattle.machine.specs.Turns.{is_runnable}
use Rattle.pn_types.specs.declared.limits.TheConstants.{MAX_QUANTA, MAX_QUANTUM, MAX_WORKERS}
use Rattle.pn_types.specs.declared.quantum.Quantum.{Quantum}
use Rattle.session_spec.specs.Inputs.{Inputs}
use Rattle.session_spec.specs.Work.{AreAllowed, Halted, IsAllowed, quantum_of, after_quanta}
use Rattle.live_run.proofs.Entries.{each_append}
use Rattle.live_run.proofs.Stays.{stays}
use Rattle.whole_run.proofs.Ordered.{full, halted}
use Rattle.whole_run.proofs.SomeSeeded.{allowed_more}
use Rattle.live_run.specs.ByWorkers.{IsByWorkers, IsShared, SomeShared, one_if, times}
use Rattle.live_run.specs.Serving.{AreHartsBelow, AreTakingTurns, count}
use Rattle.live_run.proofs.Rounds.{begins, in_back, in_front, leaves, served}
use Rattle.live_run.proofs.Serves.{own_more, own_none}

-- ---- the harts of quanta

abbrev harts_of : List Quantum → List ℕ
harts_of quanta = map (λ (q : Quantum). q.hart) quanta

harts_append : (xs ys : List Quantum) → harts_of (xs ++ ys) ≡ harts_of xs ++ harts_of ys
harts_append [] ys = refl
harts_append (x ∷ xs) ys = ap (λ l. x.hart ∷ l) (harts_append xs ys)

times_are : (hart : ℕ) (quanta : List Quantum) → times hart quanta ≡ count hart (harts_of quanta)
times_are hart [] = refl
times_are hart (q ∷ quanta) = ap (λ n. one_if (q.hart == hart) + n) (times_are hart quanta)

all_below : (n : ℕ) → (harts : List ℕ) × AreHartsBelow n 1 0 harts
all_below zero = ([], own_none 1 0)
all_below (suc n) =
    let before = all_below n in
    let next : n + 1 ≡ suc n = omega arith in
    (before.0 ++ n ∷ [], subst (λ m. AreHartsBelow m 1 0 (before.0 ++ n ∷ [])) next (own_more n 1 0 before.0 before.1 (omega arith)))

module _ (i : Inputs) (workers turns : ℕ) (team : 1 ≤ workers) (few : workers ≤ MAX_WORKERS) (some : 1 ≤ turns) (most : turns ≤ MAX_QUANTUM) where
  abbrev IsRight : Quantum → Type 0
  IsRight q = (q.turns ≡ turns) × (q.worker ≡ q.hart % workers)

  -- `number` quanta were taken, and these harts wait for their turns
  record Waits (number : ℕ) (quanta : List Quantum) (waits : List ℕ) : Type 0 where
    allowed : AreAllowed i quanta
    many : length quanta ≡ number
    each : AllByRecursion IsRight quanta
    taking : AreTakingTurns (harts_of quanta) waits
    below : AllByRecursion (λ (hart : ℕ). hart < i.settings.harts) waits
    rest : (hart : ℕ) → hart < i.settings.harts → In hart waits ⊎ Halted i quanta hart

  -- ---- the end

  by_workers : (number : ℕ) (quanta : List Quantum) (waits : List ℕ) → Waits number quanta waits → IsByWorkers workers turns quanta
  by_workers number quanta waits w = record {
    each = w.each;
    in_turn = λ a b c x y e same none hart his ne more.
        let split : harts_of quanta ≡ (harts_of a ++ x.hart ∷ harts_of b) ++ x.hart ∷ harts_of c =
        ap harts_of e ∙ harts_append (a ++ x ∷ b) (y ∷ c)
        ∙ (λ k. harts_append a (x ∷ b) k ++ sym same k ∷ harts_of c) in
        times_are hart b
        ∙ w.taking.turns (harts_of a) (harts_of b) (harts_of c) x.hart split (sym (times_are x.hart b) ∙ none) hart ne (subst (λ n. 0 < n) (times_are hart c) more);
  }

  shared : (number : ℕ) (quanta : List Quantum) (waits : List ℕ) → Waits number quanta waits → ((hart : ℕ) → hart < i.settings.harts → Halted i quanta hart) → IsShared i workers turns quanta
  shared number quanta waits w ended = record { whole = record { allowed = w.allowed; ended = ended }; by_workers = by_workers number quanta waits w }

  -- ---- a turn

  abbrev taken : ℕ → List Quantum → Quantum
  taken hart quanta = quantum_of i (hart % workers) hart turns (after_quanta i quanta).kept

  takes : (number hart : ℕ) (quanta : List Quantum) (waits : List ℕ) → Waits number quanta (hart ∷ waits) → is_runnable (after_quanta i quanta).kept.machine.core hart ≡ true → number < MAX_QUANTA
      → Waits (number + 1) (quanta ++ taken hart quanta ∷ []) (waits ++ hart ∷ [])
  takes number hart quanta waits w goes room =
      let q = taken hart quanta in
      let many = w.many in
      let one : IsAllowed i (after_quanta i quanta).kept q = record { worker = omega arith; hart = w.below.0; some = some; few = most; runnable = goes; owns = refl } in
      record {
        allowed = allowed_more i quanta q w.allowed (omega arith) one;
        many = omega (arith, length-append quanta (q ∷ []));
        each = each_append IsRight quanta (q ∷ []) w.each ((refl, refl), tt);
        taking = subst (λ l. AreTakingTurns l (waits ++ hart ∷ [])) (sym (harts_append quanta (q ∷ []))) (served (harts_of quanta) hart waits w.taking);
        below = each_append (λ (h : ℕ). h < i.settings.harts) waits (hart ∷ []) w.below.1 (w.below.0, tt);
        rest = λ h lt. by h (w.rest h lt);
      }
    where
      by : (h : ℕ) → In h (hart ∷ waits) ⊎ Halted i quanta h → In h (waits ++ hart ∷ []) ⊎ Halted i (quanta ++ taken hart quanta ∷ []) h
      by h (inl (inl e)) = inl (in_back h waits (hart ∷ []) (inl e))
      by h (inl (inr there)) = inl (in_front h waits (hart ∷ []) there)
      by h (inr halts) = inr (stays i quanta (taken hart quanta ∷ []) h halts)

  passes : (number hart : ℕ) (quanta : List Quantum) (waits : List ℕ) → Waits number quanta (hart ∷ waits) → is_runnable (after_quanta i quanta).kept.machine.core hart ≡ false → Waits number quanta waits
  passes number hart quanta waits w stops = record {
    allowed = w.allowed;
    many = w.many;
    each = w.each;
    taking = leaves (harts_of quanta) hart waits w.taking;
    below = w.below.1;
    rest = λ h lt. by h (w.rest h lt);
  }
    where
      by : (h : ℕ) → In h (hart ∷ waits) ⊎ Halted i quanta h → In h waits ⊎ Halted i quanta h
      by h (inl (inl e)) = inr (subst (Halted i quanta) (sym e) (halted i quanta hart stops))
      by h (inl (inr there)) = inl there
      by h (inr halts) = inr halts

  -- ---- from any list on

  abbrev HasWhole : Type 0
  HasWhole = (quanta : List Quantum) × IsShared i workers turns quanta

  none_waits : (number : ℕ) (quanta : List Quantum) → Waits number quanta [] → HasWhole
  none_waits number quanta w = (quanta, shared number quanta [] w (λ h lt. by h (w.rest h lt)))
    where
      by : (h : ℕ) → In h [] ⊎ Halted i quanta h → Halted i quanta h
      by h (inl there) = absurd there
      by h (inr halts) = halts

  -- where a number of quanta can follow
  abbrev GoesOn : ℕ → Type 0
  GoesOn left = (number : ℕ) (quanta : List Quantum) (waits : List ℕ) → number + left ≡ MAX_QUANTA → Waits number quanta waits → HasWhole

  one_more : (left : ℕ) → GoesOn left → GoesOn (suc left)
  one_more left go number quanta [] sum w = none_waits number quanta w
  one_more left go number quanta (hart ∷ waits) sum w = by (is_runnable (after_quanta i quanta).kept.machine.core hart) refl (one_more left go number quanta waits sum)
    where
      by : (b : Bool) → is_runnable (after_quanta i quanta).kept.machine.core hart ≡ b → (Waits number quanta waits → HasWhole) → HasWhole
      by true goes rest = go (number + 1) (quanta ++ taken hart quanta ∷ []) (waits ++ hart ∷ []) (omega (arith, sum)) (takes number hart quanta waits w goes (omega (arith, sum)))
      by false stops rest = rest (passes number hart quanta waits w stops)

  goes_on : (left : ℕ) → GoesOn left
  goes_on zero = λ number quanta waits sum w. (quanta, shared number quanta waits w (λ h lt. full i quanta h (let many = w.many in omega (arith, sum))))
  goes_on (suc left) = one_more left (goes_on left)

pub some_shared : SomeShared
some_shared i workers turns team few some most =
    let own = all_below i.settings.harts in
    goes_on i workers turns team few some most MAX_QUANTA 0 [] own.0 (omega arith) (record {
      allowed = record { each = tt; few = omega arith };
      many = refl;
      each = tt;
      taking = begins own.0 own.1.apart;
      below = below own.0 own.1.each;
      rest = λ hart lt. inl (own.1.all hart lt (omega arith));
    })
  where
    below : (harts : List ℕ) → AllByRecursion (λ (hart : ℕ). (hart < i.settings.harts) × (hart % 1 ≡ 0)) harts → AllByRecursion (λ (hart : ℕ). hart < i.settings.harts) harts
    below [] all = tt
    below (hart ∷ harts) all = (all.0.0, below harts all.1)
