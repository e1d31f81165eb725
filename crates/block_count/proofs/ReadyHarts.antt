-- The harts that are runnable, before and after turns of one of them.
use Rattle.std.proofs.Common.{◌≡◌, ◌≢◌, ℕ, zero, suc, ◌+◌, List, [], ◌∷◌, ◌++◌, Option, Some, None, refl, sym, ap, ◌∙◌, arith}
use Rattle.std.specs.Prelude.{Bool, true, false, cond, filter, not, ◌==◌, slice_get}
use Rattle.std.specs.List.{range_with_len}
use Rattle.std.proofs.lemmas.Bool.{eqb-false, eqb-true}
use Rattle.std.proofs.lemmas.List.{append-nil}
use Rattle.std.proofs.lemmas.List.Elements.{filter-append}
use Rattle.tramp_spec.specs.Harts.{Hart}
use Rattle.machine.specs.Cores.{Core}
use Rattle.machine.specs.Events.{Turn}
use Rattle.machine.specs.Replays.{replay}
use Rattle.machine.specs.States.{quantum_turns}
use Rattle.machine.specs.Turns.{is_runnable, may_turn, turn, turn_alone, turn_by}
use Rattle.machine.proofs.Lists.{get_set_other}
use Rattle.turn_order.specs.Orders.{ready_of}
use Rattle.turn_order.proofs.Picks.{filter_same, filter_without, range_more}

-- ---- one hart more

one_ready : (may : ℕ → Bool) (n : ℕ) (b : Bool) → may n ≡ b → ready_of may (n + 1) ≡ ready_of may n ++ cond b (n ∷ []) []
one_ready may n b e =
    ap (filter may) (range_more 0 n) ∙ (filter-append may (range_with_len 0 n) ((0 + n) ∷ []) ∙ ap (λ l. ready_of may n ++ l) (last b e))
  where
    last : (b : Bool) → may n ≡ b → filter may ((0 + n) ∷ []) ≡ cond b (n ∷ []) []
    last b e = let z : 0 + n ≡ n = omega arith in ap (λ m. filter may (m ∷ [])) z ∙ ap (λ b. cond b (n ∷ []) []) e

pub ready_more : (may : ℕ → Bool) (n : ℕ) (old new : List ℕ) → old ≡ ready_of may n → may n ≡ true → new ≡ old ++ n ∷ [] → new ≡ ready_of may (n + 1)
ready_more may n old new e t f = f ∙ (ap (λ l. l ++ n ∷ []) e ∙ sym (one_ready may n true t))

pub ready_past : (may : ℕ → Bool) (n : ℕ) (old : List ℕ) → old ≡ ready_of may n → may n ≡ false → old ≡ ready_of may (n + 1)
ready_past may n old e t = e ∙ (sym (append-nil (ready_of may n)) ∙ sym (one_ready may n false t))

-- ---- after turns of a hart the others are as before

module _ (j : ℕ) where
  turn_same : (o : Option Hart) (c : Core) (h : ℕ) → j ≢ h → is_runnable (turn_by o c h) j ≡ is_runnable c j
  turn_same None c h other = refl
  turn_same (Some x) c h other = ap (λ o. may_turn o c.budget) (get_set_other c.harts h j (turn_alone c h x).hart other)

  turns_same : (n h : ℕ) (c : Core) → j ≢ h → is_runnable (replay (quantum_turns n h c) c) j ≡ is_runnable c j
  turns_same zero h c other = refl
  turns_same (suc n) h c other = by (is_runnable c h) (turns_same n h (turn c h) other)
    where
      by : (b : Bool) → is_runnable (replay (quantum_turns n h (turn c h)) (turn c h)) j ≡ is_runnable (turn c h) j
          → is_runnable (replay (cond b (Turn h ∷ quantum_turns n h (turn c h)) []) c) j ≡ is_runnable c j
      by true rest = rest ∙ turn_same (slice_get c.harts h) c h other
      by false rest = refl

-- the hart was runnable, and is after a quantum
pub stays_ready : (was may : ℕ → Bool) (h n : ℕ) (ready : List ℕ) → ready ≡ ready_of was n → was h ≡ true → may h ≡ true → ((j : ℕ) → j ≢ h → may j ≡ was j) → ready ≡ ready_of may n
stays_ready was may h n ready e runs goes others = e ∙ sym (filter_same was may (range_with_len 0 n) (λ j. by j (j == h) refl))
  where
    by : (j : ℕ) (b : Bool) → (j == h) ≡ b → may j ≡ was j
    by j true i = let same = eqb-true j h i in ap may same ∙ goes ∙ sym (ap was same ∙ runs)
    by j false i = others j (eqb-false j h i)

-- it isn't after the quantum
pub leaves_ready : (was may : ℕ → Bool) (h n : ℕ) (old new : List ℕ) → old ≡ ready_of was n → may h ≡ false → ((j : ℕ) → j ≢ h → may j ≡ was j) → new ≡ filter (λ j. not (j == h)) old → new ≡ ready_of may n
leaves_ready was may h n old new e out others f = f ∙ (ap (filter (λ j. not (j == h))) e ∙ sym (filter_without was may h (range_with_len 0 n) out others))

pub others_stay : (n h : ℕ) (c : Core) (j : ℕ) → j ≢ h → is_runnable (replay (quantum_turns n h c) c) j ≡ is_runnable c j
others_stay n h c j other = turns_same j n h c other
