-- Steps one after another.
use Rattle.std.proofs.Common.{◌≡◌, Result, Ok, Err, refl, sym, ap, ◌∙◌, subst}
use Rattle.std.specs.Result.{IsErr, IsErrAnd}
use Rattle.refusals.specs.declared.fault.Fault.{Fault}
use Rattle.refusals.specs.declared.refusal.Refusal.{Refusal}
use Rattle.refusals.specs.declared.refusal.Refusal.TheVariants as refusal
use Rattle.refusals.specs.Refusals.{Step, Then, RefusalIs, Comes}

-- where the first step came to a value, what the second comes to is what both come to
pub comes_then : {A B : Type 0} (first : Step A) (next : A → Step B) (a : A) (b : Result B Refusal) → first (Ok a) → Comes b (next a) → Comes b (Then first next)
comes_then first next a (Ok b) h c = (Ok a, h, c)
comes_then first next a (Err (refusal.Fault fault)) h c = (Ok a, h, c)
comes_then first next a (Err refusal.NoMemory) h c = tt

-- where it was refused, so are both
pub refused_then : {A B : Type 0} (first : Step A) (next : A → Step B) (e : Refusal) → RefusalIs e (λ fault. first (Err fault)) → Comes (Err e) (Then first next)
refused_then first next (refusal.Fault fault) h = (Err fault, h, refl)
refused_then first next refusal.NoMemory h = tt

-- the same where `?` hands the refusal on
pub handed_on : {A B : Type 0} (first : Step A) (next : A → Step B) (e : Refusal) (r : Result B Refusal) → IsErr r × IsErrAnd r (λ x. x ≡ e) → RefusalIs e (λ fault. first (Err fault)) → Comes r (Then first next)
handed_on first next e (Ok b) h why = absurd h.1
handed_on first next e (Err x) h why = subst (λ (y : Refusal). Comes (Err y) (Then first next)) (sym h.1) (refused_then first next e why)

-- where `?` hands the refusal of another step on, and this step is refused as that one
pub handed_as : {B : Type 0} (step : Step B) (e : Refusal) (r : Result B Refusal) → IsErr r × IsErrAnd r (λ x. x ≡ e) → RefusalIs e (λ fault. step (Err fault)) → Comes r step
handed_as step e (Ok b) h why = absurd h.1
handed_as step e (Err x) h why = subst (λ (y : Refusal). Comes (Err y) step) (sym h.1) why

-- ---- steps that come to one thing

-- a step comes to one thing
abbrev pub IsOne : {A : Type 0} → Step A → Type 0
IsOne {A} step = (a b : Result A Fault) → step a → step b → a ≡ b

-- where the first of two steps comes to one thing, and what the second comes to is related, so is what both come to
pub related_then : {A B : Type 0} (R : Result B Fault → Result B Fault → Type 0) → ((r s : Result B Fault) → r ≡ s → R r s) → (first : Step A) (next : A → Step B) → IsOne first
    → ((a : A) (r s : Result B Fault) → next a r → next a s → R r s) → (r s : Result B Fault) → Then first next r → Then first next s → R r s
related_then R same first next one each r s (Ok a, f, n) (Ok b, g, m) =
    let is = one (Ok a) (Ok b) f g in
    let value : b ≡ a = cc in
    each a r s n (subst (λ x. next x s) value m)
related_then R same first next one each r s (Ok a, f, n) (Err e, g, m) = let is = one (Ok a) (Err e) f g in absurd cc
related_then R same first next one each r s (Err e, f, n) (Ok b, g, m) = let is = one (Err e) (Ok b) f g in absurd cc
related_then R same first next one each r s (Err e, f, n) (Err d, g, m) =
    let is = one (Err e) (Err d) f g in
    let fault : e ≡ d = cc in
    same r s (n ∙ ap (λ x. Err x) fault ∙ sym m)

-- where each of two steps comes to one thing, so do both
pub one_then : {A B : Type 0} (first : Step A) (next : A → Step B) → IsOne first → ((a : A) → IsOne (next a)) → IsOne (Then first next)
one_then first next one each = related_then (λ r s. r ≡ s) (λ r s e. e) first next one each

-- where a fault is what both come to, it is what one of them comes to
pub of_either : {A B : Type 0} (P : Type 0) (first : Step A) (next : A → Step B) (fault : Fault) → (first (Err fault) → P) → ((a : A) → next a (Err fault) → P) → Then first next (Err fault) → P
of_either P first next fault of each (Ok a, f, n) = each a n
of_either P first next fault of each (Err e, f, n) = let same : e ≡ fault = cc in of (subst (λ x. first (Err x)) same f)
