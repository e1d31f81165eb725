-- The variables of an instrument one after another, and the harts for which they are set.
use Rattle.std.proofs.Common.{◌≡◌, ℕ, zero, suc, ◌<◌, ◌≤◌, List, [], ◌∷◌, length, drop, get_or, refl, ap, ap₂, ◌∙◌, arith, ⊎_elim, inl, inr}
use Rattle.std.specs.Prelude.{◌⊎◌, min, nat_le, map, take, slice_set}
use Rattle.std.proofs.lemmas.Bool.{cases_Bool, leb-true}
use Rattle.std.proofs.lemmas.Grind.{common_steps}
use Rattle.pn_types.specs.declared.plan.Var.{Var}
use Rattle.tramp_spec.specs.Harts.{Hart}
use Rattle.tramp_spec.specs.Slots.{places, set_places}

pub least : (a b i : ℕ) → min a b ≤ i → (a ≤ i) ⊎ (b ≤ i)
least a b i h = ⊎_elim (λ e. inl (leb-true a i e)) (λ e. inr (grind (arith, common_steps))) (cases_Bool (nat_le a i))

-- after the end of one of the lists no variable is left
pub none_left : (slots : List ℕ) (vars : List Var) (values : List ℕ) (i ticks : ℕ) (bank : List ℕ) → (length slots ≤ i) ⊎ (length vars ≤ i) → set_places (places (drop i slots) (drop i vars)) values ticks bank ≡ bank
none_left [] vars values zero ticks bank e = refl
none_left [] vars values (suc i) ticks bank e = refl
none_left (s ∷ slots) [] values zero ticks bank e = refl
none_left (s ∷ slots) [] values (suc i) ticks bank e = nothing (drop i slots)
  where
    nothing : (xs : List ℕ) → set_places (places xs []) values ticks bank ≡ bank
    nothing [] = refl
    nothing (x ∷ xs) = refl
none_left (s ∷ slots) (v ∷ vars) values zero ticks bank e = absurd (⊎_elim (λ l. omega arith) (λ l. omega arith) e)
none_left (s ∷ slots) (v ∷ vars) values (suc i) ticks bank e = none_left slots vars values i ticks bank (⊎_elim (λ l. inl (omega arith)) (λ l. inr (omega arith)) e)

-- ---- the harts so far are armed, and one more

pub armed_step : (f : Hart → Hart) (xs old : List Hart) (i : ℕ) (x z : Hart) → length xs ≡ length old → i < length xs → take i xs ≡ map f (take i old) → drop i xs ≡ drop i old → x ≡ get_or xs i x → z ≡ f x
    → (take (suc i) (slice_set xs i z) ≡ map f (take (suc i) old)) × (drop (suc i) (slice_set xs i z) ≡ drop (suc i) old)
armed_step f [] old i x z n l t d e to = absurd (omega arith)
armed_step f (a ∷ xs) [] i x z n l t d e to = absurd (omega arith)
armed_step f (a ∷ xs) (b ∷ old) zero x z n l t d e to =
    let head : a ≡ b = cc in
    let tail : xs ≡ old = cc in
    (ap (λ u. u ∷ []) (to ∙ ap f (e ∙ head)), tail)
armed_step f (a ∷ xs) (b ∷ old) (suc i) x z n l t d e to =
    let head : a ≡ f b = cc in
    let rest : take i xs ≡ map f (take i old) = cc in
    let k = armed_step f xs old i x z (let m : length xs ≡ length old = omega arith in m) (omega arith) rest d e to in
    (ap₂ (λ u us. u ∷ us) head k.0, k.1)
