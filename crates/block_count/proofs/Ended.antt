-- What is read of the harts of the patched machine is what the unpatched program's have.
use Rattle.std.proofs.Common.{◌≡◌, ℕ, suc, List, [], ◌∷◌, length, Option, Some, None, refl, ap, ◌∙◌, arith}
use Rattle.std.specs.Prelude.{◌&&◌, Bool, map, is_none, nat_lt, slice_get}
use Rattle.rv_word.specs.declared.outcome.Cause.{Cause}
use Rattle.rv_word.specs.declared.outcome.Cause.TheVariants as cause
use Rattle.rv_word.specs.Plain.{PlainHart}
use Rattle.tramp_spec.specs.Harts.{Hart}
use Rattle.machine.specs.Cores.{Core}
use Rattle.machine.specs.Same.{SameHart}
use Rattle.report.proofs.HartEnds.{same_end}
use Rattle.report.specs.HartEnds.{hart_end}
use Rattle.block_count.specs.Counted.{stop_of}
use Rattle.block_count.specs.Readings.{stop_seen}

same_stop : (budget : ℕ) (c : Core) (x : Hart) (y : PlainHart) → SameHart c x y → stop_seen budget c x ≡ stop_of budget y
same_stop budget c x y s =
    let seen = stop_seen budget c x in
    let told = stop_of budget y in
    ap (λ n. record seen { stop = hart_end x.stop (nat_lt n budget) }) s.ticks
    ∙ ap (λ o. record seen { stop = hart_end o (nat_lt y.ticks budget) }) s.stop
    ∙ ap (λ e. record seen { stop = e }) (same_end y.stop (nat_lt y.ticks budget))
    ∙ ap (λ p. record told { pc = p }) s.pc

abbrev pub AreSame : Core → List Hart → List PlainHart → Type 0
AreSame c xs ys = (h : ℕ) (x : Hart) (y : PlainHart) → slice_get xs h ≡ Some x → slice_get ys h ≡ Some y → SameHart c x y

pub same_of : {A : Type 0} (c : Core) (f : Hart → A) (g : PlainHart → A) → ((x : Hart) (y : PlainHart) → SameHart c x y → f x ≡ g y)
    → (xs : List Hart) (ys : List PlainHart) → length xs ≡ length ys → AreSame c xs ys → map f xs ≡ map g ys
same_of c f g each [] [] many same = refl
same_of c f g each [] (y ∷ ys) many same = absurd (omega (arith, many))
same_of c f g each (x ∷ xs) [] many same = absurd (omega (arith, many))
same_of c f g each (x ∷ xs) (y ∷ ys) many same =
    ap (λ p. p ∷ map f xs) (each x y (same 0 x y refl refl)) ∙ ap (λ ps. g y ∷ ps) (same_of c f g each xs ys (omega (arith, many)) (λ h z w e i. same (suc h) z w e i))

pub same_ends : (budget : ℕ) (c : Core) (xs : List Hart) (ys : List PlainHart) → length xs ≡ length ys → AreSame c xs ys → map (stop_seen budget c) xs ≡ map (stop_of budget) ys
same_ends budget c xs ys many same = same_of c (stop_seen budget c) (stop_of budget) (same_stop budget c) xs ys many same

pub same_ticks : (c : Core) (xs : List Hart) (ys : List PlainHart) → length xs ≡ length ys → AreSame c xs ys → map (λ x. x.ticks) xs ≡ map (λ y. y.ticks) ys
same_ticks c xs ys many same = same_of c (λ x. x.ticks) (λ y. y.ticks) (λ x y s. s.ticks) xs ys many same
