-- Children one by one.
use Rattle.std.proofs.Common.{◌≡◌, ◌+◌, ◌++◌, ℕ, zero, suc, List, [], ◌∷◌, refl, ap, take, map, add-one}
use Rattle.std.specs.Prelude.{slice_get}
use Rattle.std.specs.Option.{option_map_or}
use Rattle.pn_types.specs.declared.focus.Axis.{Axis}
use Rattle.pn_types.specs.declared.focus.Focus.{Focus}
use Rattle.resource_tree.specs.Foci.{canonical, children}
use Rattle.resource_tree.specs.Resources.{Resources}
use Rattle.commands.specs.AskedChildren.{child_at}

more : {A B : Type 0} (f : A → B) (xs : List A) (n : ℕ) → map f (take (suc n) xs) ≡ map f (take n xs) ++ option_map_or (λ x. f x ∷ []) (slice_get xs n) []
more f [] zero = refl
more f [] (suc n) = refl
more f (x ∷ xs) zero = refl
more {A} {B} f (x ∷ xs) (suc n) = ap (λ (z : List B). f x ∷ z) (more f xs n)

-- the first children with the next one, if there is one
pub with_child : (t : Resources) (focus : Focus) (axis : Axis) (n : ℕ) → map (canonical t) (take (n + 1) (children t focus axis)) ≡ map (canonical t) (take n (children t focus axis)) ++ child_at t focus axis n
with_child t focus axis n = rw add-one (more (canonical t) (children t focus axis) n)
