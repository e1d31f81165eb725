-- What holds of each element of a list.
use Rattle.std.proofs.Common.{ℕ, zero, suc, List, [], ◌∷◌, ◌++◌, map, sym, subst, inl, inr}
use Rattle.std.specs.Prelude.{take}
use Rattle.std.specs.List.{AllByRecursion}
use Rattle.machine.specs.Cores.{In}

pub all_of : {A : Type 0} (P : A → Type 0) (xs : List A) (x : A) → AllByRecursion P xs → In x xs → P x
all_of P [] x a h = absurd h
all_of P (y ∷ ys) x a (inl e) = subst P (sym e) a.0
all_of P (y ∷ ys) x a (inr h) = all_of P ys x a.1 h

pub all_append : {A : Type 0} (P : A → Type 0) (xs ys : List A) → AllByRecursion P xs → AllByRecursion P ys → AllByRecursion P (xs ++ ys)
all_append P [] ys a b = b
all_append P (x ∷ xs) ys a b = (a.0, all_append P xs ys a.1 b)

-- of each that a map makes, whatever of
pub all_map : {A B : Type 0} (P : B → Type 0) (f : A → B) (xs : List A) → ((x : A) → P (f x)) → AllByRecursion P (map f xs)
all_map P f [] k = tt
all_map P f (x ∷ xs) k = (k x, all_map P f xs k)

-- what holds of each that it makes
pub map_all : {A B : Type 0} (P : A → Type 0) (Q : B → Type 0) (f : A → B) (xs : List A) → ((x : A) → P x → Q (f x)) → AllByRecursion P xs → AllByRecursion Q (map f xs)
map_all P Q f [] k a = tt
map_all P Q f (x ∷ xs) k a = (k x a.0, map_all P Q f xs k a.1)

pub in_take : {A : Type 0} (k : ℕ) (xs : List A) (x : A) → In x (take k xs) → In x xs
in_take zero xs x h = absurd h
in_take (suc k) [] x h = absurd h
in_take (suc k) (y ∷ ys) x (inl e) = inl e
in_take (suc k) (y ∷ ys) x (inr h) = inr (in_take k ys x h)
