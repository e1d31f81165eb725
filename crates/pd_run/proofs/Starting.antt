-- Texts that begin as files of a kind do.
use Rattle.std.proofs.Common.{◌≡◌, ◌⊎◌, inl, inr, ℕ, Bool, true, false, cond, List, [], ◌∷◌, ◌++◌, ◌||◌, take, length, refl, sym, ap, ◌∙◌, subst}
use Rattle.std.specs.Cmp.Lexicographic.{bytes_decides}
use Rattle.std.specs.Prelude.{flat_map}
use Rattle.std.specs.List.{list_any}
use Rattle.pn_text.specs.Bytes.{begins_with}
use Rattle.pd_run.specs.Guards.{beginnings_of}
use Rattle.pd_run.specs.declared.kinds.Kind.{Kind}

pub or_true : (a b : Bool) → b ≡ true → a || b ≡ true
or_true true b e = refl
or_true false b e = e

abbrev pub Begins : Kind → List ℕ → Type 0
Begins k text = list_any (λ front. begins_with front text) (beginnings_of k) ≡ true

-- ---- texts one after another

-- it is empty, or begins as one of the kind
abbrev pub Starts : Kind → List ℕ → Type 0
Starts k text = (text ≡ []) ⊎ Begins k text

take_more : (front a b : List ℕ) → take (length front) a ≡ front → take (length front) (a ++ b) ≡ front
take_more [] a b e = refl
take_more (x ∷ front) [] b e = absurd (cc)
take_more (x ∷ front) (y ∷ a) b e =
    let first : y ≡ x = cc in
    let rest : take (length front) a ≡ front = cc in
    ap (λ (n : ℕ). n ∷ take (length front) (a ++ b)) first ∙ ap (λ (l : List ℕ). x ∷ l) (take_more front a b rest)

begins_more : (front a b : List ℕ) → begins_with front a ≡ true → begins_with front (a ++ b) ≡ true
begins_more front a b e = (bytes_decides (take (length front) (a ++ b)) front).1 (take_more front a b ((bytes_decides (take (length front) a) front).0 e))

pub any_more : (fronts : List (List ℕ)) (a b : List ℕ) → list_any (λ front. begins_with front a) fronts ≡ true → list_any (λ front. begins_with front (a ++ b)) fronts ≡ true
any_more [] a b e = absurd (cc)
any_more (front ∷ fronts) a b e = by (begins_with front a) refl e (any_more fronts a b)
  where
    by : (c : Bool) → begins_with front a ≡ c → c || list_any (λ f. begins_with f a) fronts ≡ true
        → (list_any (λ f. begins_with f a) fronts ≡ true → list_any (λ f. begins_with f (a ++ b)) fronts ≡ true) → list_any (λ f. begins_with f (a ++ b)) (front ∷ fronts) ≡ true
    by true q e rest = rw (begins_more front a b q) refl
    by false q e rest = or_true (begins_with front (a ++ b)) (list_any (λ f. begins_with f (a ++ b)) fronts) (rest e)

module _ (k : Kind) where
  pub joined : (a b : List ℕ) → Starts k a → Starts k b → Starts k (a ++ b)
  joined a b (inl none) h = subst (λ (l : List ℕ). Starts k (l ++ b)) (sym none) h
  joined a b (inr some) h = inr (any_more (beginnings_of k) a b some)

  pub chosen : (b : Bool) (x y : List ℕ) → Starts k x → Starts k y → Starts k (cond b x y)
  chosen true x y g h = g
  chosen false x y g h = h

  pub each : {X : Type 0} (f : X → List ℕ) → ((x : X) → Starts k (f x)) → (xs : List X) → Starts k (flat_map f xs)
  each f h [] = inl refl
  each f h (x ∷ xs) = joined (f x) (flat_map f xs) (h x) (each f h xs)
