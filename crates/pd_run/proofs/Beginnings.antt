-- A file begins as what was read at its front.
use Rattle.std.proofs.Common.{◌≡◌, ◌∙◌, ◌||◌, ℕ, zero, suc, Bool, true, false, List, [], ◌∷◌, Some, None, length, map, take, ap, inr, refl, sym}
use Rattle.std.specs.Cmp.Lexicographic.{bytes_decides}
use Rattle.std.specs.List.{list_any}
use Rattle.outside.specs.Outside.{GivesAt, Holding}
use Rattle.pn_text.specs.Bytes.{begins_with}
use Rattle.pd_run.specs.Guards.{MayGo, beginnings_of}
use Rattle.pd_run.specs.declared.kinds.Kind.{Kind}

-- a text at the front of a front is at the front of all
front_kept : (file : List ℕ) (n : ℕ) (text : List ℕ) → take (length text) (take n file) ≡ text → take (length text) file ≡ text
front_kept file n [] e = refl
front_kept [] zero (x ∷ text) e = absurd (cc)
front_kept [] (suc n) (x ∷ text) e = absurd (cc)
front_kept (y ∷ file) zero (x ∷ text) e = absurd (cc)
front_kept (y ∷ file) (suc n) (x ∷ text) e =
    let first : y ≡ x = cc in
    let rest : take (length text) (take n file) ≡ text = cc in
    ap (λ (z : ℕ). z ∷ take (length text) file) first ∙ ap (λ (l : List ℕ). x ∷ l) (front_kept file n text rest)

begins_whole : (file : List ℕ) (n : ℕ) (front : List ℕ) → begins_with front (take n file) ≡ true → begins_with front file ≡ true
begins_whole file n front e =
    (bytes_decides (take (length front) file) front).1 (front_kept file n front ((bytes_decides (take (length front) (take n file)) front).0 e))

or_true : (a b : Bool) → b ≡ true → a || b ≡ true
or_true true b e = refl
or_true false b e = e

any_whole : (file : List ℕ) (n : ℕ) (fronts : List (List ℕ)) → list_any (λ front. begins_with front (take n file)) fronts ≡ true → list_any (λ front. begins_with front file) fronts ≡ true
any_whole file n [] e = absurd (cc)
any_whole file n (front ∷ fronts) e = by (begins_with front (take n file)) refl e (any_whole file n fronts)
  where
    by : (c : Bool) → begins_with front (take n file) ≡ c → c || list_any (λ f. begins_with f (take n file)) fronts ≡ true
        → (list_any (λ f. begins_with f (take n file)) fronts ≡ true → list_any (λ f. begins_with f file) fronts ≡ true) → list_any (λ f. begins_with f file) (front ∷ fronts) ≡ true
    by true q e rest = rw (begins_whole file n front q) refl
    by false q e rest = or_true (begins_with front file) (list_any (λ f. begins_with f file) fronts) (rest e)

pub begins_file : (kind : Kind) (holding : Holding) (n : ℕ) (buffer front : List ℕ) → GivesAt holding 0 n buffer → front ≡ take n buffer
    → list_any (λ text. begins_with text front) (beginnings_of kind) ≡ true → MayGo kind holding
begins_file kind None n buffer front gives is e = tt
begins_file kind (Some None) n buffer front gives is e = absurd gives
begins_file kind (Some (Some file)) n buffer front gives is e =
    let read : front ≡ take n file = is ∙ sym gives.bytes in
    inr (any_whole file n (beginnings_of kind) (ap (λ (l : List ℕ). list_any (λ text. begins_with text l) (beginnings_of kind)) (sym read) ∙ e))

pub any_map : {X Y : Type 0} (test : Y → Bool) (f : X → Y) (xs : List X) → list_any (λ x. test (f x)) xs ≡ list_any test (map f xs)
any_map test f [] = refl
any_map test f (x ∷ xs) = rw (any_map test f xs) refl
