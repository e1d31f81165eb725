-- Whether a text is a module, `/` and a name.
use Rattle.std.proofs.Common.{◌≡◌, ℕ, List, [], ◌∷◌, ◌++◌, Bool, false, ap, sym, ◌∙◌, append_assoc}
use Rattle.std.specs.Str.{bytes_eq}
use Rattle.std.specs.Bool.{Decides}
use Rattle.std.proofs.Math.Logic.{◌≢◌}
use Rattle.std.proofs.lemmas.Bool.Decides.{same_from_decides}
use Rattle.std.proofs.lemmas.List.{append_cancel_left}
use Rattle.std.proofs.lemmas.Slice.Eq.{bytes_eq-Decides}
use Rattle.profile_text.proofs.Tests.{not_true}

module _ (m n t : List ℕ) where
  abbrev path : List ℕ
  path = (m ++ 47 ∷ []) ++ n

  joined : path ≡ m ++ 47 ∷ n
  joined = append_assoc m (47 ∷ []) n

  decided : Decides (bytes_eq path t) (m ++ 47 ∷ n ≡ t)
  decided = (λ y. sym joined ∙ (bytes_eq-Decides path t).0 y, λ y. (bytes_eq-Decides path t).1 (joined ∙ y))

  -- it doesn't begin with the module
  pub no_module : (p : List ℕ) → p ≡ m → ((rest : List ℕ) → t ≢ p ++ rest) → false ≡ bytes_eq path t
  no_module p e h = sym (not_true (bytes_eq path t) (λ y. h (47 ∷ n) (sym (decided.0 y) ∙ ap (λ z. z ++ 47 ∷ n) (sym e))))

  behind_module : (p rest : List ℕ) → p ≡ m → t ≡ p ++ rest → m ++ 47 ∷ n ≡ t → 47 ∷ n ≡ rest
  behind_module p rest e f y = append_cancel_left m (47 ∷ n) rest (y ∙ f ∙ ap (λ z. z ++ rest) e)

  -- no `/` follows the module
  pub no_slash : (p rest : List ℕ) → p ≡ m → t ≡ p ++ rest → ((r : List ℕ) → rest ≢ 47 ∷ r) → false ≡ bytes_eq path t
  no_slash p rest e f h = sym (not_true (bytes_eq path t) (λ y. h n (sym (behind_module p rest e f (decided.0 y)))))

  tail_of : (xs ys : List ℕ) → 47 ∷ xs ≡ 47 ∷ ys → xs ≡ ys
  tail_of xs ys e = cc

  -- what follows is the name, or isn't
  pub name_left : (p rest name q : List ℕ) (r : Bool) → p ≡ m → t ≡ p ++ rest → rest ≡ 47 ∷ name → q ≡ n → r ≡ bytes_eq name q → r ≡ bytes_eq path t
  name_left p rest name q r e f g i k =
      k ∙ same_from_decides {P = name ≡ q} (bytes_eq name q) (bytes_eq path t) (bytes_eq-Decides name q) (
        λ y. sym (tail_of n name (behind_module p rest e f (decided.0 y) ∙ g)) ∙ sym i,
        λ y. decided.1 (ap (λ z. m ++ 47 ∷ z) (sym i ∙ sym y) ∙ (ap (λ z. m ++ z) (sym g) ∙ (ap (λ z. z ++ rest) (sym e) ∙ sym f))),
      )
