-- Names that are taken once.
use Rattle.std.proofs.Common.{◌≡◌, ◌||◌, ◌++◌, Bool, true, false, List, [], ◌∷◌, ℕ, refl, sym, ap, ◌∙◌, bytes_eq, position, if◌then◌else◌, arith}
use Rattle.std.specs.Prelude.{is_some}
use Rattle.std.specs.List.{list_any}
use Rattle.first_places.specs.Groups.{first_mentions}
use Rattle.first_places.specs.Places.{first_place}
use Rattle.first_places.proofs.Firsts.{firsts_more}

-- a name is among others where it has a first place
placed : (p : List ℕ → Bool) (names : List (List ℕ)) → is_some (position p names) ≡ list_any p names
placed p [] = refl
placed p (name ∷ names) = by (p name) refl (placed p names)
  where
    by : (b : Bool) → p name ≡ b → is_some (position p names) ≡ list_any p names → is_some (position p (name ∷ names)) ≡ b || list_any p names
    by true e more = grind arith
    by false e more = grind arith

-- one more name
one_more : (seen : List (List ℕ)) (name : List ℕ) (known : Bool) → known ≡ is_some (first_place name seen)
    → first_mentions (seen ++ name ∷ []) ≡ (if known then first_mentions seen else first_mentions seen ++ name ∷ [])
one_more seen name known e =
    firsts_more (λ n. n) seen name
    ∙ ap (λ (b : Bool). if b then first_mentions seen else first_mentions seen ++ name ∷ []) (sym (e ∙ placed (bytes_eq name) seen))

-- a name that is new
pub taken : (seen next old now : List (List ℕ)) (name text : List ℕ) (known : Bool) → text ≡ name → known ≡ is_some (first_place text seen) → known ≡ false
    → old ≡ first_mentions seen → now ≡ old ++ name ∷ [] → next ≡ seen ++ text ∷ [] → now ≡ first_mentions next
taken seen next old now name text known is e f g h k =
    h ∙ ap (λ (z : List (List ℕ)). z ++ name ∷ []) g ∙ ap (λ (n : List ℕ). first_mentions seen ++ n ∷ []) (sym is)
    ∙ ap (λ (b : Bool). if b then first_mentions seen else first_mentions seen ++ text ∷ []) (sym f)
    ∙ sym (one_more seen text known e) ∙ ap first_mentions (sym k)

-- a name that isn't
pub left_out : (seen next old : List (List ℕ)) (text : List ℕ) (known : Bool) → known ≡ is_some (first_place text seen) → known ≡ true
    → old ≡ first_mentions seen → next ≡ seen ++ text ∷ [] → old ≡ first_mentions next
left_out seen next old text known e f g k =
    g ∙ ap (λ (b : Bool). if b then first_mentions seen else first_mentions seen ++ text ∷ []) (sym f) ∙ sym (one_more seen text known e) ∙ ap first_mentions (sym k)
