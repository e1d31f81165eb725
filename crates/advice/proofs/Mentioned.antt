-- One more mention of a hypothesis.
use Rattle.std.proofs.Common.{◌≡◌, ℕ, suc, ◌+◌, ◌<◌, cond, Bool, true, false, Option, is_some, List, [], ◌∷◌, ◌++◌, length, drop, get_or, map, sym, ap, ◌∙◌, append_assoc, add-one, drop-cons}
use Rattle.first_places.specs.Places.{first_place}
use Rattle.advice.specs.Advice.{hypothesis_of, names_behind, threshold_of}
use Rattle.advice.specs.declared.hypothesis.Hypothesis.{Hypothesis}
use Rattle.advice.specs.declared.verdict.Verdict.{Verdict}

-- the names of this verdict and of those after it
abbrev with_mention : Bool → List ℕ → List (List ℕ) → List (List ℕ)
with_mention before name names = cond before names (name ∷ names)

drop_one : (vs : List Verdict) (i : ℕ) (v : Verdict) → i < length vs → v ≡ get_or vs i v → drop i vs ≡ v ∷ drop (i + 1) vs
drop_one vs i v h is = rw add-one (drop-cons vs i v h ∙ ap (λ (u : Verdict). u ∷ drop (suc i) vs) (sym is))

names_step : (vs : List Verdict) (i : ℕ) (v : Verdict) (m : List (List ℕ)) → i < length vs → v ≡ get_or vs i v → names_behind m (drop i vs) ≡ with_mention (is_some (first_place v.hypothesis m)) v.hypothesis (names_behind (m ++ v.hypothesis ∷ []) (drop (i + 1) vs))
names_step vs i v m h is = ap (names_behind m) (drop_one vs i v h is)

module _ (vs : List Verdict) (i : ℕ) (v : Verdict) (m n : List (List ℕ)) (hs all : List Hypothesis) (inside : i < length vs) (is : v ≡ get_or vs i v) (pushed : n ≡ m ++ v.hypothesis ∷ []) (invariant : hs ++ map (hypothesis_of vs) (names_behind m (drop i vs)) ≡ all) where
  abbrev left : List (List ℕ)
  left = names_behind n (drop (i + 1) vs)

  stepped : hs ++ map (hypothesis_of vs) (with_mention (is_some (first_place v.hypothesis m)) v.hypothesis left) ≡ all
  stepped =
      ap (λ (before : List (List ℕ)). hs ++ map (hypothesis_of vs) (with_mention (is_some (first_place v.hypothesis m)) v.hypothesis (names_behind before (drop (i + 1) vs)))) pushed
      ∙ ap (λ (names : List (List ℕ)). hs ++ map (hypothesis_of vs) names) (sym (names_step vs i v m inside is))
      ∙ invariant

  -- a hypothesis that was mentioned before stands among the others
  pub known : is_some (first_place v.hypothesis m) ≡ true → hs ++ map (hypothesis_of vs) left ≡ all
  known before = ap (λ (b : Bool). hs ++ map (hypothesis_of vs) (with_mention b v.hypothesis left)) (sym before) ∙ stepped

  -- and another is put last
  pub new_one : is_some (first_place v.hypothesis m) ≡ false → (one : Hypothesis) → one.name ≡ v.hypothesis → one.threshold ≡ threshold_of vs v.hypothesis → (hs ++ one ∷ []) ++ map (hypothesis_of vs) left ≡ all
  new_one before one name threshold =
      let same : one ≡ hypothesis_of vs v.hypothesis = ap (λ (x : List ℕ). record { name = x; threshold = one.threshold }) name ∙ ap (λ (t : Option ℕ). record { name = v.hypothesis; threshold = t }) threshold in
      append_assoc hs (one ∷ []) (map (hypothesis_of vs) left)
      ∙ ap (λ (x : Hypothesis). hs ++ x ∷ map (hypothesis_of vs) left) same
      ∙ ap (λ (b : Bool). hs ++ map (hypothesis_of vs) (with_mention b v.hypothesis left)) (sym before)
      ∙ stepped
