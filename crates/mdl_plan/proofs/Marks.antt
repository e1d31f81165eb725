-- How lists of numbers grow.
use Rattle.std.proofs.Common.{◌≡◌, ℕ, ◌+◌, ◌-◌, ◌<◌, ◌==◌, ◌||◌, cond, Bool, true, false, Option, List, [], ◌∷◌, ◌++◌, length, take, get_or, slice_get, refl, sym, ap, ◌∙◌, subst, arith, eq-eqb}
use Rattle.std.specs.List.{list_any}
use Rattle.std.specs.Option.{option_map_or}
use Rattle.std.proofs.lemmas.List.{take_more, length_push}
use Rattle.std.proofs.lemmas.List.Folds.{list_any-append}
use Rattle.mdl_plan.proofs.Elements.{get_behind}
use Rattle.mdl_plan.specs.Numbers.{Marked, ends_with, once}

-- a list ends with what is put last
ends_push : (i : ℕ) (l : List ℕ) → ends_with i (l ++ i ∷ []) ≡ true
ends_push i l =
    let len : length (l ++ i ∷ []) - 1 ≡ length l = rw length_push (omega arith) in
    ap (λ (o : Option ℕ). option_map_or (λ x. x == i) o false) (ap (slice_get (l ++ i ∷ [])) len ∙ get_behind l i []) ∙ eq-eqb i i refl

-- the second time nothing changes
once_more : (i : ℕ) (l : List ℕ) → once i (once i l) ≡ once i l
once_more i l = by (ends_with i l) refl
  where
    by : (b : Bool) → ends_with i l ≡ b → once i (cond b l (l ++ i ∷ [])) ≡ cond b l (l ++ i ∷ [])
    by true e = ap (λ (b : Bool). cond b l (l ++ i ∷ [])) e
    by false e = ap (λ (b : Bool). cond b (l ++ i ∷ []) ((l ++ i ∷ []) ++ i ∷ [])) (ends_push i l)

-- one more procedure
pub mark_more : (i q : ℕ) (qs : List ℕ) (a b c : List (List ℕ)) → Marked i qs a b → Marked i (q ∷ []) b c → Marked i (qs ++ q ∷ []) a c
mark_more i q qs a b c h k = record {
  len = k.len ∙ h.len;
  at = λ r lt.
      let lt_b : r < length b = omega (arith, h.len) in
      k.at r lt_b
      ∙ by r (q == r) (list_any (λ x. x == r) qs) refl refl (h.at r lt)
      ∙ ap (λ (x : Bool). cond x (once i (get_or a r [])) (get_or a r [])) (sym (list_any-append (λ x. x == r) qs (q ∷ [])));
}
  where
    by : (r : ℕ) (x y : Bool) → (q == r) ≡ x → list_any (λ z. z == r) qs ≡ y → get_or b r [] ≡ cond (list_any (λ z. z == r) qs) (once i (get_or a r [])) (get_or a r [])
        → cond (x || false) (once i (get_or b r [])) (get_or b r []) ≡ cond (y || (x || false)) (once i (get_or a r [])) (get_or a r [])
    by r true true ex ey e = ap (once i) (e ∙ ap (λ (z : Bool). cond z (once i (get_or a r [])) (get_or a r [])) ey) ∙ once_more i (get_or a r [])
    by r true false ex ey e = ap (once i) (e ∙ ap (λ (z : Bool). cond z (once i (get_or a r [])) (get_or a r [])) ey)
    by r false true ex ey e = e ∙ ap (λ (z : Bool). cond z (once i (get_or a r [])) (get_or a r [])) ey
    by r false false ex ey e = e ∙ ap (λ (z : Bool). cond z (once i (get_or a r [])) (get_or a r [])) ey

-- the next procedure
pub next_mark : (i j q : ℕ) (qs : List ℕ) (a b c : List (List ℕ)) → j < length qs → q ≡ get_or qs j 0 → Marked i (take j qs) a b → Marked i (q ∷ []) b c → Marked i (take (j + 1) qs) a c
next_mark i j q qs a b c lt is h k =
    subst (λ (ps : List ℕ). Marked i ps a c) (sym (take_more qs j 0 lt ∙ ap (λ (p : ℕ). take j qs ++ p ∷ []) (sym is))) (mark_more i q (take j qs) a b c h k)
