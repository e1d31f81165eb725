-- The values of variables are those of their last changes.
use Rattle.std.proofs.Common.{◌≡◌, ℕ, zero, suc, ◌+◌, ◌^◌, ◌<◌, ◌≤◌, List, [], ◌∷◌, ◌++◌, length, get_or, refl, sym, ap, ◌∙◌, subst, arith, ⊎_elim}
use Rattle.std.specs.Prelude.{Bool, true, false, ◌==◌, if◌then◌else◌, slice_index, slice_set}
use Rattle.std.proofs.lemmas.List.{length-set, length-map, get_or-set_same, get_or-set_other}
use Rattle.std.proofs.lemmas.Bool.{cases_Bool, cond-true, cond-false, eqb-true, eqb-false}
use Rattle.pn_types.specs.declared.plan.Var.{Var}
use Rattle.tramp_spec.specs.Slots.{initials}
use Rattle.frame_walk.specs.declared.changes.Change.{Change}
use Rattle.frame_walk.specs.Changes.{values_changed, last_of, AreSmall}

-- one change more
pub changed_more : (cs : List Change) (c : Change) (values : List ℕ) → values_changed values (cs ++ c ∷ []) ≡ slice_set (values_changed values cs) c.variable c.value
changed_more [] c values = refl
changed_more (d ∷ cs) c values = changed_more cs c (slice_set values d.variable d.value)

set_index : (values : List ℕ) (w x v : ℕ) → v < length values → slice_index (slice_set values w x) v ≡ (if w == v then x else slice_index values v)
set_index values w x v l = ⊎_elim same other (cases_Bool (w == v))
  where
    same : (w == v) ≡ true → slice_index (slice_set values w x) v ≡ (if w == v then x else slice_index values v)
    same e =
        subst (λ z. slice_index (slice_set values z x) v ≡ x) (sym (eqb-true w v e)) (get_or-set_same values v x 0 l) ∙ sym (cond-true (w == v) x (slice_index values v) e)

    other : (w == v) ≡ false → slice_index (slice_set values w x) v ≡ (if w == v then x else slice_index values v)
    other e = get_or-set_other values w v x 0 (λ q. eqb-false w v e (sym q)) ∙ sym (cond-false (w == v) x (slice_index values v) e)

-- the last change of a variable decides
pub last_is : (cs : List Change) (values : List ℕ) (v : ℕ) → v < length values → last_of v (slice_index values v) cs ≡ slice_index (values_changed values cs) v
last_is [] values v l = refl
last_is (c ∷ cs) values v l =
    ap (λ x. last_of v x cs) (sym (set_index values c.variable c.value v l)) ∙ last_is cs (slice_set values c.variable c.value) v (let e = length-set values c.variable c.value in omega arith)

changed_length : (cs : List Change) (values : List ℕ) → length (values_changed values cs) ≡ length values
changed_length [] values = refl
changed_length (c ∷ cs) values = changed_length cs (slice_set values c.variable c.value) ∙ length-set values c.variable c.value

initial_index : (vars : List Var) (v : ℕ) (d : Var) → v < length vars → slice_index (initials vars) v ≡ (get_or vars v d).initially
initial_index [] v d l = absurd (omega arith)
initial_index (x ∷ vars) zero d l = refl
initial_index (x ∷ vars) (suc v) d l = initial_index vars v d (omega arith)

past_index : (values : List ℕ) (v : ℕ) → length values ≤ v → slice_index values v ≡ 0
past_index [] v l = refl
past_index (y ∷ values) zero l = absurd (omega arith)
past_index (y ∷ values) (suc v) l = past_index values v (omega arith)

pub value_here : (cs : List Change) (vars : List Var) (v : ℕ) (d : Var) → v < length vars → last_of v (get_or vars v d).initially cs ≡ slice_index (values_changed (initials vars) cs) v
value_here cs vars v d l =
    ap (λ x. last_of v x cs) (sym (initial_index vars v d l)) ∙ last_is cs (initials vars) v (let n = length-map vars (λ (x : Var). x.initially) in omega arith)

pub value_past : (cs : List Change) (vars : List Var) (v : ℕ) → length vars ≤ v → 0 ≡ slice_index (values_changed (initials vars) cs) v
value_past cs vars v l = sym (past_index (values_changed (initials vars) cs) v (let n = length-map vars (λ (x : Var). x.initially) in let k = changed_length cs (initials vars) in omega arith))

-- ---- small values

pub last_small : (n v x : ℕ) (cs : List Change) → x < 2 ^ 32 + n → AreSmall n cs → last_of v x cs < 2 ^ 32 + n
last_small n v x [] l h = l
last_small n v x (c ∷ cs) l h = last_small n v (if c.variable == v then c.value else x) cs (by (c.variable == v)) h.1
  where
    by : (b : Bool) → (if b then c.value else x) < 2 ^ 32 + n
    by true = h.0
    by false = l
