-- What is found by name among the kept names is what is looked for among the items.
use Rattle.std.proofs.Common.{◌≡◌, ℕ, suc, ◌+◌, ◌<◌, ◌≤◌, ◌||◌, IfSome, length, cond, Bool, true, false, Option, Some, None, is_some, List, [], ◌∷◌, ◌++◌, bytes_eq, slice_get, refl, sym, ap, ◌∙◌, arith, if◌then◌else◌}
use Rattle.std.specs.List.{list_any, position_from}
use Rattle.std.specs.Option.{option_map, option_and_then}
use Rattle.std.specs.Prelude.{option_to_list}
use Rattle.std.proofs.lemmas.Iterator.Adapters.{position_from-zero}
use Rattle.first_places.specs.Places.{first_place}
use Rattle.first_places.proofs.Somewhere.{stands_somewhere}
use Rattle.mdl_ast.specs.declared.items.Item.{Item}
use Rattle.mdl_ast.specs.declared.metric.Constraint.{Constraint as TheConstraint}
use Rattle.mdl_check.specs.Placed.{Entry}
use Rattle.mdl_check.specs.Names.{hypothesis_name, is_named, metric_name, number_from, metric_number, as_constraint, constraint_named, constraints_in, hypothesis_place, has_name}
use Rattle.mdl_check.specs.Indexes.{names_in, metric_names, constraint_names, places_from}

-- ---- the first of a name

-- beside names, what stands beside the first of this name
abbrev first_of : {X : Type 0} → List ℕ → List (List ℕ) → List X → Option X
first_of name [] xs = None
first_of name (n ∷ ns) [] = None
first_of name (n ∷ ns) (x ∷ xs) = if bytes_eq name n then Some x else first_of name ns xs

abbrev place_of : List ℕ → List (List ℕ) → Option ℕ
place_of name [] = None
place_of name (n ∷ ns) = if bytes_eq name n then Some 0 else option_map suc (place_of name ns)

behind : (i : ℕ) (o : Option ℕ) → option_map (λ j. i + 1 + j) o ≡ option_map (λ j. i + j) (option_map suc o)
behind i None = refl
behind i (Some j) = ap Some (omega arith)

counted_from : (name : List ℕ) (i : ℕ) (ns : List (List ℕ)) → position_from (bytes_eq name) i ns ≡ option_map (λ j. i + j) (place_of name ns)
counted_from name i [] = refl
counted_from name i (n ∷ ns) = by (bytes_eq name n) (counted_from name (i + 1) ns ∙ behind i (place_of name ns))
  where
    by : (b : Bool) → position_from (bytes_eq name) (i + 1) ns ≡ option_map (λ j. i + j) (option_map suc (place_of name ns)) →
        cond b (Some i) (position_from (bytes_eq name) (i + 1) ns) ≡ option_map (λ j. i + j) (cond b (Some 0) (option_map suc (place_of name ns)))
    by true h = ap Some (omega arith)
    by false h = h

same_number : (o : Option ℕ) → option_map (λ j. 0 + j) o ≡ o
same_number None = refl
same_number (Some j) = ap Some (omega arith)

first_is : (name : List ℕ) (ns : List (List ℕ)) → first_place name ns ≡ place_of name ns
first_is name ns = position_from-zero (bytes_eq name) ns ∙ counted_from name 0 ns ∙ same_number (place_of name ns)

later : {X : Type 0} (x : X) (xs : List X) (o : Option ℕ) → option_and_then (slice_get (x ∷ xs)) (option_map suc o) ≡ option_and_then (slice_get xs) o
later x xs None = refl
later x xs (Some j) = refl

none_beside : {X : Type 0} (xs : List X) (o : Option ℕ) → xs ≡ [] → option_and_then (slice_get xs) o ≡ None
none_beside xs None e = refl
none_beside xs (Some j) e = ap (λ l. slice_get l j) e

beside : {X : Type 0} (name : List ℕ) (ns : List (List ℕ)) (xs : List X) → option_and_then (slice_get xs) (place_of name ns) ≡ first_of name ns xs
beside name [] xs = refl
beside name (n ∷ ns) [] = none_beside [] (place_of name (n ∷ ns)) refl
beside name (n ∷ ns) (x ∷ xs) = by (bytes_eq name n) (later x xs (place_of name ns) ∙ beside name ns xs)
  where
    by : (b : Bool) → option_and_then (slice_get (x ∷ xs)) (option_map suc (place_of name ns)) ≡ first_of name ns xs →
        option_and_then (slice_get (x ∷ xs)) (cond b (Some 0) (option_map suc (place_of name ns))) ≡ cond b (Some x) (first_of name ns xs)
    by true h = refl
    by false h = h

-- what stands at the first place of a name
found : {X : Type 0} (name : List ℕ) (ns : List (List ℕ)) (xs : List X) → option_and_then (slice_get xs) (first_place name ns) ≡ first_of name ns xs
found name ns xs = ap (option_and_then (slice_get xs)) (first_is name ns) ∙ beside name ns xs

-- ---- metrics

number_is : (name : List ℕ) (k : ℕ) (es : List Entry) → number_from k es name ≡ position_from (bytes_eq name) k (metric_names es)
number_is name k [] = refl
number_is name k (e ∷ es) = by (metric_name e.item) (number_is name k es) (number_is name (k + 1) es)
  where
    by : (o : Option (List ℕ)) → number_from k es name ≡ position_from (bytes_eq name) k (metric_names es) → number_from (k + 1) es name ≡ position_from (bytes_eq name) (k + 1) (metric_names es) →
        elim o [ None ↦ number_from k es name | Some own ↦ if bytes_eq name own then Some k else number_from (k + 1) es name ] ≡ position_from (bytes_eq name) k (option_to_list o ++ metric_names es)
    by None h g = h
    by (Some own) h g = ap (cond (bytes_eq name own) (Some k)) g

pub metric_is : (name : List ℕ) (es : List Entry) → first_place name (metric_names es) ≡ metric_number es name
metric_is name es = position_from-zero (bytes_eq name) (metric_names es) ∙ sym (number_is name 0 es)

-- ---- constraints

first_constraint : (name : List ℕ) (es : List Entry) → constraint_named (constraints_in es) name ≡ first_of name (constraint_names es) (constraints_in es)
first_constraint name [] = refl
first_constraint name (e ∷ es) = by (as_constraint e.item) (first_constraint name es)
  where
    by : (o : Option TheConstraint) → constraint_named (constraints_in es) name ≡ first_of name (constraint_names es) (constraints_in es) →
        constraint_named (option_to_list o ++ constraints_in es) name ≡ first_of name (option_to_list (option_map (λ c. c.name) o) ++ constraint_names es) (option_to_list o ++ constraints_in es)
    by None h = h
    by (Some c) h = ap (cond (bytes_eq name c.name) (Some c)) h

pub constraint_is : (name : List ℕ) (es : List Entry) → option_and_then (slice_get (constraints_in es)) (first_place name (constraint_names es)) ≡ constraint_named (constraints_in es) name
constraint_is name es = found name (constraint_names es) (constraints_in es) ∙ sym (first_constraint name es)

-- ---- hypotheses

first_hypothesis : (name : List ℕ) (k : ℕ) (es : List Entry) →
    position_from (λ e. is_named name (hypothesis_name e.item)) k es ≡ first_of name (names_in hypothesis_name es) (places_from k es)
first_hypothesis name k [] = refl
first_hypothesis name k (e ∷ es) = by (hypothesis_name e.item) (first_hypothesis name (k + 1) es)
  where
    rest : Option ℕ
    rest = position_from (λ e. is_named name (hypothesis_name e.item)) (k + 1) es

    by : (o : Option (List ℕ)) → rest ≡ first_of name (names_in hypothesis_name es) (places_from (k + 1) es) →
        cond (is_named name o) (Some k) rest ≡ first_of name (option_to_list o ++ names_in hypothesis_name es) (option_to_list (option_map (λ name. k) o) ++ places_from (k + 1) es)
    by None h = h
    by (Some own) h = ap (cond (bytes_eq name own) (Some k)) h

pub hypothesis_is : (name : List ℕ) (es : List Entry) → option_and_then (slice_get (places_from 0 es)) (first_place name (names_in hypothesis_name es)) ≡ hypothesis_place es name
hypothesis_is name es =
    found name (names_in hypothesis_name es) (places_from 0 es)
    ∙ sym (first_hypothesis name 0 es)
    ∙ sym (position_from-zero (λ e. is_named name (hypothesis_name e.item)) es)

-- ---- whether a name stands there

any_name : (own : Item → Option (List ℕ)) (name : List ℕ) (es : List Entry) → list_any (bytes_eq name) (names_in own es) ≡ has_name own name es
any_name own name [] = refl
any_name own name (e ∷ es) = by (own e.item) (any_name own name es)
  where
    by : (o : Option (List ℕ)) → list_any (bytes_eq name) (names_in own es) ≡ has_name own name es →
        list_any (bytes_eq name) (option_to_list o ++ names_in own es) ≡ (is_named name o || has_name own name es)
    by None h = h
    by (Some other) h = ap (λ (b : Bool). bytes_eq name other || b) h

pub stands_is : (own : Item → Option (List ℕ)) (name : List ℕ) (es : List Entry) → is_some (first_place name (names_in own es)) ≡ has_name own name es
stands_is own name es = stands_somewhere name (names_in own es) ∙ any_name own name es

-- ---- what an index finds

pub metric_at : (name : List ℕ) (es all : List Entry) (names : List (List ℕ)) → names ≡ metric_names es → es ≡ all → first_place name names ≡ metric_number all name
metric_at name es all names are same = ap (first_place name) are ∙ metric_is name es ∙ ap (λ (l : List Entry). metric_number l name) same

pub constraint_at : (name : List ℕ) (es all : List Entry) (names : List (List ℕ)) (uses : List TheConstraint) (o : Option ℕ) → names ≡ constraint_names es → uses ≡ constraints_in es → es ≡ all → o ≡ first_place name names →
    option_and_then (slice_get uses) o ≡ constraint_named (constraints_in all) name
constraint_at name es all names uses o are values same h =
    ap (option_and_then (slice_get uses)) (h ∙ ap (first_place name) are)
    ∙ ap (λ (l : List TheConstraint). option_and_then (slice_get l) (first_place name (constraint_names es))) values
    ∙ constraint_is name es
    ∙ ap (λ (l : List Entry). constraint_named (constraints_in l) name) same

pub hypothesis_at : (name : List ℕ) (es all : List Entry) (names : List (List ℕ)) (places : List ℕ) (o : Option ℕ) → names ≡ names_in hypothesis_name es → places ≡ places_from 0 es → es ≡ all → o ≡ first_place name names →
    option_and_then (slice_get places) o ≡ hypothesis_place all name
hypothesis_at name es all names places o are values same h =
    ap (option_and_then (slice_get places)) (h ∙ ap (first_place name) are)
    ∙ ap (λ (l : List ℕ). option_and_then (slice_get l) (first_place name (names_in hypothesis_name es))) values
    ∙ hypothesis_is name es
    ∙ ap (λ (l : List Entry). hypothesis_place l name) same

pub stands_at : (own : Item → Option (List ℕ)) (name : List ℕ) (es all : List Entry) (names : List (List ℕ)) → names ≡ names_in own es → es ≡ all → is_some (first_place name names) ≡ has_name own name all
stands_at own name es all names are same = ap (λ (l : List (List ℕ)). is_some (first_place name l)) are ∙ stands_is own name es ∙ ap (has_name own name) same

-- there are no more metrics than items
more : (o : Option ℕ) (a b : ℕ) → a ≤ b → IfSome o (λ n. n < a) → IfSome o (λ n. n < b)
more None a b le h = tt
more (Some n) a b le h = omega (arith, le, h)

abbrev IsBelow : ℕ → Option ℕ → Type 0
IsBelow m o = IfSome o (λ n. n < m)

below_from : (name : List ℕ) (k : ℕ) (es : List Entry) → IfSome (number_from k es name) (λ n. n < k + length es)
below_from name k [] = tt
below_from name k (e ∷ es) =
    by (metric_name e.item) (more (number_from k es name) (k + length es) (k + length (e ∷ es)) (omega arith) (below_from name k es))
    (more (number_from (k + 1) es name) (k + 1 + length es) (k + length (e ∷ es)) (omega arith) (below_from name (k + 1) es))
  where
    either : (b : Bool) → IsBelow (k + length (e ∷ es)) (number_from (k + 1) es name) → IsBelow (k + length (e ∷ es)) (cond b (Some k) (number_from (k + 1) es name))
    either true h = omega arith
    either false h = h

    by : (o : Option (List ℕ)) → IsBelow (k + length (e ∷ es)) (number_from k es name) → IsBelow (k + length (e ∷ es)) (number_from (k + 1) es name) →
        IsBelow (k + length (e ∷ es)) (elim o [ None ↦ number_from k es name | Some own ↦ if bytes_eq name own then Some k else number_from (k + 1) es name ])
    by None h g = h
    by (Some own) h g = either (bytes_eq name own) g

pub metric_below : (name : List ℕ) (es : List Entry) → IfSome (metric_number es name) (λ n. n < length es)
metric_below name es = more (metric_number es name) (0 + length es) (length es) (omega arith) (below_from name 0 es)
