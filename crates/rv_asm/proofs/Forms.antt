-- The table of forms, group by group.
use Rattle.std.proofs.Common.{◌≡◌, ℕ, cond, Bool, true, false, Option, Some, None, List, [], ◌∷◌, ◌++◌, refl, ap, sym, ◌∙◌, is_some, bytes_eq}
use Rattle.std.specs.Option.{option_and_then, option_map, option_or}
use Rattle.std.proofs.lemmas.Slice.Eq.{bytes_eq-Decides}
use Rattle.rv_asm.specs.Registers.{named}
use Rattle.rv_asm.specs.Statements.{Form, ◌⇒◌, each, joined, made_by, Found, plain_forms, named_forms, operation}
use Rattle.rv_asm.specs.declared.statement.Statement.{Statement}

-- ---- rows

none_of : {A : Type 0} (o : Option A) → is_some o ≡ false → o ≡ None
none_of None h = refl
none_of (Some x) h = absurd (cc)

or_none : {A : Type 0} (o : Option A) → option_or o None ≡ o
or_none None = refl
or_none (Some x) = refl

each_named : {A B : Type 0} (name : List ℕ) (ops : List (List ℕ × A)) (form : A → List ℕ → Option B) → named name (each ops form) ≡ option_map form (named name ops)
unfolding each
each_named name [] form = refl
each_named name (op ∷ ops) form = by (bytes_eq name op.0) (each_named name ops form)
  where
    by : (b : Bool) → named name (each ops form) ≡ option_map form (named name ops) → cond b (Some (form op.1)) (named name (each ops form)) ≡ option_map form (cond b (Some op.1) (named name ops))
    by true rest = refl
    by false rest = rest

-- what the row of an operation makes
pub each_is : {A B : Type 0} (ops : List (List ℕ × A)) (form : A → List ℕ → Option B) (name text : List ℕ) (made : Option B) → made ≡ option_and_then (λ op. form op text) (named name ops) → made ≡ made_by (each ops form) name text
each_is {A} {B} ops form name text made e = e ∙ by (named name ops) ∙ ap (option_and_then (λ (f : List ℕ → Option B). f text)) (sym (each_named name ops form))
  where
    by : (o : Option A) → option_and_then (λ op. form op text) o ≡ option_and_then (λ f. f text) (option_map form o)
    by None = refl
    by (Some op) = refl

-- ---- groups of rows

-- no name stands in both
abbrev apart : {A : Type 0} → List (Form A) → List (Form A) → Bool
apart [] ys = true
apart (x ∷ xs) ys = cond (is_some (named x.0 ys)) false (apart xs ys)

neither : (b c : Bool) → cond b false c ≡ true → (b ≡ false) × (c ≡ true)
neither true c h = absurd (cc)
neither false c h = (refl, h)

made_or : {A : Type 0} (name text : List ℕ) (xs ys : List (Form A)) → apart xs ys ≡ true → made_by (xs ++ ys) name text ≡ option_or (made_by xs name text) (made_by ys name text)
made_or name text [] ys h = refl
made_or {A} name text (x ∷ xs) ys h =
    let parts = neither (is_some (named x.0 ys)) (apart xs ys) h in
    by (bytes_eq name x.0) refl (none_of (named x.0 ys) parts.0) (made_or name text xs ys parts.1)
  where
    made : Option (List ℕ → Option A) → Option A
    made o = option_and_then (λ form. form text) o

    by : (b : Bool) → bytes_eq name x.0 ≡ b → named x.0 ys ≡ None → made (named name (xs ++ ys)) ≡ option_or (made (named name xs)) (made (named name ys)) → made (cond b (Some x.1) (named name (xs ++ ys))) ≡ option_or (made (cond b (Some x.1) (named name xs))) (made (named name ys))
    by true is none rest =
        let same : name ≡ x.0 = (bytes_eq-Decides name x.0).0 is in
        sym (or_none (x.1 text)) ∙ ap (λ o. option_or (x.1 text) (made o)) (sym none ∙ ap (λ n. named n ys) (sym same))
    by false is none rest = rest

abbrev beside : Statement → Found
beside statement = (statement, [])

-- no name stands in both tables
all_apart : apart (each (joined plain_forms) (λ form. form ⇒ λ statement. (statement, []))) (joined named_forms) ≡ true
unfolding plain_forms named_forms each
all_apart = refl

-- a statement without a name or a string, else one with it
pub operation_is : (name text : List ℕ) (plain : Option Statement) → plain ≡ made_by (joined plain_forms) name text → option_or (option_map (λ statement. (statement, [])) plain) (made_by (joined named_forms) name text) ≡ operation name text
unfolding operation
operation_is name text plain e =
    ap (λ o. option_or o (made_by (joined named_forms) name text)) (each_is (joined plain_forms) (λ form. form ⇒ beside) name text (option_map beside plain) (ap (option_map beside) e ∙ by (named name (joined plain_forms))))
    ∙ sym (made_or name text (each (joined plain_forms) (λ form. form ⇒ λ statement. (statement, []))) (joined named_forms) all_apart)
  where
    by : (o : Option (List ℕ → Option Statement)) → option_map beside (option_and_then (λ form. form text) o) ≡ option_and_then (λ form. option_map beside (form text)) o
    by None = refl
    by (Some form) = refl
