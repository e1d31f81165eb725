-- The name or the string of a statement fits its text, and the name of a procedure or an object has no zero byte.
use Rattle.std.proofs.Common.{◌≡◌, ℕ, zero, suc, ◌≤◌, ◌==◌, cond, not, Bool, true, false, Option, Some, None, List, [], ◌∷◌, ◌++◌, length, refl, ap, ◌∙◌, subst, bytes_eq, arith}
use Rattle.std.proofs.Math.Dec.{eqb-suc-zero}
use Rattle.std.specs.Prelude.{◌&&◌}
use Rattle.std.proofs.lemmas.List.Sums.{take_while-cons}
use Rattle.std.specs.List.{AllByRecursion, list_all, take_while}
use Rattle.std.specs.Option.{option_and_then, option_map}
use Rattle.rv_asm.specs.declared.number.Number.{Number}
use Rattle.rv_asm.specs.declared.statement.Statement.{Statement}
use Rattle.rv_asm.specs.declared.statement.Statement.TheVariants as the
use Rattle.rv_asm.specs.Bytes.{skip_blanks, after_name, word_of, is_name, is_name_byte}
use Rattle.rv_asm.specs.Operands.{alone, register_name, registers_name, one_name, name_number, one_string}
use Rattle.rv_asm.specs.Operations.{branch_ops, zero_branch_ops}
use Rattle.rv_asm.specs.Registers.{named}
use Rattle.rv_asm.specs.Statements.{◌⇒◌, Found, each, joined, before_name, plain_forms, named_forms, forms, operation}
use Rattle.rv_asm.specs.Tokens.{name_at, number_at}
use Rattle.rv_asm.proofs.ShorterOperands.{step_of, some_is, chosen, alone_is, register_name_shorter, registers_name_shorter, one_name_shorter, name_number_shorter, one_string_shorter}

-- a name without a zero byte
abbrev pub IsClean : List ℕ → Type 0
IsClean name = list_all (λ byte. not (byte == 0)) name ≡ true

-- ---- words

not_zero : (byte : ℕ) → is_name_byte byte ≡ true → not (byte == 0) ≡ true
not_zero zero h = absurd (cc)
not_zero (suc n) h = ap not (eqb-suc-zero n)

word_all : (text : List ℕ) → IsClean (take_while is_name_byte text)
word_all [] = refl
word_all (byte ∷ bytes) = by (is_name_byte byte) refl (word_all bytes)
  where
    by : (b : Bool) → is_name_byte byte ≡ b → IsClean (take_while is_name_byte bytes) → IsClean (take_while is_name_byte (byte ∷ bytes))
    by true is rest =
        let e : take_while is_name_byte (byte ∷ bytes) ≡ byte ∷ take_while is_name_byte bytes = take_while-cons is_name_byte byte bytes ∙ ap (λ t. cond t (byte ∷ take_while is_name_byte bytes) []) is in
        ap (λ r. list_all (λ b. not (b == 0)) r) e ∙ ap (λ t. t && list_all (λ b. not (b == 0)) (take_while is_name_byte bytes)) (not_zero byte is) ∙ rest
    by false is rest =
        let e : take_while is_name_byte (byte ∷ bytes) ≡ [] = take_while-cons is_name_byte byte bytes ∙ ap (λ t. cond t (byte ∷ take_while is_name_byte bytes) []) is in
        ap (λ r. list_all (λ b. not (b == 0)) r) e

word_clean : (text : List ℕ) → IsClean (word_of text)
unfolding word_of
word_clean text = word_all text

name_clean : (text : List ℕ) (x : List ℕ × List ℕ) → name_at text ≡ Some x → IsClean x.0
unfolding name_at
name_clean text x e =
    let same = chosen (is_name (word_of (skip_blanks text))) (word_of (skip_blanks text), after_name (skip_blanks text)) x e in
    subst (λ (p : List ℕ × List ℕ). IsClean p.0) same (word_clean (skip_blanks text))

one_name_clean : (text name : List ℕ) → one_name text ≡ Some name → IsClean name
unfolding one_name
one_name_clean text name e =
    let found = step_of (name_at text) (λ (n : List ℕ × List ℕ). alone n.0 n.1) name e in
    subst IsClean (alone_is found.0.0 found.0.1 name found.1.1) (name_clean text found.0 found.1.0)

name_number_clean : (text : List ℕ) (x : List ℕ × Number) → name_number text ≡ Some x → IsClean x.0
unfolding name_number
name_number_clean text x e =
    let name = step_of (name_at text) (λ (a : List ℕ × List ℕ). option_and_then (λ (n : Number × List ℕ). alone (a.0, n.0) n.1) (number_at a.1)) x e in
    let n = step_of (number_at name.0.1) (λ (n : Number × List ℕ). alone (name.0.0, n.0) n.1) x name.1.1 in
    subst (λ (p : List ℕ × Number). IsClean p.0) (alone_is (name.0.0, n.0.0) n.0.1 x n.1.1) (name_clean text name.0 name.1.0)

-- ---- lists

pub all_append : {X : Type 0} (P : X → Type 0) (xs ys : List X) → AllByRecursion P xs → AllByRecursion P ys → AllByRecursion P (xs ++ ys)
all_append P [] ys p q = q
all_append P (x ∷ xs) ys p q = (p.0, all_append P xs ys p.1 q)

-- ---- forms

-- the name of a procedure or an object has no zero byte
abbrev pub IsNamed : Statement → List ℕ → Type 0
IsNamed the.Procedure name = IsClean name
IsNamed (the.Object size) name = IsClean name
IsNamed other name = Unit {0}

named_any : (s : Statement) (name : List ℕ) → IsClean name → IsNamed s name
named_any the.Procedure name h = h
named_any (the.Object size) name h = h
named_any other name h = tt

-- what is read of a text
pub record IsRead (text : List ℕ) (s : Found) : Type 0 where
  pub short : length s.1 ≤ length text
  pub named : IsNamed s.0 s.1

abbrev Reads : (List ℕ → Option Found) → Type 0
Reads form = (text : List ℕ) (s : Found) → form text ≡ Some s → IsRead text s

by_shape : {A : Type 0} (shape : List ℕ → Option A) (made : A → Found) → ((text : List ℕ) (r : A) → shape text ≡ Some r → IsRead text (made r)) → Reads (shape ⇒ made)
by_shape {A} shape made reads text s e = by (shape text) refl e
  where
    by : (o : Option A) → shape text ≡ o → option_map made o ≡ Some s → IsRead text s
    by None is h = absurd (cc)
    by (Some r) is h = subst (IsRead text) (some_is (made r) s h) (reads text r is)

all_each : {A : Type 0} (ops : List (List ℕ × A)) (form : A → List ℕ → Option Found) → ((op : A) → Reads (form op)) → AllByRecursion (λ (row : List ℕ × (List ℕ → Option Found)). Reads row.1) (each ops form)
unfolding each
all_each [] form all = tt
all_each (op ∷ ops) form all = (all op.1, all_each ops form all)

-- what holds of all rows holds of the row of a name
pub named_all : {A : Type 0} (P : A → Type 0) (name : List ℕ) (rows : List (List ℕ × A)) (found : A) → AllByRecursion (λ (row : List ℕ × A). P row.1) rows → named name rows ≡ Some found → P found
named_all P name [] found all e = absurd (cc)
named_all {A} P name (row ∷ rows) found all e = by (bytes_eq name row.0) (named_all P name rows found all.1) e
  where
    by : (b : Bool) → (named name rows ≡ Some found → P found) → cond b (Some row.1) (named name rows) ≡ Some found → P found
    by true later h = subst P (some_is row.1 found h) all.0
    by false later h = later h

plain_read : (form : List ℕ → Option Statement) → Reads (form ⇒ λ statement. (statement, []))
plain_read form = by_shape form _ (λ text statement e. record { short = omega arith; named = named_any statement [] refl })

forms_read : AllByRecursion (λ (row : List ℕ × (List ℕ → Option Found)). Reads row.1) forms
unfolding named_forms
forms_read =
    all_append _ (each (joined plain_forms) _) (joined named_forms) (all_each (joined plain_forms) _ plain_read)
    (all_append _ (each branch_ops _) _ (all_each branch_ops _ (λ op. by_shape registers_name _ (λ text r e. record { short = registers_name_shorter text r e; named = tt })))
    (all_append _ (each zero_branch_ops _) _ (all_each zero_branch_ops _ (λ op. by_shape register_name _ (λ text r e. record { short = register_name_shorter text r e; named = tt })))
    (all_append _ (each before_name _) _
    (all_each before_name _ (λ statement. by_shape one_name _ (λ text name e. record { short = one_name_shorter text name e; named = named_any statement name (one_name_clean text name e) }))) (
      by_shape one_string _ (λ text bytes e. record { short = one_string_shorter text bytes e; named = tt }),
      (
        by_shape name_number _ (λ text r e. record { short = name_number_shorter text r e; named = name_number_clean text r e }),
        (
          by_shape register_name _ (λ text r e. record { short = register_name_shorter text r e; named = tt }),
          (by_shape register_name _ (λ text r e. record { short = register_name_shorter text r e; named = tt }), tt),
        ),
      ),
    ))))

pub operation_read : (name text : List ℕ) (s : Found) → operation name text ≡ Some s → IsRead text s
unfolding operation
operation_read name text s e =
    let form = step_of (named name forms) (λ (form : List ℕ → Option Found). form text) s e in
    named_all Reads name forms form.0 forms_read form.1.0 text s form.1.1
