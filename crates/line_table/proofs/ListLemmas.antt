-- Lists that are read one item after the other.
use Rattle.std.proofs.Common.{◌≡◌, ℕ, suc, ◌+◌, ◌-◌, ◌<◌, ◌≤◌, List, [], ◌∷◌, ◌++◌, Result, Ok, Err, refl, sym, ap, ◌∙◌, subst, append_assoc, arith}
use Rattle.std.proofs.lemmas.List.{append-nil}
use Rattle.line_table.specs.Reading.{Read, ◌>>=◌, many, Means}
use Rattle.line_table.specs.declared.fault.LineFault.{LineFault}
use Rattle.line_table.specs.declared.fault.LineError.{LineError}
use Rattle.line_table.specs.declared.fault.LineError.TheVariants.{Fault}

-- items in front of those that are read
abbrev pub with_items : {A : Type 0} → List A → Read (List A) → Read (List A)
with_items front read = read >>= λ more. Ok (front ++ more.0, more.1)

module _ {A : Type 0} where
  pub no_items : (read : Read (List A)) → with_items [] read ≡ read
  no_items (Ok read) = refl
  no_items (Err e) = refl

  pub items_more : (front : List A) (x : A) (read : Read (List A)) → with_items front (read >>= λ more. Ok (x ∷ more.0, more.1)) ≡ with_items (front ++ x ∷ []) read
  items_more front x (Ok more) = ap (λ items. Ok (items, more.1)) (sym (append_assoc front (x ∷ []) more.0))
  items_more front x (Err e) = refl

module _ {A : Type 0} (one : ℕ → Read A) where
  many-next : (n i at : ℕ) → i < n → many one (n - i) at ≡ (one at >>= λ x. many one (n - (i + 1)) x.1 >>= λ more. Ok (x.0 ∷ more.0, more.1))
  many-next n i at lt = let k : n - i ≡ suc (n - (i + 1)) = omega arith in ap (λ m. many one m at) k

  pub many_more : (n i at : ℕ) (front new : List A) (x : A × ℕ) (all : Read (List A)) → i < n → one at ≡ Ok x → new ≡ front ++ x.0 ∷ []
      → with_items front (many one (n - i) at) ≡ all → with_items new (many one (n - (i + 1)) x.1) ≡ all
  many_more n i at front new x all lt e pushed so_far =
      ap (λ f. with_items f (many one (n - (i + 1)) x.1)) pushed
      ∙ sym (items_more front x.0 (many one (n - (i + 1)) x.1))
      ∙ sym (ap (λ read. with_items front (read >>= λ x. many one (n - (i + 1)) x.1 >>= λ more. Ok (x.0 ∷ more.0, more.1))) e)
      ∙ sym (ap (λ read. with_items front read) (many-next n i at lt))
      ∙ so_far

  pub many_fault : (n i at : ℕ) (front : List A) (f : LineFault) (all : Read (List A)) → i < n → one at ≡ Err f → with_items front (many one (n - i) at) ≡ all → all ≡ Err f
  many_fault n i at front f all lt e so_far =
      sym so_far ∙ ap (λ read. with_items front read) (many-next n i at lt)
      ∙ ap (λ read. with_items front (read >>= λ x. many one (n - (i + 1)) x.1 >>= λ more. Ok (x.0 ∷ more.0, more.1))) e

  pub many_all : (n i at : ℕ) (front : List A) (all : Read (List A)) → n ≤ i → with_items front (many one (n - i) at) ≡ all → all ≡ Ok (front, at)
  many_all n i at front all le so_far =
      let k : n - i ≡ 0 = omega arith in
      sym so_far ∙ ap (λ m. with_items front (many one m at)) k ∙ ap (λ items. Ok (items, at)) (append-nil front)

-- ---- the exit of a `?`

pub refused : {A B : Type 0} (view : A → B) (result : Result A LineError) (read : Result B LineFault) (f : LineFault) (y : LineError)
    → result ≡ Err y → y ≡ Fault f → read ≡ Err f → Means view result read
refused {A = A} view result read f y is given e =
    let Told : Result A LineError → Type 0 = λ r. Means view r read in
    subst Told (sym (is ∙ ap (λ e. Err e) given)) e
