-- The rows and the costs add up.
use Rattle.std.proofs.Common.{◌≡◌, ℕ, ◌+◌, ◌<◌, ◌≤◌, List, [], ◌∷◌, map, flat_map, Bool, true, false, cond, leb, not, nat_eq, Option, Some, None, refl, ap, sym, subst, ◌∙◌, ⊎_elim, arith}
use Rattle.std.specs.Prelude.{is_none, sum, sum_by}
use Rattle.std.specs.List.Sorted.{IsPermutation}
use Rattle.std.proofs.lemmas.Bool.{cases_lt}
use Rattle.std.proofs.lemmas.Bool.Decides.{nat_tests}
use Rattle.std.proofs.lemmas.List.Sorted.{IsPermutation-cons, IsPermutation-swap, IsPermutation-trans, sum_by-IsPermutation}
use Rattle.std.proofs.lemmas.List.Sums.{sum_by-append, sum_by-cons}
use Rattle.pn_types.specs.declared.code.Proc.{Proc}
use Rattle.pn_types.specs.declared.image.Image.{Image}
use Rattle.rv_mem.specs.Start.{program_of}
use Rattle.rv_word.specs.Memory.{in_range}
use Rattle.word_counts.specs.declared.profile.Profile.{Profile}
use Rattle.word_flow.specs.Numbers.{sum_at}
use Rattle.profile_text.specs.Callgrind.{executed}
use Rattle.profile_text.specs.Finding.{DoAscend}
use Rattle.profile_text.specs.Laws.{costed_words}
use Rattle.profile_text.specs.Names.{procedure_at}
use Rattle.profile_text.specs.NumberedWords.{numbered_words, words_of_none, words_of_procedure}
use Rattle.profile_text.specs.Rows.{Row, by_ticks, insert_by_ticks, procedure_row, rows_of}
use Rattle.profile_text.specs.Totals.{Fits, ticks_of, ticks_of_none, ticks_outside}
use Rattle.profile_text.specs.declared.numbered_word.NumberedWord.{NumberedWord}
use Rattle.profile_text.proofs.Ascending.{Follow, Has, follows, none_found, starts}
use Rattle.profile_text.proofs.Ranges.{sum_at-with_numbers, words_at}

-- ---- sums at sets of words

sum_at-all : (ns : List ℕ) (a : ℕ) → sum_at (λ b. true) ns a ≡ sum ns
sum_at-all [] a = refl
sum_at-all (n ∷ ns) a = ap (λ s. n + s) (sum_at-all ns (a + 4)) ∙ sym (sum_by-cons (λ (x : ℕ). x) n ns)

-- two sets that share no word, and all their words
sum_at-split : (t u v : ℕ → Bool) → ((b n : ℕ) → cond (t b) n 0 + cond (u b) n 0 ≡ cond (v b) n 0) → (ns : List ℕ) (a : ℕ)
    → sum_at t ns a + sum_at u ns a ≡ sum_at v ns a
sum_at-split t u v h [] a = refl
sum_at-split t u v h (n ∷ ns) a = omega (arith, h a n, sum_at-split t u v h ns (a + 4))

none_if : (b : Bool) (p : Proc) (o : Option Proc) (n : ℕ) → (b ≡ true → o ≡ None) → cond b n 0 + cond (is_none (cond b (Some p) o)) n 0 ≡ cond (is_none o) n 0
none_if true p o n h =
    let e : cond (is_none o) n 0 ≡ n = ap (λ (z : Option Proc). cond (is_none z) n 0) (h refl) in
    omega arith
none_if false p o n h = omega arith

has_range : (b : ℕ) → Has (λ p. in_range p.start p.len b) b
has_range b q l e = (grind (arith, nat_tests), grind (arith, nat_tests))

-- the ticks of procedures that follow one another, and of no procedure
parts : (k : ℕ) (ps : List Proc) → Follow k ps → (ns : List ℕ) (a : ℕ)
    → sum_by (λ p. sum_at (in_range p.start p.len) ns a) ps + sum_at (λ b. is_none (procedure_at ps b)) ns a ≡ sum ns
parts k [] h ns a =
    let e : sum_at (λ b. is_none (procedure_at [] b)) ns a ≡ sum ns = sum_at-all ns a in
    omega arith
parts k (p ∷ ps) h ns a =
    let rest = parts (p.start + p.len) ps h.2 ns a in
    let e = sum_by-cons (λ (q : Proc). sum_at (in_range q.start q.len) ns a) p ps in
    let s = sum_at-split (in_range p.start p.len) (λ b. is_none (procedure_at (p ∷ ps) b)) (λ b. is_none (procedure_at ps b))
    (λ b n. none_if (in_range p.start p.len b) p (procedure_at ps b) n
    (λ t. none_found (λ q. in_range q.start q.len b) b (p.start + p.len) ps (has_range b) h.2
    (λ j d l. let f = starts (p.start + p.len) ps h.2 j l d in let g = (has_range b p h.1 t).1 in omega arith))) ns a in
    omega arith

-- ---- rows

swap_heads : (x y : Row) (ys : List Row) → IsPermutation (x ∷ (y ∷ ys)) (y ∷ (x ∷ ys))
swap_heads x y ys = IsPermutation-swap (x ∷ (y ∷ ys)) (y ∷ (x ∷ ys)) 0 1 (omega arith) (omega arith) refl

inserted : (x : Row) (ys : List Row) → IsPermutation (x ∷ ys) (insert_by_ticks x ys)
inserted x [] = record { moves = []; below = tt; is = refl }
inserted x (y ∷ ys) =
    ⊎_elim
    (λ (m : x.ticks < y.ticks).
    let e : leb y.ticks x.ticks ≡ false = grind (arith, nat_tests) in
    subst (λ b. IsPermutation (x ∷ (y ∷ ys)) (cond b (x ∷ (y ∷ ys)) (y ∷ insert_by_ticks x ys))) (sym e)
    (IsPermutation-trans (x ∷ (y ∷ ys)) (y ∷ (x ∷ ys)) (y ∷ insert_by_ticks x ys) (swap_heads x y ys)
    (IsPermutation-cons y (x ∷ ys) (insert_by_ticks x ys) (inserted x ys))))
    (λ (m : y.ticks ≤ x.ticks).
    let e : leb y.ticks x.ticks ≡ true = grind (arith, nat_tests) in
    subst (λ b. IsPermutation (x ∷ (y ∷ ys)) (cond b (x ∷ (y ∷ ys)) (y ∷ insert_by_ticks x ys))) (sym e) (record { moves = []; below = tt; is = refl }))
    (cases_lt x.ticks y.ticks)

pub rows_permuted : (xs : List Row) → IsPermutation xs (by_ticks xs)
rows_permuted [] = record { moves = []; below = tt; is = refl }
rows_permuted (x ∷ xs) =
    IsPermutation-trans (x ∷ xs) (x ∷ by_ticks xs) (insert_by_ticks x (by_ticks xs)) (IsPermutation-cons x xs (by_ticks xs) (rows_permuted xs)) (inserted x (by_ticks xs))

sum_rows : (image : Image) (r : Profile) (ps : List Proc)
    → sum_by (λ x. x.ticks) (map (procedure_row image r) ps) ≡ sum_by (λ p. sum_at (in_range p.start p.len) r.numbers image.text_at) ps
sum_rows image r [] = refl
sum_rows image r (p ∷ ps) =
    sum_by-cons (λ (x : Row). x.ticks) (procedure_row image r p) (map (procedure_row image r) ps)
    ∙ ap (λ s. sum_at (in_range p.start p.len) r.numbers image.text_at + s) (sum_rows image r ps)
    ∙ sym (sum_by-cons (λ (q : Proc). sum_at (in_range q.start q.len) r.numbers image.text_at) p ps)

pub rows_add_up : (image : Image) (procs : List Proc) (r : Profile) → DoAscend procs → Fits image r
    → sum_by (λ x. x.ticks) (rows_of image procs r) + ticks_of_none image procs r + ticks_outside image r + r.untold ≡ ticks_of r
rows_add_up image procs r h fits =
    let rows = map (procedure_row image r) procs in
    let a = sum_by-IsPermutation (λ (x : Row). x.ticks) rows (by_ticks rows) (rows_permuted rows) in
    let b = sum_rows image r procs in
    let e = parts 0 procs (follows procs h) r.numbers image.text_at in
    let f = fits.all in
    omega arith

-- ---- costs

executed_one : (b : Bool) (x : NumberedWord) (xs : List NumberedWord) → (b ≡ false → x.number ≡ 0)
    → sum_by (λ y. y.number) (cond b (x ∷ xs) xs) ≡ x.number + sum_by (λ y. y.number) xs
executed_one true x xs h = sum_by-cons (λ (y : NumberedWord). y.number) x xs
executed_one false x xs h = let e = h refl in omega arith

is_zero : (n : ℕ) → not (nat_eq n 0) ≡ false → n ≡ 0
is_zero n e = grind (arith, nat_tests)

sum_executed : (xs : List NumberedWord) → sum_by (λ x. x.number) (executed xs) ≡ sum_by (λ x. x.number) xs
sum_executed [] = refl
sum_executed (x ∷ xs) =
    executed_one (not (nat_eq x.number 0)) x (executed xs) (is_zero x.number)
    ∙ ap (λ s. x.number + s) (sum_executed xs) ∙ sym (sum_by-cons (λ (y : NumberedWord). y.number) x xs)

module _ (image : Image) (r : Profile) (fits : Fits image r) where
  sum_words : (p : ℕ → Bool) → sum_by (λ x. x.number) (executed (words_at p (numbered_words image r))) ≡ sum_at p r.numbers image.text_at
  sum_words p =
      sum_executed (words_at p (numbered_words image r))
      ∙ sym (sum_at-with_numbers p image.text_at (program_of image).words r.numbers fits.numbers)

  sum_procedures : (ps : List Proc)
      → sum_by (λ x. x.number) (flat_map (λ p. executed (words_of_procedure image r p)) ps)
      ≡ sum_by (λ p. sum_at (in_range p.start p.len) r.numbers image.text_at) ps
  sum_procedures [] = refl
  sum_procedures (p ∷ ps) =
      let words = executed (words_of_procedure image r p) in
      let others = flat_map (λ (q : Proc). executed (words_of_procedure image r q)) ps in
      let a = sum_by-append (λ (x : NumberedWord). x.number) words others in
      let b = sum_words (in_range p.start p.len) in
      let e = sum_procedures ps in
      let f = sum_by-cons (λ (q : Proc). sum_at (in_range q.start q.len) r.numbers image.text_at) p ps in
      omega arith

  pub costs_add_up : (procs : List Proc) → DoAscend procs → sum_by (λ x. x.number) (costed_words image procs r) + ticks_outside image r + r.untold ≡ ticks_of r
  costs_add_up procs h =
      let words = flat_map (λ (q : Proc). executed (words_of_procedure image r q)) procs in
      let a = sum_by-append (λ (x : NumberedWord). x.number) words (executed (words_of_none image procs r)) in
      let b = sum_procedures procs in
      let d = sum_words (λ a. is_none (procedure_at procs a)) in
      let e = parts 0 procs (follows procs h) r.numbers image.text_at in
      let f = fits.all in
      omega arith
