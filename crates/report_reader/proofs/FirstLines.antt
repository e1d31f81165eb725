-- The first line of bytes, and what stands behind it.
use Rattle.std.proofs.Common.{◌≡◌, ℕ, zero, suc, ◌<◌, ◌==◌, cond, Bool, true, false, Option, Some, None, List, [], ◌∷◌, ◌++◌, length, drop, take, get_or, slice_get, position, refl, sym, ap, ◌∙◌, arith}
use Rattle.std.specs.Option.{option_map, option_map_or}
use Rattle.std.proofs.lemmas.Bool.{eqb-true}
use Rattle.std.proofs.lemmas.List.Quantifiers.{position-Some}
use Rattle.pn_text.specs.Lines.{is_lf}
use Rattle.advice.specs.Lines.{to_lf}
use Rattle.report_reader.specs.Reading.{first_due_line}
use Rattle.report_reader.specs.declared.due.Due.{Due}
use Rattle.report_reader.specs.declared.due.Due.TheVariants.{Title, Numbers, Harts, Output, Shown, Bins, Nodes}
use Rattle.report_reader.proofs.Spelled.{HasLength}

-- ---- a byte at a place

record IsCut (all : List ℕ) (k x : ℕ) : Type 0 where
  pub is : all ≡ take k all ++ x ∷ drop (suc k) all
  pub front : length (take k all) ≡ k

cut : (all : List ℕ) (k x : ℕ) → k < length all → get_or all k 0 ≡ x → IsCut all k x
cut [] k x h e = absurd (omega arith)
cut (y ∷ ys) zero x h e = record { is = ap (λ (z : ℕ). z ∷ ys) e; front = refl }
cut (y ∷ ys) (suc k) x h e =
    let c = cut ys k x (omega arith) e in
    record { is = ap (λ (l : List ℕ). y ∷ l) c.is; front = ap suc c.front }

read : (all : List ℕ) (k x : ℕ) → slice_get all k ≡ Some x → (k < length all) × (get_or all k 0 ≡ x)
read [] zero x e = cc
read [] (suc k) x e = cc
read (y ∷ ys) zero x e = (omega arith, cc)
read (y ∷ ys) (suc k) x e = let r = read ys k x e in (omega (arith, r.0), r.1)

-- ---- lines

-- the bytes begin with the line and its LF
pub record StartsBytes (due : Due) (line all : List ℕ) : Type 0 where
  pub inside : length line < length all
  pub is : all ≡ line ++ 10 ∷ drop (suc (length line)) all
  pub fits : HasLength due line

abbrev Starts : List ℕ → List ℕ → Type 0
Starts line all = (length line < length all) × (all ≡ line ++ 10 ∷ drop (suc (length line)) all)

begun : (all line : List ℕ) (k : ℕ) → k < length all → get_or all k 0 ≡ 10 → take k all ≡ line → (length line ≡ k) × Starts line all
begun all line k h e t =
    let c = cut all k 10 h e in
    let same : length line ≡ k = ap length (sym t) ∙ c.front in
    let rest : all ≡ line ++ 10 ∷ drop (suc (length line)) all = c.is ∙ ap (λ (l : List ℕ). l ++ 10 ∷ drop (suc k) all) t ∙ ap (λ (m : ℕ). line ++ 10 ∷ drop (suc m) all) (sym same) in
    (same, (omega arith, rest))

of_place : (all line : List ℕ) (o : Option ℕ) → position is_lf all ≡ o → option_map (λ end. take end all) o ≡ Some line → Starts line all
of_place all line None p e = cc
of_place all line (Some k) p e =
    let s = position-Some is_lf all k 0 p in
    let t : take k all ≡ line = cc in
    (begun all line k s.0 (eqb-true (get_or all k 0) 10 s.1) t).1

lf_at : (all line : List ℕ) (n x : ℕ) (b : Bool) → (x == 10) ≡ b → slice_get all n ≡ Some x → cond b (Some (take n all)) None ≡ Some line → (length line ≡ n) × Starts line all
lf_at all line n x true is at e =
    let r = read all n x at in
    let t : take n all ≡ line = cc in
    begun all line n r.0 (r.1 ∙ eqb-true x 10 is) t
lf_at all line n x false is at e = cc

of_count : (all line : List ℕ) (n : ℕ) (o : Option ℕ) → slice_get all n ≡ o → cond (option_map_or is_lf o false) (Some (take n all)) None ≡ Some line → (length line ≡ n) × Starts line all
of_count all line n None at e = cc
of_count all line n (Some x) at e = lf_at all line n x (x == 10) refl at e

plain : (due : Due) (line all : List ℕ) → HasLength due line → to_lf all ≡ Some line → StartsBytes due line all
plain due line all h e = let s = of_place all line (position is_lf all) refl e in record { inside = s.0; is = s.1; fits = h }

pub starts : (due : Due) (line : List ℕ) (byte : ℕ) (bytes : List ℕ) → first_due_line due (byte ∷ bytes) ≡ Some line → StartsBytes due line (byte ∷ bytes)
starts Title line byte bytes e = plain Title line (byte ∷ bytes) tt e
starts Numbers line byte bytes e = plain Numbers line (byte ∷ bytes) tt e
starts (Harts n) line byte bytes e = plain (Harts n) line (byte ∷ bytes) tt e
starts (Output n) line byte bytes e =
    let s = of_count (byte ∷ bytes) line n (slice_get (byte ∷ bytes) n) refl e in
    record { inside = s.1.0; is = s.1.1; fits = s.0 }
starts Shown line byte bytes e = plain Shown line (byte ∷ bytes) tt e
starts (Bins n) line byte bytes e = plain (Bins n) line (byte ∷ bytes) tt e
starts (Nodes n) line byte bytes e = plain (Nodes n) line (byte ∷ bytes) tt e
