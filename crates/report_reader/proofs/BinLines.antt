-- A bin is read from its line, and from no other.
use Rattle.std.proofs.Common.{◌≡◌, ℕ, ◌≤◌, ◌==◌, ◌&&◌, nat_le, cond, Bool, true, false, Option, Some, None, List, [], ◌∷◌, ◌++◌, length, codes, bytes_eq, refl, sym, ap, ◌∙◌, arith, append_assoc, subst}
use Rattle.std.specs.Fmt.{decimal}
use Rattle.std.specs.Option.{option_and_then, unwrap_or}
use Rattle.std.proofs.lemmas.Bool.{eq-eqb, eqb-true, leb-true}
use Rattle.std.proofs.lemmas.Option.{option_and_then_some, same_Some}
use Rattle.std.proofs.lemmas.Slice.Eq.{bytes_eq-Decides}
use Rattle.fold_hist.specs.declared.bin.Bin.{Bin}
use Rattle.pn_text.specs.Numbers.{at_most, decimal_from}
use Rattle.report.specs.ShownTexts.{bin_line}
use Rattle.advice.specs.Words.{number_at, word_at}
use Rattle.report_lines.specs.Laws.{IsLine}
use Rattle.report_lines.specs.Lines.{bin_of_line}
use Rattle.report_lines.specs.Readable.{Is64Bit, IsBin}
use Rattle.report_lines.proofs.BinRead.{bin_is_read}
use Rattle.report_lines.proofs.Bodies.{body_is}
use Rattle.report_reader.specs.BinLines.{number_behind, numbered_bin}
use Rattle.report_reader.proofs.NumbersAhead.{behind_back, behind_read}

-- ---- the line of a bin

abbrev body : ℕ → Bin → List ℕ
body n b = codes "bin " ++ (decimal n ++ (codes " from " ++ (decimal b.from ++ (codes " to " ++ (decimal b.to ++ (codes " value " ++ (decimal b.sum ++ [])))))))

regroup : (n from to sum : List ℕ) → codes "bin " ++ (n ++ (codes " from " ++ (from ++ (codes " to " ++ (to ++ (codes " value " ++ (sum ++ codes "\n"))))))) ≡ (codes "bin " ++ (n ++ (codes " from " ++ (from ++ (codes " to " ++ (to ++ (codes " value " ++ (sum ++ [])))))))) ++ 10 ∷ []
regroup n from to sum = simp append_assoc

bin_read : (n : ℕ) (b : Bin) (line : List ℕ) → Is64Bit n → IsBin b → IsLine line (bin_line n b) → numbered_bin n line ≡ Some b
bin_read n b line small good is =
    let same : line ≡ body n b = body_is line (body n b) (bin_line n b) is (regroup (decimal n) (decimal b.from) (decimal b.to) (decimal b.sum)) in
    let sum = behind_read (codes " value ") b.sum [] good.sum tt in
    let to = behind_read (codes " to ") b.to (codes " value " ++ (decimal b.sum ++ [])) good.to refl in
    let from = behind_read (codes " from ") b.from (codes " to " ++ (decimal b.to ++ (codes " value " ++ (decimal b.sum ++ [])))) good.from refl in
    let place = behind_read (codes "bin ") n (codes " from " ++ (decimal b.from ++ (codes " to " ++ (decimal b.to ++ (codes " value " ++ (decimal b.sum ++ [])))))) small refl in
    ap (numbered_bin n) same ∙ rw (place, from, to, sum, eq-eqb n n refl) refl

-- ---- and no other

last_told : (a c : Bool) (x y : Bin) → cond (a && c) (Some x) None ≡ Some y → (a ≡ true) × (c ≡ true) × (x ≡ y)
last_told true true x y e = (refl, refl, same_Some x y e)
last_told true false x y e = cc
last_told false c x y e = cc

no_bytes : (bytes : List ℕ) → length bytes ≡ 0 → bytes ≡ []
no_bytes [] h = refl
no_bytes (byte ∷ bytes) h = absurd (omega arith)

bin_told : (n : ℕ) (b : Bin) (line : List ℕ) → numbered_bin n line ≡ Some b → IsLine line (bin_line n b) × IsBin b
bin_told n b line e =
    option_and_then_some _ (number_behind (codes "bin ") line) b e (λ place p1 e1.
    option_and_then_some _ (number_behind (codes " from ") place.1) b e1 (λ from p2 e2.
    option_and_then_some _ (number_behind (codes " to ") from.1) b e2 (λ to p3 e3.
    option_and_then_some _ (number_behind (codes " value ") to.1) b e3 (λ sum p4 e4.
    let first = behind_back (codes "bin ") line place.0 place.1 p1 in
    let second = behind_back (codes " from ") place.1 from.0 from.1 p2 in
    let third = behind_back (codes " to ") from.1 to.0 to.1 p3 in
    let fourth = behind_back (codes " value ") to.1 sum.0 sum.1 p4 in
    let read : Bin = record { from = from.0; to = to.0; sum = sum.0 } in
    let last = last_told (place.0 == n) (length sum.1 == 0) read b e4 in
    let number : place.0 ≡ n = eqb-true place.0 n last.0 in
    let none : sum.1 ≡ [] = no_bytes sum.1 (eqb-true (length sum.1) 0 last.1) in
    let all : line ≡ body place.0 read = rw (first.0, second.0, third.0, fourth.0, none) refl in
    subst (λ (x : Bin). IsLine line (bin_line n x) × IsBin x) last.2 (
      ap (λ (l : List ℕ). l ++ 10 ∷ []) all ∙ sym (regroup (decimal place.0) (decimal from.0) (decimal to.0) (decimal sum.0)) ∙ ap (λ (k : ℕ). bin_line k read) number,
      record { from = second.1; to = third.1; sum = fourth.1 },
    )))))

-- ---- the numbers that a line tells

at_most_fits : (b : Bool) (n : ℕ) → nat_le n 18446744073709551615 ≡ b → Is64Bit (unwrap_or (cond b (Some n) None) 0)
at_most_fits true n e = let most : n ≤ 18446744073709551615 = leb-true n 18446744073709551615 e in omega arith
at_most_fits false n e = omega arith

number_fits : (b : Bool) (o : Option ℕ) → Is64Bit (unwrap_or (cond b (option_and_then (at_most 18446744073709551615) o) None) 0)
number_fits true None = omega arith
number_fits true (Some n) = at_most_fits (nat_le n 18446744073709551615) n refl
number_fits false o = omega arith

told_fits : (place : ℕ) (line : List ℕ) → Is64Bit (number_at place line)
told_fits place line =
    let word = word_at place line in
    number_fits (nat_le 1 (length word) && nat_le (length word) 20) (decimal_from 0 word)

bin_fits : (line : List ℕ) → IsBin (bin_of_line line)
bin_fits line = record { from = told_fits 3 line; to = told_fits 5 line; sum = told_fits 7 line }

-- ---- the bin that a line tells

module _ (n : ℕ) (line : List ℕ) (small : Is64Bit n) where
  abbrev is_bin_line : Bin → Bool
  is_bin_line b = bytes_eq (line ++ 10 ∷ []) (bin_line n b)

  -- it is read where its line is this
  by_line : (b : Bool) → is_bin_line (bin_of_line line) ≡ b → numbered_bin n line ≡ None → None ≡ cond b (Some (bin_of_line line)) None
  by_line false e none = refl
  by_line true e none =
      let is : IsLine line (bin_line n (bin_of_line line)) = (bytes_eq-Decides (line ++ 10 ∷ []) (bin_line n (bin_of_line line))).0 e in
      sym none ∙ bin_read n (bin_of_line line) line small (bin_fits line) is

  by_bin : (o : Option Bin) → numbered_bin n line ≡ o → o ≡ cond (is_bin_line (bin_of_line line)) (Some (bin_of_line line)) None
  by_bin None e = by_line (is_bin_line (bin_of_line line)) refl e
  by_bin (Some b) e =
      let all = bin_told n b line e in
      let same : bin_of_line line ≡ b = bin_is_read n b line all.1 all.0 in
      let yes : is_bin_line b ≡ true = (bytes_eq-Decides (line ++ 10 ∷ []) (bin_line n b)).1 all.0 in
      sym (ap (λ (x : Bin). cond (is_bin_line x) (Some x) None) same ∙ ap (λ (t : Bool). cond t (Some b) None) yes)

  pub numbered_is : numbered_bin n line ≡ cond (is_bin_line (bin_of_line line)) (Some (bin_of_line line)) None
  numbered_is = by_bin (numbered_bin n line) refl
