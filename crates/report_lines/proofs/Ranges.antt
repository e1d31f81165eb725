-- A number of a word is in its range.
use Rattle.std.proofs.Common.{◌≡◌, ℕ, ◌≤◌, Bool, true, false, cond, Option, Some, None, List, nat_le, refl, arith}
use Rattle.std.specs.Option.{option_and_then}
use Rattle.std.proofs.lemmas.Bool.{leb-true}
use Rattle.pn_text.specs.Numbers.{at_most, small_number}

some_of : (b : Bool) (m n : ℕ) → cond b (Some m) None ≡ Some n → (b ≡ true) × (m ≡ n)
some_of true m n e = let same : m ≡ n = cc in (refl, same)
some_of false m n e = absurd (cc)

at_most_is : (o : Option ℕ) (most n : ℕ) → option_and_then (at_most most) o ≡ Some n → n ≤ most
at_most_is None most n e = absurd (cc)
at_most_is (Some m) most n e =
    let h = some_of (nat_le m most) m n e in
    let l : m ≤ most = leb-true m most h.0 in
    let same : m ≡ n = h.1 in
    omega arith

either_is : (b : Bool) (o : Option ℕ) (n : ℕ) → cond b o None ≡ Some n → o ≡ Some n
either_is true o n e = e
either_is false o n e = absurd (cc)

pub number_is_at_most : (text : List ℕ) (most n : ℕ) → small_number text most ≡ Some n → n ≤ most
number_is_at_most text most n e = at_most_is _ most n (either_is _ _ n e)
