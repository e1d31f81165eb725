-- Ranges of units: which units are in them, and what a filter keeps of them.
use Rattle.std.proofs.Common.{◌≡◌, ℕ, ◌+◌, ◌<◌, ◌≤◌, Bool, true, false, ◌||◌, [], ◌∷◌, ◌++◌, zero, suc, refl, ap, arith, zero-add}
use Rattle.std.specs.Prelude.{filter}
use Rattle.std.specs.List.{range_with_len}
use Rattle.std.proofs.lemmas.Bool.Decides.{nat_tests}
use Rattle.tool_space.specs.Rooms.{is_one_of}

pub or-second : (a b : Bool) → b ≡ true → (a || b) ≡ true
or-second true b e = refl
or-second false b e = e

pub in_range : (at len unit : ℕ) → at ≤ unit → unit < at + len → is_one_of (range_with_len at len) unit ≡ true
in_range at zero unit low high = absurd (omega arith)
in_range at (suc len) unit low high =
    let rest : at + 1 ≤ unit → is_one_of (range_with_len (at + 1) len) unit ≡ true = λ more. in_range (at + 1) len unit more (omega arith) in
    grind (arith, nat_tests)

pub below_range : (at len unit : ℕ) → unit < at → is_one_of (range_with_len at len) unit ≡ false
below_range at zero unit low = refl
below_range at (suc len) unit low =
    let rest : is_one_of (range_with_len (at + 1) len) unit ≡ false = below_range (at + 1) len unit (omega arith) in
    grind (arith, nat_tests)

pub above_range : (at len unit : ℕ) → at + len ≤ unit → is_one_of (range_with_len at len) unit ≡ false
above_range at zero unit high = refl
above_range at (suc len) unit high =
    let rest : is_one_of (range_with_len (at + 1) len) unit ≡ false = above_range (at + 1) len unit (omega arith) in
    grind (arith, nat_tests)

pub kept_range : (p : ℕ → Bool) (at len : ℕ) → ((unit : ℕ) → at ≤ unit → unit < at + len → p unit ≡ true) → filter p (range_with_len at len) ≡ range_with_len at len
kept_range p at zero all = refl
kept_range p at (suc len) all =
    let here : p at ≡ true = all at (omega arith) (omega arith) in
    rw here (ap (λ units. at ∷ units) (kept_range p (at + 1) len (λ unit low high. all unit (omega arith) (omega arith))))

pub dropped_range : (p : ℕ → Bool) (at len : ℕ) → ((unit : ℕ) → at ≤ unit → unit < at + len → p unit ≡ false) → filter p (range_with_len at len) ≡ []
dropped_range p at zero all = refl
dropped_range p at (suc len) all =
    let here : p at ≡ false = all at (omega arith) (omega arith) in
    rw here (dropped_range p (at + 1) len (λ unit low high. all unit (omega arith) (omega arith)))

pub range_parts : (at first len next : ℕ) → at + first ≡ next → range_with_len at (first + len) ≡ range_with_len at first ++ range_with_len next len
range_parts at zero len next e =
    let same : at ≡ next = omega arith in
    rw (zero-add len) (ap (λ from. range_with_len from len) same)
range_parts at (suc first) len next e =
    let longer : suc first + len ≡ suc (first + len) = omega arith in
    rw longer (ap (λ units. at ∷ units) (range_parts (at + 1) first len next (omega arith)))
