-- For proofs alone: the line of a bin, read once from front to back.
use Rattle.std.specs.Prelude.{ℕ, ◌+◌, ◌-◌, ◌*◌, ◌^◌, ◌==◌, ◌&&◌, nat_lt, if◌then◌else◌, bytes_eq, Option, Some, None, List, [], ◌∷◌, codes, drop, length, take}
use Rattle.std.specs.Option.{option_and_then}
use Rattle.fold_hist.specs.declared.bin.Bin.{Bin}
use Rattle.pn_text.specs.Numbers.{is_digit}

-- the number of 64 bits whose first digits give n and whose others begin these bytes, and what follows it
abbrev pub with_more_digits : ℕ → List ℕ → Option (ℕ × List ℕ)
with_more_digits n [] = Some (n, [])
with_more_digits n (byte ∷ bytes) =
    if is_digit byte then (if nat_lt (n * 10 + (byte - 48)) (2 ^ 64) then with_more_digits (n * 10 + (byte - 48)) bytes else None)
    else Some (n, byte ∷ bytes)

-- the number that begins these bytes, and what follows it; a first 0 is all of it
abbrev pub number_ahead : List ℕ → Option (ℕ × List ℕ)
number_ahead [] = None
number_ahead (byte ∷ bytes) =
    if byte == 48 then Some (0, bytes)
    else if is_digit byte then with_more_digits (byte - 48) bytes
    else None

-- the same behind a text
abbrev pub number_behind : List ℕ → List ℕ → Option (ℕ × List ℕ)
number_behind text bytes = if bytes_eq (take (length text) bytes) text then number_ahead (drop (length text) bytes) else None

-- the bin of this number whose line this is, without its LF
abbrev pub numbered_bin : ℕ → List ℕ → Option Bin
numbered_bin n line =
    option_and_then (λ place.
    option_and_then (λ from.
    option_and_then (λ to.
    option_and_then (λ sum.
    if (place.0 == n) && (length sum.1 == 0) then Some (record { from = from.0; to = to.0; sum = sum.0 }) else None)
    (number_behind (codes " value ") to.1))
    (number_behind (codes " to ") from.1))
    (number_behind (codes " from ") place.1))
    (number_behind (codes "bin ") line)
