-- Known bytes that grow twice.
use Rattle.std.proofs.Common.{◌≡◌, ℕ, ◌+◌, List, take, drop, refl, ap, Option, None, Some, append_assoc}
use Rattle.std.proofs.Math.Seq.{take-add}
use Rattle.std.specs.Io.KnownBytes.{append_known}

-- the first n bytes, and then the first m of the rest
pub append_known-take : (known now : Option (List ℕ)) (xs : List ℕ) (n m : ℕ) →
    now ≡ append_known known (take n xs) →
    append_known now (take m (drop n xs)) ≡ append_known known (take (n + m) xs)
append_known-take None now xs n m e = rw e refl
append_known-take (Some ys) now xs n m e =
    rw (e, take-add n m xs) (ap Some (append_assoc ys (take n xs) (take m (drop n xs))))
