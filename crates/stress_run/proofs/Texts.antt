-- What is left of many texts begins with the next of them; and the bytes of a text.
use Rattle.std.proofs.Common.{◌≡◌, ℕ, suc, ◌+◌, ◌-◌, ◌<◌, ◌++◌, refl, ap, arith, String, Vec}
use Rattle.std.specs.String.{string_bytes, string_vec}
use Rattle.stress_run.specs.Configuration.{wish, wishes}
use Rattle.stress_run.specs.Program.{loop_length, kind, after_procedure, ending, procedure, procedures, call, calls}

pub next_call : (n i : ℕ) → i < n → calls (n - i) i ≡ call i ++ calls (n - (i + 1)) (i + 1)
next_call n i below = let more : n - i ≡ suc (n - (i + 1)) = omega arith in rw more refl

pub next_procedure : (n i x : ℕ) → i < n → procedures (n - i) i x ≡ procedure i (loop_length x) (ending (kind x)) ++ procedures (n - (i + 1)) (i + 1) (after_procedure x)
next_procedure n i x below = let more : n - i ≡ suc (n - (i + 1)) = omega arith in rw more refl

pub next_wish : (n i : ℕ) → i < n → wishes (n - i) i ≡ wish i ++ wishes (n - (i + 1)) (i + 1)
next_wish n i below = let more : n - i ≡ suc (n - (i + 1)) = omega arith in rw more refl

pub bytes_of : {Z : Type 0} (bytes : Vec ℕ Z) (text : String Z) → bytes ≡ string_vec text → bytes.items ≡ string_bytes text
bytes_of bytes text same = ap (λ v. v.items) same
