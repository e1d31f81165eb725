-- What is left behind three parts.
use Rattle.std.proofs.Common.{◌≡◌, ℕ, ◌+◌, List, drop, ap, ◌∙◌, drop-drop}

pub drop_thrice : (a b c : ℕ) (bytes : List ℕ) → drop c (drop b (drop a bytes)) ≡ drop (a + b + c) bytes
drop_thrice a b c bytes = ap (drop c) (drop-drop b a bytes) ∙ drop-drop c (a + b) bytes
