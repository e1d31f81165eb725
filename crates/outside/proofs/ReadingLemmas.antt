-- The front of a file grows.
use Rattle.std.proofs.Common.{◌≡◌, ℕ, ◌+◌, List, ◌++◌, length, take, drop, ap, sym, ◌∙◌, None, Some, length-append}
use Rattle.std.proofs.Math.Seq.{take-add}
use Rattle.std.proofs.lemmas.List.{length-take-le}
use Rattle.outside.specs.Outside.{Holding, HasFront, GivesAt}

-- bytes of the file from where the front ends make a longer front
front_more : (holding : Holding) (bytes buf : List ℕ) (n : ℕ) →
    HasFront holding bytes → GivesAt holding (length bytes) n buf → HasFront holding (bytes ++ take n buf)
front_more None bytes buf n front gives = tt
front_more (Some None) bytes buf n front gives = absurd gives
front_more (Some (Some file)) bytes buf n front gives =
    let piece = ap length (sym gives.bytes) ∙ length-take-le n (drop (length bytes) file) gives.inside in
    let len = length-append bytes (take n buf) ∙ ap (λ k. length bytes + k) piece in
    let parts = take-add (length bytes) n file in
    let bytes_are = gives.bytes in
    let so_far = front.0 in
    (rw len (cc), λ some. gives.are)

-- the same, from what one turn of a reading knows
pub front_step : (holding now : Holding) (bytes buf piece new : List ℕ) (at n : ℕ) →
    HasFront holding bytes → now ≡ holding → at ≡ length bytes → GivesAt now at n buf →
    new ≡ bytes ++ piece → piece ≡ take n buf → HasFront holding new
front_step holding now bytes buf piece new at n front same place gives appended part =
    let here : GivesAt holding (length bytes) n buf = rw (← same, ← place) gives in
    rw (appended, part) (front_more holding bytes buf n front here)
