-- The lines of a text.
use Rattle.std.specs.Prelude.{ℕ, ◌==◌, ◌&&◌, if◌then◌else◌, Bool, true, false, List, [], ◌∷◌}
use Rattle.std.specs.List.{onto_first}

-- an LF stands first
abbrev pub begins_with_lf : List ℕ → Bool
begins_with_lf [] = false
begins_with_lf (byte ∷ bytes) = byte == 10

-- an LF ends a line, a CR directly before it is dropped, and a rest without LF is a line
abbrev pub lines : List ℕ → List (List ℕ)
lines [] = []
lines (byte ∷ bytes) =
    if byte == 10 then [] ∷ lines bytes
    else if (byte == 13) && begins_with_lf bytes then lines bytes
    else onto_first byte (lines bytes)

-- ---- one line

-- an LF
abbrev pub is_lf : ℕ → Bool
is_lf byte = byte == 10

-- nothing
abbrev pub is_none : List ℕ → Bool
is_none [] = true
is_none (byte ∷ bytes) = false

-- the bytes without one CR at their end
abbrev pub no_cr : List ℕ → List ℕ
no_cr [] = []
no_cr (byte ∷ bytes) = if (byte == 13) && is_none bytes then [] else byte ∷ no_cr bytes
