-- Blanks: white space and comments.
use Rattle.std.specs.Prelude.{ℕ, ◌+◌, ◌==◌, not, if◌then◌else◌, Bool, true, false, List, [], ◌∷◌, codes}
use Rattle.pn_text.specs.Bytes.{is_white_space, begins_with}

-- how many bytes of blanks stand first, in a comment or outside; `//` begins a comment, and an LF ends it
abbrev pub blank_len : Bool → List ℕ → ℕ
blank_len in_comment [] = 0
blank_len true (byte ∷ bytes) = blank_len (not (byte == 10)) bytes + 1
blank_len false (byte ∷ bytes) =
    if begins_with (codes "//") (byte ∷ bytes) then blank_len true bytes + 1
    else if is_white_space byte then blank_len false bytes + 1
    else 0
