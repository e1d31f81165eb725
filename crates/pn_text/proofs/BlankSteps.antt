-- Blanks, byte by byte.
use Rattle.std.proofs.Common.{◌≡◌, ℕ, ◌+◌, ◌<◌, ◌==◌, not, true, false, List, ◌∷◌, length, drop, get_or, codes, refl}
use Rattle.std.proofs.lemmas.List.{drop_more}
use Rattle.pn_text.specs.Bytes.{is_white_space, begins_with}
use Rattle.pn_text.specs.Blanks.{blank_len}

-- in a comment each byte counts
pub comment_step : (bytes : List ℕ) (i : ℕ) → i < length bytes → blank_len true (drop i bytes) ≡ blank_len (not (get_or bytes i 0 == 10)) (drop (i + 1) bytes) + 1
comment_step bytes i h = rw (drop_more bytes i 0 h) refl

-- outside one begins
pub begin_step : (bytes : List ℕ) (i : ℕ) → i < length bytes → begins_with (codes "//") (drop i bytes) ≡ true → blank_len false (drop i bytes) ≡ blank_len true (drop (i + 1) bytes) + 1
begin_step bytes i h e =
    let here : drop i bytes ≡ get_or bytes i 0 ∷ drop (i + 1) bytes = drop_more bytes i 0 h in
    let begun : begins_with (codes "//") (get_or bytes i 0 ∷ drop (i + 1) bytes) ≡ true = rw here at e in
    rw (here, begun) refl

-- or white space stands there
pub white_step : (bytes : List ℕ) (i : ℕ) → i < length bytes → begins_with (codes "//") (drop i bytes) ≡ false → is_white_space (get_or bytes i 0) ≡ true → blank_len false (drop i bytes) ≡ blank_len false (drop (i + 1) bytes) + 1
white_step bytes i h e w =
    let here : drop i bytes ≡ get_or bytes i 0 ∷ drop (i + 1) bytes = drop_more bytes i 0 h in
    let begun : begins_with (codes "//") (get_or bytes i 0 ∷ drop (i + 1) bytes) ≡ false = rw here at e in
    rw (here, begun, w) refl
