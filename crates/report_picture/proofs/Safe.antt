-- Escaped texts.
use Rattle.std.proofs.Common.{◌≡◌, ℕ, Bool, true, false, List, [], ◌∷◌, ◌++◌, refl}
use Rattle.std.specs.Prelude.{◌==◌, ◌&&◌, ◌||◌, nat_le, if◌then◌else◌, codes, flat_map}
use Rattle.report_picture.specs.Escapes.{escaped, escaped_byte, is_allowed}
use Rattle.report_picture.specs.Laws.{TextsAreEscaped, is_safe}

abbrev chosen : Bool → Bool → Bool → Bool → Bool → ℕ → List ℕ
chosen a b c d e byte =
    if a then codes "&amp;" else if b then codes "&lt;" else if c then codes "&gt;" else if d then codes "&quot;" else if e then byte ∷ [] else codes "?"

safe_chosen : (a b c d e : Bool) (byte : ℕ) (rest : List ℕ) → (byte == 38) ≡ a → (byte == 60) ≡ b → (byte == 62) ≡ c → (byte == 34) ≡ d
    → is_safe rest ≡ true → is_safe (chosen a b c d e byte ++ rest) ≡ true
safe_chosen true b c d e byte rest ea eb ec ed h = h
safe_chosen false true c d e byte rest ea eb ec ed h = h
safe_chosen false false true d e byte rest ea eb ec ed h = h
safe_chosen false false false true e byte rest ea eb ec ed h = h
safe_chosen false false false false true byte rest ea eb ec ed h = rw (ed, eb, ec, ea) h
safe_chosen false false false false false byte rest ea eb ec ed h = h

safe_bytes : (allowed : Bool) (text : List ℕ) → is_safe (flat_map (escaped_byte allowed) text) ≡ true
safe_bytes allowed [] = refl
safe_bytes allowed (byte ∷ bytes) =
    safe_chosen (byte == 38) (byte == 60) (byte == 62) (byte == 34) ((nat_le 32 byte && nat_le byte 126) || (allowed && nat_le 128 byte)) byte
    (flat_map (escaped_byte allowed) bytes) refl refl refl refl (safe_bytes allowed bytes)

pub safe : TextsAreEscaped
unfolding escaped
safe text = safe_bytes (is_allowed text) text
