-- What holds of profiles that are read.
use Rattle.std.specs.Prelude.{ℕ, ◌≡◌, Ok, List}
use Rattle.profile_reader.specs.Reading.{profile_in, profile_spelling}
use Rattle.profile_reader.specs.declared.profile.ReadProfile.{ReadProfile}

-- Bytes from which a profile is read are its text.
abbrev pub ProfileIsSpelled : Type 0
ProfileIsSpelled = (bytes : List ℕ) (p : ReadProfile) → profile_in bytes ≡ Ok p → profile_spelling p ≡ bytes
