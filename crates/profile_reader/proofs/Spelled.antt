-- A profile is read where its text is the bytes.
use Rattle.std.proofs.Common.{◌≡◌, ◌∙◌, ◌&&◌, ℕ, Bool, true, false, cond, bytes_eq, List, Result, Ok, Err, refl, sym, ap}
use Rattle.std.proofs.lemmas.Bool.{and_parts}
use Rattle.std.proofs.lemmas.Slice.Eq.{bytes_eq-Decides}
use Rattle.advice.specs.declared.fault.ReportFault.{ReportFault}
use Rattle.advice.specs.declared.fault.ReportFault.TheVariants.{BadReport}
use Rattle.profile_reader.specs.Laws.{ProfileIsSpelled}
use Rattle.profile_reader.specs.Lines.{lines_of}
use Rattle.profile_reader.specs.Reading.{adds_up, common_len, profile_of_lines, profile_spelling}
use Rattle.profile_reader.specs.declared.profile.ReadProfile.{ReadProfile}

-- q where it is spelled, or else a fault
abbrev chosen : Bool → ReadProfile → ReportFault → Result ReadProfile ReportFault
chosen is q fault = cond is (Ok q) (Err fault)

spelled : (bytes : List ℕ) (q p : ReadProfile) (is : Bool) → (bytes_eq (profile_spelling q) bytes && adds_up q) ≡ is → chosen is q (BadReport (common_len (profile_spelling q) bytes)) ≡ Ok p → profile_spelling p ≡ bytes
spelled bytes q p true is e =
    let same : p ≡ q = cc in
    ap profile_spelling same ∙ (bytes_eq-Decides (profile_spelling q) bytes).0 (and_parts (bytes_eq (profile_spelling q) bytes) (adds_up q) is).0
spelled bytes q p false is e = absurd (cc)

pub profile_is_spelled : ProfileIsSpelled
profile_is_spelled bytes p e =
    let q = profile_of_lines (lines_of bytes) in
    spelled bytes q p (bytes_eq (profile_spelling q) bytes && adds_up q) refl e
