-- For proofs alone: what a scanner has still to read.
use Rattle.std.specs.Prelude.{◌+◌, ◌<◌, ◌≤◌, ◌^◌, drop, length}
use Rattle.pn_text.specs.Places.{IsPlaceWithin}
use Rattle.pn_text.specs.Scans.{Scan, scan}
use Rattle.pn_text.specs.declared.scanner.Scanner.TheInside.{Inside}

-- the tokens from the scanner's place on
abbrev pub scan_left : Inside → Scan
scan_left scanner = scan (record { place = scanner.place; bytes = drop scanner.place.at scanner.text.now })

-- the place stands in the text, which is so short that lines and columns fit
pub record IsReading (scanner : Inside) : Type 0 where
  pub short : length scanner.text.now + 1 < 2 ^ 32
  pub inside : scanner.place.at ≤ length scanner.text.now
  pub within : IsPlaceWithin scanner.place
