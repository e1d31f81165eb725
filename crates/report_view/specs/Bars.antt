-- Bars, one for each of some values: its height is their share of the greatest, in eighths.
use Rattle.std.specs.Prelude.{ℕ, zero, suc, ◌+◌, ◌*◌, ◌/◌, ◌==◌, ◌^◌, if◌then◌else◌, Bool, true, false, List, [], ◌∷◌, codes, drop, flat_map, map, take}
use Rattle.fold_hist.specs.Bins.{hist_of}
use Rattle.fold_hist.specs.declared.bin.Bin.{Bin}
use Rattle.report_view.specs.Signed.{greatest, is_negative}

-- the height of a value: the greatest number of eighths of the greatest value that isn't above it
abbrev pub height : ℕ → ℕ → ℕ
height most value = if most == 0 then 0 else value * 8 / most

-- a bar of so many eighths: a space, or a block of Unicode from U+2581 to U+2588; or an ASCII sign that is as dark
abbrev pub block : ℕ → List ℕ
block zero = codes " "
block (suc n) = 226 ∷ 150 ∷ (129 + n) ∷ []

abbrev pub sign : ℕ → List ℕ
sign n = take 1 (drop n (codes " .:;=+*#@"))

abbrev pub glyph : Bool → ℕ → List ℕ
glyph true n = sign n
glyph false n = block n

-- the bar of a value, where this is the greatest; a negative one has a dash
abbrev pub bar : Bool → ℕ → ℕ → List ℕ
bar ascii most value = if is_negative value then codes "-" else glyph ascii (height most value)

-- 0 where all are negative
abbrev pub positive : ℕ → ℕ
positive value = if is_negative value then 0 else value

abbrev pub bars : Bool → List ℕ → List ℕ
bars ascii values = flat_map (bar ascii (positive (greatest values))) values

-- ---- bins

abbrev pub bin_values : List Bin → List ℕ
bin_values bins = map (λ bin. bin.sum) bins

-- of more bins there are bars of the first of them alone
abbrev pub most_bins : ℕ
most_bins = 2 ^ 32

-- bars of bins, which are joined, each two of them, each four, and so on, until there is room
unfoldable pub bars_in : Bool → ℕ → List Bin → List ℕ
bars_in ascii room bins = bars ascii (bin_values (hist_of room (take most_bins bins)).bins)
