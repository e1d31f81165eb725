-- Numbers as the bytes of a file, lowest first, and zeros between its parts.
use Rattle.std.specs.Prelude.{ℕ, ◌-◌, ◌%◌, List, ◌++◌, length, replicate}
use Rattle.std.specs.List.{flat_map}
use Rattle.byteorder.specs.Endian.{little_bytes}

-- numbers of two bytes, of four and of eight
unfoldable pub halves : List ℕ → List ℕ
halves ns = flat_map (little_bytes 2) ns

unfoldable pub words : List ℕ → List ℕ
words ns = flat_map (little_bytes 4) ns

unfoldable pub doublewords : List ℕ → List ℕ
doublewords ns = flat_map (little_bytes 8) ns

-- how many zeros stand after a part of `len` bytes, up to the next multiple of 8
abbrev pub padding : ℕ → ℕ
padding len = (8 - len % 8) % 8

-- a part, with the zeros after it
unfoldable pub padded : List ℕ → List ℕ
padded bytes = bytes ++ replicate (padding (length bytes)) 0
