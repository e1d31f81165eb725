-- Rows by place.
use Rattle.std.proofs.Common.{◌≡◌, ℕ, ◌+◌, ◌*◌, ◌<◌, ◌≤◌, List, length, slice_index_or, Bool, true, false, cond, arith}
use Rattle.std.specs.List.Sorted.{IsNonDecreasingBy}
use Rattle.line_table.specs.declared.registers.Row.{Row}
use Rattle.source_text.specs.Sources.{place_of}

bit : (b : Bool) → cond b 0 1 ≤ 1
bit true = omega arith
bit false = omega arith

pub addresses_rise : (rows : List Row) → IsNonDecreasingBy place_of rows → IsNonDecreasingBy (λ row. row.address) rows
addresses_rise rows up i j d l m =
    let x = slice_index_or rows i d in
    let y = slice_index_or rows j d in
    let h = up i j d l m in
    let b = bit x.is_end in
    let c = bit y.is_end in
    omega arith
