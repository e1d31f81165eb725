-- Items in front of those that are read.
use Rattle.std.proofs.Common.{◌≡◌, List, [], ◌++◌, Result, Ok, Err, refl, sym, ap, append_assoc}
use Rattle.line_table.specs.Reading.{◌>>=◌}
use Rattle.line_table.specs.Checks.{with_front}
use Rattle.line_table.specs.declared.fault.LineFault.{LineFault}

module _ {A : Type 0} where
  pub front_more : (front more : List A) (read : Result (List A) LineFault) → with_front front (read >>= λ items. Ok (more ++ items)) ≡ with_front (front ++ more) read
  front_more front more (Ok items) = ap (λ all. Ok all) (sym (append_assoc front more items))
  front_more front more (Err e) = refl

  pub front_fault : (front : List A) (read : Result (List A) LineFault) (f : LineFault) → with_front front read ≡ Err f → read ≡ Err f
  front_fault front (Ok items) f e = absurd cc
  front_fault front (Err g) f e = e

  pub front_items : (front new : List A) (read : Result (List A) LineFault) → with_front front read ≡ Ok new → (items : List A) × (read ≡ Ok items) × (front ++ items ≡ new)
  front_items front new (Ok items) e = (items, refl, cc)
  front_items front new (Err g) e = absurd cc

  pub no_front : (read : Result (List A) LineFault) → with_front [] read ≡ read
  no_front (Ok items) = refl
  no_front (Err e) = refl
