-- Units that are read one after the other.
use Rattle.std.proofs.Common.{◌≡◌, ℕ, zero, suc, ◌+◌, ◌<◌, ◌≤◌, cond, List, [], ◌∷◌, ◌++◌, length, Result, Ok, Err, sym, ap, ◌∙◌, arith}
use Rattle.std.proofs.lemmas.List.{append-nil}
use Rattle.std.proofs.lemmas.Bool.{le-leb, lt-leb}
use Rattle.line_table.specs.Reading.{◌>>=◌}
use Rattle.line_table.specs.Units.{header}
use Rattle.line_table.specs.Tables.{units_from}
use Rattle.line_table.specs.Checks.{with_front}
use Rattle.line_table.specs.declared.fault.LineFault.{LineFault}
use Rattle.line_table.specs.declared.unit.UnitHeader.{UnitHeader}
use Rattle.line_table.proofs.FrontLemmas.{front_more, front_items, no_front}

-- there are units enough for the items that are left, and in front of them the items so far
pub record UnitsLeft {A : Type 0} (of_unit : UnitHeader → Result (List A) LineFault) (b : List ℕ) (front : List A) (at : ℕ) (all : Result (List A) LineFault) : Type 0 where
  pub count : ℕ
  pub enough : length b ≤ at + count
  pub items : with_front front (units_from of_unit count b at) ≡ all

module _ {A : Type 0} (of_unit : UnitHeader → Result (List A) LineFault) (b : List ℕ) where
  -- the items from a unit on that is not past the end
  units-next : (n at : ℕ) → at < length b
      → units_from of_unit (suc n) b at ≡ (header b at >>= λ h. of_unit h >>= λ items. units_from of_unit n b h.end >>= λ more. Ok (items ++ more))
  units-next n at lt =
      ap (λ t. cond t (Ok []) (header b at >>= λ h. of_unit h >>= λ items. units_from of_unit n b h.end >>= λ more. Ok (items ++ more))) (lt-leb (length b) at lt)

  -- the same where the header is known, and what its unit gives
  units-after : (n at : ℕ) (h : UnitHeader) (read : Result (List A) LineFault) → at < length b → header b at ≡ Ok h → of_unit h ≡ read
      → units_from of_unit (suc n) b at ≡ (read >>= λ items. units_from of_unit n b h.end >>= λ more. Ok (items ++ more))
  units-after n at h read lt e p =
      units-next n at lt
      ∙ ap (λ found. found >>= λ h. of_unit h >>= λ items. units_from of_unit n b h.end >>= λ more. Ok (items ++ more)) e
      ∙ ap (λ read. read >>= λ items. units_from of_unit n b h.end >>= λ more. Ok (items ++ more)) p

  pub units_first : UnitsLeft of_unit b [] 0 (units_from of_unit (length b) b 0)
  units_first = record { count = length b; enough = omega arith; items = no_front (units_from of_unit (length b) b 0) }

  pub units_more : (front new : List A) (at : ℕ) (all : Result (List A) LineFault) (h : UnitHeader) → at < length b → header b at ≡ Ok h → at < h.end
      → with_front front (of_unit h) ≡ Ok new → UnitsLeft of_unit b front at all → UnitsLeft of_unit b new h.end all
  units_more front new at all h lt e forward pushed left = left_by left.count left.enough left.items where
    left_by : (n : ℕ) → length b ≤ at + n → with_front front (units_from of_unit n b at) ≡ all → UnitsLeft of_unit b new h.end all
    left_by zero enough items = absurd (omega arith)
    left_by (suc n) enough items =
        let found = front_items front new (of_unit h) pushed in
        record {
          count = n;
          enough = omega arith;
          items =
              sym (ap (λ f. with_front f (units_from of_unit n b h.end)) found.2)
              ∙ sym (front_more front found.0 (units_from of_unit n b h.end))
              ∙ sym (ap (λ read. with_front front read) (units-after n at h (Ok found.0) lt e found.1))
              ∙ items;
        }

  pub units_fault : (front : List A) (at : ℕ) (all : Result (List A) LineFault) (f : LineFault) → at < length b → header b at ≡ Err f → UnitsLeft of_unit b front at all → all ≡ Err f
  units_fault front at all f lt e left = fault_by left.count left.enough left.items where
    fault_by : (n : ℕ) → length b ≤ at + n → with_front front (units_from of_unit n b at) ≡ all → all ≡ Err f
    fault_by zero enough items = absurd (omega arith)
    fault_by (suc n) enough items =
        sym items ∙ ap (λ read. with_front front read) (units-next n at lt)
        ∙ ap (λ found. with_front front (found >>= λ h. of_unit h >>= λ items. units_from of_unit n b h.end >>= λ more. Ok (items ++ more))) e

  pub unit_fault : (front : List A) (at : ℕ) (all : Result (List A) LineFault) (h : UnitHeader) (f : LineFault) → at < length b → header b at ≡ Ok h
      → of_unit h ≡ Err f → UnitsLeft of_unit b front at all → all ≡ Err f
  unit_fault front at all h f lt e p left = fault_by left.count left.enough left.items where
    fault_by : (n : ℕ) → length b ≤ at + n → with_front front (units_from of_unit n b at) ≡ all → all ≡ Err f
    fault_by zero enough items = absurd (omega arith)
    fault_by (suc n) enough items = sym items ∙ ap (λ read. with_front front read) (units-after n at h (Err f) lt e p)

  pub units_none : (front : List A) (at : ℕ) (all : Result (List A) LineFault) → length b ≤ at → UnitsLeft of_unit b front at all → all ≡ Ok front
  units_none front at all le left = none_by left.count left.items where
    none_by : (n : ℕ) → with_front front (units_from of_unit n b at) ≡ all → all ≡ Ok front
    none_by zero items = sym items ∙ ap (λ all. Ok all) (append-nil front)
    none_by (suc n) items =
        sym items
        ∙ ap (λ t. with_front front (cond t (Ok []) (header b at >>= λ h. of_unit h >>= λ items. units_from of_unit n b h.end >>= λ more. Ok (items ++ more)))) (le-leb (length b) at le)
        ∙ ap (λ all. Ok all) (append-nil front)

-- a unit that gives one item
pub one_unit : {A : Type 0} (front new : List A) (x : A) (read : Result A LineFault) → read ≡ Ok x → new ≡ front ++ x ∷ [] → with_front front (read >>= λ x. Ok (x ∷ [])) ≡ Ok new
one_unit front new x read e pushed = ap (λ read. with_front front (read >>= λ x. Ok (x ∷ []))) e ∙ ap (λ items. Ok items) (sym pushed)
