-- Rows that are read one after the other.
use Rattle.std.proofs.Common.{◌≡◌, ℕ, zero, suc, ◌+◌, ◌<◌, ◌≤◌, cond, List, [], ◌++◌, length, Result, Ok, Err, refl, sym, ap, ◌∙◌, arith}
use Rattle.std.specs.Prelude.{option_to_list}
use Rattle.std.proofs.lemmas.List.{append-nil}
use Rattle.std.proofs.lemmas.Bool.{le-leb, lt-leb}
use Rattle.line_table.proofs.FrontLemmas.{front_more}
use Rattle.line_table.specs.Reading.{◌>>=◌}
use Rattle.line_table.specs.Programs.{step, rows_from, program_rows, first_registers}
use Rattle.line_table.specs.Checks.{with_front}
use Rattle.line_table.specs.declared.fault.LineFault.{LineFault}
use Rattle.line_table.specs.declared.registers.Registers.{Registers}
use Rattle.line_table.specs.declared.registers.Row.{Row}
use Rattle.line_table.specs.declared.registers.Step.{Step}
use Rattle.line_table.specs.declared.unit.UnitHeader.{UnitHeader}

abbrev Rows : Type 0
Rows = Result (List Row) LineFault

-- ---- a unit's rows

-- the rows from an operation on that is not past the end
rows-next : (n : ℕ) (h : UnitHeader) (b : List ℕ) (r : Registers) (at : ℕ) → at < length b
    → rows_from (suc n) h b r at ≡ (step h b r at >>= λ s. rows_from n h b s.registers s.next >>= λ rows. Ok (option_to_list s.row ++ rows))
rows-next n h b r at lt =
    ap (λ t. cond t (Ok []) (step h b r at >>= λ s. rows_from n h b s.registers s.next >>= λ rows. Ok (option_to_list s.row ++ rows))) (lt-leb (length b) at lt)

-- there are operations enough for the rows that are left, and in front of them the rows so far
pub record Left (front : List Row) (h : UnitHeader) (b : List ℕ) (r : Registers) (at : ℕ) (all : Rows) : Type 0 where
  pub count : ℕ
  pub enough : length b ≤ at + count
  pub rows : with_front front (rows_from count h b r at) ≡ all

pub left_first : (front : List Row) (h : UnitHeader) (b : List ℕ) → Left front h b first_registers h.program (with_front front (program_rows h b))
unfolding program_rows
left_first front h b = record { count = length b; enough = omega arith; rows = refl }

pub left_more : (front new : List Row) (h : UnitHeader) (b : List ℕ) (r : Registers) (at : ℕ) (all : Rows) (s : Step) → at < length b → step h b r at ≡ Ok s → at < s.next
    → new ≡ front ++ option_to_list s.row → Left front h b r at all → Left new h b s.registers s.next all
left_more front new h b r at all s lt e forward pushed left = left_by left.count left.enough left.rows where
  left_by : (n : ℕ) → length b ≤ at + n → with_front front (rows_from n h b r at) ≡ all → Left new h b s.registers s.next all
  left_by zero enough rows = absurd (omega arith)
  left_by (suc n) enough rows = record {
    count = n;
    enough = omega arith;
    rows =
        ap (λ f. with_front f (rows_from n h b s.registers s.next)) pushed
        ∙ sym (front_more front (option_to_list s.row) (rows_from n h b s.registers s.next))
        ∙ sym (ap (λ read. with_front front (read >>= λ s. rows_from n h b s.registers s.next >>= λ rows. Ok (option_to_list s.row ++ rows))) e)
        ∙ sym (ap (λ read. with_front front read) (rows-next n h b r at lt))
        ∙ rows;
  }

pub left_fault : (front : List Row) (h : UnitHeader) (b : List ℕ) (r : Registers) (at : ℕ) (all : Rows) (f : LineFault) → at < length b → step h b r at ≡ Err f
    → Left front h b r at all → all ≡ Err f
left_fault front h b r at all f lt e left = fault_by left.count left.enough left.rows where
  fault_by : (n : ℕ) → length b ≤ at + n → with_front front (rows_from n h b r at) ≡ all → all ≡ Err f
  fault_by zero enough rows = absurd (omega arith)
  fault_by (suc n) enough rows =
      sym rows ∙ ap (λ read. with_front front read) (rows-next n h b r at lt)
      ∙ ap (λ read. with_front front (read >>= λ s. rows_from n h b s.registers s.next >>= λ rows. Ok (option_to_list s.row ++ rows))) e

pub left_none : (front : List Row) (h : UnitHeader) (b : List ℕ) (r : Registers) (at : ℕ) (all : Rows) → length b ≤ at → Left front h b r at all → all ≡ Ok front
left_none front h b r at all le left = none_by left.count left.rows where
  none_by : (n : ℕ) → with_front front (rows_from n h b r at) ≡ all → all ≡ Ok front
  none_by zero rows = sym rows ∙ ap (λ all. Ok all) (append-nil front)
  none_by (suc n) rows =
      sym rows
      ∙ ap (λ t. with_front front (cond t (Ok []) (step h b r at >>= λ s. rows_from n h b s.registers s.next >>= λ rows. Ok (option_to_list s.row ++ rows)))) (le-leb (length b) at le)
      ∙ ap (λ all. Ok all) (append-nil front)
