-- The directories and files of version 4, one after the other.
use Rattle.std.proofs.Common.{◌≡◌, ℕ, zero, suc, ◌+◌, ◌<◌, ◌≤◌, Bool, List, [], ◌∷◌, ◌++◌, length, Option, Some, None, Ok, Err, sym, ap, ◌∙◌, arith}
use Rattle.std.proofs.lemmas.List.{append-nil}
use Rattle.line_table.specs.Reading.{Read, fault, ◌>>=◌}
use Rattle.line_table.specs.Paths.{path_here, and_more, listed_from, listed}
use Rattle.line_table.specs.declared.fault.FaultKind.TheVariants.{Truncated}
use Rattle.line_table.specs.declared.fault.LineFault.{LineFault}
use Rattle.line_table.specs.declared.paths.Path.{Path}
use Rattle.line_table.proofs.ListLemmas.{with_items, no_items, items_more}
use Rattle.line_table.proofs.StringLemmas.{no_string}

-- there are names enough for the paths that are left, and in front of them the paths so far
pub record ListedLeft (is_file : Bool) (b : List ℕ) (front : List Path) (at : ℕ) (all : Read (List Path)) : Type 0 where
  pub count : ℕ
  pub enough : length b ≤ at + count
  pub items : with_items front (listed_from count is_file b at) ≡ all

module _ (is_file : Bool) (b : List ℕ) where
  pub no_path : (at : ℕ) → length b ≤ at → path_here is_file b at ≡ Err (fault at Truncated)
  unfolding path_here
  no_path at le = rw (no_string b at le)

  listed-next : (n at : ℕ) (found : Option Path) (end : ℕ) → path_here is_file b at ≡ Ok (found, end)
      → listed_from (suc n) is_file b at ≡ and_more found end (listed_from n is_file b end)
  listed-next n at found end e = ap (λ read. read >>= λ found. and_more found.0 found.1 (listed_from n is_file b found.1)) e

  pub listed_first : (at : ℕ) → ListedLeft is_file b [] at (listed is_file b at)
  unfolding listed
  listed_first at = record { count = length b; enough = omega arith; items = no_items (listed_from (length b) is_file b at) }

  pub listed_more : (front new : List Path) (at end : ℕ) (all : Read (List Path)) (found : Option Path) (path : Path) → path_here is_file b at ≡ Ok (found, end) → found ≡ Some path
      → at < end → end ≤ length b → new ≡ front ++ path ∷ [] → ListedLeft is_file b front at all → ListedLeft is_file b new end all
  listed_more front new at end all found path e is forward within pushed left = left_by left.count left.enough left.items where
    left_by : (n : ℕ) → length b ≤ at + n → with_items front (listed_from n is_file b at) ≡ all → ListedLeft is_file b new end all
    left_by zero enough items = absurd (omega arith)
    left_by (suc n) enough items = record {
      count = n;
      enough = omega arith;
      items =
          ap (λ f. with_items f (listed_from n is_file b end)) pushed
          ∙ sym (items_more front path (listed_from n is_file b end))
          ∙ sym (ap (λ f. with_items front (and_more f end (listed_from n is_file b end))) is)
          ∙ sym (ap (λ read. with_items front read) (listed-next n at found end e))
          ∙ items;
    }

  pub listed_done : (front : List Path) (at end : ℕ) (all : Read (List Path)) (found : Option Path) → path_here is_file b at ≡ Ok (found, end) → found ≡ None
      → at < end → end ≤ length b → ListedLeft is_file b front at all → all ≡ Ok (front, end)
  listed_done front at end all found e is forward within left = done_by left.count left.enough left.items where
    done_by : (n : ℕ) → length b ≤ at + n → with_items front (listed_from n is_file b at) ≡ all → all ≡ Ok (front, end)
    done_by zero enough items = absurd (omega arith)
    done_by (suc n) enough items =
        sym items
        ∙ ap (λ read. with_items front read) (listed-next n at found end e)
        ∙ ap (λ f. with_items front (and_more f end (listed_from n is_file b end))) is
        ∙ ap (λ items. Ok (items, end)) (append-nil front)

  pub listed_fault : (front : List Path) (at : ℕ) (all : Read (List Path)) (f : LineFault) → path_here is_file b at ≡ Err f → ListedLeft is_file b front at all → all ≡ Err f
  listed_fault front at all f e left = fault_by left.count left.enough left.items where
    fault_by : (n : ℕ) → length b ≤ at + n → with_items front (listed_from n is_file b at) ≡ all → all ≡ Err f
    fault_by zero enough items =
        let past = no_path at (omega arith) in
        sym items ∙ ap (λ read. with_items front (read >>= λ found. and_more found.0 found.1 (Err (fault at Truncated)))) (sym past) ∙ ap (λ read. with_items front (read >>= λ found. and_more found.0 found.1 (Err (fault at Truncated)))) e
    fault_by (suc n) enough items = sym items ∙ ap (λ read. with_items front (read >>= λ found. and_more found.0 found.1 (listed_from n is_file b found.1))) e
