-- What a removal reads of the entry at a place, and what that says.
use Rattle.std.proofs.Common.{◌≡◌, ℕ, ◌+◌, ◌<◌, Option, Some, None, length, get_or, ◌∙◌, subst, arith}
use Rattle.bucket_chains.specs.Entries.{bucket_at, IsFirst}
use Rattle.bucket_chains.specs.Chained.{IsNextBelow, IsChained}
use Rattle.bucket_chains.specs.declared.chains.Chains.TheInside.{Inside}
use Rattle.bucket_chains.proofs.Nexts.{read_entry}

-- the chains of a list fit its entries
abbrev pub AreChained : Inside → Type 0
AreChained s = IsChained s.buckets.items s.next.items s.previous.items s.first.items s.last.items

-- the entry is in bucket b, with these places next to it
pub record RemovedEntry (s : Inside) (b place : ℕ) (next before : Option ℕ) : Type 0 where
  pub within : place < length s.buckets.items
  pub there : bucket_at s.buckets.items place ≡ Some b
  pub next_is : get_or s.next.items place None ≡ next
  pub before_is : get_or s.previous.items place None ≡ before
  pub follows : IsFirst b (place + 1) s.buckets.items next
  pub precedes : IsNextBelow b before place s.buckets.items

pub reads : (s : Inside) (b place : ℕ) (bucket next before : Option ℕ) → AreChained s → place < length s.buckets.items
    → bucket ≡ get_or s.buckets.items place bucket → bucket ≡ Some b → next ≡ get_or s.next.items place next
    → before ≡ get_or s.previous.items place before → RemovedEntry s b place next before
reads s b place bucket next before chained within at is after ahead =
    let there : bucket_at s.buckets.items place ≡ Some b = read_entry s.buckets.items place bucket within at ∙ is in
    let next_is = read_entry s.next.items place next (omega (arith, within, chained.next_places)) after in
    let before_is = read_entry s.previous.items place before (omega (arith, within, chained.previous_places)) ahead in
    record {
      within = within;
      there = there;
      next_is = next_is;
      before_is = before_is;
      follows = subst (IsFirst b (place + 1) s.buckets.items) next_is (chained.next place b there);
      precedes = subst (λ r. IsNextBelow b r place s.buckets.items) before_is (chained.before place b there);
    }
