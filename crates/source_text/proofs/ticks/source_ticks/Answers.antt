use Rattle.std.proofs.Common.{◌≡◌, List, [], ◌∷◌, ◌+◌, map, refl, ap, sym, subst, ◌∙◌, arith, rules}
use Rattle.std.specs.Prelude.{sum_by, IfOk}
use Rattle.std.specs.Cmp.{IsStrictWeakOrder, nat_cmp_total}
use Rattle.std.specs.Ordering.{is_lt, nat_cmp}
use Rattle.std.proofs.lemmas.List.MinMax.{ranks_by}
use Rattle.std.proofs.lemmas.List.Sorted.{IsNonDecreasingBy-from_sort_by, answers_always, sum_by-IsPermutation}
use Rattle.std.proofs.lemmas.List.Sums.{sum_by-cons}
use Rattle.line_table.specs.declared.registers.Row.{Row}
use Rattle.profile_text.specs.declared.numbered_word.NumberedWord.{NumberedWord}
use Rattle.source_text.specs.Ordered.{ordered_by}
use Rattle.source_text.specs.Ticks.{merged, order, ticks_at}
use Rattle.source_text.specs.declared.source.SourceTicks.{SourceTicks}
use Rattle.source_text.proofs.Ordering.{sorted_is}
use Rattle.source_text.proofs.ticks.source_ticks.Goals as goal

ranks : IsStrictWeakOrder (λ (x y : SourceTicks). is_lt (nat_cmp (order x) (order y)))
ranks = ranks_by nat_cmp_total order

same_sum : (rows : List Row) (words : List NumberedWord) → sum_by (λ x. x.ticks) (map (ticks_at rows) words) ≡ sum_by (λ x. x.number) words
same_sum rows [] = refl
same_sum rows (x ∷ xs) =
    sum_by-cons (λ (y : SourceTicks). y.ticks) (ticks_at rows x) (map (ticks_at rows) xs)
    ∙ ap (λ s. x.number + s) (same_sum rows xs) ∙ sym (sum_by-cons (λ (y : NumberedWord). y.number) x xs)

pub merged-requires : goal.merged-requires
merged-requires c =
    let same = sum_by-IsPermutation (λ (x : SourceTicks). x.ticks) c.in_ok-parts.parts.items c.sort_by.new.self.items c.in_ok-sort_by.ensures.permutation in
    let parts = ap (sum_by (λ (x : SourceTicks). x.ticks)) c.in_ok-parts.ensures in
    let sums = same_sum c.args.rows.now c.args.words.now in
    let sorted = ap (sum_by (λ (x : SourceTicks). x.ticks)) c.deref.ensures.value in
    let fits = c.requires.words in
    omega arith

pub returns : goal.returns
returns c =
    let xs = c.in_ok-parts.parts.items in
    let ys = c.sort_by.new.self.items in
    let sorted : c.deref.result.now ≡ ordered_by order (map (ticks_at c.args.rows.now) c.args.words.now)
    = c.deref.ensures.value
    ∙ sorted_is order xs ys
    (IsNonDecreasingBy-from_sort_by order ys c.in_ok-sort_by.ensures.sorted (λ a r f k. search rules))
    (c.in_ok-sort_by.ensures.stable (λ (x y : SourceTicks). is_lt (nat_cmp (order x) (order y))) ranks (answers_always _ _ _ (λ f a r g h. search rules)))
    ∙ ap (ordered_by order) c.in_ok-parts.ensures in
    subst (λ (z : List SourceTicks). IfOk c.merged.result (λ whole. whole.items ≡ merged z)) sorted c.merged.ensures
