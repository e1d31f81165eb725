-- How many items there are with those of the includes.
use Rattle.std.proofs.Common.{ℕ, ◌*◌, ◌≤◌, ◌<◌, ◌^◌, Bool, true, false, List, [], ◌∷◌, length, map, cond, arith}
use Rattle.std.specs.List.{filter}
use Rattle.std.proofs.lemmas.List.{length-append}
use Rattle.mdl_ast.specs.declared.items.Item.{Item}
use Rattle.mdl_ast.specs.declared.items.Item.TheVariants.{Include, Sync, Metric, Constraint, Hypothesis, Search, Phase, Wish}
use Rattle.mdl_check.specs.Placed.{placed_item, is_taken, included, with_included, placed_items}

-- an include takes no more than there are
taken_few : (line : ℕ) (metrics : Bool) (shipped : List Item) → length (map (placed_item line) (filter (is_taken metrics) shipped)) ≤ length shipped
taken_few line metrics [] = omega arith
taken_few line metrics (i ∷ shipped) = go (is_taken metrics i) (filter (is_taken metrics) shipped) (taken_few line metrics shipped)
  where
    go : (b : Bool) (rest : List Item) → length (map (placed_item line) rest) ≤ length shipped → length (map (placed_item line) (cond b (i ∷ rest) rest)) ≤ length (i ∷ shipped)
    go true rest few = omega (arith, few)
    go false rest few = omega (arith, few)

included_few : (shipped : List Item) (item : Item) → length (included shipped item) ≤ length shipped
included_few shipped (Include i) = taken_few i.line i.metrics shipped
included_few shipped (Sync s) = omega arith
included_few shipped (Metric m) = omega arith
included_few shipped (Constraint c) = omega arith
included_few shipped (Hypothesis h) = omega arith
included_few shipped (Search s) = omega arith
included_few shipped (Phase p) = omega arith
included_few shipped (Wish w) = omega arith

placed_few : (shipped items : List Item) → length shipped ≤ 1000 → length (placed_items shipped items) ≤ 1001 * length items
placed_few shipped [] h = omega arith
placed_few shipped (i ∷ items) h = omega (arith, h, included_few shipped i, placed_few shipped items h, length-append (with_included shipped i) (placed_items shipped items))

-- a number of 32 bits counts the items where there are some four million, and a thousand are shipped
pub placed_counted : (shipped items : List Item) → length shipped ≤ 1000 → length items ≤ 4194304 → length (placed_items shipped items) < 2 ^ 32
placed_counted shipped items h k = omega (arith, k, placed_few shipped items h)
