use Rattle.std.proofs.Common.{◌≡◌, ap, sym, ◌∙◌, ℕ, suc, ◌+◌, ◌-◌, ◌<◌, bytes_eq, map, cond, Some, Option, Bool, false, arith}
use Rattle.std.specs.List.{position_from, range_with_len}
use Rattle.std.proofs.lemmas.Iterator.Adapters.{position_from-zero}
use Rattle.resource_tree.specs.Foci.{hart_name, hart_names}
use Rattle.resource_tree.proofs.harts.hart_named.Goals as goal

pub loop-number-init : goal.loop-number-init
loop-number-init c =
    let k : c.args.harts - 0 ≡ c.args.harts = omega arith in
    ap (λ (n : ℕ). position_from (bytes_eq c.args.name.now) 0 (map hart_name (range_with_len 0 n))) k ∙ sym (position_from-zero (bytes_eq c.args.name.now) (hart_names c.args.harts))

pub loop-number-preserved : goal.loop-number-preserved
loop-number-preserved c =
    let n = c.loop-number.number in
    let lt : n < c.args.harts = c.loop-number-test.true in
    let k : c.args.harts - n ≡ suc (c.args.harts - (n + 1)) = omega arith in
    let rest : ℕ → Option ℕ = λ m. position_from (bytes_eq c.args.name.now) n (map hart_name (range_with_len n m)) in
    let other : bytes_eq c.args.name.now (hart_name n) ≡ false = sym c.is_hart.ensures ∙ c.if-is_hart.false in
    sym (ap rest k ∙ ap (λ (b : Bool). cond b (Some n) (position_from (bytes_eq c.args.name.now) (n + 1) (map hart_name (range_with_len (n + 1) (c.args.harts - (n + 1)))))) other) ∙ c.loop-number.invariant
