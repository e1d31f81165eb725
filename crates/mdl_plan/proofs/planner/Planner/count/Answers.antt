use Rattle.std.proofs.Common.{◌≡◌, ◌+◌, ◌<◌, false, Bor, ℕ, length, drop, get_or, map, ap, sym, ◌∙◌, arith}
use Rattle.std.specs.List.{filter}
use Rattle.std.proofs.lemmas.List.{get_or-map, length-map}
use Rattle.pn_types.specs.declared.code.Point.{Point}
use Rattle.mdl_plan.specs.ChosenPieces.{has_numbers}
use Rattle.mdl_plan.proofs.Counts.{count_more, count_same}
use Rattle.mdl_plan.proofs.planner.Planner.count.Goals as goal
use Rattle.mdl_plan.proofs.planner.Planner.count.Goals.{then-has_numbers, else-has_numbers}

abbrev none : Bor Point
none = record { ref_ptr = (0, 0); now = record { at = 0; proc_no = 0; entry = false; after = false; ret = false; call = false } }

pub overflow_add-count : goal.overflow_add-count
overflow_add-count c =
    let f = has_numbers c.args.self.now.chosen in
    let refs = c.args.points.now in
    let points = map (λ (r : Bor Point). r.now) refs in
    let i = c.loop-point.point-index in
    let p = (get_or refs i none).now in
    let lt : i < length points = omega (arith, c.loop-point-test.true, length-map refs (λ (r : Bor Point). r.now)) in
    let is : get_or points i p ≡ p = get_or-map (λ (r : Bor Point). r.now) refs i none p c.loop-point-test.true in
    omega (arith, count_more f points i p lt is c.loop-point.count (length (filter f points)) (sym c.has_numbers.ensures ∙ c.if-has_numbers.true) c.loop-point.invariant, c.requires)

pub loop-point-preserved : goal.loop-point-preserved
loop-point-preserved c =
    let f = has_numbers c.args.self.now.chosen in
    let refs = c.args.points.now in
    let points = map (λ (r : Bor Point). r.now) refs in
    let i = c.loop-point.point-index in
    let p = (get_or refs i none).now in
    let lt : i < length points = omega (arith, c.loop-point-test.true, length-map refs (λ (r : Bor Point). r.now)) in
    let is : get_or points i p ≡ p = get_or-map (λ (r : Bor Point). r.now) refs i none p c.loop-point-test.true in
    elim c.if-has_numbers.branch [
      | then-has_numbers w ↦
          ap (λ (n : ℕ). n + length (filter f (drop (i + 1) points))) w.count-is
          ∙ count_more f points i p lt is c.loop-point.count (length (filter f points)) (sym c.has_numbers.ensures ∙ w.if-has_numbers.true) c.loop-point.invariant
      | else-has_numbers w ↦
          ap (λ (n : ℕ). n + length (filter f (drop (i + 1) points))) w.count-is
          ∙ count_same f points i p lt is c.loop-point.count (length (filter f points)) (sym c.has_numbers.ensures ∙ w.if-has_numbers.false) c.loop-point.invariant
    ]
