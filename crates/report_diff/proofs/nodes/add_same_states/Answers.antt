use Rattle.std.proofs.Common.{◌≡◌, ◌==◌, ◌++◌, ℕ, cond, Bool, false, List, [], ap, sym, ◌∙◌, append_assoc, arith}
use Rattle.std.specs.Prelude.{codes}
use Rattle.std.proofs.lemmas.Bool.Decides.{nat_tests}
use Rattle.report_view.specs.Harts.{amount_text}
use Rattle.report_diff.specs.Verdicts.{same_states_line}
use Rattle.report_diff.proofs.nodes.add_same_states.Goals as goal

pub returns : goal.returns
unfolding same_states_line
returns c =
    let n = c.args.count in
    let old = c.args.out.now.items in
    let label = codes "same state: " in
    let amount = amount_text n (codes "node\n") (codes "nodes\n") in
    let some : (n == 0) ≡ false = grind (arith, nat_tests, c.if-count-eq0.false) in
    c.in_ok-add_amount.ensures ∙ ap (λ (z : List ℕ). z ++ amount) c.in_ok-extend_from_slice.ensures.items ∙ append_assoc old label amount
    ∙ sym (ap (λ (b : Bool). old ++ cond b [] (label ++ amount)) some)
