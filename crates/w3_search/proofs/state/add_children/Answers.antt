use Rattle.std.proofs.Common.{◌≡◌, ◌+◌, ◌<◌, ◌∙◌, ℕ, List, Some, drop, length, sym, ap, arith}
use Rattle.std.specs.Prelude.{slice_get}
use Rattle.pn_types.specs.declared.focus.Focus.{Focus}
use Rattle.w3_search.specs.Refining.{children}
use Rattle.w3_search.specs.Steps.{with_children}
use Rattle.w3_search.proofs.Changes.{drop_get, in_range}
use Rattle.w3_search.proofs.state.add_children.Goals as goal
use Rattle.w3_search.proofs.state.add_children.Goals.{in-Some, in_default}

pub loop-i-preserved : goal.loop-i-preserved
loop-i-preserved c =
    let kids = children c.args.hypotheses.now c.args.tree.now c.args.hypothesis c.args.focus.now in
    let i = c.loop-i.i in
    let phase = c.args.phase in
    let number = c.args.number in
    elim c.match-child.branch [
      | in-Some w ↦
          let here : slice_get kids i ≡ Some (w.in-Some.child, w.in-Some.below) = sym c.child.ensures ∙ w.in-Some.is in
          ap (with_children phase number (drop (i + 1) kids)) (w.nodes-is ∙ w.add.ensures)
          ∙ ap (λ (ks : List (ℕ × Focus)). with_children phase number ks c.loop-i.nodes) (sym (drop_get kids i (w.in-Some.child, w.in-Some.below) here))
          ∙ c.loop-i.invariant
      | in_default w ↦
          let within : i < length kids = (let count = c.child_count-count.ensures in omega (arith, c.loop-i-test.true)) in
          absurd (in_range kids i within (sym c.child.ensures ∙ w.in_default.is))
    ]
