use Rattle.std.proofs.Common.{◌≡◌, ◌+◌, true, false, drop, ◌∙◌, sym, arith}
use Rattle.std.proofs.lemmas.List.{take_rest}
use Rattle.pn_text.specs.Blanks.{blank_len}
use Rattle.pn_text.proofs.BlankSteps.{comment_step, begin_step, white_step}
use Rattle.pn_text.proofs.blanks.blank_len.Goals as goal
use Rattle.pn_text.proofs.blanks.blank_len.Goals.{then-in_comment, else-in_comment+then-begins_comment, else-in_comment+else-begins_comment+else-not-is_white_space}

pub loop-i-preserved : goal.loop-i-preserved
loop-i-preserved c =
    let text = c.args.text.now in
    let i = c.loop-i.i in
    elim c.if-in_comment.branch [
      | then-in_comment w ↦
          let was : blank_len true (drop i text) + i ≡ blank_len false text = rw w.if-in_comment.true at c.loop-i.invariant in
          let step = comment_step text i c.loop-i-test.true in
          rw w.in_comment-is (omega (arith, step, was))
      | else-in_comment+then-begins_comment w ↦
          let was : blank_len false (drop i text) + i ≡ blank_len false text = rw w.if-in_comment.false at c.loop-i.invariant in
          let step = begin_step text i c.loop-i-test.true (sym (rw (take_rest text i) at w.begins_comment.ensures) ∙ w.if-begins_comment.true) in
          rw w.in_comment-is (omega (arith, step, was))
      | else-in_comment+else-begins_comment+else-not-is_white_space w ↦
          let was : blank_len false (drop i text) + i ≡ blank_len false text = rw w.if-in_comment.false at c.loop-i.invariant in
          let step = white_step text i c.loop-i-test.true (sym (rw (take_rest text i) at w.begins_comment.ensures) ∙ w.if-begins_comment.false) (sym w.is_white_space.ensures ∙ w.if-not-is_white_space.false) in
          rw (w.in_comment-is, w.if-in_comment.false) (omega (arith, step, was))
    ]
