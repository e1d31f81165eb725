use Rattle.std.proofs.Common.{◌≡◌, ◌%◌, List, length, get_or, ap, arith, subst, sym}
use Rattle.profile_text.specs.declared.numbered_word.NumberedWord.{NumberedWord}
use Rattle.profile_text.proofs.Prepared.{aligned}
use Rattle.profile_text.proofs.jump_lines.add_loops.Goals as goal

pub add_loop_of-requires-clause-at : goal.add_loop_of-requires-clause-at
add_loop_of-requires-clause-at c =
    let none : NumberedWord = record { at = 0; word = 0; number = 0 } in
    let e = ap (λ (ws : List NumberedWord). length ws) c.deref-word-items.ensures.value in
    subst (λ (ws : List NumberedWord). (get_or ws c.loop-word.word-index none).at % 4 ≡ 0) (sym c.deref-word-items.ensures.value)
    (aligned c.args.text.now c.requires c.loop-word.word-index none (omega arith))
