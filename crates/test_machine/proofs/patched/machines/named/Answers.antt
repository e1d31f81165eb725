use Rattle.std.proofs.Common.{◌∙◌}
use Rattle.test_machine.proofs.OneHart.{words_have_one, loop_has_one, passed_has_one, renewed_has_one}
use Rattle.test_machine.proofs.patched.machines.named.Goals as goal
use Rattle.test_machine.proofs.patched.machines.named.Goals.{in-words+in_ok-counted_words-in-words, in-loop+in_ok-three_counted-in-loop, in-passed+in_ok-passed_by-in-passed, in-renewed+in_ok-renewed-in-renewed}

pub returns : goal.returns
returns g c = elim c.match-name.branch [
  | in-words+in_ok-counted_words-in-words w ↦ words_have_one c.match-name.result (w.result-is ∙ w.in_ok-counted_words-in-words.ensures)
  | in-loop+in_ok-three_counted-in-loop w ↦ loop_has_one c.match-name.result (w.result-is ∙ w.in_ok-three_counted-in-loop.ensures)
  | in-passed+in_ok-passed_by-in-passed w ↦ passed_has_one c.match-name.result (w.result-is ∙ w.in_ok-passed_by-in-passed.ensures)
  | in-renewed+in_ok-renewed-in-renewed w ↦ renewed_has_one c.match-name.result (w.result-is ∙ w.in_ok-renewed-in-renewed.ensures)
]
