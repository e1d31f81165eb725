use Rattle.frame_walk.proofs.entering.+enter_calls.Given as goal

abbrev pub decreases-enter_calls : goal.decreases-enter_calls
decreases-enter_calls l = l.n
