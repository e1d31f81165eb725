use Rattle.std.proofs.Common.{◌≡◌, length}
use Rattle.visi_run.proofs.board.Board.new.Given as goal

abbrev pub invariant-loop-view : goal.invariant-loop-view
invariant-loop-view l = length l.parkers.items ≡ l._view
