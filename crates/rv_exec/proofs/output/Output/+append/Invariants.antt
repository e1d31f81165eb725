use Rattle.rv_exec.proofs.output.Output.+append.Given as goal

abbrev pub decreases-append : goal.decreases-append
decreases-append l = l.n
