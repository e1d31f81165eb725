-- What all harts of a program share, as the definitions have it.
use Rattle.rv_word.specs.Exec.{Prog, prog_of}
use Rattle.rv_exec.specs.declared.shared.Shared.{Shared}

abbrev pub prog_in : Shared → Prog
prog_in s = prog_of s.mem s.resv s.out
