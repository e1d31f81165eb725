-- For proofs alone: the address of a pc that is kept as the number of a word.
use Rattle.std.specs.Prelude.{ℕ, ◌+◌, ◌*◌}
use Rattle.rv_word.specs.Values.{wrap}
use Rattle.rv_exec.specs.declared.pc.Pc.{Pc}

abbrev pub pc_address : Pc → ℕ
pc_address p = wrap (p.first + 4 * p.place)
