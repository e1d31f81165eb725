use Rattle.std.proofs.Common.{◌^◌, arith}
use Rattle.std.proofs.lemmas.Nat.{mul-mod_first}
use Rattle.rv_exec.proofs.values.shift_word_result.Goals as goal

pub returns-in-Sll : goal.returns-in-Sll
returns-in-Sll c = let e = mul-mod_first c.args.x (2 ^ c.args.by) 4294967296 in rw c.in-Sll.is (omega (arith, e, c.low_word_of.ensures))
