use Rattle.std.proofs.Common.{◌-◌, subst, sym, arith, IsOk}
use Rattle.rv_word.specs.Memory.{load, next_address}
use Rattle.rv_mem.proofs.Writes.{kept, rest_ok}
use Rattle.rv_mem.proofs.mem.Mem.+put.Goals as goal

pub put-requires : goal.put-requires
put-requires t c =
    let m = c.args.self.now in
    let k = rest_ok c.args.n (c.args.n - 1) m c.args.at (omega arith) c.requires in
    let q = kept (c.args.n - 1) m c.args.at _ (next_address c.args.at) k.1 in
    (omega arith, subst (λ z. IsOk (load (c.args.n - 1) z (next_address c.args.at))) (sym c.set_byte.ensures) q)
