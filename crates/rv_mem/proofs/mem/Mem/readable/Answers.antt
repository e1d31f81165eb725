use Rattle.std.proofs.Common.{◌≡◌, Err, rules, arith}
use Rattle.rv_word.specs.Memory.{bytes_at}
use Rattle.rv_mem.proofs.Ranges.{length-bytes_at, refused_here, refused_past, read_past, read_all}
use Rattle.rv_mem.proofs.mem.Mem.readable.Goals as goal

pub returns-in_err-byte-clause-refused : goal.returns-in_err-byte-clause-refused
returns-in_err-byte-clause-refused c =
    let m = c.args.self.now in
    let e = c.in_err-byte.field-0.0 in
    let f : bytes_at c.args.n m c.args.at ≡ Err e = c.loop-i.invariant.refuses e (refused_here c.args.n c.loop-i.i m c.loop-i.next e c.loop-i-test.true c.in_err-byte.ensures) in
    search rules

pub returns-in_err-byte-clause-len : goal.returns-in_err-byte-clause-len
returns-in_err-byte-clause-len c = length-bytes_at c.args.n c.args.self.now c.args.at

pub loop-i-preserved : goal.loop-i-preserved
loop-i-preserved c =
    let m = c.args.self.now in
    record {
      refuses = λ e h. c.loop-i.invariant.refuses e (refused_past c.args.n c.loop-i.i m c.loop-i.next c.in_ok-byte.field-0 e c.loop-i-test.true c.in_ok-byte.ensures h);
      reads = λ h. c.loop-i.invariant.reads (read_past c.args.n c.loop-i.i m c.loop-i.next c.in_ok-byte.field-0 c.loop-i-test.true c.in_ok-byte.ensures h);
    }

pub returns-clause-readable : goal.returns-clause-readable
returns-clause-readable c =
    c.loop-i.invariant.reads (read_all c.args.n c.loop-i.i c.args.self.now c.loop-i.next (omega arith))

pub returns-clause-len : goal.returns-clause-len
returns-clause-len c = length-bytes_at c.args.n c.args.self.now c.args.at
