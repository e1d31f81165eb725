use Rattle.std.proofs.Common.{Bool, ap, ◌∙◌, length, drop, get_or, eq-eqb, ne_eqb, arith}
use Rattle.rv_asm.specs.Layout.{unescaped}
use Rattle.rv_asm.proofs.Strings.{escaped_step, backslash_step, plain_step}
use Rattle.rv_asm.proofs.layout.string_len.Goals as goal
use Rattle.rv_asm.proofs.layout.string_len.Goals.{then-escaped, else-escaped+then-byte-eq92, else-escaped+else-byte-eq92}

pub loop-byte-preserved : goal.loop-byte-preserved
loop-byte-preserved c =
    let bytes = c.args.written.now in
    let i = c.loop-byte.byte-index in
    elim c.if-escaped.branch [
      | then-escaped w ↦
          let f = ap (λ (e : Bool). unescaped e (drop i bytes)) w.if-escaped.true ∙ escaped_step bytes i (omega arith) in
          record { within = omega arith; count = rw (w.escaped-is, w.len-is) (omega (arith, ap length f)) }
      | else-escaped+then-byte-eq92 w ↦
          let f = ap (λ (e : Bool). unescaped e (drop i bytes)) w.if-escaped.false
          ∙ backslash_step bytes i (omega arith) (eq-eqb (get_or bytes i 0) 92 w.if-byte-eq92.true) in
          record { within = omega arith; count = rw (w.escaped-is, w.len-is) (omega (arith, ap length f)) }
      | else-escaped+else-byte-eq92 w ↦
          let f = ap (λ (e : Bool). unescaped e (drop i bytes)) w.if-escaped.false
          ∙ plain_step bytes i (omega arith) (ne_eqb (get_or bytes i 0) 92 w.if-byte-eq92.false) in
          record { within = omega arith; count = rw (w.escaped-is, w.len-is, w.if-escaped.false) (omega (arith, ap length f)) }
    ]
