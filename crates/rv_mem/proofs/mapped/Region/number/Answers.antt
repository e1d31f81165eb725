use Rattle.std.proofs.Common.{◌≡◌, ◌∙◌, sym, ap, subst, arith}
use Rattle.std.specs.Prelude.{IfSome}
use Rattle.rv_mem.specs.Regions.{little_endian}
use Rattle.rv_mem.proofs.Contents.{number-zeros, number-past, power_some}
use Rattle.rv_mem.proofs.mapped.Region.number.Goals as goal

pub returns-then-len-place-clause-value : goal.returns-then-len-place-clause-value
returns-then-len-place-clause-value c =
    let r = c.args.self.now in
    sym (number-zeros c.args.n r.bytes.items r.behind c.args.place ∙ number-past c.args.n r.bytes.items c.args.place (omega (arith, c.if-len-place.true)))

pub returns-then-len-place-clause-bound : goal.returns-then-len-place-clause-bound
returns-then-len-place-clause-bound c = power_some c.args.n

pub returns-clause-value : goal.returns-clause-value
returns-clause-value c =
    let r = c.args.self.now in
    subst (λ x. IfSome c.number_at.result (λ v. v ≡ x))
    (ap (λ bs. little_endian c.args.n bs c.args.place) c.deref.ensures.value ∙ sym (number-zeros c.args.n r.bytes.items r.behind c.args.place))
    c.number_at.ensures.value
