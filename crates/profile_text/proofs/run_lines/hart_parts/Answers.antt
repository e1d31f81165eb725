use Rattle.std.proofs.Common.{◌∙◌, List, length, map, inl, inr, refl, ap, arith}
use Rattle.std.proofs.lemmas.List.{length-map}
use Rattle.std.specs.List.{zip}
use Rattle.report.specs.declared.parts.HartPart.{HartPart}
use Rattle.block_count.specs.Texts.{part_of, parts_of}
use Rattle.profile_text.proofs.Pairs.{all_made, length-zip-le}
use Rattle.profile_text.proofs.run_lines.hart_parts.Goals as goal

pub returns-clause-parts : goal.returns-clause-parts
returns-clause-parts c =
    let left = c.loop-ticks.ticks-iterator in
    all_made (λ pairs. map part_of pairs) c.loop-ticks.parts.items (parts_of c.args.counts.now) left.a.rest.now left.b.rest.now refl c.loop-ticks.invariant
    (elim c.in-None.ensures.steps [ inl e ↦ inl e.1.0 | inr e ↦ inr e.1.0 ])

pub returns-clause-few : goal.returns-clause-few
returns-clause-few c =
    let pairs = zip c.args.counts.now.ticks c.args.counts.now.stops in
    let many = ap (λ (ps : List HartPart). length ps) (returns-clause-parts c) ∙ length-map pairs part_of in
    omega (arith, many, length-zip-le c.args.counts.now.ticks c.args.counts.now.stops)
