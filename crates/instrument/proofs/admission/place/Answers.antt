use Rattle.std.proofs.Common.{◌∙◌, ap, sym, subst, List, length}
use Rattle.pn_types.specs.declared.plan.Site.{Site}
use Rattle.machine.specs.Cores.{In}
use Rattle.prim_code.specs.Named.{AreBelow}
use Rattle.instrument.specs.Needs.{Need}
use Rattle.instrument.proofs.Added.{slots_len, site_short}
use Rattle.instrument.proofs.admission.place.Goals as goal

pub place_sites-requires-clause-named : goal.place_sites-requires-clause-named
place_sites-requires-clause-named c = λ s i.
    subst (λ n. AreBelow n s.stmts)
    (sym (ap length (c.as_slice-2.ensures.value ∙ c.slots_from-slots.ensures) ∙ (slots_len c.args.first c.as_slice.result.now ∙ ap length (c.as_slice.ensures.value ∙ ap (λ (n : Need). n.vars) (c.kit.view_is ∙ c.requires.kit)))))
    (c.requires.named s (subst (λ (ss : List Site). In s ss) c.as_slice-3.ensures i))

pub place_sites-requires-clause-count : goal.place_sites-requires-clause-count
place_sites-requires-clause-count c = λ s i. site_short c.args.plan.now c.requires.words s (subst (λ (ss : List Site). In s ss) c.as_slice-3.ensures i)
