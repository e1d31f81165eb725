use Rattle.std.proofs.Common.{List, subst, sym}
use Rattle.pn_types.specs.declared.settings.Settings.{Settings}
use Rattle.pn_types.specs.declared.quantum.Quantum.{Quantum}
use Rattle.quanta_log.specs.declared.version.Version.TheVariants.{Two}
use Rattle.quanta_log.specs.Spelling.{CanSpell}
use Rattle.whole_run.proofs.Logged.{can_spell}
use Rattle.whole_run.proofs.recorded.log_of.Goals as goal

pub write-requires : goal.write-requires
write-requires c =
    let s = c.args.session.now in
    subst (λ (l : List Quantum). CanSpell Two c.args.settings.now l) (sym c.quanta.ensures)
    (subst (λ (x : Settings). CanSpell Two x s.quanta) (sym c.requires.settings) (can_spell s.inputs s.quanta c.requires.given c.laws.ensures.allowed))
