use Rattle.std.proofs.Common.{◌++◌, length, drop, sym, ap, ◌∙◌}
use Rattle.live_run.proofs.Locks.{drop_first}
use Rattle.live_run.proofs.lock.LockedSession.session.Goals as goal

pub returns-clause-first : goal.returns-clause-first
returns-clause-first g c =
    let inv = c.self.invariant in
    inv.quanta_are ∙ ap (λ l. g.I.RunName.first ++ l) (sym (ap (drop (length g.I.RunName.first)) inv.quanta_are ∙ drop_first g.I.RunName.first inv.entries))
